-- The reader of tokens.
use Rattle.std.proofs.Common.{◌≡◌, ℕ, ◌<◌, ◌≤◌, ◌^◌, Bool, true, false, List, [], ◌∷◌, ◌++◌, get_or, Option, Some, None, pos, negsuc, refl, sym, ap, subst, ◌∙◌, arith}
use Rattle.std.specs.List.{flat_map}
use Rattle.std.specs.Int.{IsInRange}
use Rattle.std.specs.Fmt.{decimal}
use Rattle.std.proofs.lemmas.Int.{ints}
use Rattle.std.proofs.lemmas.List.{append_assoc}
use Rattle.std.proofs.lemmas.List.Elements.{All-head}
use Rattle.scut_base.proofs.Lists.{head_same, tail_same}
use Rattle.scut_base.specs.Literal.{Literal}
use Rattle.cutting_planes.specs.declared.token.PolToken.{PolToken}
use Rattle.cutting_planes.specs.declared.token.PolToken.TheVariants.{Id, Axiom, Negated, Denied, Add, Mul, Div, Saturate, Weaken}
use Rattle.proof_laws.specs.WellFormed.{IsId, IsVariable, IsToken, AreTokens}
use Rattle.proof_lines.specs.LineText.{variable_word, literal_word, token_words}
use Rattle.proof_lines.specs.Reading.{BeginsWith, EndsPart, FollowsToken, IsNumber, IsSymbol, IsValueOf, TakesId, TakesToken, first_letter, symbol_word}
use Rattle.proof_lines.proofs.Numbers.{one_number, decimal_first}
use Rattle.proof_lines.proofs.Codes.{heads_apart, no_decimal, no_literal, spelled_literal}
use Rattle.proof_lines.proofs.IdWords.{digits_of_id, id_first}
use Rattle.proof_lines.proofs.Items.{ItemsSoFar, Words, one_item_more, no_item_here}
use Rattle.proof_lines.proofs.TokenCode.{token_code}
use Rattle.proof_lines.specs.declared.spelling.Spelling.{Spelling}
use Rattle.proof_lines.specs.Ids.{IsSpelling, id_word, is_back}

-- ---- first words

number_or_literal : (n : ℕ) (l : Literal) → n < 10 ^ 64 → decimal n ≡ literal_word l → ⊥
number_or_literal n l small e = no_literal l (decimal n) (λ range. let digit : IsInRange 48 57 (get_or (decimal n) 0 0) = decimal_first n small in omega arith) (sym e)

no_tilde : (b : Bool) (var : ℕ) → spelled_literal b var ≡ 126 ∷ [] → ⊥
no_tilde true var e = let rest : 120 ∷ decimal var ≡ [] = tail_same 126 126 (120 ∷ decimal var) [] e in cc
no_tilde false var e = heads_apart 120 126 (decimal var) [] refl e

negative_first : (b : Bool) (var : ℕ) (word : List ℕ) → b ≡ true → spelled_literal b var ≡ 120 ∷ word → ⊥
negative_first true var word neg e = heads_apart 126 120 _ word refl e
negative_first false var word neg e = cc

abbrev pub TokensSoFar : Spelling → Words → Words → List PolToken → Type 0
TokensSoFar spelling old new tokens = ItemsSoFar (token_words spelling) IsToken FollowsToken old new tokens

module _ (spelling : Spelling) where
  -- an id begins otherwise than a literal
  id_or_literal : (id : ℕ) (l : Literal) → IsId id → id_word spelling id ≡ literal_word l → ⊥
  id_or_literal id l valid e = no_literal l (id_word spelling id) (λ range. let low : IsInRange 45 57 (get_or (id_word spelling id) 0 0) = id_first spelling id valid in omega arith) (sym e)

  -- ---- literals

  -- a negative literal is not weakened
  pub literal_wrong : (l : Literal) (old new : Words) → l.neg ≡ true → old ≡ (119 ∷ []) ∷ new → (t : PolToken) (rest : Words) → IsToken t → FollowsToken t rest → literal_word l ∷ old ≡ token_words spelling t ++ rest → ⊥
  literal_wrong l old new neg w (Id id) rest valid follows e = id_or_literal id l valid (sym (head_same _ _ _ _ e))
  literal_wrong l old new neg w (Axiom m) rest valid follows e = follows (ap first_letter (sym (tail_same _ _ _ _ e) ∙ w))
  literal_wrong l old new neg w Negated rest valid follows e = no_tilde l.neg l.var (head_same _ _ _ _ e)
  literal_wrong l old new neg w Denied rest valid follows e = no_literal l (33 ∷ []) (λ range. omega arith) (head_same _ _ _ _ e)
  literal_wrong l old new neg w Add rest valid follows e = no_literal l (43 ∷ []) (λ range. omega arith) (head_same _ _ _ _ e)
  literal_wrong l old new neg w (Mul (pos n)) rest valid follows e = number_or_literal n l (omega (arith, ints)) (sym (head_same _ _ _ _ e))
  literal_wrong l old new neg w (Mul (negsuc n)) rest valid follows e = omega (arith, ints)
  literal_wrong l old new neg w (Div (pos n)) rest valid follows e = number_or_literal n l (omega (arith, ints)) (sym (head_same _ _ _ _ e))
  literal_wrong l old new neg w (Div (negsuc n)) rest valid follows e = omega (arith, ints)
  literal_wrong l old new neg w Saturate rest valid follows e = no_literal l (115 ∷ []) (λ range. omega arith) (head_same _ _ _ _ e)
  literal_wrong l old new neg w (Weaken var) rest valid follows e = negative_first l.neg l.var (decimal var) neg (head_same _ _ _ _ e)

module _ (spelling : Spelling) (fine : IsSpelling spelling) where
  -- ---- numbers

  -- a number that is no id, or whose id isn't spelled so, is no token where neither `*` nor `d` follows
  pub number_wrong : (n : ℕ) (old : Words) → (IsId n → is_back spelling n ≡ false → ⊥) → n < 2 ^ 127 → (BeginsWith (42 ∷ []) old → ⊥) → (BeginsWith (100 ∷ []) old → ⊥) → (t : PolToken) (rest : Words) → IsToken t → FollowsToken t rest → decimal n ∷ old ≡ token_words spelling t ++ rest → ⊥
  number_wrong n old none small no_star no_d (Id id) rest valid follows e =
      let same = digits_of_id spelling n id (omega arith) valid (head_same _ _ _ _ e) in
      none (subst IsId (sym same.0) valid) same.1
  number_wrong n old none small no_star no_d (Axiom l) rest valid follows e = number_or_literal n l (omega arith) (head_same _ _ _ _ e)
  number_wrong n old none small no_star no_d Negated rest valid follows e = no_decimal n (omega arith) (126 ∷ []) (λ digit. omega arith) (head_same _ _ _ _ e)
  number_wrong n old none small no_star no_d Denied rest valid follows e = no_decimal n (omega arith) (33 ∷ []) (λ digit. omega arith) (head_same _ _ _ _ e)
  number_wrong n old none small no_star no_d Add rest valid follows e = no_decimal n (omega arith) (43 ∷ []) (λ digit. omega arith) (head_same _ _ _ _ e)
  number_wrong n old none small no_star no_d (Mul k) rest valid follows e = no_star (subst (BeginsWith (42 ∷ [])) (sym (tail_same _ _ _ _ e)) refl)
  number_wrong n old none small no_star no_d (Div k) rest valid follows e = no_d (subst (BeginsWith (100 ∷ [])) (sym (tail_same _ _ _ _ e)) refl)
  number_wrong n old none small no_star no_d Saturate rest valid follows e = no_decimal n (omega arith) (115 ∷ []) (λ digit. omega arith) (head_same _ _ _ _ e)
  number_wrong n old none small no_star no_d (Weaken var) rest valid follows e = no_decimal n (omega arith) (variable_word var) (λ digit. omega arith) (head_same _ _ _ _ e)

  -- ---- letters

  pub symbol_some : (word : List ℕ) (old : Words) (t : PolToken) → IsSymbol t → word ≡ symbol_word t → IsToken t × (word ∷ old ≡ token_words spelling t ++ old) × FollowsToken t old
  symbol_some word old (Id id) symbol is = absurd symbol
  symbol_some word old (Axiom l) symbol is = absurd symbol
  symbol_some word old Negated symbol is = (tt, ap (λ w. w ∷ old) is, tt)
  symbol_some word old Denied symbol is = (tt, ap (λ w. w ∷ old) is, tt)
  symbol_some word old Add symbol is = (tt, ap (λ w. w ∷ old) is, tt)
  symbol_some word old (Mul k) symbol is = absurd symbol
  symbol_some word old (Div k) symbol is = absurd symbol
  symbol_some word old Saturate symbol is = (tt, ap (λ w. w ∷ old) is, tt)
  symbol_some word old (Weaken var) symbol is = absurd symbol

  -- a word that is no number, no literal and no letter begins no token
  symbol_none : (word : List ℕ) (old : Words) → IsValueOf decimal IsNumber word None → IsValueOf literal_word (λ l. IsVariable l.var) word None → IsValueOf symbol_word IsSymbol word None → TakesId spelling (word ∷ old) old None → (t : PolToken) (rest : Words) → IsToken t → FollowsToken t rest → word ∷ old ≡ token_words spelling t ++ rest → ⊥
  symbol_none word old numbers literals symbols ids (Id id) rest valid follows e = ids id rest valid follows e
  symbol_none word old numbers literals symbols ids (Axiom l) rest valid follows e = literals l valid (head_same _ _ _ _ e)
  symbol_none word old numbers literals symbols ids Negated rest valid follows e = symbols Negated tt (head_same _ _ _ _ e)
  symbol_none word old numbers literals symbols ids Denied rest valid follows e = symbols Denied tt (head_same _ _ _ _ e)
  symbol_none word old numbers literals symbols ids Add rest valid follows e = symbols Add tt (head_same _ _ _ _ e)
  symbol_none word old numbers literals symbols ids (Mul (pos n)) rest valid follows e = numbers n (omega (arith, ints)) (head_same _ _ _ _ e)
  symbol_none word old numbers literals symbols ids (Mul (negsuc n)) rest valid follows e = omega (arith, ints)
  symbol_none word old numbers literals symbols ids (Div (pos n)) rest valid follows e = numbers n (omega (arith, ints)) (head_same _ _ _ _ e)
  symbol_none word old numbers literals symbols ids (Div (negsuc n)) rest valid follows e = omega (arith, ints)
  symbol_none word old numbers literals symbols ids Saturate rest valid follows e = symbols Saturate tt (head_same _ _ _ _ e)
  symbol_none word old numbers literals symbols ids (Weaken var) rest valid follows e = literals (record { var = var; neg = false }) valid (head_same _ _ _ _ e)

  -- where a word is an id at most
  pub id_taken : (word : List ℕ) (old new : Words) (r : Option PolToken) → IsValueOf decimal IsNumber word None → IsValueOf literal_word (λ l. IsVariable l.var) word None → IsValueOf symbol_word IsSymbol word None → TakesId spelling (word ∷ old) new r → TakesToken spelling (word ∷ old) new r
  id_taken word old new None numbers literals symbols ids = λ t rest valid follows e. symbol_none word old numbers literals symbols ids t rest valid follows e
  id_taken word old new (Some t) numbers literals symbols ids = ids

  -- ---- the loop

  pub one_token_more : (old here here_after new : Words) (tokens more : List PolToken) (word : List ℕ) (t : PolToken) → TokensSoFar spelling old here tokens → here ≡ word ∷ here_after → TakesToken spelling (word ∷ here_after) new (Some t) → more ≡ tokens ++ t ∷ [] → TokensSoFar spelling old new more
  one_token_more old here here_after new tokens more word t so_far follows takes is =
      subst (TokensSoFar spelling old new) (sym is) (one_item_more (token_words spelling) IsToken FollowsToken old here new tokens t so_far takes.0 (follows ∙ takes.1) takes.2)

  pub no_token_here : (old here here_after new : Words) (tokens : List PolToken) (word : List ℕ) → TokensSoFar spelling old here tokens → here ≡ word ∷ here_after → (word ≡ 58 ∷ [] → ⊥) → TakesToken spelling (word ∷ here_after) new None → (all : List PolToken) (rest : Words) → AreTokens all → EndsPart rest → old ≡ flat_map (token_words spelling) all ++ rest → ⊥
  no_token_here old here here_after new tokens word so_far follows no_mark none all rest valid ends e =
      no_item_here (token_words spelling) IsToken FollowsToken EndsPart (token_code spelling fine) old here tokens so_far
      (λ ended. no_mark (subst EndsPart follows ended))
      (λ t r t_valid t_follows is. none t r t_valid t_follows (sym follows ∙ is))
      all rest valid.1 ends e

  -- a part that ends at once holds no tokens
  pub no_tokens : (old here : Words) (tokens : List PolToken) → TokensSoFar spelling old here tokens → tokens ≡ [] → EndsPart here → (all : List PolToken) (rest : Words) → AreTokens all → EndsPart rest → old ≡ flat_map (token_words spelling) all ++ rest → ⊥
  no_tokens old here tokens so_far none ended [] rest valid ends e = valid.0 refl
  no_tokens old here tokens so_far none ended (t ∷ ts) rest valid ends e =
      let at_end : old ≡ here = so_far.is ∙ ap (λ us. flat_map (token_words spelling) us ++ here) none in
      (token_code spelling fine).no_end t (flat_map (token_words spelling) ts ++ rest) (All-head IsToken t ts valid.1) (subst EndsPart (sym at_end ∙ e ∙ append_assoc (token_words spelling t) (flat_map (token_words spelling) ts) rest) ended)
