-- The words of a line are those of its text.
use Rattle.std.proofs.Common.{◌≡◌, ◌≢◌, ℕ, ◌-◌, ◌^◌, ◌<◌, ◌≤◌, ◌==◌, cond, if◌then◌else◌, Bool, true, false, List, [], ◌∷◌, ◌++◌, map, codes, pos, negsuc, refl, ap, subst, ◌∙◌, arith}
use Rattle.std.specs.List.{All, flat_map}
use Rattle.std.specs.Int.{IsInRange}
use Rattle.std.specs.Fmt.{decimal}
use Rattle.std.specs.Str.Parse.{AllDigits}
use Rattle.std.proofs.lemmas.Bool.{cond-false}
use Rattle.std.proofs.lemmas.Bool.Decides.{nat_tests}
use Rattle.std.proofs.lemmas.Int.{ints}
use Rattle.std.proofs.lemmas.List.{append-nil}
use Rattle.std.proofs.lemmas.List.Elements.{All-nil, All-cons, All-head, All-tail}
use Rattle.std.proofs.lemmas.List.Splits.{slice_split_none, slice_split_at}
use Rattle.std.proofs.lemmas.Str.Parse.{digit_from_value}
use Rattle.scut_base.specs.Literal.{Literal}
use Rattle.pb_lin.specs.Constraint.{ConstraintValue}
use Rattle.pb_lin.specs.Substitution.{Images}
use Rattle.pb_lin.specs.declared.witness.Image.{Image}
use Rattle.pb_lin.specs.declared.witness.Image.TheVariants.{Zero, One, Lit}
use Rattle.cutting_planes.specs.declared.token.PolToken.{PolToken}
use Rattle.cutting_planes.specs.declared.token.PolToken.TheVariants.{Id as IdToken, Axiom, Negated as NegatedToken, Denied as DeniedToken, Add, Mul, Div, Saturate, Weaken}
use Rattle.hint_rup.specs.declared.hint.Hint.{Hint}
use Rattle.hint_rup.specs.declared.hint.Hint.TheVariants.{Id as IdHint, Negated as NegatedHint, Denied as DeniedHint}
use Rattle.proof_laws.specs.declared.goal.Goal.{Goal}
use Rattle.proof_laws.specs.declared.goal.Goal.TheVariants.{Row, Itself, Objective, Strict}
use Rattle.proof_laws.specs.declared.goal.GoalProof.{GoalProof}
use Rattle.proof_laws.specs.declared.goal.GoalProof.TheVariants.{Rup as ByRup, Pol as ByPol}
use Rattle.proof_laws.specs.declared.line.Line.{Line}
use Rattle.proof_laws.specs.declared.line.Line.TheVariants.{Pol, Rup, Learn, Def, Red, Dom, Sol, Del, Reduce, End}
use Rattle.proof_laws.specs.WellFormed.{IsId, IsVariable, IsConstraint, IsToken, IsHint, IsImage, IsGoal, IsGoalProof, IsSubstitution, AreProofs, IsWellFormed}
use Rattle.proof_lines.specs.LineText.{variable_word, literal_word, constraint_words, token_words, hint_word, image_word, image_words, goal_word, goal_words, proof_words, hinted_words, witnessed_words, line_words, spaced}
use Rattle.proof_lines.specs.Pieces.{IsPiece}
use Rattle.proof_lines.specs.Reading.{is_space, words_of, IsTerm, term_words}
use Rattle.proof_lines.proofs.IdWords.{id_by}
use Rattle.proof_lines.proofs.Pieces.{pieces_valid}
use Rattle.proof_lines.proofs.Numbers.{decimal_digits}
use Rattle.proof_lines.proofs.TermLists.{terms_of_constraint, terms_valid}
use Rattle.proof_lines.specs.declared.spelling.Spelling.{Spelling}
use Rattle.proof_lines.specs.declared.spelling.Spelling.TheVariants.{Plain, Relative}
use Rattle.proof_lines.specs.Ids.{IsSpelling, deleted_words, id_word, is_made, piece_word, spelled_pieces}

abbrev no_space : List ℕ → Bool
no_space [] = true
no_space (b ∷ bs) = if is_space b then false else no_space bs

-- each of the words is free of spaces
abbrev AreWords : List (List ℕ) → Type 0
AreWords [] = Unit {0}
AreWords (w ∷ ws) = (no_space w ≡ true) × AreWords ws

-- ---- the words of spaced words

spaceless_from : (b : ℕ) (bs : List ℕ) (v : Bool) → is_space b ≡ v → (if v then false else no_space bs) ≡ true → (is_space b ≡ false) × (no_space bs ≡ true)
spaceless_from b bs true test plain = cc
spaceless_from b bs false test plain = (test, plain)

spaceless : (w : List ℕ) → no_space w ≡ true → All (λ b. is_space b ≡ false) w
spaceless [] plain = All-nil (λ b. is_space b ≡ false)
spaceless (b ∷ bs) plain =
    let parts = spaceless_from b bs (is_space b) refl plain in
    All-cons (λ b. is_space b ≡ false) b bs parts.0 (spaceless bs parts.1)

words_of_spaced : (w : List ℕ) (ws : List (List ℕ)) → AreWords (w ∷ ws) → words_of (spaced (w ∷ ws)) ≡ w ∷ ws
words_of_spaced w [] plain = ap words_of (append-nil w) ∙ slice_split_none is_space w (spaceless w plain.0)
words_of_spaced w (v ∷ vs) plain =
    slice_split_at is_space w 32 (spaced (v ∷ vs)) (spaceless w plain.0) refl ∙ ap (λ ws. w ∷ ws) (words_of_spaced v vs plain.1)

-- ---- some words after others

words_join : (ws vs : List (List ℕ)) → AreWords ws → AreWords vs → AreWords (ws ++ vs)
words_join [] vs left right = right
words_join (w ∷ ws) vs left right = (left.0, words_join ws vs left.1 right)

words_of_each : {X : Type 0} (f : X → List ℕ) (IsValid : X → Type 0) → ((x : X) → IsValid x → no_space (f x) ≡ true) → (xs : List X) → All IsValid xs → AreWords (map f xs)
words_of_each f IsValid plain [] valid = tt
words_of_each f IsValid plain (x ∷ xs) valid = (plain x (All-head IsValid x xs valid), words_of_each f IsValid plain xs (All-tail IsValid x xs valid))

words_of_all : {X : Type 0} (f : X → List (List ℕ)) (IsValid : X → Type 0) → ((x : X) → IsValid x → AreWords (f x)) → (xs : List X) → All IsValid xs → AreWords (flat_map f xs)
words_of_all f IsValid plain [] valid = tt
words_of_all f IsValid plain (x ∷ xs) valid =
    words_join (f x) (flat_map f xs) (plain x (All-head IsValid x xs valid)) (words_of_all f IsValid plain xs (All-tail IsValid x xs valid))

-- ---- single words

digit_joins : (b : ℕ) → IsInRange 48 57 b → is_space b ≡ false
digit_joins b digit = grind (arith, nat_tests)

digits_join : (ds : List ℕ) → AllDigits 10 ds → no_space ds ≡ true
digits_join [] digits = refl
digits_join (d ∷ ds) digits = cond-false (is_space d) false (no_space ds) (digit_joins d (digit_from_value d digits.0)) ∙ digits_join ds digits.1

number_joins : (n : ℕ) → n < 10 ^ 64 → no_space (decimal n) ≡ true
number_joins n small = digits_join (decimal n) (decimal_digits n small)

-- an id, by whether a line made it
by_spaceless : (next id : ℕ) (made : Bool) → next ≤ 2 ^ 63 → IsId id → no_space (id_by next id made) ≡ true
by_spaceless next id true most valid = number_joins (next - id) (omega arith)
by_spaceless next id false most valid = number_joins id (omega arith)

id_spaceless : (spelling : Spelling) → IsSpelling spelling → (id : ℕ) → IsId id → no_space (id_word spelling id) ≡ true
id_spaceless Plain fine id valid = number_joins id (omega arith)
id_spaceless (Relative rows next) fine id valid = by_spaceless next id (is_made rows next id) fine valid

-- two words with two bytes between them
dots_join : (v w : List ℕ) → no_space v ≡ true → no_space w ≡ true → no_space (v ++ (46 ∷ 46 ∷ w)) ≡ true
dots_join [] w left right = right
dots_join (b ∷ v) w left right =
    let parts = spaceless_from b v (is_space b) refl left in
    cond-false (is_space b) false (no_space (v ++ (46 ∷ 46 ∷ w))) parts.0 ∙ dots_join v w parts.1 right

pub all_proved : (proofs : List (Goal × GoalProof)) → AreProofs proofs → All (λ q. IsGoal q.0 × IsGoalProof q.1) proofs
all_proved proofs valid k d lt = (valid.goals k d lt, valid.proofs k d lt)

module _ (spelling : Spelling) (fine : IsSpelling spelling) where
  id_joins : (id : ℕ) → IsId id → no_space (id_word spelling id) ≡ true
  id_joins id valid = id_spaceless spelling fine id valid

  variable_joins : (var : ℕ) → IsVariable var → no_space (variable_word var) ≡ true
  variable_joins var valid = number_joins var (omega arith)

  signed_joins : (var : ℕ) (neg : Bool) → IsVariable var → no_space (literal_word (record { var = var; neg = neg })) ≡ true
  signed_joins var true valid = variable_joins var valid
  signed_joins var false valid = variable_joins var valid

  literal_joins : (l : Literal) → IsVariable l.var → no_space (literal_word l) ≡ true
  literal_joins l valid = signed_joins l.var l.neg valid

  hint_joins : (h : Hint) → IsHint h → no_space (hint_word spelling h) ≡ true
  hint_joins (IdHint id) valid = id_joins id valid
  hint_joins NegatedHint valid = refl
  hint_joins DeniedHint valid = refl

  image_joins : (i : Image) → IsImage i → no_space (image_word i) ≡ true
  image_joins Zero valid = refl
  image_joins One valid = refl
  image_joins (Lit l) valid = literal_joins l valid

  goal_joins : (g : Goal) → IsGoal g → no_space (goal_word spelling g) ≡ true
  goal_joins (Row id) valid = id_joins id valid
  goal_joins Itself valid = refl
  goal_joins (Objective i) valid = number_joins i (omega arith)
  goal_joins Strict valid = refl

  -- ---- parts of lines

  token_joins : (t : PolToken) → IsToken t → AreWords (token_words spelling t)
  token_joins (IdToken id) valid = (id_joins id valid, tt)
  token_joins (Axiom l) valid = (literal_joins l valid, tt)
  token_joins NegatedToken valid = (refl, tt)
  token_joins DeniedToken valid = (refl, tt)
  token_joins Add valid = (refl, tt)
  token_joins (Mul (pos n)) valid = (number_joins n (omega (arith, ints)), (refl, tt))
  token_joins (Mul (negsuc n)) valid = absurd (omega (arith, ints))
  token_joins (Div (pos n)) valid = (number_joins n (omega (arith, ints)), (refl, tt))
  token_joins (Div (negsuc n)) valid = absurd (omega (arith, ints))
  token_joins Saturate valid = (refl, tt)
  token_joins (Weaken var) valid = (variable_joins var valid, (refl, tt))

  tokens_join : (tokens : List PolToken) → All IsToken tokens → AreWords (flat_map (token_words spelling) tokens)
  tokens_join tokens valid = words_of_all (token_words spelling) IsToken token_joins tokens valid

  hints_join : (hints : List Hint) → All IsHint hints → AreWords (map (hint_word spelling) hints)
  hints_join hints valid = words_of_each (hint_word spelling) IsHint hint_joins hints valid

  ids_join : (ids : List ℕ) → All IsId ids → AreWords (map (id_word spelling) ids)
  ids_join ids valid = words_of_each (id_word spelling) IsId id_joins ids valid

  piece_by : (p : ℕ × ℕ) (b : Bool) → IsId p.0 → IsId p.1 → no_space (cond b (id_word spelling p.0) (id_word spelling p.0 ++ (46 ∷ 46 ∷ id_word spelling p.1))) ≡ true
  piece_by p true first last = id_joins p.0 first
  piece_by p false first last = dots_join (id_word spelling p.0) (id_word spelling p.1) (id_joins p.0 first) (id_joins p.1 last)

  piece_joins : (p : ℕ × ℕ) → IsPiece p → no_space (piece_word spelling p) ≡ true
  piece_joins p valid = piece_by p (p.0 == p.1) valid.first valid.last

  pieces_join : (ids : List ℕ) → All IsId ids → AreWords (map (piece_word spelling) (spelled_pieces ids))
  pieces_join ids valid = words_of_each (piece_word spelling) IsPiece piece_joins (spelled_pieces ids) (pieces_valid ids valid)

  literals_join : (lits : List Literal) → All (λ l. IsVariable l.var) lits → AreWords (map literal_word lits)
  literals_join lits valid = words_of_each literal_word (λ l. IsVariable l.var) literal_joins lits valid

  term_joins : (t : Literal × ℕ) → IsTerm t → AreWords (term_words t)
  term_joins t valid = let small : t.1 < 2 ^ 127 = valid.1 in (number_joins t.1 (omega arith), (literal_joins t.0 valid.0, tt))

  degree_joins : (c : ConstraintValue) → IsConstraint c → no_space (decimal c.degree) ≡ true
  degree_joins c valid = let size = valid.normal.small in number_joins c.degree (omega arith)

  constraint_joins : (c : ConstraintValue) → IsConstraint c → AreWords (constraint_words c)
  constraint_joins c valid =
      words_join (flat_map term_words c.terms) (codes ">=" ∷ decimal c.degree ∷ []) (words_of_all term_words IsTerm term_joins c.terms (terms_valid c.terms (terms_of_constraint c valid))) (refl, (degree_joins c valid, tt))

  hinted_join : (c : ConstraintValue) (hints : List Hint) → IsConstraint c → All IsHint hints → AreWords (hinted_words spelling c hints)
  hinted_join c hints constraint valid = words_join (constraint_words c) (codes ":" ∷ map (hint_word spelling) hints) (constraint_joins c constraint) (refl, hints_join hints valid)

  image_pair_joins : (i : ℕ × Image) → IsVariable i.0 × IsImage i.1 → AreWords (image_words i)
  image_pair_joins i valid = (variable_joins i.0 valid.0, (image_joins i.1 valid.1, tt))

  proof_joins : (p : GoalProof) → IsGoalProof p → AreWords (proof_words spelling p)
  proof_joins (ByRup hints) valid = (refl, hints_join hints valid)
  proof_joins (ByPol tokens) valid = (refl, tokens_join tokens valid.1)

  proved_joins : (q : Goal × GoalProof) → IsGoal q.0 × IsGoalProof q.1 → AreWords (goal_words spelling q)
  proved_joins q valid = (refl, (goal_joins q.0 valid.0, proof_joins q.1 valid.1))

  witnessed_join : (c : ConstraintValue) (w : Images) (proofs : List (Goal × GoalProof)) → IsConstraint c → IsSubstitution w → AreProofs proofs → AreWords (witnessed_words spelling c w proofs)
  witnessed_join c w proofs constraint images valid =
      words_join (constraint_words c ++ (codes ":" ∷ flat_map image_words w)) (flat_map (goal_words spelling) proofs)
      (words_join (constraint_words c) (codes ":" ∷ flat_map image_words w) (constraint_joins c constraint)
      (refl, words_of_all image_words (λ i. IsVariable i.0 × IsImage i.1) image_pair_joins w images.images))
      (words_of_all (goal_words spelling) (λ q. IsGoal q.0 × IsGoalProof q.1) proved_joins proofs (all_proved proofs valid))

  -- ---- lines

  deleted_join : (ids : List ℕ) → All IsId ids → AreWords (deleted_words spelling ids)
  deleted_join ids valid = by_deleted spelling refl
    where
      by_deleted : (other : Spelling) → spelling ≡ other → AreWords (deleted_words other ids)
      by_deleted Plain is = subst (λ (o : Spelling). AreWords (map (id_word o) ids)) is (ids_join ids valid)
      by_deleted (Relative rows next) is = subst (λ (o : Spelling). AreWords (map (piece_word o) (spelled_pieces ids))) is (pieces_join ids valid)

  line_joins : (line : Line) → IsWellFormed line → AreWords (line_words spelling line)
  line_joins (Pol tokens) valid = (refl, tokens_join tokens valid.1)
  line_joins (Rup goal hints) valid = (refl, hinted_join goal hints valid.0 valid.1)
  line_joins (Learn goal hints) valid = (refl, hinted_join goal hints valid.0 valid.1)
  line_joins (Def var sum) valid = (refl, (variable_joins var valid.0, (refl, constraint_joins sum valid.1)))
  line_joins (Red goal w proofs) valid = (refl, witnessed_join goal w proofs valid.0 valid.1 valid.2)
  line_joins (Dom goal w proofs) valid = (refl, witnessed_join goal w proofs valid.0 valid.1 valid.2)
  line_joins (Sol model cut rows) valid = (
    refl,
    words_join (map literal_word model ++ (codes ":" ∷ map literal_word cut)) (codes ":" ∷ map (id_word spelling) rows)
        (words_join (map literal_word model) (codes ":" ∷ map literal_word cut) (literals_join model valid.0) (refl, literals_join cut valid.1.0))
        (refl, ids_join rows valid.2),
  )
  line_joins (Del ids) valid = (refl, deleted_join ids valid.1)
  line_joins (Reduce ids) valid = (refl, deleted_join ids valid.1)
  line_joins (End id) valid = (refl, (id_joins id valid, tt))

  -- a line's words are those of its text
  pub words_of-line : (line : Line) → IsWellFormed line → words_of (spaced (line_words spelling line)) ≡ line_words spelling line
  words_of-line line valid = by (line_words spelling line) (line_joins line valid) (first_word line)
    where
      first_word : (line : Line) → line_words spelling line ≢ []
      first_word (Pol tokens) none = cc
      first_word (Rup goal hints) none = cc
      first_word (Learn goal hints) none = cc
      first_word (Def var sum) none = cc
      first_word (Red goal w proofs) none = cc
      first_word (Dom goal w proofs) none = cc
      first_word (Sol model cut rows) none = cc
      first_word (Del ids) none = cc
      first_word (Reduce ids) none = cc
      first_word (End id) none = cc

      by : (words : List (List ℕ)) → AreWords words → words ≢ [] → words_of (spaced words) ≡ words
      by [] plain some = absurd (some refl)
      by (w ∷ ws) plain some = words_of_spaced w ws plain
