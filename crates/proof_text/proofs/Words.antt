-- No line of a log has a line feed in its text.
use Rattle.std.proofs.Common.{◌≡◌, ℕ, zero, suc, ◌+◌, ◌-◌, ◌/◌, ◌%◌, ◌==◌, Bool, true, false, not, cond, List, [], ◌∷◌, ◌++◌, map, ℤ, pos, negsuc, refl, sym, ap, ◌∙◌, arith}
use Rattle.std.specs.Prelude.{◌&&◌, nat_lt, codes}
use Rattle.std.specs.List.{list_all, flat_map}
use Rattle.std.specs.Fmt.{digit_glyph, digits_onto, digits, decimal, signed_decimal}
use Rattle.std.proofs.lemmas.Bool.{ne_eqb, eq-eqb, and_parts, cond_both, false≢true}
use Rattle.std.proofs.lemmas.List.Folds.{list_all-append}
use Rattle.scut_base.specs.Bytes.{newline, space}
use Rattle.scut_base.specs.Literal.{Literal}
use Rattle.pb_lin.specs.Constraint.{ConstraintValue}
use Rattle.pb_lin.specs.declared.witness.Image.{Image}
use Rattle.pb_lin.specs.declared.witness.Image.TheVariants.{Zero, One, Lit}
use Rattle.cutting_planes.specs.declared.token.PolToken.{PolToken}
use Rattle.cutting_planes.specs.declared.token.PolToken.TheVariants.{Id as IdToken, Axiom, Negated as NegatedToken, Denied as DeniedToken, Add, Mul, Div, Saturate, Weaken}
use Rattle.hint_rup.specs.declared.hint.Hint.{Hint}
use Rattle.hint_rup.specs.declared.hint.Hint.TheVariants.{Id as IdHint, Negated as NegatedHint, Denied as DeniedHint}
use Rattle.proof_laws.specs.declared.goal.Goal.{Goal}
use Rattle.proof_laws.specs.declared.goal.Goal.TheVariants.{Row, Itself, Objective, Strict}
use Rattle.proof_laws.specs.declared.goal.GoalProof.{GoalProof}
use Rattle.proof_laws.specs.declared.goal.GoalProof.TheVariants.{Rup as ByRup, Pol as ByPol}
use Rattle.proof_laws.specs.declared.line.Line.{Line}
use Rattle.proof_laws.specs.declared.line.Line.TheVariants.{Pol, Rup, Learn, Def, Red, Dom, Sol, Del, Reduce, End}
use Rattle.proof_lines.specs.declared.spelling.Spelling.{Spelling}
use Rattle.proof_lines.specs.declared.spelling.Spelling.TheVariants.{Plain, Relative}
use Rattle.proof_lines.specs.Ids.{deleted_words, id_word, is_made, piece_word, spelled_pieces}
use Rattle.proof_lines.specs.LineText.{variable_word, literal_word, constraint_words, token_words, hint_word, image_word, image_words, goal_word, proof_words, goal_words, hinted_words, witnessed_words, line_words, line_text, spaced}
use Rattle.proof_text.specs.LogText.{IsOneLine}
use Rattle.proof_text.proofs.OneLines.{one_nil, one_cons}

-- no line feed, as a test that computes
abbrev pub plain : List ℕ → Bool
plain text = list_all (λ b. not (b == newline)) text

abbrev all_plain : List (List ℕ) → Bool
all_plain words = list_all plain words

both : (a b : Bool) → a ≡ true → b ≡ true → (a && b) ≡ true
both true b p q = q
both false b p q = p

pub plain_append : (a b : List ℕ) → plain a ≡ true → plain b ≡ true → plain (a ++ b) ≡ true
plain_append a b p q = list_all-append (λ c. not (c == newline)) a b ∙ both (plain a) (plain b) p q

pair : (a b : List ℕ) → plain a ≡ true → plain b ≡ true → all_plain (a ∷ b ∷ []) ≡ true
pair a b p q = both (plain a) (all_plain (b ∷ [])) p (both (plain b) true q refl)

one_word : (a : List ℕ) → plain a ≡ true → all_plain (a ∷ []) ≡ true
one_word a p = both (plain a) true p refl

before : (a : List ℕ) (words : List (List ℕ)) → plain a ≡ true → all_plain words ≡ true → all_plain (a ∷ words) ≡ true
before a words p q = both (plain a) (all_plain words) p q

words_append : (v w : List (List ℕ)) → all_plain v ≡ true → all_plain w ≡ true → all_plain (v ++ w) ≡ true
words_append v w p q = list_all-append plain v w ∙ both (all_plain v) (all_plain w) p q

each_words : {X : Type 0} (f : X → List (List ℕ)) → ((x : X) → all_plain (f x) ≡ true) → (xs : List X) → all_plain (flat_map f xs) ≡ true
each_words f all [] = refl
each_words f all (x ∷ xs) = words_append (f x) (flat_map f xs) (all x) (each_words f all xs)

each_word : {X : Type 0} (f : X → List ℕ) → ((x : X) → plain (f x) ≡ true) → (xs : List X) → all_plain (map f xs) ≡ true
each_word f all [] = refl
each_word f all (x ∷ xs) = before (f x) (map f xs) (all x) (each_word f all xs)

-- ---- numbers

glyph_plain : (d : ℕ) → not (digit_glyph false d == newline) ≡ true
glyph_plain d = by (nat_lt d 10)
  where
    by : (b : Bool) → not (cond b (48 + d) (87 + d) == newline) ≡ true
    by true = ap not (ne_eqb (48 + d) newline (λ e. omega arith))
    by false = ap not (ne_eqb (87 + d) newline (λ e. omega arith))

digits_plain : (k n : ℕ) (acc : List ℕ) → plain acc ≡ true → plain (digits_onto k 10 false n acc) ≡ true
digits_plain zero n acc p = p
digits_plain (suc k) n acc p =
    let last : List ℕ = digit_glyph false (n % 10) ∷ acc in
    let more : plain last ≡ true = both (not (digit_glyph false (n % 10) == newline)) (plain acc) (glyph_plain (n % 10)) p in
    cond_both (n / 10 == 0) last (digits_onto k 10 false (n / 10) last) (λ (ds : List ℕ). plain ds ≡ true) (λ _. more) (λ _. digits_plain k (n / 10) last more)

pub decimal_plain : (n : ℕ) → plain (decimal n) ≡ true
unfolding digits
decimal_plain n = digits_plain 64 n [] refl

signed_plain : (z : ℤ) → plain (signed_decimal z) ≡ true
signed_plain (pos n) = decimal_plain n
signed_plain (negsuc n) = decimal_plain (suc n)

-- ---- words

literal_plain : (l : Literal) → plain (literal_word l) ≡ true
literal_plain l = cond_both l.neg (codes "~" ++ variable_word l.var) (variable_word l.var) (λ (t : List ℕ). plain t ≡ true) (λ _. decimal_plain l.var) (λ _. decimal_plain l.var)

constraint_plain : (c : ConstraintValue) → all_plain (constraint_words c) ≡ true
constraint_plain c = words_append (flat_map (λ t. decimal t.1 ∷ literal_word t.0 ∷ []) c.terms) (codes ">=" ∷ decimal c.degree ∷ [])
    (each_words (λ (t : Literal × ℕ). decimal t.1 ∷ literal_word t.0 ∷ []) (λ t. pair (decimal t.1) (literal_word t.0) (decimal_plain t.1) (literal_plain t.0)) c.terms)
    (pair (codes ">=") (decimal c.degree) refl (decimal_plain c.degree))

id_plain : (spelling : Spelling) (id : ℕ) → plain (id_word spelling id) ≡ true
id_plain Plain id = decimal_plain id
id_plain (Relative rows next) id = cond_both (is_made rows next id) (codes "-" ++ decimal (next - id)) (decimal id) (λ (t : List ℕ). plain t ≡ true) (λ _. decimal_plain (next - id)) (λ _. decimal_plain id)

piece_plain : (spelling : Spelling) (p : ℕ × ℕ) → plain (piece_word spelling p) ≡ true
piece_plain spelling p = cond_both (p.0 == p.1) (id_word spelling p.0) (id_word spelling p.0 ++ (codes ".." ++ id_word spelling p.1)) (λ (t : List ℕ). plain t ≡ true) (λ _. id_plain spelling p.0)
    (λ _. plain_append (id_word spelling p.0) (codes ".." ++ id_word spelling p.1) (id_plain spelling p.0) (plain_append (codes "..") (id_word spelling p.1) refl (id_plain spelling p.1)))

deleted_plain : (spelling : Spelling) (ids : List ℕ) → all_plain (deleted_words spelling ids) ≡ true
deleted_plain Plain ids = each_word (id_word Plain) (id_plain Plain) ids
deleted_plain (Relative rows next) ids = each_word (piece_word (Relative rows next)) (piece_plain (Relative rows next)) (spelled_pieces ids)

image_plain : (i : Image) → plain (image_word i) ≡ true
image_plain Zero = refl
image_plain One = refl
image_plain (Lit l) = literal_plain l

-- ---- lines

joined_plain : (words : List (List ℕ)) → all_plain words ≡ true → plain (flat_map (λ w. space ∷ w) words) ≡ true
joined_plain [] p = refl
joined_plain (w ∷ words) p =
    let parts = and_parts (plain w) (all_plain words) p in
    plain_append (space ∷ w) (flat_map (λ v. space ∷ v) words) parts.0 (joined_plain words parts.1)

spaced_plain : (words : List (List ℕ)) → all_plain words ≡ true → plain (spaced words) ≡ true
spaced_plain [] p = refl
spaced_plain (w ∷ words) p =
    let parts = and_parts (plain w) (all_plain words) p in
    plain_append w (flat_map (λ v. space ∷ v) words) parts.0 (joined_plain words parts.1)

pub one_from_plain : (text : List ℕ) → plain text ≡ true → IsOneLine text
one_from_plain [] p = one_nil
one_from_plain (b ∷ bs) p =
    let parts = and_parts (not (b == newline)) (plain bs) p in
    one_cons b bs (λ e. false≢true (sym (ap not (eq-eqb b newline e)) ∙ parts.0)) (one_from_plain bs parts.1)

module _ (spelling : Spelling) where
  token_plain : (t : PolToken) → all_plain (token_words spelling t) ≡ true
  token_plain (IdToken id) = one_word (id_word spelling id) (id_plain spelling id)
  token_plain (Axiom l) = one_word (literal_word l) (literal_plain l)
  token_plain NegatedToken = refl
  token_plain DeniedToken = refl
  token_plain Add = refl
  token_plain (Mul k) = pair (signed_decimal k) (codes "*") (signed_plain k) refl
  token_plain (Div k) = pair (signed_decimal k) (codes "d") (signed_plain k) refl
  token_plain Saturate = refl
  token_plain (Weaken var) = pair (variable_word var) (codes "w") (decimal_plain var) refl

  hint_plain : (h : Hint) → plain (hint_word spelling h) ≡ true
  hint_plain (IdHint id) = id_plain spelling id
  hint_plain NegatedHint = refl
  hint_plain DeniedHint = refl

  goal_plain : (g : Goal) → plain (goal_word spelling g) ≡ true
  goal_plain (Row id) = id_plain spelling id
  goal_plain Itself = refl
  goal_plain (Objective i) = decimal_plain i
  goal_plain Strict = refl

  proof_plain : (q : GoalProof) → all_plain (proof_words spelling q) ≡ true
  proof_plain (ByRup hints) = before (codes "rup") (map (hint_word spelling) hints) refl (each_word (hint_word spelling) hint_plain hints)
  proof_plain (ByPol tokens) = before (codes "pol") (flat_map (token_words spelling) tokens) refl (each_words (token_words spelling) token_plain tokens)

  proved_plain : (q : Goal × GoalProof) → all_plain (goal_words spelling q) ≡ true
  proved_plain q = before (codes ":") (goal_word spelling q.0 ∷ proof_words spelling q.1) refl (before (goal_word spelling q.0) (proof_words spelling q.1) (goal_plain q.0) (proof_plain q.1))

  hinted_plain : (goal : ConstraintValue) (hints : List Hint) → all_plain (hinted_words spelling goal hints) ≡ true
  hinted_plain goal hints = words_append (constraint_words goal) (codes ":" ∷ map (hint_word spelling) hints) (constraint_plain goal) (before (codes ":") (map (hint_word spelling) hints) refl (each_word (hint_word spelling) hint_plain hints))

  witnessed_plain : (goal : ConstraintValue) (witness : List (ℕ × Image)) (proofs : List (Goal × GoalProof)) → all_plain (witnessed_words spelling goal witness proofs) ≡ true
  witnessed_plain goal witness proofs =
      let images : List (List ℕ) = codes ":" ∷ flat_map image_words witness in
      words_append (constraint_words goal ++ images) (flat_map (goal_words spelling) proofs)
      (words_append (constraint_words goal) images (constraint_plain goal) (before (codes ":") (flat_map image_words witness) refl
      (each_words image_words (λ i. pair (variable_word i.0) (image_word i.1) (decimal_plain i.0) (image_plain i.1)) witness)))
      (each_words (goal_words spelling) proved_plain proofs)

  line_plain : (line : Line) → all_plain (line_words spelling line) ≡ true
  line_plain (Pol tokens) = before (codes "pol") (flat_map (token_words spelling) tokens) refl (each_words (token_words spelling) token_plain tokens)
  line_plain (Rup goal hints) = before (codes "rup") (hinted_words spelling goal hints) refl (hinted_plain goal hints)
  line_plain (Learn goal hints) = before (codes "learn") (hinted_words spelling goal hints) refl (hinted_plain goal hints)
  line_plain (Def var sum) = before (codes "def") (variable_word var ∷ codes ":" ∷ constraint_words sum) refl
      (before (variable_word var) (codes ":" ∷ constraint_words sum) (decimal_plain var) (before (codes ":") (constraint_words sum) refl (constraint_plain sum)))
  line_plain (Red goal witness proofs) = before (codes "red") (witnessed_words spelling goal witness proofs) refl (witnessed_plain goal witness proofs)
  line_plain (Dom goal witness proofs) = before (codes "dom") (witnessed_words spelling goal witness proofs) refl (witnessed_plain goal witness proofs)
  line_plain (Sol model cut rows) =
      let first : List (List ℕ) = codes "sol" ∷ map literal_word model in
      let second : List (List ℕ) = codes ":" ∷ map literal_word cut in
      let third : List (List ℕ) = codes ":" ∷ map (id_word spelling) rows in
      words_append (first ++ second) third
      (words_append first second (before (codes "sol") (map literal_word model) refl (each_word literal_word literal_plain model)) (before (codes ":") (map literal_word cut) refl (each_word literal_word literal_plain cut)))
      (before (codes ":") (map (id_word spelling) rows) refl (each_word (id_word spelling) (id_plain spelling) rows))
  line_plain (Del ids) = before (codes "del") (deleted_words spelling ids) refl (deleted_plain spelling ids)
  line_plain (Reduce ids) = before (codes "reduce") (deleted_words spelling ids) refl (deleted_plain spelling ids)
  line_plain (End id) = pair (codes "end") (id_word spelling id) refl (id_plain spelling id)

  -- the text of a line has no line feed
  pub line_text-one : (line : Line) → IsOneLine (line_text spelling line)
  line_text-one line = one_from_plain (line_text spelling line) (spaced_plain (line_words spelling line) (line_plain line))
