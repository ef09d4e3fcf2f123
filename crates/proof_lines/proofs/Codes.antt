-- What tells words apart.
use Rattle.std.proofs.Common.{◌≡◌, ℕ, ◌<◌, ◌^◌, Bool, true, false, List, [], ◌∷◌, get_or, drop, refl, sym, ap, subst, ◌∙◌, arith}
use Rattle.std.specs.Prelude.{if◌then◌else◌, ◌==◌}
use Rattle.std.specs.Int.{IsInRange}
use Rattle.std.specs.Fmt.{decimal}
use Rattle.std.specs.Str.{bytes_eq}
use Rattle.std.proofs.lemmas.Bool.{eq-eqb}
use Rattle.std.proofs.lemmas.Slice.Eq.{bytes_eq-Decides}
use Rattle.scut_base.proofs.Lists.{head_same}
use Rattle.scut_base.specs.Literal.{Literal}
use Rattle.hint_rup.specs.declared.hint.Hint.{Hint}
use Rattle.hint_rup.specs.declared.hint.Hint.TheVariants.{Id, Negated, Denied}
use Rattle.proof_laws.specs.WellFormed.{IsId, IsVariable, IsHint}
use Rattle.proof_lines.specs.declared.spelling.Spelling.{Spelling}
use Rattle.proof_lines.specs.Ids.{IsSpelling, id_word}
use Rattle.proof_lines.specs.LineText.{variable_word, literal_word, hint_word}
use Rattle.proof_lines.proofs.Numbers.{one_number, decimal_first}
use Rattle.proof_lines.proofs.IdWords.{no_id, one_id}
use Rattle.proof_lines.proofs.Items.{Words}

-- ---- first bytes

abbrev pub first_byte : List ℕ → ℕ
first_byte word = get_or word 0 0

-- a number isn't a word of another first byte
pub no_decimal : (n : ℕ) → n < 10 ^ 64 → (word : List ℕ) → (IsInRange 48 57 (first_byte word) → ⊥) → decimal n ≡ word → ⊥
no_decimal n small word other is = other (subst (λ (w : List ℕ). IsInRange 48 57 (get_or w 0 0)) is (decimal_first n small))

-- bytes that the test tells apart
pub heads_apart : (a b : ℕ) (xs ys : List ℕ) → (a == b) ≡ false → a ∷ xs ≡ b ∷ ys → ⊥
heads_apart a b xs ys apart e = by (a == b) (eq-eqb a b (head_same a b xs ys e)) apart
  where
    by : (v : Bool) → v ≡ true → v ≡ false → ⊥
    by v passed failed = cc

-- ---- variables and literals

pub one_variable : (m n : ℕ) → IsVariable m → IsVariable n → variable_word m ≡ variable_word n → m ≡ n
one_variable m n p q e = one_number m n (omega arith) (omega arith) (ap (drop 1) e)

-- the word of a literal, by its parts
abbrev pub spelled_literal : Bool → ℕ → List ℕ
spelled_literal neg var = if neg then 126 ∷ variable_word var else variable_word var

one_spelled : (b c : Bool) (m n : ℕ) → IsVariable m → IsVariable n → spelled_literal b m ≡ spelled_literal c n → (b ≡ c) × (m ≡ n)
one_spelled true true m n p q e = (refl, one_variable m n p q (ap (drop 1) e))
one_spelled false false m n p q e = (refl, one_variable m n p q e)
one_spelled true false m n p q e = absurd (heads_apart 126 120 _ _ refl e)
one_spelled false true m n p q e = absurd (heads_apart 120 126 _ _ refl e)

same_literal : (l m : Literal) → l.neg ≡ m.neg → l.var ≡ m.var → l ≡ m
same_literal l m neg var =
    let made : ℕ → Bool → Literal = λ v b. record { var = v; neg = b } in
    ap (λ b. made l.var b) neg ∙ ap (λ v. made v m.neg) var

pub one_literal : (l m : Literal) → IsVariable l.var → IsVariable m.var → literal_word l ≡ literal_word m → l ≡ m
one_literal l m p q e = let parts = one_spelled l.neg m.neg l.var m.var p q e in same_literal l m parts.0 parts.1

spelled_first : (b : Bool) (n : ℕ) → IsInRange 120 126 (first_byte (spelled_literal b n))
spelled_first true n = omega arith
spelled_first false n = omega arith

-- a literal begins with `x` or `~`
pub literal_first : (l : Literal) → IsInRange 120 126 (first_byte (literal_word l))
literal_first l = spelled_first l.neg l.var

pub no_literal : (l : Literal) (word : List ℕ) → (IsInRange 120 126 (first_byte word) → ⊥) → literal_word l ≡ word → ⊥
no_literal l word other is = other (subst (λ (w : List ℕ). IsInRange 120 126 (get_or w 0 0)) is (literal_first l))

-- ---- items of one word

abbrev pub one_word : {X : Type 0} → (X → List ℕ) → X → Words
one_word word x = word x ∷ []

abbrev pub AnyFollows : {X : Type 0} → X → Words → Type 0
AnyFollows x words = Unit {0}

-- each word spells one item at most, and `:` none
pub record IsWordCode {X : Type 0} (word : X → List ℕ) (IsValid : X → Type 0) : Type 0 where
  pub one : (x y : X) → IsValid x → IsValid y → word x ≡ word y → x ≡ y
  pub no_mark : (x : X) → IsValid x → word x ≡ 58 ∷ [] → ⊥

pub literal_code : IsWordCode literal_word (λ l. IsVariable l.var)
literal_code = record {
  one = one_literal;
  no_mark = λ l p e. no_literal l (58 ∷ []) (λ first. omega arith) e;
}

-- ---- ids and hints

module _ (spelling : Spelling) (fine : IsSpelling spelling) where
  pub one_hint : (h k : Hint) → IsHint h → IsHint k → hint_word spelling h ≡ hint_word spelling k → h ≡ k
  one_hint (Id m) (Id n) p q e = ap Id (one_id spelling fine m n p q e)
  one_hint (Id m) Negated p q e = absurd (no_id spelling m p (126 ∷ []) (λ digit. omega arith) e)
  one_hint (Id m) Denied p q e = absurd (no_id spelling m p (33 ∷ []) (λ digit. omega arith) e)
  one_hint Negated (Id n) p q e = absurd (no_id spelling n q (126 ∷ []) (λ digit. omega arith) (sym e))
  one_hint Negated Negated p q e = refl
  one_hint Negated Denied p q e = absurd (heads_apart 126 33 _ _ refl e)
  one_hint Denied (Id n) p q e = absurd (no_id spelling n q (33 ∷ []) (λ digit. omega arith) (sym e))
  one_hint Denied Negated p q e = absurd (heads_apart 33 126 _ _ refl e)
  one_hint Denied Denied p q e = refl

  no_mark_hint : (h : Hint) → IsHint h → hint_word spelling h ≡ 58 ∷ [] → ⊥
  no_mark_hint (Id n) p e = no_id spelling n p (58 ∷ []) (λ digit. omega arith) e
  no_mark_hint Negated p e = heads_apart 126 58 [] [] refl e
  no_mark_hint Denied p e = heads_apart 33 58 [] [] refl e

  pub id_code : IsWordCode (id_word spelling) IsId
  id_code = record {
    one = λ m n p q e. one_id spelling fine m n p q e;
    no_mark = λ n p e. no_id spelling n p (58 ∷ []) (λ digit. omega arith) e;
  }

  pub hint_code : IsWordCode (hint_word spelling) IsHint
  hint_code = record { one = one_hint; no_mark = no_mark_hint }

-- two texts that the test tells apart
pub texts_apart : (word text other : List ℕ) (r : Bool) → r ≡ bytes_eq word text → text ≡ other → r ≡ false → word ≡ other → ⊥
texts_apart word text other r test is failed same = by (bytes_eq word text) ((bytes_eq-Decides word text).1 (same ∙ sym is)) (sym test ∙ failed)
  where
    by : (v : Bool) → v ≡ true → v ≡ false → ⊥
    by v passed none = cc
