-- Truth under an assignment and under an extension of it, and sums of truths.
use Rattle.std.proofs.Common.{◌≡◌, ◌⊎◌, inl, inr, ℕ, ◌-◌, ◌<◌, ◌≤◌, Bool, true, false, not, if◌then◌else◌, List, [], ◌∷◌, ◌++◌, length, map, refl, ap, ◌∙◌, append-nil, ℤ, pos, ◌+ℤ◌, fold, arith}
use Rattle.std.specs.Prelude.{All}
use Rattle.std.proofs.lemmas.Int.{ints}
use Rattle.std.proofs.lemmas.List.{get_or_append_left}
use Rattle.std.proofs.lemmas.List.Elements.{All-head, All-tail, All-weaker}
use Rattle.scut_base.specs.Literal.{Literal}
use Rattle.scut_base.specs.Assignment.{value_of, lit_true}
use Rattle.instance.specs.Shape.{ClauseUpTo, TermsUpTo}
use Rattle.instance.specs.Meaning.{clause_true, int_sum_by, term_value, terms_value}
use Rattle.pb_lin.specs.Constraint.{opposite}
use Rattle.pb_lin.specs.NormalForm.{sum_value, signed_value}
use Rattle.instance_normal.proofs.Members.{any_agrees}

-- ---- extensions

-- An extension changes nothing where there are variables: then index 0 is within the first part.
abbrev pub Reaches : ℕ → List Bool → Type 0
Reaches n ext = (0 < n) ⊎ (ext ≡ [])

pub truth_kept : (n : ℕ) (a ext : List Bool) (l : Literal) → length a ≡ n → Reaches n ext → l.var ≤ n → lit_true (a ++ ext) l ≡ lit_true a l
truth_kept n a ext l long (inl some) le = ap (λ (v : Bool). if l.neg then not v else v) (get_or_append_left a ext false (l.var - 1) (omega arith))
truth_kept n a ext l long (inr none) le = ap (λ (b : List Bool). lit_true b l) (ap (λ (e : List Bool). a ++ e) none ∙ append-nil a)

pub clause_kept : (n : ℕ) (a ext : List Bool) (lits : List Literal) → length a ≡ n → Reaches n ext → ClauseUpTo n lits → clause_true (a ++ ext) lits ≡ clause_true a lits
clause_kept n a ext lits long reaches upto = any_agrees (lit_true (a ++ ext)) (lit_true a) lits (All-weaker (λ (l : Literal). l.var ≤ n) (λ (l : Literal). lit_true (a ++ ext) l ≡ lit_true a l) (λ l le. truth_kept n a ext l long reaches le) lits upto)

-- ---- sums

pub int_sum_agrees : {X : Type 0} (f g : X → ℤ) (xs : List X) → All (λ x. f x ≡ g x) xs → int_sum_by f xs ≡ int_sum_by g xs
int_sum_agrees f g [] all = refl
int_sum_agrees f g (x ∷ xs) all =
    let here : f x ≡ g x = All-head (λ y. f y ≡ g y) x xs all in
    let rest : int_sum_by f xs ≡ int_sum_by g xs = int_sum_agrees f g xs (All-tail (λ y. f y ≡ g y) x xs all) in
    ap (λ z. z +ℤ int_sum_by f xs) here ∙ ap (λ z. g x +ℤ z) rest

pub int_sum-append : {X : Type 0} (f : X → ℤ) (xs ys : List X) → int_sum_by f (xs ++ ys) ≡ int_sum_by f xs +ℤ int_sum_by f ys
int_sum-append f [] ys = omega (arith, ints)
int_sum-append f (x ∷ xs) ys = (let rest = int_sum-append f xs ys in omega (arith, ints))

pub terms_kept : (n : ℕ) (a ext : List Bool) (terms : List (ℤ × Literal)) → length a ≡ n → Reaches n ext → TermsUpTo n terms → terms_value (a ++ ext) terms ≡ terms_value a terms
terms_kept n a ext terms long reaches upto = int_sum_agrees (term_value (a ++ ext)) (term_value a) terms (All-weaker (λ (t : ℤ × Literal). t.1.var ≤ n) (λ (t : ℤ × Literal). term_value (a ++ ext) t ≡ term_value a t) (λ t le. ap (λ (b : Bool). if b then t.0 else pos 0) (truth_kept n a ext t.1 long reaches le)) terms upto)

fold_from : {X : Type 0} (f : X → ℤ) (z : ℤ) (xs : List X) → fold (λ s x. s +ℤ x) z (map f xs) ≡ z +ℤ int_sum_by f xs
fold_from f z [] = omega (arith, ints)
fold_from f z (x ∷ xs) = (let rest = fold_from f (z +ℤ f x) xs in omega (arith, ints))

-- both crates' sums of terms are the same
pub sum_value-terms_value : (a : List Bool) (terms : List (ℤ × Literal)) → sum_value a terms ≡ terms_value a terms
sum_value-terms_value a terms = (let sum = fold_from (signed_value a) (pos 0) terms in omega (arith, ints))

-- ---- opposite literals

flipped : (neg value : Bool) → (if not neg then not value else value) ≡ not (if neg then not value else value)
flipped true true = refl
flipped true false = refl
flipped false true = refl
flipped false false = refl

pub truth-opposite : (a : List Bool) (l : Literal) → lit_true a (opposite l) ≡ not (lit_true a l)
truth-opposite a l = flipped l.neg (value_of a l.var)
