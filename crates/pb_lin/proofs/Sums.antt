-- Signed sums, and filters that agree.
use Rattle.std.proofs.Common.{◌≡◌, ℕ, ◌+◌, ◌<◌, List, [], ◌∷◌, length, get_or, arith, take, refl, ap, ◌∙◌, map, fold, Bool, ℤ, pos, ◌+ℤ◌, ◌≤◌, filter, cond}
use Rattle.std.proofs.lemmas.List.{map_more}
use Rattle.std.proofs.lemmas.List.Sums.{fold_push}
use Rattle.scut_base.specs.Literal.{Literal}
use Rattle.scut_base.specs.Assignment.{lit_true}
use Rattle.std.proofs.lemmas.Bool.{cond_both}
use Rattle.pb_lin.specs.Constraint.{term_value}
use Rattle.pb_lin.specs.NormalForm.{sum_value, signed_value}

-- one more term
pub sum_value_more : (a : List Bool) (terms : List (ℤ × Literal)) (i : ℕ) (d : ℤ × Literal) → i < length terms → sum_value a (take (i + 1) terms) ≡ sum_value a (take i terms) +ℤ signed_value a (get_or terms i d)
sum_value_more a terms i d short = ap (fold (λ s x. s +ℤ x) (pos 0)) (map_more (signed_value a) terms i d short) ∙ fold_push (λ s x. s +ℤ x) (pos 0) (map (signed_value a) (take i terms)) (signed_value a (get_or terms i d))

pub filter_same : {X : Type 0} (p q : X → Bool) → ((x : X) → p x ≡ q x) → (xs : List X) → filter p xs ≡ filter q xs
filter_same p q same [] = refl
filter_same {X} p q same (x ∷ xs) = ap (λ (b : Bool). cond b (x ∷ filter p xs) (filter p xs)) (same x) ∙ ap (λ (ys : List X). cond (q x) (x ∷ ys) ys) (filter_same p q same xs)

pub term_value-le : (a : List Bool) (t : Literal × ℕ) → term_value a t ≤ t.1
term_value-le a t = cond_both (lit_true a t.0) t.1 0 (λ (n : ℕ). n ≤ t.1) (λ _. omega arith) (λ _. omega arith)
