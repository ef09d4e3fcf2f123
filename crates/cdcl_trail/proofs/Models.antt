-- Full trails that leave no line violated.
use Rattle.std.proofs.Common.{◌≡◌, ◌≢◌, ℕ, ◌≤◌, Bool, true, false, if◌then◌else◌, Option, Some, None, List, [], ◌∷◌, get_or, sum_by, All, refl, arith, sym, subst}
use Rattle.std.specs.Prelude.{pos, ◌-ℤ◌, ◌≤ℤ◌}
use Rattle.std.specs.FinMap.{get}
use Rattle.std.proofs.lemmas.Int.{ints}
use Rattle.std.proofs.lemmas.List.Elements.{All-head, All-tail}
use Rattle.std.proofs.lemmas.List.Sums.{sum_by-cons}
use Rattle.scut_base.specs.Literal.{Literal}
use Rattle.scut_base.specs.Assignment.{lit_true, partial_truth}
use Rattle.pb_lin.specs.Constraint.{ConstraintValue, Holds, possible_value, term_value, unless_false}
use Rattle.pb_lin.specs.LineMap.{LineMap}
use Rattle.clause_prop.specs.Steps.{TrailValue, partial}
use Rattle.clause_prop.specs.Propagating.{IsClosedFor}
use Rattle.cdcl_trail.specs.SearchTrail.{AreLines, IsFull, IsOfSteps}

sum_le : {X : Type 0} (f g : X → ℕ) (xs : List X) → All (λ x. f x ≤ g x) xs → sum_by f xs ≤ sum_by g xs
sum_le f g [] all = omega arith
sum_le f g (x ∷ xs) all =
    let one : f x ≤ g x = All-head (λ y. f y ≤ g y) x xs all in
    let rest = sum_le f g xs (All-tail (λ y. f y ≤ g y) x xs all) in
    let left = sum_by-cons f x xs in
    let right = sum_by-cons g x xs in
    omega (arith, one, rest, left, right)

-- a coefficient that may be reached is reached where the literal has a value
by_truth : (o : Option Bool) (v : Bool) (n : ℕ) → o ≢ None → (o ≡ Some true → v ≡ true) → unless_false o n ≤ (if v then n else 0)
by_truth None v n some same = absurd (some refl)
by_truth (Some true) v n some same = subst (λ (w : Bool). n ≤ (if w then n else 0)) (sym (same refl)) (omega arith)
by_truth (Some false) v n some same = omega arith

not_below : (sum value degree : ℕ) → sum ≤ value → pos 0 ≤ℤ (pos sum -ℤ pos degree) → degree ≤ value
not_below sum value degree le possible = omega (arith, ints)

pub model_law : (store : LineMap) (t : TrailValue) (a : List Bool) → AreLines t.vars store → IsClosedFor store t → IsFull t → IsOfSteps t a → (id : ℕ) (c : ConstraintValue) → get store id ≡ Some c → Holds a c
model_law store t a lines closed full of_steps id c there =
    not_below (sum_by (possible_value (partial t)) c.terms) (sum_by (term_value a) c.terms) c.degree
    (sum_le (possible_value (partial t)) (term_value a) c.terms (λ k d short.
    let u : Literal × ℕ = get_or c.terms k d in
    by_truth (partial_truth (partial t) u.0) (lit_true a u.0) u.1 (full u.0 ((lines.normal id c there).merged.from_one k d short) (lines.variables id c there k d short)) (of_steps u.0)))
    (closed id c there).possible
