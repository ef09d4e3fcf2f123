-- Limits that are below others.
use Rattle.std.proofs.Common.{◌≡◌, ◌∙◌, ℕ, zero, suc, true, false, not, Option, None, Some, List, [], ◌∷◌, refl, sym, ap, subst, ℤ, ◌≤ℤ◌, arith}
use Rattle.std.specs.Prelude.{int_lt, slice_get, slice_set, IfSome}
use Rattle.std.proofs.lemmas.Bool.{and_from, not_from_false}
use Rattle.std.proofs.lemmas.Int.{ints}
use Rattle.front_set.specs.Vector.{is_below, IsBelow}
use Rattle.front_set.proofs.FrontLaws.{IsBelow-refl, IsBelow-trans}
use Rattle.pb_lin.specs.Problem.{problem_costs}
use Rattle.proof_rules.specs.Recording.{Snapshot}
use Rattle.relaxations.specs.Telling.{Tells, TellsAny, is_closed}
use Rattle.relaxations.specs.declared.below.Below.{Below}
use Rattle.relaxations.specs.declared.below.Below.TheVariants.{Model, End, Above}

test_from_le : (x y : ℤ) → x ≤ℤ y → not (int_lt y x) ≡ true
test_from_le x y h = not_from_false (int_lt y x) (grind (arith, ints))

-- a vector with one number that is no greater
pub below_set : (u : List ℤ) (i : ℕ) (x n : ℤ) → slice_get u i ≡ Some n → x ≤ℤ n → IsBelow (slice_set u i x) u
below_set [] i x n at le = refl
below_set (y ∷ u) zero x n at le =
    let same : y ≡ n = cc in
    and_from (not (int_lt y x)) (is_below u u) (test_from_le x y (omega (arith, ints))) (IsBelow-refl u)
below_set (y ∷ u) (suc i) x n at le =
    and_from (not (int_lt y y)) (is_below (slice_set u i x) u) (test_from_le y y (omega (arith, ints)))
    (below_set u i x n at le)

pub lowered : (u v : List ℤ) (i : ℕ) (x n : ℤ) → v ≡ slice_set u i x → slice_get u i ≡ Some n → x ≤ℤ n → IsBelow v u
lowered u v i x n is at le = subst (λ (w : List ℤ). IsBelow w u) (sym is) (below_set u i x n at le)

-- a copy of an aim with one number that is no greater
pub lessened : (aim u v : List ℤ) (i : ℕ) (x n : ℤ) → u ≡ aim → v ≡ slice_set u i x → slice_get aim i ≡ Some n
    → x ≤ℤ n → IsBelow v aim
lessened aim u v i x n copied is at le =
    lowered aim v i x n (is ∙ ap (λ (w : List ℤ). slice_set w i x) copied) at le

-- what is told of limits is told of greater ones, but where they stand in the way
pub told_of_greater : (b : Snapshot) (part limits : List ℤ) (found : Option Below) → is_closed found ≡ false
    → IsBelow part limits → IfSome found (Tells b part) → IfSome found (Tells b limits)
told_of_greater b part limits None other below told = tt
told_of_greater b part limits (Some (Model x)) other below told =
    (told.0, IsBelow-trans (problem_costs b.problem x) part limits told.1 below)
told_of_greater b part limits (Some (End id)) other below told = told
told_of_greater b part limits (Some (Above stands)) other below told = cc

-- what is told of limits is told of all that is left, but where they stand in the way
pub told_of_all : (b : Snapshot) (limits : List ℤ) (found : Option Below) → is_closed found ≡ false → IfSome found (Tells b limits) → IfSome found (TellsAny b)
told_of_all b limits None other told = tt
told_of_all b limits (Some (Model x)) other told = told.0
told_of_all b limits (Some (End id)) other told = told
told_of_all b limits (Some (Above stands)) other told = cc
