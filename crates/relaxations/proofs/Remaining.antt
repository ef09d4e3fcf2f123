-- What is left within limits.
use Rattle.std.proofs.Common.{ℕ, ◌<◌, zero, suc, not, List, [], ◌∷◌, length, arith, ℤ, ◌≤ℤ◌}
use Rattle.std.specs.Prelude.{int_lt}
use Rattle.std.proofs.lemmas.Bool.{and_parts}
use Rattle.front_set.specs.Vector.{is_below, IsBelow}
use Rattle.front_set.proofs.FrontLaws.{length-IsBelow}
use Rattle.pb_lin.specs.Problem.{problem_costs}
use Rattle.proof_rules.specs.Recording.{Snapshot}
use Rattle.search_base.specs.Turns.{IsRemaining}
use Rattle.search_base.proofs.CutClauses.{le_from_test}
use Rattle.relaxations.specs.Telling.{IsRemainingAt, number_at}

pub parts_of : (x y : ℤ) (u v : List ℤ) → IsBelow (x ∷ u) (y ∷ v) → (x ≤ℤ y) × IsBelow u v
parts_of x y u v below =
    let parts = and_parts (not (int_lt y x)) (is_below u v) below in
    (le_from_test x y parts.0, parts.1)

pub below_at : (u v : List ℤ) (i : ℕ) → IsBelow u v → i < length u → number_at u i ≤ℤ number_at v i
below_at [] v i below short = absurd (omega arith)
below_at (x ∷ u) [] i below short = cc
below_at (x ∷ u) (y ∷ v) zero below short = (parts_of x y u v below).0
below_at (x ∷ u) (y ∷ v) (suc i) below short = below_at u v i (parts_of x y u v below).1 (omega arith)

-- what keeps to all limits keeps to some of them
pub none_left : (a : Snapshot) (limits : List ℤ) (IsPlace : ℕ → Type 0) → (IsRemainingAt a limits IsPlace → ⊥)
    → IsRemaining a limits → ⊥
none_left a limits IsPlace none (s, reached, x, satisfies, below) =
    let costs = problem_costs a.problem x in
    let long = length-IsBelow costs limits below in
    none (s, reached, x, satisfies, λ i short at. below_at costs limits i below (omega arith))
