-- Lists of which each element comes before the next, and goals in their order.
use Rattle.std.proofs.Common.{◌≡◌, ◌⊎◌, ℕ, zero, suc, ◌+◌, ◌<◌, ◌≤◌, List, length, get_or, ⊎_elim, inl, inr, add-one, arith}
use Rattle.std.specs.List.{AllPairs}
use Rattle.std.proofs.lemmas.Bool.{cases_lt}
use Rattle.proof_laws.specs.declared.goal.Goal.{Goal}
use Rattle.proof_laws.specs.declared.goal.GoalProof.{GoalProof}
use Rattle.proof_laws.specs.WellFormed.{ComesBefore, goal_kind, goal_number}

-- each element up to a place comes before the next
abbrev pub OrderedUpTo : {X : Type 0} → (X → X → Type 0) → List X → ℕ → Type 0
OrderedUpTo {X} R xs at = (k : ℕ) (d : X) → k + 1 < at → R (get_or xs k d) (get_or xs (k + 1) d)

pub ordered_pairs : {X : Type 0} (R : X → X → Type 0) (xs : List X) (at : ℕ) → ((x y z : X) → R x y → R y z → R x z) → length xs ≤ at → OrderedUpTo R xs at → AllPairs R xs
ordered_pairs {X} R xs at joins past ordered i zero d lt within = absurd (omega arith)
ordered_pairs {X} R xs at joins past ordered i (suc j) d lt within =
    let step : R (get_or xs j d) (get_or xs (suc j) d) = rw add-one at (ordered j d (omega arith)) in
    ⊎_elim
    (λ below. joins (get_or xs i d) (get_or xs j d) (get_or xs (suc j) d) (ordered_pairs R xs at joins past ordered i j d below (omega arith)) step)
    (λ above. let same : i ≡ j = omega arith in rw same step)
    (cases_lt i j)

-- goals come one before the other
abbrev pub IsBefore : Goal × GoalProof → Goal × GoalProof → Type 0
IsBefore q r = ComesBefore q.0 r.0

number_joins : (a b c m n o : ℕ) → (a < b) ⊎ ((a ≡ b) × (m < n)) → (b < c) ⊎ ((b ≡ c) × (n < o)) → (a < c) ⊎ ((a ≡ c) × (m < o))
number_joins a b c m n o first second =
    ⊎_elim
    (λ (lt : a < b). ⊎_elim (λ (more : b < c). inl (omega arith)) (λ (same : (b ≡ c) × (n < o)). inl (omega arith)) second)
    (λ (even : (a ≡ b) × (m < n)). ⊎_elim (λ (more : b < c). inl (omega arith)) (λ (same : (b ≡ c) × (n < o)). inr (omega arith, omega arith)) second)
    first

pub before_joins : (x y z : Goal × GoalProof) → IsBefore x y → IsBefore y z → IsBefore x z
before_joins x y z first second = number_joins (goal_kind x.0) (goal_kind y.0) (goal_kind z.0) (goal_number x.0) (goal_number y.0) (goal_number z.0) first second
