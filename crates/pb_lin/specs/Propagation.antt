-- Partial assignments under which constraints force no literal.
use Rattle.std.specs.Prelude.{◌≡◌, ℕ, Bool, false, ◌&&◌, ◌↔◌, Option, None, List, ◌++◌, length, take, replicate, All, pos, ◌≤ℤ◌, int_lt}
use Rattle.std.specs.Option.{is_none}
use Rattle.scut_base.specs.Literal.{Literal}
use Rattle.scut_base.specs.Assignment.{partial_truth}
use Rattle.pb_lin.specs.Constraint.{ConstraintValue, IsVariable, UpTo, slack}

-- whether the literal is open, with a coefficient above the slack
abbrev pub is_forced : List (Option Bool) → ConstraintValue → Literal × ℕ → Bool
is_forced p c t = is_none (partial_truth p t.0) && int_lt (slack p c) (pos t.1)

-- the constraint has no negative slack, and forces no literal
pub record IsClosedUnder (p : List (Option Bool)) (c : ConstraintValue) : Type 0 where
  pub possible : pos 0 ≤ℤ slack p c
  pub unforced : All (λ t. is_forced p c t ≡ false) c.terms

-- the partial assignment is closed for the constraints
abbrev pub IsClosed : List (Option Bool) → List ConstraintValue → Type 0
IsClosed p cs = All (IsClosedUnder p) cs

-- no partial assignment that is long enough for the constraints is closed for them
abbrev pub ConflictsByPropagation : List ConstraintValue → Type 0
ConflictsByPropagation cs = (p : List (Option Bool)) → All (UpTo (length p)) cs → IsClosed p cs → ⊥

-- ---- the length of partial assignments

-- each variable of the constraints is from 1 to n
abbrev pub AreOver : ℕ → List ConstraintValue → Type 0
AreOver n cs = All (λ c. All (λ t. IsVariable n t.0.var) c.terms) cs

-- no partial assignment of length n is closed for the constraints
abbrev pub NoneIsClosed : ℕ → List ConstraintValue → Type 0
NoneIsClosed n cs = (p : List (Option Bool)) → length p ≡ n → IsClosed p cs → ⊥

-- cut after the variables 1 to n of the constraints, or with open variables at the end, it is closed for them exactly where it was
pub record IsClosedAtAnyLength (n : ℕ) (cs : List ConstraintValue) (p : List (Option Bool)) : Type 0 where
  pub cut : IsClosed (take n p) cs ↔ IsClosed p cs
  pub extended : (more : ℕ) → IsClosed (p ++ replicate more None) cs ↔ IsClosed p cs

abbrev pub ClosedAtAnyLength : Type 0
ClosedAtAnyLength = (n : ℕ) (cs : List ConstraintValue) → AreOver n cs → (p : List (Option Bool)) → IsClosedAtAnyLength n cs p

-- constraints over the variables 1 to n conflict by propagation exactly where no partial assignment of length n is closed for them
abbrev pub ConflictsAtOneLength : Type 0
ConflictsAtOneLength = (n : ℕ) (cs : List ConstraintValue) → AreOver n cs → (ConflictsByPropagation cs ↔ NoneIsClosed n cs)
