-- What a derivation may name: lines by their ids, and two constraints that may be given besides.
use Rattle.std.specs.Prelude.{◌≡◌, ℕ, Bool, List, Option, Some, IfSome, option_copied}
use Rattle.std.specs.Borrow.{Bor}
use Rattle.std.specs.FinMap.{get}
use Rattle.pb_lin.specs.Constraint.{ConstraintValue, Holds, IsNormal, UpTo}
use Rattle.pb_lin.specs.LineMap.{LineMap}

-- lines, the negation of what is to be proved, and what is denied besides
pub record Given : Type 0 where
  pub lines : LineMap
  pub negated : Option ConstraintValue
  pub denied : Option ConstraintValue

-- the arguments of a call that takes both constraints where they are given
abbrev pub given_of : LineMap → Option (Bor ConstraintValue) → Option (Bor ConstraintValue) → Given
given_of lines negated denied = record { lines = lines; negated = option_copied negated; denied = option_copied denied }

-- and of a call that takes the negation always
abbrev pub given_with : LineMap → ConstraintValue → Option (Bor ConstraintValue) → Given
given_with lines negated denied = record { lines = lines; negated = Some negated; denied = option_copied denied }

-- all of it holds
pub record HoldsGiven (a : List Bool) (given : Given) : Type 0 where
  pub lines : (id : ℕ) (c : ConstraintValue) → get given.lines id ≡ Some c → Holds a c
  pub negated : IfSome given.negated (Holds a)
  pub denied : IfSome given.denied (Holds a)

-- it implies the constraint
abbrev pub IsImpliedBy : Given → ConstraintValue → Type 0
IsImpliedBy given c = (a : List Bool) → HoldsGiven a given → Holds a c

-- it has no model
abbrev pub IsRefuted : Given → Type 0
IsRefuted given = (a : List Bool) → HoldsGiven a given → ⊥

-- a constraint in normal form with no variable above n
pub record IsWithin (n : ℕ) (c : ConstraintValue) : Type 0 where
  pub normal : IsNormal c.terms c.degree
  pub upto : UpTo n c

-- all of it is in normal form, with no variable above n
pub record GivenWithin (n : ℕ) (given : Given) : Type 0 where
  pub lines : (id : ℕ) (c : ConstraintValue) → get given.lines id ≡ Some c → IsWithin n c
  pub negated : IfSome given.negated (IsWithin n)
  pub denied : IfSome given.denied (IsWithin n)
