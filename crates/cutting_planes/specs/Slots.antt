-- Slots for the terms of a sum, in rising order of variables; nothing of it has to be believed.
use Rattle.std.specs.Prelude.{◌≡◌, ℕ, ◌+◌, ◌<◌, ◌≤◌, ◌^◌, Bool, List, All, AllPairs}
use Rattle.scut_base.specs.Literal.{Literal}
use Rattle.pb_lin.specs.Constraint.{total, value}

-- the variables rise; the coefficients may be 0
pub record AreSlots (terms : List (Literal × ℕ)) : Type 0 where
  pub from_one : All (λ t. 0 < t.0.var) terms
  pub rising : AllPairs (λ s t. s.0.var < t.0.var) terms

-- the sum of the coefficients is known, and small beside the degree
pub record AreCounted (terms : List (Literal × ℕ)) (sum degree : ℕ) : Type 0 where
  pub slots : AreSlots terms
  pub counted : total terms ≡ sum
  pub small : sum + degree ≤ 2 ^ 100

-- Terms were added to slots, where so much of each side cancelled.
pub record AreAdded (old terms new : List (Literal × ℕ)) (cancelled : ℕ) : Type 0 where
  pub slots : AreSlots new
  pub same : (a : List Bool) → value a old + value a terms ≡ value a new + cancelled
  pub coefficients : total old + total terms ≡ total new + cancelled + cancelled
