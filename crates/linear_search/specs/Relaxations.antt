-- What is seen of a relaxation.
use Rattle.std.specs.Prelude.{◌≡◌, ◌+◌, ◌/◌, ◌≤◌, ℕ}

-- how many columns and constraints there are, and what may still be lost on questions that stay open
pub record Relaxation : Type 0 where
  pub columns : ℕ
  pub constraints : ℕ
  pub purse : ℕ

-- the same relaxation after a question, of whose purse at most a quarter is lost
pub record IsPaid (old new : Relaxation) : Type 0 where
  pub columns : new.columns ≡ old.columns
  pub constraints : new.constraints ≡ old.constraints
  pub most : new.purse ≤ old.purse
  pub quarter : old.purse ≤ new.purse + old.purse / 4
