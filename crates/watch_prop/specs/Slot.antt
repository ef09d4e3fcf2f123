-- A watched clause.
use Rattle.std.specs.Prelude.{ℕ, Bool, List}
use Rattle.scut_base.specs.Literal.{Literal}

-- Whether a clause begins at a place; the id of its line, and its literals in an order of their own with the two that are watched in front. A clause has none after its line was dropped.
pub record Slot : Type 0 where
  pub begins : Bool
  pub id : ℕ
  pub lits : List Literal
