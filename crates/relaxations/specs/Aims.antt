-- What a turn does for an aim.
use Rattle.std.specs.Prelude.{◌≡◌, List, Bool}
use Rattle.proof_rules.specs.Recording.{Snapshot}
use Rattle.search_base.specs.Boards.{BoardValue, IsBoard}
use Rattle.search_base.specs.Logged.{LogsNone, logged}
use Rattle.search_base.specs.Turns.{IsTaken}

-- from a to m it was asked, which logs nothing; then the model x was taken onto the board
pub record TakesModel (a m b : Snapshot) (x : List Bool) (front : BoardValue) : Type 0 where
  pub problem : m.problem ≡ a.problem
  pub none : LogsNone a.problem a.lines m.lines
  pub before : BoardValue
  pub taken : IsTaken m b before x
  pub same : b.problem ≡ m.problem
  pub board : IsBoard front (logged b.problem b.lines)
