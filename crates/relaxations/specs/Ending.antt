-- How relaxations end.
use Rattle.std.specs.Prelude.{ℕ, [], List, Bool}
use Rattle.proof_laws.specs.State.{StateValue}
use Rattle.proof_rules.specs.Recording.{Snapshot}
use Rattle.sum_outputs.specs.Adding.{IsReached}
use Rattle.sum_outputs.specs.Totals.{IsKeptClause}
use Rattle.search_base.specs.Boards.{BoardValue}
use Rattle.search_base.specs.Pending.{IsGoodBut}
use Rattle.search_base.specs.declared.objective_bound.ObjectiveBound.{ObjectiveBound}

-- the kept clause of this id is "0 >= 1"
abbrev pub IsKeptEnd : Snapshot → ℕ → Type 0
IsKeptEnd a id = (s : StateValue) → IsReached a s → IsKeptClause a.problem a.lines s id (record { terms = []; degree = 1 })

-- some bounds and board make the state good but for some models
abbrev pub IsGoodButForSome : Snapshot → Type 0
IsGoodButForSome a = (bounds : List ObjectiveBound) × (front : BoardValue) × (pending : List (List Bool)) × IsGoodBut a bounds front pending

-- whichever make the one state good but for some models make the other good but for them
abbrev pub StaysGoodBut : Snapshot → Snapshot → Type 0
StaysGoodBut a b = (bounds : List ObjectiveBound) (front : BoardValue) (pending : List (List Bool))
    → IsGoodBut a bounds front pending → IsGoodBut b bounds front pending
