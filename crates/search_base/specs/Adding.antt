-- Lines by which no bound changes.
use Rattle.std.specs.Prelude.{◌≡◌, false, List}
use Rattle.proof_rules.specs.Recording.{Snapshot}
use Rattle.recording.specs.Adding.{Adds}
use Rattle.oracle.specs.Solving.{IsDerived}
use Rattle.sum_outputs.specs.Adding.{Continues}
use Rattle.search_base.specs.Boards.{BoardValue}
use Rattle.search_base.specs.Good.{IsGood}
use Rattle.search_base.specs.Logged.{LogsNone}
use Rattle.search_base.specs.declared.objective_bound.ObjectiveBound.{ObjectiveBound}

-- such conservative lines keep a good state good, and log nothing
abbrev pub AddingStaysGood : Type 0
AddingStaysGood = (a b : Snapshot) (bounds : List ObjectiveBound) (board : BoardValue)
    → IsGood a bounds board → Continues a b → b.broken ≡ false
    → IsGood b bounds board × LogsNone a.problem a.lines b.lines

-- so do derived and implied constraints
abbrev pub DerivingStaysGood : Type 0
DerivingStaysGood = (a b : Snapshot) (bounds : List ObjectiveBound) (board : BoardValue)
    → IsGood a bounds board → Adds IsDerived a b → b.broken ≡ false
    → IsGood b bounds board × LogsNone a.problem a.lines b.lines
