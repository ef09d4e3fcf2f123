use Rattle.std.proofs.Common.{◌≡◌, take}
use Rattle.std.specs.Prelude.{All, Some, true}
use Rattle.scut_base.specs.Assignment.{partial_truth}
use Rattle.clause_prop.specs.Steps.{partial}
use Rattle.cdcl_core.proofs.deciding.first_unmet.Given as goal

abbrev pub invariant-loop-lit : goal.invariant-loop-lit
invariant-loop-lit g l = All (λ m. partial_truth (partial l.search.trail) m ≡ Some true) (take l.lit-index l.lits)
