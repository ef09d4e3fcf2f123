use Rattle.std.proofs.Common.{take}
use Rattle.instance.specs.ParetoFront.{AreProblemVectors}
use Rattle.log_checker.specs.Accepted.{IsRightList}
use Rattle.log_checker.proofs.list.check_entries.Given as goal

abbrev pub invariant-loop-at : goal.invariant-loop-at
invariant-loop-at l = IsRightList l.inst (take l.at l.entries) × AreProblemVectors l.inst (take l.at l.entries)
