use Rattle.std.proofs.Common.{◌≡◌, fold, take}
use Rattle.std.specs.FinMap.{remove}
use Rattle.proof_rules.proofs.reached.drop_all.Given as goal

abbrev pub invariant-loop-id : goal.invariant-loop-id
invariant-loop-id l = l.lines ≡ fold remove l.initial.lines (take l.id-index l.ids)
