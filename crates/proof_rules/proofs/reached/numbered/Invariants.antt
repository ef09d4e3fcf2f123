use Rattle.std.proofs.Common.{◌≡◌, take}
use Rattle.pb_lin.specs.LineMap.{lines_of}
use Rattle.proof_laws.specs.State.{numbered}
use Rattle.proof_rules.proofs.reached.numbered.Given as goal

abbrev pub invariant-loop-at : goal.invariant-loop-at
invariant-loop-at l = l.lines ≡ lines_of (numbered 1 (take l.at l.rows))
