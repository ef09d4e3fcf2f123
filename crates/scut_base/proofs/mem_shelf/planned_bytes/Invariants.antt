use Rattle.std.proofs.Common.{◌≡◌, drop}
use Rattle.scut_base.specs.Memory.{planned_bytes}
use Rattle.scut_base.proofs.mem_shelf.planned_bytes.Given as goal

abbrev pub invariant-loop-fault : goal.invariant-loop-fault
invariant-loop-fault l = planned_bytes l.plan l.call l.number ≡ planned_bytes (drop l.fault-index l.plan) l.call l.number
