use Rattle.std.proofs.Common.{arith}
use Rattle.scut_base.proofs.FaultLaws.{risen_cause}
use Rattle.scut_base.proofs.MemoryLaws.{cut_followed}
use Rattle.scut_base.proofs.mem_shelf.MemShelfShelf.warn.Goals as goal

pub returns-in_ok-extend_from_slice-in-Some-clause-fault : goal.returns-in_ok-extend_from_slice-in-Some-clause-fault
returns-in_ok-extend_from_slice-in-Some-clause-fault c = cut_followed _ _ _ c.in-Some.bytes (grind arith)

pub returns-in_ok-extend_from_slice-in-Some-clause-cause : goal.returns-in_ok-extend_from_slice-in-Some-clause-cause
returns-in_ok-extend_from_slice-in-Some-clause-cause c = risen_cause _ _ _ _ _ (grind arith) (grind arith)
