use Rattle.std.proofs.Common.{arith}
use Rattle.scut_base.proofs.FaultLaws.{risen_cause}
use Rattle.scut_base.proofs.mem_shelf.MemShelfShelf.read_at.Goals as goal

pub returns-then-is_some-clause-cause : goal.returns-then-is_some-clause-cause
returns-then-is_some-clause-cause c = risen_cause _ _ _ _ _ (grind arith) (grind arith)

pub returns-clause-cause : goal.returns-clause-cause
returns-clause-cause c = risen_cause _ _ _ _ _ (grind arith) (grind arith)
