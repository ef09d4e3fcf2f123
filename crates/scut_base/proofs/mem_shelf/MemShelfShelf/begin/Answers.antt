use Rattle.std.proofs.Common.{arith}
use Rattle.scut_base.proofs.FaultLaws.{risen_cause}
use Rattle.scut_base.proofs.MemoryLaws.{with_file_insert}
use Rattle.scut_base.proofs.mem_shelf.MemShelfShelf.begin.Goals as goal

pub returns-then-is_some-clause-cause : goal.returns-then-is_some-clause-cause
returns-then-is_some-clause-cause c = risen_cause _ _ _ _ _ (grind arith) (grind arith)

pub returns-clause-begun : goal.returns-clause-begun
returns-clause-begun c = with_file_insert _ _ _ _ (grind arith)
