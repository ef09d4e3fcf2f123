use Rattle.std.proofs.Common.{arith}
use Rattle.scut_base.proofs.FaultLaws.{risen_cause}
use Rattle.scut_base.proofs.FileLaws.{on_err_anyway}
use Rattle.scut_base.proofs.MemoryLaws.{with_file_insert, cut_appended, kept_appended}
use Rattle.scut_base.proofs.mem_shelf.MemShelfShelf.append.Goals as goal

pub returns-in_err-append-in-None-clause-fault : goal.returns-in_err-append-in-None-clause-fault
returns-in_err-append-in-None-clause-fault c = on_err_anyway _ (kept_appended _ _ _ _ c.requires (grind arith))

pub returns-in_err-append-in-Some-clause-fault : goal.returns-in_err-append-in-Some-clause-fault
returns-in_err-append-in-Some-clause-fault c = on_err_anyway _ (kept_appended _ _ _ _ c.requires (grind arith))

pub returns-in_ok-append-in-None-clause-appended : goal.returns-in_ok-append-in-None-clause-appended
returns-in_ok-append-in-None-clause-appended c = with_file_insert _ _ _ _ (grind arith)

pub returns-in_ok-append-in-Some-clause-fault : goal.returns-in_ok-append-in-Some-clause-fault
returns-in_ok-append-in-Some-clause-fault c = cut_appended _ _ _ _ c.in-Some.bytes (grind arith)

pub returns-in_ok-append-in-Some-clause-cause : goal.returns-in_ok-append-in-Some-clause-cause
returns-in_ok-append-in-Some-clause-cause c = risen_cause _ _ _ _ _ (grind arith) (grind arith)
