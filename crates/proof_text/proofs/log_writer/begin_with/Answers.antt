use Rattle.std.proofs.Common.{[], append-nil}
use Rattle.scut_base.proofs.FileLaws.{there_by, appended_by, partly_by}
use Rattle.proof_text.proofs.log_writer.begin_with.Goals as goal

pub append-requires : goal.append-requires
append-requires g c = there_by _ _ _ _ c.in_default.ensures.begun

pub returns-in-Ok-clause-ok : goal.returns-in-Ok-clause-ok
returns-in-Ok-clause-ok g c = appended_by _ _ _ _ _ _ c.in_default.ensures.begun c.in-Ok.ensures.appended

pub returns-in-Err-append-clause-err : goal.returns-in-Err-append-clause-err
returns-in-Err-append-clause-err g c = partly_by _ _ _ _ _ _ [] _ c.in_default.ensures.begun c.in-Err-append.ensures.fault (append-nil _)
