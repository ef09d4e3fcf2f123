use Rattle.std.proofs.Common.{[], append-nil}
use Rattle.scut_base.proofs.FileLaws.{appended_by, on_err_anyway, partly_by, there_by}
use Rattle.command_gen.proofs.write_text.Goals as goal

pub append-requires : goal.append-requires
append-requires g c = there_by _ _ _ [] c.in_ok-begin.ensures.begun

pub returns-in_err-append-clause-err : goal.returns-in_err-append-clause-err
returns-in_err-append-clause-err g c =
    on_err_anyway _ (partly_by _ _ _ _ [] c.args.text.now [] _ c.in_ok-begin.ensures.begun c.in_err-append.ensures.fault (append-nil c.args.text.now))

pub returns-clause-ok : goal.returns-clause-ok
returns-clause-ok g c = appended_by _ _ _ _ [] c.args.text.now c.in_ok-begin.ensures.begun c.in_ok-append.ensures.appended
