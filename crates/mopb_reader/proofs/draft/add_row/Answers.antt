use Rattle.std.proofs.Common.{◌∙◌, refl}
use Rattle.std.proofs.lemmas.Result.{err_from_is_err_and}
use Rattle.mopb_reader.proofs.Drafts.{with_row, row_progress}
use Rattle.mopb_reader.proofs.draft.add_row.Goals as goal

pub returns-in_err-row-clause-fault : goal.returns-in_err-row-clause-fault
returns-in_err-row-clause-fault c =
    let q = err_from_is_err_and c.from_residual.result c.from_residual.ensures.1 in
    rw (q.1, q.2) (c.in_err-row.ensures.fault (with_row c.args.draft.now))

pub returns-clause-fault : goal.returns-clause-fault
returns-clause-fault c =
    let d = c.args.draft.now in
    c.in_ok-row.ensures.fault (with_row d)
    ∙ row_progress c.read_row.new.tokens d (record d { linear = c.push.new.self; vars = c.max-draft.result }) _ c.in_ok-push.ensures.ok refl
