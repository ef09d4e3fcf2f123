-- What a line more leaves of a recorder.
use Rattle.std.proofs.Common.{ap, ◌∙◌}
use Rattle.std.proofs.lemmas.Result.{err_from_is_err_and}
use Rattle.proof_rules.specs.Recording.{Snapshot}
use Rattle.sum_outputs.proofs.adding.record_lent.Goals as goal
use Rattle.sum_outputs.proofs.LaterStates.{continues_same, continues_more, recorded_ok, recorded_err, added_fault}

pub returns-in_err-id-clause-recorded : goal.returns-in_err-id-clause-recorded
returns-in_err-id-clause-recorded g c =
    let p = err_from_is_err_and c.from_residual.result c.from_residual.ensures.1 in
    let R = g.R.Recorder in
    let a = R.seen c.args.rec.now in
    let b = R.seen c.add_line.new.self in
    let was = c.in_err-id.ensures in
    recorded_err a b p.0 c.from_residual.result p.1
    (continues_same a b was.keeps was.kept)
    (rw p.2 (added_fault a b c.in_err-id.field-0.0 was.full was.failed (λ full. ap (λ (s : Snapshot). s.broken) (was.full_same full) ∙ c.requires.ready.whole) was.kept))

pub returns-clause-recorded : goal.returns-clause-recorded
returns-clause-recorded g c =
    let R = g.R.Recorder in
    let a = R.seen c.args.rec.now in
    let b = R.seen c.add_line.new.self in
    let was = c.in_ok-id.ensures in
    recorded_ok a b c.in_ok-id.id
    (continues_more a b c.args.line.now c.state.result.now c.state-state.result.now was.keeps was.added c.requires.kind c.state.ensures.replays c.state-state.ensures.replays)
    was.whole
