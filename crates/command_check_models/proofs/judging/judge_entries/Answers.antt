use Rattle.std.proofs.lemmas.Result.{err_from_is_err_and}
use Rattle.command_base.proofs.Answered.{reads_then}
use Rattle.command_check_models.proofs.OneEntry.{judging_stopped, right_more, taken_more}
use Rattle.command_check_models.proofs.judging.judge_entries.Goals as goal

pub returns-in_err-judge_entry-clause-stop : goal.returns-in_err-judge_entry-clause-stop
returns-in_err-judge_entry-clause-stop g c =
    let w = g.H.Shelf.world in
    let l = c.loop-at in
    let p = err_from_is_err_and c.from_residual.result c.from_residual.ensures.1 in
    rw (p.1, p.2)
    (judging_stopped c.args.request.now c.args.inst.now c.args.problem.now (w c.args.shelf.now) (w l.shelf) l.invariant.reads
    c.args.entries.now c.args.reps.now l.invariant.as_many l.at c.loop-at-test.true c.index-entries-at.result c.index-entries-at.is
    c.index-reps-at.result c.index-reps-at.is l.invariant.right l.invariant.taken (w c.judge_entry.new.shelf) c.in_err-judge_entry.field-0.0 c.in_err-judge_entry.ensures.stop)

pub loop-at-preserved : goal.loop-at-preserved
loop-at-preserved g c =
    let w = g.H.Shelf.world in
    let l = c.loop-at in
    record {
      as_many = l.invariant.as_many;
      right = right_more c.args.request.now c.args.inst.now c.args.problem.now (w c.args.shelf.now) (w l.shelf) l.invariant.reads
          c.args.entries.now c.args.reps.now l.invariant.as_many l.at c.loop-at-test.true c.index-entries-at.result c.index-entries-at.is
          c.index-reps-at.result c.index-reps-at.is l.invariant.right l.invariant.taken c.in_ok-judge_entry.ensures.right;
      taken = taken_more c.args.request.now c.args.inst.now c.args.problem.now (w c.args.shelf.now) (w l.shelf) l.invariant.reads
          c.args.entries.now c.args.reps.now l.invariant.as_many l.at c.loop-at-test.true c.index-entries-at.result c.index-entries-at.is
          c.index-reps-at.result c.index-reps-at.is l.invariant.right l.invariant.taken c.in_ok-judge_entry.ensures.taken;
      reads = reads_then _ _ _ l.invariant.reads c.in_ok-judge_entry.ensures.only_reads;
    }
