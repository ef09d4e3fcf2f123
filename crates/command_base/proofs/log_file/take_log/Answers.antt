use Rattle.std.proofs.Common.{refl, arith, ap}
use Rattle.std.specs.Prelude.{Err}
use Rattle.std.proofs.lemmas.Result.{err_from_is_err_and}
use Rattle.command_base.proofs.LogFed.{fed_nothing, fed_to_end, finished_stops, finished_passes, finished_taken, too_large}
use Rattle.command_base.proofs.log_file.take_log.Goals as goal

pub loop-at-init : goal.loop-at-init
loop-at-init g c = record {
  fed = fed_nothing _ _ _ _ c.requires.stands (g.T.TakesLog.none _);
  subject = refl;
  unfinished = c.requires.unfinished;
  within = omega arith;
  buffer = c.in_ok-buffer.ensures;
  only_reads = record { files = refl; said = refl; warned = refl; later = λ call name. omega arith };
}

pub returns-in_err-finish-clause-stop : goal.returns-in_err-finish-clause-stop
returns-in_err-finish-clause-stop g c =
    let i = c.loop-at.invariant in
    let p = err_from_is_err_and c.from_residual-in_err-finish.result c.from_residual-in_err-finish.ensures.1 in
    rw (p.1, p.2)
    (finished_stops (g.T.TakesLog.stands c.feed_piece.new.taker) (g.T.TakesLog.whole (g.T.TakesLog.subject c.args.taker.now)) (g.T.TakesLog.every (g.T.TakesLog.subject c.args.taker.now)) _ _ _ _ _ c.loop-at.at
    (rw (← i.subject, ← i.only_reads.files) (c.in_ok-n.ensures.whole c.if-n-eq0.true))
    i.within
    (λ k why is. rw (← i.subject, ← c.in_ok-n.ensures.subject) (c.in_err-finish.ensures.refused k why (ap Err is))))

pub returns-then-n-eq0-clause-stands : goal.returns-then-n-eq0-clause-stands
returns-then-n-eq0-clause-stands g c =
    let i = c.loop-at.invariant in
    finished_taken (g.T.TakesLog.stands c.feed_piece.new.taker) (g.T.TakesLog.stands c.finish.new.self) (g.T.TakesLog.whole (g.T.TakesLog.subject c.args.taker.now)) _ _ c.loop-at.at
    (rw (← i.subject, ← i.only_reads.files) (c.in_ok-n.ensures.whole c.if-n-eq0.true))
    c.in_ok-finish.ensures.stands

pub returns-then-n-eq0-clause-passes : goal.returns-then-n-eq0-clause-passes
returns-then-n-eq0-clause-passes g c =
    let i = c.loop-at.invariant in
    finished_passes (g.T.TakesLog.stands c.feed_piece.new.taker) (g.T.TakesLog.passes (g.T.TakesLog.subject c.args.taker.now)) (g.T.TakesLog.whole (g.T.TakesLog.subject c.args.taker.now)) _ _ c.loop-at.at
    (rw (← i.subject, ← i.only_reads.files) (c.in_ok-n.ensures.whole c.if-n-eq0.true))
    i.within
    (rw (← i.subject, ← c.in_ok-n.ensures.subject) c.in_ok-finish.ensures.passes)

pub returns-then-branch-clause-stop : goal.returns-then-branch-clause-stop
returns-then-branch-clause-stop g c =
    let i = c.loop-at.invariant in
    let more = rw c.if-branch.true at c.in_ok-has_more.ensures.more in
    too_large _ _ (g.T.TakesLog.stands c.loop-at.taker) _ c.loop-at.at i.fed (omega (arith, i.within, c.loop-at-test.false))
    (rw (← i.only_reads.files) more)

pub returns-in_err-finish-2-clause-stop : goal.returns-in_err-finish-2-clause-stop
returns-in_err-finish-2-clause-stop g c =
    let i = c.loop-at.invariant in
    let no_more = rw c.if-branch.false at c.in_ok-has_more.ensures.more in
    let p = err_from_is_err_and c.from_residual-in_err-finish-2.result c.from_residual-in_err-finish-2.ensures.1 in
    rw (p.1, p.2)
    (finished_stops (g.T.TakesLog.stands c.loop-at.taker) (g.T.TakesLog.whole (g.T.TakesLog.subject c.args.taker.now)) (g.T.TakesLog.every (g.T.TakesLog.subject c.args.taker.now)) _ _ _ _ _ c.loop-at.at
    (fed_to_end _ _ _ _ _ i.fed (rw (← i.only_reads.files) no_more))
    i.within
    (λ k why is. rw (← i.subject) (c.in_err-finish-2.ensures.refused k why (ap Err is))))

pub returns-clause-stands : goal.returns-clause-stands
returns-clause-stands g c =
    let i = c.loop-at.invariant in
    let no_more = rw c.if-branch.false at c.in_ok-has_more.ensures.more in
    finished_taken (g.T.TakesLog.stands c.loop-at.taker) (g.T.TakesLog.stands c.finish-2.new.self) (g.T.TakesLog.whole (g.T.TakesLog.subject c.args.taker.now)) _ _ c.loop-at.at
    (fed_to_end _ _ _ _ _ i.fed (rw (← i.only_reads.files) no_more))
    c.in_ok-finish-2.ensures.stands

pub returns-clause-passes : goal.returns-clause-passes
returns-clause-passes g c =
    let i = c.loop-at.invariant in
    let no_more = rw c.if-branch.false at c.in_ok-has_more.ensures.more in
    finished_passes (g.T.TakesLog.stands c.loop-at.taker) (g.T.TakesLog.passes (g.T.TakesLog.subject c.args.taker.now)) (g.T.TakesLog.whole (g.T.TakesLog.subject c.args.taker.now)) _ _ c.loop-at.at
    (fed_to_end _ _ _ _ _ i.fed (rw (← i.only_reads.files) no_more))
    i.within
    (rw (← i.subject) c.in_ok-finish-2.ensures.passes)
