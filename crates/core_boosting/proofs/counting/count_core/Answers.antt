-- All outputs over a core's literals.
use Rattle.std.proofs.Common.{List, sym, subst, arith}
use Rattle.scut_base.specs.Literal.{Literal}
use Rattle.sum_outputs.proofs.LaterStates.{continues_again, handed_err}
use Rattle.sum_outputs.proofs.OutputsLater.{way_ready}
use Rattle.search_base.proofs.Recordings.{memory_handed}
use Rattle.core_boosting.proofs.CoreCounts.{CountsTo, core_weights, counts_core, counts_first, counts_more, counts_own}
use Rattle.core_boosting.proofs.counting.count_core.Goals as goal

pub totalizer_of-requires : goal.totalizer_of-requires
totalizer_of-requires g c =
    core_weights (g.R.Recorder.seen c.args.rec.now) c.args.lits.now c.args.id c.requires.ready c.requires.core

pub returns-in_err-totalizer-clause-recorded : goal.returns-in_err-totalizer-clause-recorded
returns-in_err-totalizer-clause-recorded g c =
    let a = g.R.Recorder.seen c.args.rec.now in
    memory_handed a a c.in_err-totalizer.field-0.0 c.from_residual.result (continues_again a)
    c.in_err-totalizer.ensures.fault c.from_residual.ensures.1

pub loop-init : goal.loop-init
loop-init g c =
    let a = g.R.Recorder.seen c.args.rec.now in
    let lits = c.args.lits.now in
    let t = c.in_ok-totalizer.totalizer in
    let built = rw c.in_ok-totalizer.ensures.ok at c.totalizer_of.ensures.built in
    let fits = rw c.in_ok-totalizer.ensures.ok at c.totalizer_of.ensures.fits in
    subst (λ (os : List Literal). CountsTo a a lits t (record { outputs = os; line = c.args.id }) 1) (sym c.new.ensures)
    (counts_first a c.requires.ready lits c.args.id c.requires.core t built fits)

pub count_next-requires-clause-ready : goal.count_next-requires-clause-ready
count_next-requires-clause-ready g c =
    way_ready (g.R.Recorder.seen c.args.rec.now) (g.R.Recorder.seen c.loop.rec) c.requires.ready c.loop.invariant.way

pub count_next-requires-clause-so : goal.count_next-requires-clause-so
count_next-requires-clause-so g c =
    counts_own (g.R.Recorder.seen c.args.rec.now) (g.R.Recorder.seen c.loop.rec) c.requires.ready c.args.lits.now
    c.loop.totalizer c.loop.counted c.loop.counter c.loop.invariant

pub returns-in_err-count_next-clause-recorded : goal.returns-in_err-count_next-clause-recorded
returns-in_err-count_next-clause-recorded g c =
    handed_err (g.R.Recorder.seen c.args.rec.now) (g.R.Recorder.seen c.loop.rec) (g.R.Recorder.seen c.count_next.new.rec)
    c.in_err-count_next.field-0.0 c.from_residual-in_err-count_next.result c.loop.invariant.way.on
    c.in_err-count_next.ensures.recorded c.from_residual-in_err-count_next.ensures.1

pub loop-preserved : goal.loop-preserved
loop-preserved g c =
    let call = c.in_ok-count_next.ensures in
    counts_more (g.R.Recorder.seen c.args.rec.now) (g.R.Recorder.seen c.loop.rec) c.requires.ready c.args.lits.now
    c.loop.totalizer c.loop.counted c.loop.counter c.loop.invariant (g.R.Recorder.seen c.count_next.new.rec)
    c.count_next.new.totalizer c.count_next.new.counted call.recorded.continues call.recorded.whole call.so call.added

pub returns-clause-counts : goal.returns-clause-counts
returns-clause-counts g c =
    let some = c.requires.core.some in
    let count = c.loop.invariant.count in
    let last = c.loop-test.false in
    let from = c.loop.auto in
    counts_core (g.R.Recorder.seen c.args.rec.now) (g.R.Recorder.seen c.loop.rec) c.requires.ready c.args.lits.now
    c.loop.totalizer c.loop.counted c.loop.counter c.loop.invariant (omega arith)

pub upper_tokens-requires : goal.upper_tokens-requires
upper_tokens-requires g c =
    let b = g.R.Recorder.seen c.loop.rec in
    let ready = way_ready (g.R.Recorder.seen c.args.rec.now) b c.requires.ready c.loop.invariant.way in
    (b, ready.state, ready.reached, c.loop.invariant.so.fits)

pub returns-in_err-upper-clause-recorded : goal.returns-in_err-upper-clause-recorded
returns-in_err-upper-clause-recorded g c =
    memory_handed (g.R.Recorder.seen c.args.rec.now) (g.R.Recorder.seen c.loop.rec)
    c.in_err-upper.field-0.0 c.from_residual-in_err-upper.result c.loop.invariant.way.on
    c.in_err-upper.ensures.fault c.from_residual-in_err-upper.ensures.1
