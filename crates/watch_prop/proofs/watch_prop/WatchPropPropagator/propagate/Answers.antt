use Rattle.std.proofs.Common.{subst, sym, arith}
use Rattle.clause_prop.specs.LineKinds.{IsClosedForWatched}
use Rattle.clause_prop.proofs.Extensions.{extends_none, extends_twice, extends_same}
use Rattle.watch_prop.proofs.WatchHold.{closed_by_kinds}
use Rattle.watch_prop.proofs.Results.{where_none}
use Rattle.watch_prop.proofs.watch_prop.WatchPropPropagator.propagate.Goals as goal

pub loop-id-init : goal.loop-id-init
loop-id-init c = (c.requires.in_step, extends_none c.args.store.now c.args.trail.now)

pub returns-in_err-id-clause-extends : goal.returns-in_err-id-clause-extends
returns-in_err-id-clause-extends c = extends_twice c.args.store.now c.args.trail.now c.loop-id.trail c.by_clauses.new.trail c.loop-id.invariant.1 c.by_clauses.ensures.extends

pub returns-in-Some-clause-extends : goal.returns-in-Some-clause-extends
returns-in-Some-clause-extends c = extends_twice c.args.store.now c.args.trail.now c.loop-id.trail c.by_clauses.new.trail c.loop-id.invariant.1 c.by_clauses.ensures.extends

pub returns-in_err-id-2-clause-extends : goal.returns-in_err-id-2-clause-extends
returns-in_err-id-2-clause-extends c =
    let round = extends_twice c.args.store.now c.loop-id.trail c.by_clauses.new.trail c.by_counters.new.trail c.by_clauses.ensures.extends c.by_counters.ensures.extends in
    extends_twice c.args.store.now c.args.trail.now c.loop-id.trail c.by_counters.new.trail c.loop-id.invariant.1 round

pub returns-in-Some-2-clause-extends : goal.returns-in-Some-2-clause-extends
returns-in-Some-2-clause-extends c =
    let round = extends_twice c.args.store.now c.loop-id.trail c.by_clauses.new.trail c.by_counters.new.trail c.by_clauses.ensures.extends c.by_counters.ensures.extends in
    extends_twice c.args.store.now c.args.trail.now c.loop-id.trail c.by_counters.new.trail c.loop-id.invariant.1 round

pub returns-then-len-before-clause-extends : goal.returns-then-len-before-clause-extends
returns-then-len-before-clause-extends c =
    let round = extends_twice c.args.store.now c.loop-id.trail c.by_clauses.new.trail c.by_counters.new.trail c.by_clauses.ensures.extends c.by_counters.ensures.extends in
    extends_twice c.args.store.now c.args.trail.now c.loop-id.trail c.by_counters.new.trail c.loop-id.invariant.1 round

pub returns-then-len-before-clause-closed : goal.returns-then-len-before-clause-closed
returns-then-len-before-clause-closed c =
    let same = extends_same c.args.store.now c.by_clauses.new.trail c.by_counters.new.trail c.by_counters.ensures.extends (omega (arith, c.if-len-before.true, c.len.ensures.value, c.len-before.ensures.value)) in
    closed_by_kinds c.args.store.now c.by_counters.new.trail
    (subst (IsClosedForWatched c.args.store.now) (sym same) (where_none c.in_ok-id.field-0 _ c.in_default.is c.in_ok-id.ensures.closed))
    (where_none c.in_ok-id-2.field-0 _ c.in_default-2.is c.in_ok-id-2.ensures.closed)

pub loop-id-preserved : goal.loop-id-preserved
loop-id-preserved c =
    let round = extends_twice c.args.store.now c.loop-id.trail c.by_clauses.new.trail c.by_counters.new.trail c.by_clauses.ensures.extends c.by_counters.ensures.extends in
    (c.by_counters.ensures.in_step, extends_twice c.args.store.now c.args.trail.now c.loop-id.trail c.by_counters.new.trail c.loop-id.invariant.1 round)
