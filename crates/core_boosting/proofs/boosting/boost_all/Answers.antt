-- All objectives are boosted.
use Rattle.std.proofs.Common.{◌≡◌, List, length, Ok, ap, sym, subst, ◌∙◌, arith}
use Rattle.pb_lin.specs.CostRow.{CostRowValue}
use Rattle.pb_lin.specs.Problem.{ProblemValue, IsProblem}
use Rattle.proof_laws.specs.Earned.{IsBoosted}
use Rattle.totalizer.specs.declared.reform.Reform.{Reform}
use Rattle.search_base.specs.CostBounds.{AreReforms}
use Rattle.core_boosting.specs.Boosting.{BoostsFirst, HaveLeastOffsets}
use Rattle.core_boosting.proofs.Boosts.{are_boosted, are_reforms, boosts_none, have_least, may_boost, still_prepared}
use Rattle.core_boosting.proofs.Calls.{boosts_after, boosts_handed, boosts_ok, boosts_same}
use Rattle.core_boosting.proofs.boosting.boost_all.Goals as goal

pub loop-init : goal.loop-init
loop-init g c =
    let a = g.O.Recorder.seen c.args.oracle.now in
    record {
      boosts = boosts_same a tt (may_boost a c.requires.prepared);
      first = subst (λ (rs : List Reform). BoostsFirst a rs) (sym c.new-reforms.ensures) (boosts_none a c.requires.prepared);
      count = let none = ap (λ (rs : List Reform). length rs) c.new-reforms.ensures in omega arith;
    }

pub boost_next-requires-clause-problem : goal.boost_next-requires-clause-problem
boost_next-requires-clause-problem g c = c.loop.invariant.boosts.goes_on.problem ∙ c.requires.problem

pub returns-in_err-boost_next-clause-goes_on : goal.returns-in_err-boost_next-clause-goes_on
returns-in_err-boost_next-clause-goes_on g c =
    let a = g.O.Recorder.seen c.args.oracle.now in
    let b = g.O.Recorder.seen c.loop.oracle in
    let e = g.O.Recorder.seen c.boost_next.new.oracle in
    boosts_after a b e tt c.from_residual.result c.loop.invariant.boosts
    (boosts_handed b e c.from_residual.result c.in_err-boost_next.field-0.0 c.from_residual.ensures.1 c.in_err-boost_next.ensures.goes_on)

pub returns-in_err-boost_next-clause-prepared : goal.returns-in_err-boost_next-clause-prepared
returns-in_err-boost_next-clause-prepared g c =
    let a = g.O.Recorder.seen c.args.oracle.now in
    let b = g.O.Recorder.seen c.loop.oracle in
    let e = g.O.Recorder.seen c.boost_next.new.oracle in
    let boosts = boosts_after a b e tt c.from_residual.result c.loop.invariant.boosts
    (boosts_handed b e c.from_residual.result c.in_err-boost_next.field-0.0 c.from_residual.ensures.1 c.in_err-boost_next.ensures.goes_on) in
    λ order. still_prepared a e c.requires.prepared (boosts.may order) boosts.goes_on.problem boosts.none

pub loop-preserved : goal.loop-preserved
loop-preserved g c =
    let a = g.O.Recorder.seen c.args.oracle.now in
    let b = g.O.Recorder.seen c.loop.oracle in
    let e = g.O.Recorder.seen c.boost_next.new.oracle in
    let call = c.in_ok-boost_next.ensures in
    record {
      boosts = boosts_after a b e tt (Ok tt) c.loop.invariant.boosts call.goes_on;
      first = call.first;
      count = let before = c.loop.invariant.count in let more = call.count in omega arith;
    }

pub returns-clause-reforms : goal.returns-clause-reforms
returns-clause-reforms g c =
    let b = g.O.Recorder.seen c.loop.oracle in
    let p = c.args.problem.now in
    let same : b.problem ≡ p = c.loop.invariant.boosts.goes_on.problem ∙ c.requires.problem in
    let rows = ap (λ (q : ProblemValue). length q.costs) same in
    let long = ap (λ (rs : List CostRowValue). length rs) c.costs-end.ensures in
    let count = c.loop.invariant.count in
    let last = c.loop-test.false in
    let first = c.loop.invariant.first in
    let most = first.most in
    subst (λ (rs : List Reform). AreReforms b rs) (sym c.into_vec.ensures)
    (are_reforms b (subst (λ (q : ProblemValue). IsProblem q) (sym same) c.vars-vars.ensures.problem) c.loop.reforms first (omega arith))

pub returns-clause-boosted : goal.returns-clause-boosted
returns-clause-boosted g c =
    let b = g.O.Recorder.seen c.loop.oracle in
    let p = c.args.problem.now in
    let same : b.problem ≡ p = c.loop.invariant.boosts.goes_on.problem ∙ c.requires.problem in
    let rows = ap (λ (q : ProblemValue). length q.costs) same in
    let long = ap (λ (rs : List CostRowValue). length rs) c.costs-end.ensures in
    let count = c.loop.invariant.count in
    let last = c.loop-test.false in
    let first = c.loop.invariant.first in
    let most = first.most in
    subst (λ (q : ProblemValue). IsBoosted q b.lines) same
    (are_boosted b (subst (λ (q : ProblemValue). IsProblem q) (sym same) c.vars-vars.ensures.problem) c.loop.reforms first (omega arith))

pub returns-clause-least : goal.returns-clause-least
returns-clause-least g c =
    let b = g.O.Recorder.seen c.loop.oracle in
    let p = c.args.problem.now in
    let same : b.problem ≡ p = c.loop.invariant.boosts.goes_on.problem ∙ c.requires.problem in
    let rows = ap (λ (q : ProblemValue). length q.costs) same in
    let long = ap (λ (rs : List CostRowValue). length rs) c.costs-end.ensures in
    let count = c.loop.invariant.count in
    let last = c.loop-test.false in
    let first = c.loop.invariant.first in
    let most = first.most in
    subst (λ (rs : List Reform). HaveLeastOffsets p b.lines rs) (sym c.into_vec.ensures)
    (subst (λ (q : ProblemValue). HaveLeastOffsets q b.lines c.loop.reforms) same
    (have_least b (subst (λ (q : ProblemValue). IsProblem q) (sym same) c.vars-vars.ensures.problem) c.loop.reforms first (omega arith)))

pub returns-clause-goes_on : goal.returns-clause-goes_on
returns-clause-goes_on g c =
    let a = g.O.Recorder.seen c.args.oracle.now in
    let b = g.O.Recorder.seen c.loop.oracle in
    let boosts = c.loop.invariant.boosts in
    boosts_ok a b _ (boosts.may tt) boosts.none boosts.goes_on
