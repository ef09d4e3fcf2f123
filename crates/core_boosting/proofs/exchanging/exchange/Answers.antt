-- The terms are exchanged, and the line goes with them.
use Rattle.std.proofs.Common.{◌≡◌, List, refl, ap, sym, subst, rules, arith, FitsSigned}
use Rattle.std.specs.Int.{w64}
use Rattle.pb_lin.specs.Constraint.{total}
use Rattle.cutting_planes.proofs.Terms.{Terms}
use Rattle.cutting_planes.specs.declared.token.PolToken.{PolToken}
use Rattle.sum_outputs.specs.Laws.{AreTokensOf}
use Rattle.sum_outputs.proofs.LaterStates.{continues_again}
use Rattle.search_base.proofs.Recordings.{memory_handed}
use Rattle.core_boosting.specs.Exchanging.{DerivesOwn, exchanged, lower_tokens}
use Rattle.core_boosting.proofs.Exchanges.{exchange_sums}
use Rattle.core_boosting.proofs.Raised.{raised_fits, raised_is, weight_fits}
use Rattle.core_boosting.proofs.TakenUp.{keeps_row, makes_line, offset_fits, weight_small}
use Rattle.core_boosting.proofs.exchanging.exchange.Goals as goal

pub returns-in_err-terms-clause-recorded : goal.returns-in_err-terms-clause-recorded
returns-in_err-terms-clause-recorded g c =
    let a = g.R.Recorder.seen c.args.rec.now in
    memory_handed a a c.in_err-terms.field-0.0 c.from_residual.result (continues_again a)
    c.in_err-terms.ensures.fault c.from_residual.ensures.1

pub returns-in_err-tokens-clause-recorded : goal.returns-in_err-tokens-clause-recorded
returns-in_err-tokens-clause-recorded g c =
    let a = g.R.Recorder.seen c.args.rec.now in
    memory_handed a a c.in_err-tokens.field-0.0 c.from_residual-in_err-tokens.result (continues_again a)
    c.in_err-tokens.ensures.fault c.from_residual-in_err-tokens.ensures.1

pub derive-requires-clause-makes : goal.derive-requires-clause-makes
derive-requires-clause-makes g c =
    let a = g.R.Recorder.seen c.args.rec.now in
    let r = c.args.reform.now in
    let w = c.args.weight in
    let is : c.in_ok-tokens.tokens ≡ lower_tokens r.lower_line c.args.counted.now.line w = rw c.in_ok-tokens.ensures.ok at c.lower_tokens.ensures in
    λ s reached state.
    let made = makes_line a r c.args.lits.now c.args.counted.now w c.requires.may s reached state in
    (made.0, subst (λ (ts : List PolToken). AreTokensOf s ts made.0) (sym is) made.1)

pub overflow_cast-reform : goal.overflow_cast-reform
overflow_cast-reform g c =
    let a = g.R.Recorder.seen c.args.rec.now in
    weight_fits c.args.weight (weight_small a c.args.reform.now c.args.lits.now c.args.counted.now c.args.weight c.requires.may)

pub overflow_add-reform : goal.overflow_add-reform
overflow_add-reform g c =
    let a = g.R.Recorder.seen c.args.rec.now in
    let r = c.args.reform.now in
    let w = c.args.weight in
    let in_range : FitsSigned w64 r.offset = search rules in
    let small = weight_small a r c.args.lits.now c.args.counted.now w c.requires.may in
    let most = offset_fits a r c.args.lits.now c.args.counted.now w c.requires.may c.state.result.now c.state.ensures.replays c.vars-vars.ensures.state in
    raised_fits r.offset w in_range small most

pub returns-clause-row : goal.returns-clause-row
returns-clause-row g c =
    let a = g.R.Recorder.seen c.args.rec.now in
    let b = g.R.Recorder.seen c.derive.new.rec in
    let r = c.args.reform.now in
    let w = c.args.weight in
    let lits = c.args.lits.now in
    let counted = c.args.counted.now in
    let may = c.requires.may in
    let s = c.state.result.now in
    let reached = c.state.ensures.replays in
    let state = c.vars-vars.ensures.state in
    let in_range : FitsSigned w64 r.offset = search rules in
    let small = weight_small a r lits counted w may in
    let most = offset_fits a r lits counted w may s reached state in
    let call = c.in_ok-reform.ensures in
    let is : c.in_ok-tokens.tokens ≡ lower_tokens r.lower_line counted.line w = rw c.in_ok-tokens.ensures.ok at c.lower_tokens.ensures in
    let derives : DerivesOwn a b (lower_tokens r.lower_line counted.line w) c.in_ok-reform.field-0 =
    subst (λ (ts : List PolToken). DerivesOwn a b ts c.in_ok-reform.field-0) is call.own in
    let terms : c.in_ok-terms.terms ≡ exchanged lits w counted.outputs r.terms =
    rw c.as_slice-outputs.ensures at rw c.as_slice.ensures at rw c.in_ok-terms.ensures.ok at c.exchanged.ensures in
    keeps_row a r lits counted w may s reached state b call.recorded.continues c.in_ok-reform.field-0 derives _
    (raised_is r.offset w in_range small most) terms refl

pub returns-clause-falls : goal.returns-clause-falls
returns-clause-falls g c =
    let r = c.args.reform.now in
    let w = c.args.weight in
    let lits = c.args.lits.now in
    let counted = c.args.counted.now in
    let may = c.requires.may in
    let terms : c.in_ok-terms.terms ≡ exchanged lits w counted.outputs r.terms =
    rw c.as_slice-outputs.ensures at rw c.as_slice.ensures at rw c.in_ok-terms.ensures.ok at c.exchanged.ensures in
    let same = ap (λ (ts : Terms). total ts) terms in
    let sums = exchange_sums r.terms lits counted.outputs w may.exchange in
    let falls = sums.falls in
    let some = may.exchange.some in
    omega arith
