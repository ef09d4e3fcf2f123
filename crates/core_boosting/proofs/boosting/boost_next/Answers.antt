-- One objective more is boosted.
use Rattle.std.proofs.Common.{ℕ, List, get_or, sym, subst}
use Rattle.pb_lin.specs.CostRow.{CostRowValue}
use Rattle.totalizer.specs.declared.reform.Reform.{Reform}
use Rattle.core_boosting.specs.Boosting.{BoostsFirst, IsReformNow}
use Rattle.core_boosting.proofs.Boosts.{boosts_more}
use Rattle.core_boosting.proofs.Calls.{boosts_handed}
use Rattle.core_boosting.proofs.boosting.boost_next.Goals as goal

pub returns-in_err-reform-clause-goes_on : goal.returns-in_err-reform-clause-goes_on
returns-in_err-reform-clause-goes_on g c =
    boosts_handed (g.O.Recorder.seen c.args.oracle.now) (g.O.Recorder.seen c.boost.new.oracle) c.from_residual.result
    c.in_err-reform.field-0.0 c.from_residual.ensures.1 c.in_err-reform.ensures.goes_on

pub returns-clause-first : goal.returns-clause-first
returns-clause-first g c =
    let a = g.O.Recorder.seen c.args.oracle.now in
    let b = g.O.Recorder.seen c.boost.new.oracle in
    let p = c.args.problem.now in
    let r = c.in_ok-reform.reform in
    let call = c.in_ok-reform.ensures in
    let is = λ (d : CostRowValue). subst (λ (k : ℕ). IsReformNow b (get_or p.costs k d) r) c.len.ensures (call.reform d) in
    subst (λ (rs : List Reform). BoostsFirst b rs) (sym c.in_ok-push.ensures.ok)
    (boosts_more a b p c.vars-vars.ensures.problem c.requires.problem c.args.reforms.now c.requires.first c.requires.there
    c.state-state.ensures.formed r call.goes_on r is call.ends)
