-- An objective is boosted from its own terms.
use Rattle.std.proofs.Common.{◌≡◌, ◌<◌, List, length, get_or, refl, ap, subst, ◌∙◌, arith}
use Rattle.std.proofs.lemmas.List.{get_or_read}
use Rattle.pb_lin.specs.CostRow.{CostRowValue}
use Rattle.search_base.proofs.Turning.{goes_again}
use Rattle.totalizer.specs.Reforming.{IsOwnReform}
use Rattle.core_boosting.proofs.Calls.{boosts_handed, boosts_memory}
use Rattle.core_boosting.proofs.Rows.{own_row}
use Rattle.core_boosting.proofs.boosting.boost.Goals as goal

pub returns-in_err-reform-clause-goes_on : goal.returns-in_err-reform-clause-goes_on
returns-in_err-reform-clause-goes_on g c =
    let a = g.O.Recorder.seen c.args.oracle.now in
    boosts_memory a a c.from_residual.result c.from_residual.ensures.1 refl (goes_again a)

pub take_up_cores-requires-clause-row : goal.take_up_cores-requires-clause-row
take_up_cores-requires-clause-row g c =
    let a = g.O.Recorder.seen c.args.oracle.now in
    let p = c.args.problem.now in
    let d = c.index-costs-objective.result in
    let same = ap (λ (rows : List CostRowValue). length rows) c.costs.ensures in
    let there = c.requires.there in
    let short : c.args.objective < length c.costs.result.now = omega arith in
    let is : d ≡ get_or p.costs c.args.objective d =
    get_or_read c.costs.result.now _ _ short c.index-costs-objective.is d ∙ ap (λ (rows : List CostRowValue). get_or rows c.args.objective d) c.costs.ensures in (
      get_or p.costs c.args.objective d,
      own_row a p c.args.objective d c.in_ok-reform.reform c.requires.problem c.vars-vars.ensures.problem there
          (subst (λ (row : CostRowValue). IsOwnReform row c.in_ok-reform.reform) is c.in_ok-reform.ensures),
    )

pub returns-in_err-take_up_cores-clause-goes_on : goal.returns-in_err-take_up_cores-clause-goes_on
returns-in_err-take_up_cores-clause-goes_on g c =
    let a = g.O.Recorder.seen c.args.oracle.now in
    let b = g.O.Recorder.seen c.take_up_cores.new.oracle in
    boosts_handed a b c.from_residual-in_err-take_up_cores.result c.in_err-take_up_cores.field-0.0
    c.from_residual-in_err-take_up_cores.ensures.1 c.in_err-take_up_cores.ensures.goes_on

pub returns-clause-reform : goal.returns-clause-reform
returns-clause-reform g c =
    let a = g.O.Recorder.seen c.args.oracle.now in
    let p = c.args.problem.now in
    let same = ap (λ (rows : List CostRowValue). length rows) c.costs.ensures in
    let there = c.requires.there in
    let short : c.args.objective < length c.costs.result.now = omega arith in
    λ d.
    let is : c.index-costs-objective.result ≡ get_or p.costs c.args.objective d =
    get_or_read c.costs.result.now _ _ short c.index-costs-objective.is d ∙ ap (λ (rows : List CostRowValue). get_or rows c.args.objective d) c.costs.ensures in
    let own = own_row a p c.args.objective d c.in_ok-reform.reform c.requires.problem c.vars-vars.ensures.problem there
    (subst (λ (row : CostRowValue). IsOwnReform row c.in_ok-reform.reform) is c.in_ok-reform.ensures) in
    (c.in_ok-take_up_cores.ensures.row (get_or p.costs c.args.objective d) own).reform
