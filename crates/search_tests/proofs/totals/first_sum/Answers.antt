use Rattle.std.proofs.Common.{◌≡◌, Some, List, sym, subst}
use Rattle.std.specs.Prelude.{slice_get, ℕ}
use Rattle.scut_base.specs.Literal.{Literal}
use Rattle.pb_lin.specs.CostRow.{CostRowValue}
use Rattle.pb_lin.specs.Problem.{ProblemValue, IsProblem}
use Rattle.proof_rules.specs.Recording.{Snapshot}
use Rattle.totalizer.specs.Totalizing.{Fits, HasVariables}
use Rattle.search_tests.proofs.Asking.{askable_at_first}
use Rattle.search_tests.proofs.totals.first_sum.Goals as goal

pub returns-in_ok-build-in-Some : goal.returns-in_ok-build-in-Some
returns-in_ok-build-in-Some g c =
    let R = g.R.Recorder in
    let a = R.seen c.args.rec.now in
    let row = c.in-Some.row.now in
    let t = c.in_ok-build-in-Some.field-0 in
    let same = sym c.requires.problem in
    let found : slice_get c.args.problem.now.costs 0 ≡ Some row =
    subst (λ (rows : List CostRowValue). slice_get rows 0 ≡ Some row) c.costs.ensures (sym c.in-Some.ensures.value) in
    askable_at_first a c.state-state.result.now row t c.requires.whole c.requires.begun c.state-state.ensures.replays
    (subst (λ (p : ProblemValue). IsProblem p) same c.vars-vars.ensures.problem)
    (subst (λ (p : ProblemValue). slice_get p.costs 0 ≡ Some row) same found) c.terms.ensures.row
    (subst (λ (ts : List (Literal × ℕ)). (b : Snapshot) → HasVariables b ts → Fits b t) c.terms.ensures.value c.in_ok-build-in-Some.ensures.fits)
