use Rattle.std.proofs.Common.{◌≡◌, ℕ, ◌+◌, Bool, Some, None, List, map, length, arith, sym, subst, ap, ◌∙◌}
use Rattle.std.specs.Prelude.{nat_lt}
use Rattle.std.specs.List.{All, find}
use Rattle.std.proofs.lemmas.Result.{err_from_is_err_and}
use Rattle.scut_base.specs.Literal.{Literal}
use Rattle.scut_base.specs.declared.assignment.Assignment.{Assignment}
use Rattle.pb_lin.specs.Constraint.{ConstraintValue, TermsUpTo, UpTo}
use Rattle.pb_lin.specs.CostRow.{CostRowValue}
use Rattle.pb_lin.specs.LineMap.{LineMap}
use Rattle.proof_laws.specs.State.{StateValue}
use Rattle.proof_laws.specs.Refusal.{IsCutFault, IsSolFault, assignment_of, broken_row, misplaced}
use Rattle.proof_rules.proofs.Models.{placed_length, length-assignment_of}
use Rattle.proof_rules.proofs.Verdicts.{stopped, fault_of_ids}
use Rattle.proof_rules.proofs.solution.judge_solution.Goals as goal

-- literals of the variables in order are as many as these
as_many : (n : ℕ) (model : List Literal) → misplaced 1 n model ≡ None → n ≡ length model
as_many n model none = let long : 1 + length model ≡ n + 1 = placed_length n 1 model (omega arith) none in omega arith

-- an assignment of them has the problem's variables
as_long : (n m : ℕ) (model : List Literal) (a : List Bool) → m ≡ n → misplaced 1 m model ≡ None → a ≡ assignment_of model → n ≡ length a
as_long n m model a same none is =
    let many : m ≡ length model = as_many m model none in
    let long : length a ≡ length model = ap length is ∙ length-assignment_of model in
    omega arith

pub assignment_of-requires : goal.assignment_of-requires
assignment_of-requires c =
    let none : misplaced 1 c.vars.result c.args.model.now ≡ None = sym c.misplaced.ensures ∙ c.in_default.is in
    subst (λ (n : ℕ). misplaced 1 n c.args.model.now ≡ None) (as_many c.vars.result c.args.model.now none) none

pub broken_row-requires : goal.broken_row-requires
broken_row-requires c =
    let long = as_long c.args.problem.now.vars c.vars.result c.args.model.now c.in_ok-a.a c.vars.ensures.value (sym c.misplaced.ensures ∙ c.in_default.is) c.in_ok-a.ensures in
    subst (λ (rows : List ConstraintValue). All (UpTo (length c.in_ok-a.a)) rows) (sym c.rows.ensures)
    (subst (λ (n : ℕ). All (UpTo n) c.args.problem.now.rows) long c.vars.ensures.problem.row_variables)

pub judge_cut-requires-clause-variables : goal.judge_cut-requires-clause-variables
judge_cut-requires-clause-variables c =
    let long = as_long c.args.problem.now.vars c.vars.result c.args.model.now c.in_ok-a.a c.vars.ensures.value (sym c.misplaced.ensures ∙ c.in_default.is) c.in_ok-a.ensures in
    subst (λ (costs : List CostRowValue). All (λ r. TermsUpTo (length c.in_ok-a.a) r.terms) costs) (sym c.costs.ensures)
    (subst (λ (n : ℕ). All (λ r. TermsUpTo n r.terms) c.args.problem.now.costs) long c.vars.ensures.problem.cost_variables)

pub returns-in_err-judge_cut-clause-verdict : goal.returns-in_err-judge_cut-clause-verdict
returns-in_err-judge_cut-clause-verdict c =
    let problem = c.args.problem.now in
    let model = c.args.model.now in
    let cut = c.args.cut.now in
    let ids = c.args.ids.now in
    let live = c.reached.inside.live in
    let placed : misplaced 1 problem.vars model ≡ None = subst (λ (n : ℕ). misplaced 1 n model ≡ None) c.vars.ensures.value (sym c.misplaced.ensures ∙ c.in_default.is) in
    let holds : broken_row (assignment_of model) problem.rows ≡ None =
    subst (λ (b : List Bool). broken_row b problem.rows ≡ None) c.in_ok-a.ensures (subst (λ (rows : List ConstraintValue). broken_row c.in_ok-a.a rows ≡ None) c.rows.ensures (sym c.broken_row.ensures ∙ c.in_default-broken_row.is)) in
    let within : find (λ v. nat_lt c.args.reached.now.vars v) (map (λ (l : Literal). l.var) cut) ≡ None =
    subst (λ (n : ℕ). find (λ v. nat_lt n v) (map (λ (l : Literal). l.var) cut) ≡ None) (ap (λ (s : StateValue). s.vars) c.reached.view_is) (sym c.literals_above.ensures ∙ c.in_default-literals_above.is) in
    let p = err_from_is_err_and c.from_residual-in_err-judge_cut.result c.from_residual-in_err-judge_cut.ensures.1 in
    rw (p.1, p.2)
    (stopped (Unit {0}) Assignment (IsCutFault live cut c.in_ok-a.a 1 c.costs.result.now ids) (IsSolFault problem c.args.reached.now model cut ids)
    (λ why is. fault_of_ids problem c.args.reached.now model cut ids (Some why) placed holds within
    (subst (λ (lines : LineMap). IsCutFault lines cut (assignment_of model) 1 problem.costs ids (Some why)) (ap (λ (s : StateValue). s.live) c.reached.view_is)
    (subst (λ (b : List Bool). IsCutFault live cut b 1 problem.costs ids (Some why)) c.in_ok-a.ensures (subst (λ (costs : List CostRowValue). IsCutFault live cut c.in_ok-a.a 1 costs ids (Some why)) c.costs.ensures is))))
    c.in_err-judge_cut.field-0.0 c.in_err-judge_cut.ensures)
