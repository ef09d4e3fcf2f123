-- Terms whose variables are those of the problem, over a state that is reached.
use Rattle.std.proofs.Common.{◌≡◌, ℕ, ◌<◌, ◌≤◌, List, get_or, length, sym, subst, arith}
use Rattle.std.specs.List.{All}
use Rattle.scut_base.specs.Literal.{Literal}
use Rattle.pb_lin.specs.Constraint.{TermsUpTo}
use Rattle.pb_lin.specs.CostRow.{CostRowValue}
use Rattle.pb_lin.specs.Problem.{IsProblem, ProblemValue}
use Rattle.proof_laws.specs.State.{StateValue}
use Rattle.proof_rules.specs.Recording.{Snapshot}
use Rattle.sum_outputs.specs.Adding.{IsReached}
use Rattle.sum_outputs.proofs.LaterStates.{replay_vars}

pub reached_variables : (a : Snapshot) (terms given : List (Literal × ℕ)) → given ≡ terms → TermsUpTo a.problem.vars terms
    → (s : StateValue) → IsReached a s → All (λ t. t.0.var ≤ s.vars) given
reached_variables a terms given same upto s reached k d short =
    let most : TermsUpTo a.problem.vars given = subst (TermsUpTo a.problem.vars) (sym same) upto in
    let vars = replay_vars a.problem a.lines s reached in
    let within = most k d short in
    omega arith

-- a cost row's variables are those of the problem
pub cost_upto : (a : Snapshot) (p : ProblemValue) (rows : List CostRowValue) (k : ℕ) (row : CostRowValue) → IsProblem p
    → rows ≡ p.costs → a.problem ≡ p → k < length rows → row ≡ get_or rows k row → TermsUpTo a.problem.vars row.terms
cost_upto a p rows k row is given same short found =
    let all : All (λ r. TermsUpTo p.vars r.terms) rows =
    subst (λ (rs : List CostRowValue). All (λ r. TermsUpTo p.vars r.terms) rs) (sym given) is.cost_variables in
    let here : TermsUpTo p.vars row.terms = subst (λ (r : CostRowValue). TermsUpTo p.vars r.terms) (sym found) (all k row short) in
    subst (λ (q : ProblemValue). TermsUpTo q.vars row.terms) (sym same) here
