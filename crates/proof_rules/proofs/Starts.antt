-- The start of a proof.
use Rattle.std.proofs.Common.{◌≡◌, ℕ, ◌+◌, false, List, [], length, sym, subst, ap, ◌∙◌, ℤ}
use Rattle.pb_lin.specs.Constraint.{ConstraintValue}
use Rattle.pb_lin.specs.LineMap.{LineMap, lines_of}
use Rattle.pb_lin.specs.Problem.{ProblemValue, IsProblem}
use Rattle.proof_laws.specs.State.{StateValue, IsState, numbered, start}
use Rattle.proof_laws.proofs.NextFits.{start_is_state}

-- what is made of a problem's parts is its start, and so a state
pub made_start : (p : ProblemValue) (vars : ℕ) (rows : List ConstraintValue) (live : LineMap) (sols : List (List ℤ)) → IsProblem p → vars ≡ p.vars → rows ≡ p.rows → live ≡ lines_of (numbered 1 rows) → sols ≡ [] →
    IsState (record { vars = vars; live = live; next_id = length rows + 1; sols = sols; lines = 0; learned = 0; ended = false })
made_start p vars rows live sols problem same_vars same_rows same_live same_sols =
    let all : live ≡ lines_of (numbered 1 p.rows) = same_live ∙ ap (λ (cs : List ConstraintValue). lines_of (numbered 1 cs)) same_rows in
    let ids : length rows + 1 ≡ length p.rows + 1 = ap (λ (cs : List ConstraintValue). length cs + 1) same_rows in
    let made : StateValue = record { vars = vars; live = live; next_id = length rows + 1; sols = sols; lines = 0; learned = 0; ended = false } in
    let same : made ≡ start p = λ i. record { vars = same_vars i; live = all i; next_id = ids i; sols = same_sols i; lines = 0; learned = 0; ended = false } in
    subst IsState (sym same) (start_is_state p problem)
