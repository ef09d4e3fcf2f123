-- The terms of a row's negation as weights, over variables that are there.
use Rattle.std.proofs.Common.{◌≡◌, ◌∙◌, ℕ, ◌<◌, ◌^◌, List, get_or, length, Option, Some, Result, Ok, IfOk, IfSome, arith, sym, subst}
use Rattle.std.specs.List.{All}
use Rattle.scut_base.specs.Literal.{Literal}
use Rattle.scut_base.specs.declared.memory.NoMemory.{NoMemory}
use Rattle.pb_lin.specs.Constraint.{ConstraintValue, IsMerged, TermsUpTo, UpTo, negation, total}
use Rattle.pb_lin.specs.Problem.{IsProblem, ProblemValue}
use Rattle.proof_rules.specs.Recording.{Snapshot}
use Rattle.proof_rules.proofs.GoalFaults.{negation_upto}
use Rattle.sum_outputs.specs.Totals.{AreWeights}
use Rattle.sum_outputs.proofs.LaterStates.{replay_vars}
use Rattle.totalizer.specs.Totalizing.{Fits, HasVariables, TotalizerValue}

pub are_weights : (terms given : List (Literal × ℕ)) → given ≡ terms → IsMerged terms → total given < 2 ^ 63 → AreWeights given
are_weights terms given same merged small =
    let here : IsMerged given = subst IsMerged (sym same) merged in
    record {
      positive = here.positive;
      from_one = here.from_one;
      apart = λ i j d less within is. let rises = here.rising i j d less within in omega arith;
      small = small;
    }

pub have_variables : (a : Snapshot) (terms given : List (Literal × ℕ)) → given ≡ terms → IsMerged terms
    → TermsUpTo a.problem.vars terms → HasVariables a given
have_variables a terms given same merged upto s reached k d short =
    let here : IsMerged given = subst IsMerged (sym same) merged in
    let most : TermsUpTo a.problem.vars given = subst (TermsUpTo a.problem.vars) (sym same) upto in
    let vars = replay_vars a.problem a.lines s reached in
    let within = most k d short in
    (here.from_one k d short, omega arith)

-- the totalizer that was made fits
pub made_fits : (a : Snapshot) (terms : List (Literal × ℕ)) (t : TotalizerValue) (r : Result TotalizerValue NoMemory)
    → r ≡ Ok t → IfOk r (λ t. (a : Snapshot) → HasVariables a terms → Fits a t) → HasVariables a terms → Fits a t
made_fits a terms t r ok fits variables =
    (subst (λ (q : Result TotalizerValue NoMemory). IfOk q (λ t. (a : Snapshot) → HasVariables a terms → Fits a t)) ok fits) a variables

-- the terms that were found, of a slice of them
pub found_terms : (terms given ts : List (Literal × ℕ)) (r : Result (Option (List (Literal × ℕ))) NoMemory) → given ≡ ts
    → r ≡ Ok (Some ts) → IfOk r (λ found. IfSome found (λ us. us ≡ terms)) → given ≡ terms
found_terms terms given ts r same ok is =
    same ∙ subst (λ (q : Result (Option (List (Literal × ℕ))) NoMemory). IfOk q (λ found. IfSome found (λ us. us ≡ terms))) ok is

-- the negation that was found has the row's variables
pub found_upto : (n : ℕ) (row c : ConstraintValue) (r : Result (Option ConstraintValue) NoMemory) → r ≡ Ok (Some c)
    → IfOk r (λ found. IfSome found (λ d. d ≡ negation row)) → UpTo n row → UpTo n c
found_upto n row c r ok is upto =
    let same : c ≡ negation row = subst (λ (q : Result (Option ConstraintValue) NoMemory). IfOk q (λ found. IfSome found (λ d. d ≡ negation row))) ok is in
    subst (UpTo n) (sym same) (negation_upto n row upto)

-- a row's variables are those of the problem, whatever lines were added
pub row_upto : (a b : Snapshot) (p : ProblemValue) (rows : List ConstraintValue) (at : ℕ) (row : ConstraintValue) → IsProblem p
    → rows ≡ p.rows → a.problem ≡ p → b.problem ≡ a.problem → at < length rows → row ≡ get_or rows at row → UpTo b.problem.vars row
row_upto a b p rows at row is given begun on short found =
    let all : All (λ c. TermsUpTo p.vars c.terms) rows =
    subst (λ (cs : List ConstraintValue). All (λ c. TermsUpTo p.vars c.terms) cs) (sym given) is.row_variables in
    let here : UpTo p.vars row = subst (UpTo p.vars) (sym found) (all at row short) in
    subst (λ (q : ProblemValue). UpTo q.vars row) (sym (on ∙ begun)) here
