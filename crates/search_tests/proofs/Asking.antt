-- The totalizer of a problem's first row may be asked, at first and after each answer.
use Rattle.std.proofs.Common.{◌≡◌, false, Some, List, [], Result, Ok, Err, get_or, ap, subst, arith}
use Rattle.std.specs.Prelude.{OnOk, slice_get}
use Rattle.std.proofs.lemmas.Option.{get_or_from_slice_get, slice_get_within}
use Rattle.pb_lin.specs.Constraint.{TermsUpTo}
use Rattle.pb_lin.specs.CostRow.{CostRowValue, IsCostRow}
use Rattle.pb_lin.specs.Problem.{ProblemValue, IsProblem}
use Rattle.proof_laws.specs.State.{StateValue}
use Rattle.proof_laws.specs.Replay.{IsReplay}
use Rattle.proof_laws.specs.declared.line.Line.{Line}
use Rattle.proof_rules.specs.declared.recorder.RecordFault.{RecordFault}
use Rattle.proof_rules.specs.Recording.{Snapshot}
use Rattle.sum_outputs.specs.Adding.{IsReached, IsReady, IsRecorded}
use Rattle.sum_outputs.proofs.LaterStates.{ready_later, replay_vars}
use Rattle.totalizer.specs.Totalizing.{TotalizerValue, Fits, HasVariables}
use Rattle.search_tests.specs.Asked.{IsAskable}

-- the first row's variables are the problem's
first_upto : (p : ProblemValue) (row : CostRowValue) → IsProblem p → slice_get p.costs 0 ≡ Some row → TermsUpTo p.vars row.terms
first_upto p row is found =
    let short = slice_get_within p.costs 0 row found in
    let here : get_or p.costs 0 row ≡ row = get_or_from_slice_get p.costs 0 row row found in
    subst (λ (r : CostRowValue). TermsUpTo p.vars r.terms) here (is.cost_variables 0 row short)

have_variables : (a : Snapshot) (row : CostRowValue) → IsCostRow row.terms row.offset → TermsUpTo a.problem.vars row.terms → HasVariables a row.terms
have_variables a row is upto s reached k d short =
    let most = replay_vars a.problem a.lines s reached in
    let within = upto k d short in
    (is.from_one k d short, omega arith)

ready_at_first : (a : Snapshot) (s : StateValue) → a.broken ≡ false → a.lines ≡ [] → IsReached a s → IsReady a
ready_at_first a s whole none reached =
    let first : IsReplay a.problem [] s = subst (λ (lines : List Line). IsReplay a.problem lines s) none reached in
    record { whole = whole; state = s; reached = reached; unended = ap (λ (t : StateValue). t.ended) first }

-- a new one
pub askable_at_first : (a : Snapshot) (s : StateValue) (row : CostRowValue) (t : TotalizerValue)
    → a.broken ≡ false → a.lines ≡ [] → IsReached a s → IsProblem a.problem → slice_get a.problem.costs 0 ≡ Some row
    → IsCostRow row.terms row.offset → ((b : Snapshot) → HasVariables b row.terms → Fits b t) → IsAskable a t
askable_at_first a s row t whole none reached problem found is fits = record {
  ready = ready_at_first a s whole none reached;
  fits = fits a (have_variables a row is (first_upto a.problem row problem found));
}

-- one that was asked
pub askable_later : {T : Type 0} (a b : Snapshot) (t u : TotalizerValue) (r : Result T RecordFault) → IsAskable a t
    → IsRecorded a b r → OnOk r (Fits b u) → OnOk r (IsAskable b u)
askable_later a b t u (Ok v) old on fits = record { ready = ready_later a b old.ready on.continues on.whole; fits = fits }
askable_later a b t u (Err f) old on fits = tt
