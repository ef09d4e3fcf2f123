-- Live lines that are taken up.
use Rattle.std.specs.Prelude.{◌≡◌, ℕ, ◌+◌, Some, None, Result, Ok, Err, OnOk, refl}
use Rattle.std.proofs.Common.{sym, ◌∙◌, ap, subst, inl, inr, arith}
use Rattle.std.specs.FinMap.{get, insert, empty, get-empty}
use Rattle.std.specs.Ordering.{nat_cmp}
use Rattle.std.proofs.lemmas.Bool.{cases_eq}
use Rattle.std.proofs.lemmas.Option.{none-some}
use Rattle.pb_lin.specs.Constraint.{ConstraintValue}
use Rattle.pb_lin.specs.LineMap.{LineMap}
use Rattle.proof_laws.specs.State.{StateValue, IsState, Fits}
use Rattle.proof_laws.proofs.NextFits.{inserted_cases}
use Rattle.std.proofs.lemmas.List.Elements.{All-nil}
use Rattle.pb_lin.specs.Problem.{ProblemValue}
use Rattle.clause_prop.specs.declared.step.Step.{Step}
use Rattle.clause_prop.specs.Steps.{TrailValue}
use Rattle.cdcl_trail.proofs.Stores.{get_new, get_other}
use Rattle.cdcl_state.specs.Searching.{SearchValue, no_lines}
use Rattle.command_elaborate.specs.Kept.{IsKept, IsTaken}

-- a line more
pub taken_more : (live store : LineMap) (id : ℕ) (c : ConstraintValue) → get live id ≡ Some c → IsTaken live id store → IsTaken live (id + 1) (insert store id c)
taken_more live store id c there taken = record {
  held = λ i d found. elim (inserted_cases store id i c d found) [
    | inl same ↦ (let e = same.0 in omega arith, ap (get live) same.0 ∙ there ∙ ap Some same.1)
    | inr old ↦ (let one = taken.held i d old in (let low = one.0 in omega arith, one.1))
  ];
  all = λ i d less found. elim (cases_eq i id) [
    | inl same ↦ ap (get (insert store id c)) same ∙ get_new store id c ∙ sym (sym found ∙ ap (get live) same ∙ there)
    | inr apart ↦ get_other store id i c apart ∙ taken.all i d (omega arith) found
  ];
}

-- no line of this id
pub taken_past : (live store : LineMap) (id : ℕ) → get live id ≡ None → IsTaken live id store → IsTaken live (id + 1) store
taken_past live store id free taken = record {
  held = λ i d found. (let one = taken.held i d found in (let low = one.0 in omega arith, one.1));
  all = λ i d less found. elim (cases_eq i id) [
    | inl same ↦ absurd (none-some d (sym free ∙ ap (get live) (sym same) ∙ found))
    | inr apart ↦ taken.all i d (omega arith) found
  ];
}

-- no line at all
pub taken_none : (s : StateValue) (store : LineMap) → IsState s → store ≡ empty → IsTaken s.live 1 store
taken_none s store state is = record {
  held = λ i d found. absurd (none-some d (sym (ap (λ (m : LineMap). get m i) is ∙ get-empty {X = ConstraintValue} nat_cmp i) ∙ found));
  all = λ i d less found. absurd (let low = (state.ids i d found).0 in omega arith);
}

-- the answer of one that is taken up
pub taken_if : {T E : Type 0} (result : Result T E) (live store : LineMap) (t : TrailValue) (u : SearchValue) (id : ℕ) (c : ConstraintValue) → get live id ≡ Some c → IsTaken live id store
    → OnOk result (u ≡ record { store = insert store id c; trail = t }) → OnOk result (IsTaken live (id + 1) u.store)
taken_if (Ok x) live store t u id c there taken is = subst (λ (w : SearchValue). IsTaken live (id + 1) w.store) (sym is) (taken_more live store id c there taken)
taken_if (Err e) live store t u id c there taken is = tt

-- what an elaborator keeps in step
abbrev pub IsInStep : ProblemValue → StateValue → ℕ → SearchValue → Type 0
IsInStep p s next v = Fits p s × IsKept s next v

pub begun : (p : ProblemValue) (s : StateValue) (v : SearchValue) → Fits p s → IsState s → v ≡ no_lines → IsInStep p s 1 v
begun p s v fits state is =
    subst (λ (w : SearchValue). IsInStep p s 1 w) (sym is)
    (fits, record { taken = taken_none s empty state refl; vars = omega arith; flat = All-nil (λ (r : Step). r.level ≡ 0); positive = omega arith; within = (let one = state.first_id in omega arith) })
