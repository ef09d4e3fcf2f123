-- A line that is stored for a while.
use Rattle.std.specs.Prelude.{◌≡◌, ℕ, Option, Some, None, Result, Ok, Err, IfOk, IfNone, List}
use Rattle.std.proofs.Common.{sym, ◌∙◌, ap, subst, inl, inr}
use Rattle.std.specs.FinMap.{get, insert, remove}
use Rattle.std.proofs.lemmas.Bool.{cases_eq}
use Rattle.pb_lin.specs.Constraint.{ConstraintValue, UpTo, negation}
use Rattle.pb_lin.specs.LineMap.{LineMap}
use Rattle.hint_rup.specs.declared.hint.Hint.{Hint}
use Rattle.clause_prop.specs.Steps.{partial}
use Rattle.clause_prop.specs.Propagating.{Extends, IsClosedFor}
use Rattle.clause_prop.proofs.Assigned.{length-assigned}
use Rattle.cdcl_state.specs.Searching.{SearchValue}
use Rattle.command_elaborate.specs.Kept.{HasClosed}
use Rattle.cdcl_trail.proofs.Stores.{get_other}
use Rattle.watch_prop.proofs.WatchHold.{get_removed, get_kept}
use Rattle.command_elaborate.proofs.Closed.{negation_upto}

pub taken_upto : (n : ℕ) (c d : ConstraintValue) → d ≡ negation c → UpTo n c → UpTo n d
taken_upto n c d is upto = subst (UpTo n) (sym is) (negation_upto n c upto)

-- what is closed after the line was stored
pub closed_with : {E : Type 0} (r : Result (Option (List Hint)) E) (old taken found : SearchValue) (id : ℕ) (c d : ConstraintValue) → taken ≡ record { store = insert old.store id c; trail = old.trail } → c ≡ d → found.store ≡ taken.store
    → Extends taken.store taken.trail found.trail → IfOk r (λ o. IfNone o (IsClosedFor found.store found.trail)) → IfOk r (λ o. IfNone o (HasClosed old.trail.vars (insert old.store id d)))
closed_with (Err e) old taken found id c d is same store extends closed = tt
closed_with (Ok (Some hints)) old taken found id c d is same store extends closed = tt
closed_with (Ok None) old taken found id c d is same store extends closed =
    let lines : found.store ≡ insert old.store id d = store ∙ ap (λ (v : SearchValue). v.store) is ∙ ap (insert old.store id) same in
    let vars : found.trail.vars ≡ old.trail.vars = extends.vars ∙ ap (λ (v : SearchValue). v.trail.vars) is in
    (partial found.trail, length-assigned found.trail.vars found.trail.steps ∙ vars, λ i e there. closed i e (ap (λ (m : LineMap). get m i) lines ∙ there))

-- the lines after it was let go of
pub lines_back : (old taken found left : SearchValue) (id : ℕ) (c : ConstraintValue) → get old.store id ≡ None → taken ≡ record { store = insert old.store id c; trail = old.trail } → found.store ≡ taken.store
    → left.store ≡ remove found.store id → (i : ℕ) → get left.store i ≡ get old.store i
lines_back old taken found left id c free is store last i =
    let kept : found.store ≡ insert old.store id c = store ∙ ap (λ (v : SearchValue). v.store) is in
    ap (λ (m : LineMap). get m i) last ∙ ap (λ (m : LineMap). get (remove m id) i) kept
    ∙ elim (cases_eq i id) [
      | inl same ↦ ap (get (remove (insert old.store id c) id)) same ∙ get_removed (insert old.store id c) id ∙ sym (ap (get old.store) same ∙ free)
      | inr apart ↦ get_kept (insert old.store id c) id i apart ∙ get_other old.store id i c apart
    ]
