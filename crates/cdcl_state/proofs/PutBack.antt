-- The variables that wait while a trail is cut.
use Rattle.std.proofs.Common.{◌≡◌, ℕ, ◌-◌, ◌<◌, ◌≤◌, Bool, false, not, if◌then◌else◌, length, get_or, refl, arith, ap, ◌∙◌, subst, ⊎_elim}
use Rattle.std.specs.Prelude.{Contains, Some, None, Option, slice_get}
use Rattle.std.specs.Option.{option_map}
use Rattle.std.proofs.lemmas.Bool.{cases_lt}
use Rattle.std.proofs.lemmas.Option.{slice_get-get_or}
use Rattle.scut_base.specs.Literal.{Literal}
use Rattle.clause_prop.specs.Steps.{TrailValue, AreSteps, partial, cut}
use Rattle.clause_prop.specs.declared.step.Step.{Step}
use Rattle.clause_prop.proofs.Assigned.{assigned-found}
use Rattle.cdcl_trail.specs.SearchTrail.{IsStepAt}
use Rattle.cdcl_trail.proofs.Places.{slice_get-take}
use Rattle.cdcl_trail.proofs.Truths.{var_within, open_apart, steps_front}
use Rattle.cdcl_state.specs.Order.{OrderValue, IsOpenVar}
use Rattle.cdcl_state.specs.Searching.{IsOrderFor}

-- the variables of the steps from `keep` on, up to the place, wait too
pub record IsPutBack (o : OrderValue) (t : TrailValue) (keep place : ℕ) : Type 0 where
  pub order : IsOrderFor o t
  pub back : (q : ℕ) (s : Step) → keep ≤ q → q < place → IsStepAt t q s → Contains o.waiting s.lit.var

positive_literal : ℕ → Literal
positive_literal v = record { var = v; neg = false }

-- after the cut
pub order_cut : (o : OrderValue) (t : TrailValue) (keep : ℕ) → AreSteps t.vars t.steps → IsPutBack o t keep (length t.steps) → IsOrderFor o (cut t keep)
unfolding positive_literal
order_cut o t keep are is = record {
  known = is.order.known;
  open_wait = λ v positive within open_v. by_value v positive within open_v (get_or (partial t) (v - 1) None) refl;
}
  where
    by_value : (v : ℕ) → 0 < v → v ≤ t.vars → IsOpenVar (cut t keep) v → (b : Option Bool) → get_or (partial t) (v - 1) None ≡ b → Contains o.waiting v
    by_value v positive within open_v None none = is.order.open_wait v positive within (ap (option_map (λ b. if false then not b else b)) none)
    by_value v positive within open_v (Some b) some =
        let d : Step = record { lit = positive_literal v; level = 0; reason = 0 } in
        let found = assigned-found t.vars t.steps (v - 1) b d some in
        let s : Step = get_or t.steps found.0 d in
        let at : IsStepAt t found.0 s = slice_get-get_or t.steps found.0 d found.1 in
        let range = var_within t.vars t.steps found.0 s are at in
        let same : s.lit.var ≡ v = omega (arith, found.2, range.0, positive) in
        ⊎_elim
        (λ (kept : found.0 < keep). absurd (open_apart t.vars (cut t keep).steps (positive_literal v) found.0 s (steps_front t.vars t.steps keep are) open_v (slice_get-take t.steps keep found.0 kept ∙ at) same))
        (λ (gone : keep ≤ found.0). subst (Contains o.waiting) same (is.back found.0 s gone found.1 at))
        (cases_lt found.0 keep)

-- the same, where no step is left from the place on
pub put_back_all : (o : OrderValue) (t : TrailValue) (keep place : ℕ) → AreSteps t.vars t.steps → length t.steps ≤ place → IsPutBack o t keep place → IsOrderFor o (cut t keep)
put_back_all o t keep place are past is = order_cut o t keep are (record {
  order = is.order;
  back = λ q s from less at. is.back q s from (omega (arith, less, past)) at;
})
