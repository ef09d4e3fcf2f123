-- Steps that a line forced.
use Rattle.std.specs.Prelude.{◌≡◌, ◌≢◌, ℕ, ◌+◌, ◌<◌, ◌≤◌, Bool, true, false, Option, None, Some, List, length, slice_get, All, Contains, refl}
use Rattle.std.proofs.Common.{sym, ◌∙◌, ap, subst, cond, arith, take, get_or}
use Rattle.std.specs.Ordering.{nat_cmp, eq_by_cmp}
use Rattle.std.specs.Cmp.{nat_cmp_total, unsigned_tied}
use Rattle.std.specs.FinMap.{get, remove, get-remove, same_map, nat_cmp-IsAntisymmetric}
use Rattle.std.proofs.lemmas.Bool.{eqb-true}
use Rattle.std.proofs.lemmas.List.{take_all}
use Rattle.std.proofs.lemmas.List.Elements.{All-more, All-weaker, All-contains}
use Rattle.std.proofs.lemmas.Option.{none-some, same_Some}
use Rattle.scut_base.proofs.Lists.{Contains-map}
use Rattle.scut_base.specs.Literal.{Literal}
use Rattle.scut_base.specs.Assignment.{partial_truth}
use Rattle.pb_lin.specs.Constraint.{ConstraintValue, literals}
use Rattle.pb_lin.specs.LineMap.{LineMap}
use Rattle.clause_prop.specs.Steps.{TrailValue, AreSteps, IsPlaceOf, partial, cut}
use Rattle.clause_prop.specs.declared.step.Step.{Step}
use Rattle.cdcl_trail.specs.SearchTrail.{AreLines, IsSearchTrail, IsStepAt}
use Rattle.cdcl_trail.proofs.Places.{all_places, at_front}
use Rattle.cdcl_state.proofs.TrailSteps.{no_step, place_same}
use Rattle.cdcl_state.specs.Searching.{IsNotForcedBefore}

module _ (t : TrailValue) (end id : ℕ) (l : Literal) (are : AreSteps t.vars t.steps) where
  -- a literal without a step
  pub open_other : partial_truth (partial t) l ≡ None → IsNotForcedBefore t end id l
  open_other none p s before there is = λ forced. no_step t l p s are none there (ap (λ (m : Literal). m.var) is)

  -- a literal whose variable has its step at the place
  pub place_other : (place : ℕ) → IsPlaceOf t.steps l.var place → ((s : Step) → IsStepAt t place s → place < end → s.reason ≢ id) → IsNotForcedBefore t end id l
  place_other place here other p s before there is =
      let same : p ≡ place = place_same t p place s here.step are there here.there (ap (λ (m : Literal). m.var) is ∙ sym here.is) in
      other s (ap (slice_get t.steps) (sym same) ∙ there) (omega arith)

-- a place before
not_before : (t : TrailValue) (end low id : ℕ) → low ≤ end → (l : Literal) → IsNotForcedBefore t end id l → IsNotForcedBefore t low id l
not_before t end low id falls l other p s before there is = other p s (omega arith) there is

-- the next of the literals
pub other_step : (t : TrailValue) (end low id : ℕ) (lits items : List Literal) (i : ℕ) (l : Literal) → items ≡ lits → i < length items → l ≡ get_or items i l → low ≤ end → All (IsNotForcedBefore t end id) (take i lits) → IsNotForcedBefore t low id l → All (IsNotForcedBefore t low id) (take (i + 1) lits)
other_step t end low id lits items i l same within is falls before here =
    let inside : i < length lits = subst (λ (ls : List Literal). i < length ls) same within in
    let read : l ≡ get_or lits i l = is ∙ ap (λ (ls : List Literal). get_or ls i l) same in
    All-more (IsNotForcedBefore t low id) lits i l inside (All-weaker (IsNotForcedBefore t end id) (IsNotForcedBefore t low id) (not_before t end low id falls) (take i lits) before) (subst (IsNotForcedBefore t low id) read here)

pub other_all : (t : TrailValue) (end id : ℕ) (lits items : List Literal) (i : ℕ) → items ≡ lits → length items ≤ i → All (IsNotForcedBefore t end id) (take i lits) → All (IsNotForcedBefore t end id) lits
other_all t end id lits items i same past before =
    let far : length lits ≤ i = subst (λ (ls : List Literal). length ls ≤ i) same past in
    subst (λ (ls : List Literal). All (IsNotForcedBefore t end id) ls) (take_all i lits far) before

-- a line forces its own literals alone, so it is no reason of a step that is left
pub no_reason_left : (store : LineMap) (t : TrailValue) (keep id : ℕ) (c : ConstraintValue) → AreLines t.vars store → IsSearchTrail store t → get store id ≡ Some c → All (IsNotForcedBefore t keep id) (literals c.terms) → All (λ s. s.reason ≢ id) (cut t keep).steps
no_reason_left store t keep id c lines search there others = all_places (λ s. s.reason ≢ id) (take keep t.steps) (λ p s at same.
    (let old = at_front t.steps keep p s at in
    let forced = search.forced p s old.1 (λ zero. none-some c (sym lines.no_zero ∙ ap (get store) (sym zero ∙ same) ∙ there)) in
    let line : forced.line ≡ c = same_Some forced.line c (sym forced.there ∙ ap (get store) same ∙ there) in
    let among : Contains (literals c.terms) s.lit = subst (Contains (literals c.terms)) forced.forces.literal
    (Contains-map (λ (u : Literal × ℕ). u.0) c.terms forced.forces.term (subst (λ (d : ConstraintValue). Contains d.terms forced.forces.term) line forced.forces.among)) in
    All-contains (IsNotForcedBefore t keep id) (literals c.terms) s.lit others among p s old.0 old.1 refl same))

left_again : (b : Bool) (o : Option ConstraintValue) → (b ≡ true → o ≡ None) → cond b None o ≡ o
left_again true o none = sym (none refl)
left_again false o none = refl

-- to drop a line that isn't there changes nothing
pub remove_none : (m : LineMap) (id : ℕ) → get m id ≡ None → m ≡ remove m id
remove_none m id none = same_map nat_cmp_total nat_cmp-IsAntisymmetric m (remove m id) (λ q.
    sym (get-remove nat_cmp_total m id q ∙ left_again (eq_by_cmp nat_cmp q id) (get m q) (λ e. ap (get m) (eqb-true q id (sym (unsigned_tied q id) ∙ e)) ∙ none)))

-- nor does a cut past the end
pub cut_past : (t : TrailValue) → t ≡ cut t (length t.steps)
cut_past t = ap (λ (steps : List Step). record { vars = t.vars; steps = steps }) (sym (take_all (length t.steps) t.steps (omega arith)))
