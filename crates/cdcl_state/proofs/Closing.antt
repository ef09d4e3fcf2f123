-- What the hints prove, step by step on the way back.
use Rattle.std.specs.Prelude.{◌≡◌, ◌≢◌, ℕ, ◌+◌, ◌<◌, ◌≤◌, Bool, true, false, not, nat_eq, Option, Some, None, List, [], ◌∷◌, ◌++◌, length, reverse, slice_get, All, IsSome, pos, ◌<ℤ◌, refl}
use Rattle.std.specs.FinMap.{get}
use Rattle.std.proofs.Common.{sym, ◌∙◌, ap, subst, inl, inr, get_or, set, arith}
use Rattle.std.proofs.lemmas.Bool.{cases_eq, eqb-true, false_from_ne_true}
use Rattle.std.proofs.lemmas.List.{get_or-map, get_or-set_other, length-map, reverse-append}
use Rattle.std.proofs.lemmas.List.Elements.{All-nil, All-cons, All-weaker}
use Rattle.std.proofs.lemmas.Option.{same_Some, slice_get-get_or, slice_get_within}
use Rattle.scut_base.specs.Literal.{Literal}
use Rattle.scut_base.specs.Assignment.{partial_truth}
use Rattle.pb_lin.specs.Constraint.{ConstraintValue, literals, opposite, slack}
use Rattle.pb_lin.specs.LineMap.{LineMap}
use Rattle.hint_rup.specs.Hints.{before, named}
use Rattle.hint_rup.specs.Propagation.{Conflicts}
use Rattle.hint_rup.specs.declared.hint.Hint.{Hint}
use Rattle.hint_rup.specs.declared.hint.Hint.TheVariants.{Id as IdHint}
use Rattle.clause_prop.specs.declared.step.Step.{Step}
use Rattle.clause_prop.specs.Steps.{TrailValue, cut, last_level, partial}
use Rattle.clause_prop.specs.Propagating.{Forces, IsConflict}
use Rattle.cdcl_trail.specs.SearchTrail.{AreLines, IsSearchTrail, IsStepAt}
use Rattle.cdcl_trail.specs.Learning.{stored}
use Rattle.cdcl_state.specs.declared.reach.Reach.{Reach}
use Rattle.cdcl_state.specs.declared.reach.Reach.TheVariants.{Level, Decisions}
use Rattle.cdcl_state.specs.Walking.{AreUnresolved, IsClosing, IsMarkedBefore, IsMore, IsStoredHint, IsWalk, Meets, is_marked, is_resolved, spare}
use Rattle.cdcl_state.proofs.Rows.{KeepsFalse, closes_last, row_last, row_more, truth_kept}
use Rattle.cdcl_state.proofs.TrailSteps.{false_before, opposite_back, opposite_false, read_at, step_same, step_variable, true_of_opposite, upto_last, whole_cut}

named_id : (store : LineMap) (id : ℕ) (line : ConstraintValue) (hints : List Hint) → get store id ≡ Some line → named (stored store) (IdHint id ∷ hints) ≡ line ∷ named (stored store) hints
unfolding named
named_id store id line hints there = ap (λ (o : Option ConstraintValue). before o (named (stored store) hints)) there

named_none : (store : LineMap) → named (stored store) [] ≡ []
unfolding named
named_none store = refl

stored_hint : (store : LineMap) (id : ℕ) (line : ConstraintValue) → get store id ≡ Some line → IsStoredHint store (IdHint id)
stored_hint store id line there = (id, refl, subst (λ (o : Option ConstraintValue). IsSome o) (sym there) refl)

nonzero : (n : ℕ) → not (nat_eq n 0) ≡ true → n ≢ 0
nonzero n test same = let both : false ≡ true = sym (ap (λ (m : ℕ). not (nat_eq m 0)) same) ∙ test in cc

-- a step that the walk resolves, after what it leaves, is no decision
pub has_reason : (store : LineMap) (t : TrailValue) (reach : Reach) (marks seen : List Bool) (places : List ℕ) (least end : ℕ) (s : Step) → IsSearchTrail store t → IsWalk t reach marks seen places least → least + spare reach ≤ end → IsStepAt t end s → is_resolved reach s ≡ true → s.reason ≢ 0
unfolding is_resolved spare
has_reason store t (Level level) marks seen places least end s search walk after at resolved none =
    let within : end < length t.steps = slice_get_within t.steps end s at in
    let u : Step = get_or t.steps least s in
    let there : IsStepAt t least u = slice_get-get_or t.steps least s (omega arith) in
    let low : u.level < s.level = (search.decided end s at none).above least u (omega arith) there in
    let one : u.level ≡ level = eqb-true u.level level (walk.resolved u there) in
    let two : s.level ≡ level = eqb-true s.level level resolved in
    omega arith
has_reason store t Decisions marks seen places least end s search walk after at resolved none = nonzero s.reason resolved none

-- marks before a place stay where that of the place is taken off
still_marked : (t : TrailValue) (marks : List Bool) (x : ℕ) (lits : List Literal) → All (IsMarkedBefore t marks x) lits → All (IsMarkedBefore t (set marks x false) x) lits
still_marked t marks x lits marked = All-weaker (IsMarkedBefore t marks x) (IsMarkedBefore t (set marks x false) x)
    (λ l one p s before at is. get_or-set_other marks x p false false (λ (same : p ≡ x). absurd (omega arith)) ∙ one p s before at is) lits marked

module _ (store : LineMap) (t : TrailValue) (reach : Reach) (lines : AreLines t.vars store) (search : IsSearchTrail store t) where
  -- what led to the conflict makes the literals false that the first steps make false
  kept_false : (marks : List Bool) (end id : ℕ) (given : List Literal) (p : List (Option Bool)) (line : ConstraintValue) → get store id ≡ Some line → All (IsMarkedBefore t marks end) (literals line.terms) → Meets t reach marks end given p → KeepsFalse (partial (cut t end)) p line
  kept_false marks end id given p line there marked meets k d within was =
      let l : Literal = (get_or line.terms k d).0 in
      let b = false_before t end l search.steps ((lines.normal id line there).merged.from_one k d within) was in
      let read : get_or (literals line.terms) k d.0 ≡ l = get_or-map (λ (u : Literal × ℕ). u.0) line.terms k d d.0 within in
      let inside : k < length (literals line.terms) = subst (λ (n : ℕ). k < n) (sym (length-map line.terms (λ (u : Literal × ℕ). u.0))) within in
      let on : is_marked marks b.place ≡ true = subst (IsMarkedBefore t marks end) read (marked k d.0 inside) b.place b.step b.before b.there b.is in
      true_of_opposite p b.step.lit l b.is (meets.at b.place b.step b.there on (λ resolved. b.before))

  -- so it does where none of those steps is resolved, wherever the walk is
  kept_below : (marks : List Bool) (end back id : ℕ) (given : List Literal) (p : List (Option Bool)) (line : ConstraintValue) → get store id ≡ Some line → All (IsMarkedBefore t marks end) (literals line.terms) → AreUnresolved t reach end → Meets t reach marks back given p → KeepsFalse (partial (cut t end)) p line
  kept_below marks end back id given p line there marked free meets = kept_false marks end id given p line there marked
      (record {
        at = λ k s there on low. meets.at k s there on (λ resolved. absurd (clash (is_resolved reach s) resolved (free k s (low resolved) there)));
        besides = meets.besides;
      })
    where
      clash : (b : Bool) → b ≡ true → b ≡ false → ⊥
      clash b on off = let both : true ≡ false = sym on ∙ off in cc

  -- past a step that isn't marked, or isn't resolved
  pub closing_skip : (marks : List Bool) (end next : ℕ) (given : List Literal) (hints : List Hint) → next ≡ end + 1 → ((s : Step) → IsStepAt t end s → is_marked marks end ≡ true → is_resolved reach s ≡ true → ⊥) → IsClosing store t reach marks next given hints → IsClosing store t reach marks end given hints
  closing_skip marks end next given hints after free rest = record {
    ids = rest.ids;
    closing = λ p long meets. rest.closing p long (record {
      at = λ k r there on low. meets.at k r there on (λ resolved. elim (cases_eq k end) [
        | inl here ↦ absurd (free r (ap (slice_get t.steps) (sym here) ∙ there) (ap (is_marked marks) (sym here) ∙ on) resolved)
        | inr apart ↦ (let below : k < next = low resolved in omega arith)
      ]);
      besides = meets.besides;
    });
  }

  -- past a step whose reason is marked
  pub closing_step : (marks more : List Bool) (end next : ℕ) (given : List Literal) (hints : List Hint) (s : Step) (id : ℕ) (line : ConstraintValue) → next ≡ end + 1 → IsStepAt t end s → get store id ≡ Some line → Forces (partial (cut t end)) line s.lit → IsMore marks more → All (IsMarkedBefore t more end) (literals line.terms)
      → IsClosing store t reach marks next given hints → IsClosing store t reach more end given (IdHint id ∷ hints)
  closing_step marks more end next given hints s id line after at there forces grows marked rest = record {
    ids = All-cons (IsStoredHint store) (IdHint id) hints (stored_hint store id line there) rest.ids;
    closing = λ p long meets.
        let variable = step_variable t end s search.steps at in
        let positive : 0 < s.lit.var = variable.0 in
        let upto : s.lit.var ≤ t.vars = variable.1 in
        subst (Conflicts p) (sym (named_id store id line hints there))
        (row_more (partial (cut t end)) p line (named (stored store) hints) s.lit (lines.normal id line there).merged forces (kept_false more end id given p line there marked meets) (omega arith)
        (λ q extends truth. rest.closing q (extends.as_long ∙ long) (record {
          at = λ k r here on low. elim (cases_eq k end) [
            | inl same ↦ subst (λ (l : Literal). partial_truth q l ≡ Some true) (ap (λ (x : Step). x.lit) (step_same t end k s r at here (sym same))) truth
            | inr apart ↦ truth_kept p q r.lit true extends (meets.at k r here (grows k on) (λ resolved. let below : k < next = low resolved in omega arith))
          ];
          besides = All-weaker (λ l. partial_truth p l ≡ Some true) (λ l. partial_truth q l ≡ Some true) (λ l. truth_kept p q l true extends) given meets.besides;
        })));
  }

  -- without the mark of a step whose reason is marked
  pub closing_drop : (marks more : List Bool) (x back : ℕ) (given : List Literal) (hints : List Hint) (s : Step) (id : ℕ) (line : ConstraintValue) → IsStepAt t x s → get store id ≡ Some line → Forces (partial (cut t x)) line s.lit → IsMore marks more → All (IsMarkedBefore t more x) (literals line.terms) → AreUnresolved t reach x
      → IsClosing store t reach marks back given hints → IsClosing store t reach (set more x false) back given (IdHint id ∷ hints)
  closing_drop marks more x back given hints s id line at there forces grows marked free rest = record {
    ids = All-cons (IsStoredHint store) (IdHint id) hints (stored_hint store id line there) rest.ids;
    closing = λ p long meets.
        let variable = step_variable t x s search.steps at in
        let positive : 0 < s.lit.var = variable.0 in
        let upto : s.lit.var ≤ t.vars = variable.1 in
        subst (Conflicts p) (sym (named_id store id line hints there))
        (row_more (partial (cut t x)) p line (named (stored store) hints) s.lit (lines.normal id line there).merged forces
        (kept_below (set more x false) x back id given p line there (still_marked t more x (literals line.terms) marked) free meets) (omega arith)
        (λ q extends truth. rest.closing q (extends.as_long ∙ long) (record {
          at = λ k r here on low. elim (cases_eq k x) [
            | inl same ↦ subst (λ (l : Literal). partial_truth q l ≡ Some true) (ap (λ (u : Step). u.lit) (step_same t x k s r at here (sym same))) truth
            | inr apart ↦ truth_kept p q r.lit true extends (meets.at k r here (get_or-set_other more x k false false apart ∙ grows k on) low)
          ];
          besides = All-weaker (λ l. partial_truth p l ≡ Some true) (λ l. partial_truth q l ≡ Some true) (λ l. truth_kept p q l true extends) given meets.besides;
        })));
  }

  -- the conflict alone
  pub closing_start : (marks : List Bool) (given : List Literal) (id : ℕ) (line : ConstraintValue) → get store id ≡ Some line → slack (partial t) line <ℤ pos 0 → All (IsMarkedBefore t marks (length t.steps)) (literals line.terms) → IsClosing store t reach marks (length t.steps) given (IdHint id ∷ [])
  closing_start marks given id line there violated marked = record {
    ids = All-cons (IsStoredHint store) (IdHint id) [] (stored_hint store id line there) (All-nil (IsStoredHint store));
    closing = λ p long meets. subst (Conflicts p) (sym (named_id store id line [] there ∙ ap (λ (cs : List ConstraintValue). line ∷ cs) (named_none store)))
        (closes_last (partial t) p line violated (subst (λ (old : List (Option Bool)). KeepsFalse old p line) (whole_cut t) (kept_false marks (length t.steps) id given p line there marked meets)));
  }

  -- a line that forces a literal whose opposite is given
  pub closing_blame : (marks : List Bool) (end id : ℕ) (s : Step) (l : Literal) (line : ConstraintValue) → s.lit ≡ opposite l → get store id ≡ Some line → Forces (partial (cut t end)) line s.lit → All (IsMarkedBefore t marks end) (literals line.terms) → IsClosing store t reach marks end (l ∷ []) (IdHint id ∷ [])
  closing_blame marks end id s l line is there forces marked = record {
    ids = All-cons (IsStoredHint store) (IdHint id) [] (stored_hint store id line there) (All-nil (IsStoredHint store));
    closing = λ p long meets. subst (Conflicts p) (sym (named_id store id line [] there ∙ ap (λ (cs : List ConstraintValue). line ∷ cs) (named_none store)))
        (row_last (partial (cut t end)) p line s.lit forces (kept_false marks end id (l ∷ []) p line there marked meets)
        (opposite_false p s.lit (subst (λ (m : Literal). partial_truth p m ≡ Some true) (sym (opposite_back s.lit l is)) (meets.besides 0 l (omega arith)))));
  }

-- before a step below the top level there is none of that level
pub below_top : (store : LineMap) (t : TrailValue) (top x : ℕ) (s : Step) → IsSearchTrail store t → top ≡ last_level t.steps → IsStepAt t x s → s.level ≢ top → AreUnresolved t (Level top) x
unfolding is_resolved
below_top store t top x s search last at other p r before there = false_from_ne_true (nat_eq r.level top) (λ is.
    (let inside : x < length t.steps = slice_get_within t.steps x s at in
    let most : s.level ≤ last_level t.steps = upto_last t search.rising x s at in
    let rises : (get_or t.steps p s).level ≤ (get_or t.steps x s).level = search.rising p x s before inside in
    let low : r.level ≤ s.level = subst (λ (u : Step). u.level ≤ s.level) (read_at t p r s there) (subst (λ (u : Step). (get_or t.steps p s).level ≤ u.level) (read_at t x s s at) rises) in
    let same : r.level ≡ top = eqb-true r.level top is in
    omega arith))

-- the line that is a step's reason
pub reason_line : (store : LineMap) (t : TrailValue) (p : ℕ) (s : Step) → IsSearchTrail store t → IsStepAt t p s → s.reason ≢ 0 → get store s.reason ≡ None → ⊥
reason_line store t p s search at reason none =
    let forced = search.forced p s at reason in
    some_none (get store s.reason) forced.line forced.there none
  where
    some_none : (o : Option ConstraintValue) (c : ConstraintValue) → o ≡ Some c → o ≡ None → ⊥
    some_none o c some none = cc

pub reason_forces : (store : LineMap) (t : TrailValue) (p : ℕ) (s : Step) (line : ConstraintValue) → IsSearchTrail store t → IsStepAt t p s → s.reason ≢ 0 → get store s.reason ≡ Some line → Forces (partial (cut t p)) line s.lit
reason_forces store t p s line search at reason there =
    let forced = search.forced p s at reason in
    subst (λ (c : ConstraintValue). Forces (partial (cut t p)) c s.lit) (same_Some forced.line line (sym forced.there ∙ there)) forced.forces

-- the hint that was pushed last is the first from behind
pub pushed_first : (old new : List Hint) (id : ℕ) → new ≡ old ++ IdHint id ∷ [] → reverse new ≡ IdHint id ∷ reverse old
pushed_first old new id is = ap (λ (hs : List Hint). reverse hs) is ∙ reverse-append old (IdHint id ∷ [])

-- the line of a conflict is violated
pub violated_line : (store : LineMap) (t : TrailValue) (id : ℕ) (line : ConstraintValue) → IsConflict store t id → get store id ≡ Some line → slack (partial t) line <ℤ pos 0
violated_line store t id line conflict there = subst (λ (c : ConstraintValue). slack (partial t) c <ℤ pos 0) (same_Some conflict.line line (sym conflict.there ∙ there)) conflict.violated

pub with_reason : (s : Step) → s.reason ≢ 0 → is_resolved Decisions s ≡ true
unfolding is_resolved
with_reason s reason = ap (λ (b : Bool). not b) (false_from_ne_true (nat_eq s.reason 0) (λ is. reason (eqb-true s.reason 0 is)))

pub spare_none : (n : ℕ) → n + spare Decisions ≡ n
unfolding spare
spare_none n = omega arith

pub spare_one : (level n : ℕ) → n + spare (Level level) ≡ n + 1
unfolding spare
spare_one level n = refl
