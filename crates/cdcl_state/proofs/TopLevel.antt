-- A conflict has a literal that a step of the highest level makes false, since the steps before that level's decision are closed.
use Rattle.std.specs.Prelude.{◌≡◌, ◌≢◌, ℕ, ◌+◌, ◌-◌, ◌<◌, ◌≤◌, ◌⊎◌, Bool, true, false, not, if◌then◌else◌, Option, Some, None, option_map, List, [], ◌∷◌, take, length, sum_by, All, Contains, pos, ◌≤ℤ◌, ◌<ℤ◌, refl}
use Rattle.std.specs.FinMap.{get}
use Rattle.std.proofs.Common.{zero, suc, sym, ◌∙◌, ap, subst, inl, inr, get_or, arith}
use Rattle.std.proofs.lemmas.Int.{ints}
use Rattle.std.proofs.lemmas.Bool.{cases_eq, cases_lt, eq-eqb}
use Rattle.std.proofs.lemmas.List.{get_or-take, length-take}
use Rattle.std.proofs.lemmas.List.Elements.{All-nil, All-cons, All-head, All-tail, All-contains}
use Rattle.std.proofs.lemmas.Option.{slice_get_within}
use Rattle.scut_base.specs.Literal.{Literal}
use Rattle.scut_base.specs.Assignment.{partial_truth}
use Rattle.scut_base.proofs.Lists.{Contains-cons, Contains-head}
use Rattle.pb_lin.specs.Constraint.{ConstraintValue, literals, opposite, possible_value, slack}
use Rattle.pb_lin.specs.LineMap.{LineMap}
use Rattle.clause_prop.specs.declared.step.Step.{Step}
use Rattle.clause_prop.specs.Steps.{TrailValue, AreSteps, cut, last_level, partial}
use Rattle.clause_prop.proofs.Assigned.{assigned-at}
use Rattle.cdcl_trail.specs.SearchTrail.{AreLines, IsSearchTrail, IsStepAt}
use Rattle.cdcl_state.specs.declared.reach.Reach.{Reach}
use Rattle.cdcl_state.specs.declared.reach.Reach.TheVariants.{Level, Decisions}
use Rattle.cdcl_state.specs.Walking.{IsAbove, IsMarkedBefore, IsWalk, is_resolved, spare}
use Rattle.cdcl_state.proofs.Rows.{less}
use Rattle.cdcl_state.proofs.TrailSteps.{are_front, false_before, last_step, read_at, step_same, true_of_opposite, upto_last, whole_cut}

-- a step before a place makes its literal true
true_before : (t : TrailValue) (end p : ℕ) (s : Step) → AreSteps t.vars t.steps → p < end → IsStepAt t p s → partial_truth (partial (cut t end)) s.lit ≡ Some true
true_before t end p s are before at =
    let within : p < length t.steps = slice_get_within t.steps p s at in
    let inside : p < length (take end t.steps) = omega (arith, length-take end t.steps) in
    let read : get_or (take end t.steps) p s ≡ s = get_or-take end t.steps p s before ∙ read_at t p s s at in
    let told : get_or (partial (cut t end)) (s.lit.var - 1) None ≡ Some (not s.lit.neg) =
    subst (λ (r : Step). get_or (partial (cut t end)) (r.lit.var - 1) None ≡ Some (not r.lit.neg)) read (assigned-at t.vars (take end t.steps) p s (are_front t.vars end t.steps are) inside) in
    ap (λ (o : Option Bool). option_map (λ b. if s.lit.neg then not b else b) o) told ∙ ap Some (signed s.lit.neg)
  where
    signed : (b : Bool) → (if b then not (not b) else not b) ≡ true
    signed true = refl
    signed false = refl

-- the decision that begins a level
record IsBegin (t : TrailValue) (level : ℕ) : Type 0 where
  place : ℕ
  step : Step
  there : IsStepAt t place step
  none : step.reason ≡ 0
  at : step.level ≡ level

begin_of : (store : LineMap) (t : TrailValue) → IsSearchTrail store t → (n p : ℕ) (s : Step) → p < n → IsStepAt t p s → 0 < s.level → IsBegin t s.level
begin_of store t search zero p s within at above = absurd (omega arith)
begin_of store t search (suc n) p s within at above = elim (cases_eq s.reason 0) [
  | inl none ↦ record { place = p; step = s; there = at; none = none; at = refl }
  | inr some ↦ elim (search.forced p s at some).level [
    | inl bottom ↦ absurd (omega arith)
    | inr b ↦ (let before : b.0 < p = b.2 in
        let same : b.1.level ≡ s.level = b.4 in
        subst (IsBegin t) same (begin_of store t search n b.0 b.1 (omega arith) b.3 (omega arith)))
  ]
]

-- a literal of the terms that a step of the level makes false
pub record IsTopFalse (t : TrailValue) (top : ℕ) (terms : List (Literal × ℕ)) : Type 0 where
  pub lit : Literal
  pub among : Contains (literals terms) lit
  pub place : ℕ
  pub step : Step
  pub there : IsStepAt t place step
  pub is : step.lit ≡ opposite lit
  pub at : step.level ≡ top

module _ (store : LineMap) (t : TrailValue) (search : IsSearchTrail store t) (top : ℕ) (most : (p : ℕ) (s : Step) → IsStepAt t p s → s.level ≤ top) (d : IsBegin t top) where
  not_after : (q : ℕ) (s : Step) → IsStepAt t q s → s.level ≢ top → d.place ≤ q → ⊥
  not_after q s at other after = elim (cases_eq d.place q) [
    | inl here ↦ other (ap (λ (x : Step). x.level) (step_same t q d.place s d.step at d.there (sym here)) ∙ d.at)
    | inr apart ↦
        (let before : d.place < q = omega arith in
        let pair : (get_or t.steps d.place s).level ≤ (get_or t.steps q s).level = search.rising d.place q s before (slice_get_within t.steps q s at) in
        let one : (get_or t.steps d.place s).level ≡ d.step.level = ap (λ (x : Step). x.level) (read_at t d.place d.step s d.there) in
        let two : (get_or t.steps q s).level ≡ s.level = ap (λ (x : Step). x.level) (read_at t q s s at) in
        let low : s.level ≤ top = most q s at in
        let begins : d.step.level ≡ top = d.at in
        other (omega arith))
  ]

  abbrev Stays : Literal × ℕ → Type 0
  Stays u = partial_truth (partial t) u.0 ≡ Some false → partial_truth (partial (cut t d.place)) u.0 ≡ Some false

  -- a false literal is so by a step of the level, or before its decision
  by_level : (u : Literal × ℕ) (us : List (Literal × ℕ)) → 0 < u.0.var → partial_truth (partial t) u.0 ≡ Some false → IsTopFalse t top (u ∷ us) ⊎ (partial_truth (partial (cut t d.place)) u.0 ≡ Some false)
  by_level u us positive is =
      let whole : partial_truth (partial (cut t (length t.steps))) u.0 ≡ Some false = ap (λ (p : List (Option Bool)). partial_truth p u.0) (whole_cut t) ∙ is in
      let b = false_before t (length t.steps) u.0 search.steps positive whole in
      elim (cases_eq b.step.level top) [
        | inl same ↦ inl (record { lit = u.0; among = Contains-head u.0 (literals us); place = b.place; step = b.step; there = b.there; is = b.is; at = same })
        | inr other ↦ elim (cases_lt b.place d.place) [
          | inl before ↦ inr (true_of_opposite (partial (cut t d.place)) b.step.lit u.0 b.is (true_before t d.place b.place b.step search.steps before b.there))
          | inr after ↦ absurd (not_after b.place b.step b.there other after)
        ]
      ]

  by_truth : (u : Literal × ℕ) (us : List (Literal × ℕ)) → 0 < u.0.var → (o : Option Bool) → partial_truth (partial t) u.0 ≡ o → IsTopFalse t top (u ∷ us) ⊎ Stays u
  by_truth u us positive None is = inr (λ false_too. (let both : None ≡ Some false = sym is ∙ false_too in cc))
  by_truth u us positive (Some true) is = inr (λ false_too. (let both : Some true ≡ Some false = sym is ∙ false_too in cc))
  by_truth u us positive (Some false) is = elim (by_level u us positive is) [ inl found ↦ inl found | inr before ↦ inr (λ false_too. before) ]

  scan : (terms : List (Literal × ℕ)) → All (λ u. 0 < u.0.var) terms → IsTopFalse t top terms ⊎ All Stays terms
  scan [] each = inr (All-nil Stays)
  scan (u ∷ us) each = elim (by_truth u us (All-head (λ (x : Literal × ℕ). 0 < x.0.var) u us each) (partial_truth (partial t) u.0) refl) [
    | inl found ↦ inl found
    | inr first ↦ elim (scan us (All-tail (λ (x : Literal × ℕ). 0 < x.0.var) u us each)) [
      | inl later ↦ inl (record { lit = later.lit; among = Contains-cons u.0 later.lit (literals us) later.among; place = later.place; step = later.step; there = later.there; is = later.is; at = later.at })
      | inr rest ↦ inr (All-cons Stays u us first rest)
    ]
  ]

pub conflict_level : (store : LineMap) (t : TrailValue) (id : ℕ) (line : ConstraintValue) → AreLines t.vars store → IsSearchTrail store t → get store id ≡ Some line → slack (partial t) line <ℤ pos 0 → 0 < last_level t.steps → IsTopFalse t (last_level t.steps) line.terms
conflict_level store t id line lines search there violated above =
    let top = last_level t.steps in
    let some = last_step t above in
    let same : some.step.level ≡ top = some.at in
    let d : IsBegin t top = subst (IsBegin t) same (begin_of store t search (length t.steps) some.place some.step (slice_get_within t.steps some.place some.step some.there) some.there (omega arith)) in
    elim (scan store t search top (λ p s at. upto_last t search.rising p s at) d line.terms (lines.normal id line there).merged.from_one) [
      | inl found ↦ found
      | inr stay ↦ absurd
          (let closed : pos 0 ≤ℤ slack (partial (cut t d.place)) line = ((search.decided d.place d.step d.there d.none).closed id line there).possible in
          let fewer : sum_by (possible_value (partial (cut t d.place))) line.terms ≤ sum_by (possible_value (partial t)) line.terms = less (partial t) (partial (cut t d.place)) line.terms stay in
          omega (arith, ints))
    ]

-- what the walk leaves at the end is there
pub least_within : (store : LineMap) (t : TrailValue) (reach : Reach) (marks seen : List Bool) (places : List ℕ) (least id : ℕ) (line : ConstraintValue) → AreLines t.vars store → IsSearchTrail store t → IsAbove t reach → IsWalk t reach marks seen places least → least ≤ length t.steps
    → get store id ≡ Some line → slack (partial t) line <ℤ pos 0 → All (IsMarkedBefore t marks (length t.steps)) (literals line.terms) → least + spare reach ≤ length t.steps
unfolding is_resolved spare
least_within store t (Level level) marks seen places least id line lines search above walk within there violated marked =
    let top : level ≡ last_level t.steps = above.0 in
    let high : 0 < level = above.1 in
    let found = conflict_level store t id line lines search there violated (omega arith) in
    let inside : found.place < length t.steps = slice_get_within t.steps found.place found.step found.there in
    let on = All-contains (IsMarkedBefore t marks (length t.steps)) (literals line.terms) found.lit marked found.among found.place found.step inside found.there found.is in
    let level_is : found.step.level ≡ level = found.at ∙ sym top in
    let low : least ≤ found.place = walk.above found.place found.step found.there (eq-eqb found.step.level level level_is) on in
    omega arith
least_within store t Decisions marks seen places least id line lines search above walk within there violated marked = omega arith
