-- What a walk's outcome is: a clause that forces a literal after a jump back, the blame for a literal, a refutation.
use Rattle.std.specs.Prelude.{◌≡◌, ◌≢◌, ℕ, ◌+◌, ◌<◌, ◌≤◌, ◌⊎◌, Bool, true, false, not, nat_eq, Option, Some, List, [], ◌∷◌, map, slice_get, All, Contains, refl}
use Rattle.std.proofs.Common.{sym, ◌∙◌, ap, subst, inl, inr, arith}
use Rattle.std.proofs.lemmas.Bool.{cases_Bool, eqb-true, eq-eqb, false_from_ne_true, true_from_ne_false}
use Rattle.std.proofs.lemmas.List.Elements.{All-nil, All-cons, All-map, All-weaker}
use Rattle.std.proofs.lemmas.Option.{slice_get_within}
use Rattle.scut_base.specs.Literal.{Literal}
use Rattle.scut_base.specs.Assignment.{partial_truth}
use Rattle.scut_base.proofs.Lists.{Contains-map}
use Rattle.pb_lin.specs.Constraint.{opposite}
use Rattle.pb_lin.specs.LineMap.{LineMap}
use Rattle.pb_lin.proofs.Ones.{AllPairs-map}
use Rattle.hint_rup.specs.Hints.{named}
use Rattle.hint_rup.specs.declared.hint.Hint.{Hint}
use Rattle.clause_prop.specs.declared.step.Step.{Step}
use Rattle.clause_prop.specs.Steps.{TrailValue, AreSteps, IsPlaceOf, last_level}
use Rattle.cdcl_trail.specs.SearchTrail.{IsSearchTrail, IsStepAt, IsUndecided}
use Rattle.cdcl_trail.specs.Learning.{AreHints, IsAsserting, IsFalseBy, stored}
use Rattle.cdcl_state.specs.Analysis.{IsDecided}
use Rattle.cdcl_state.specs.declared.reach.Reach.{Reach}
use Rattle.cdcl_state.specs.declared.reach.Reach.TheVariants.{Level, Decisions}
use Rattle.cdcl_state.specs.Walking.{AreVariables, IsAside, IsClosing, IsHighest, IsOutcome, IsWalk, is_resolved, said, spare}
use Rattle.cdcl_state.proofs.Collecting.{said_var}
use Rattle.cdcl_state.proofs.Negations.{negation_first}
use Rattle.cdcl_state.proofs.TrailSteps.{opposite_back, opposite_twice, place_same, read_at, step_same, step_variable, upto_last}

-- ---- what the tests say

pub of_level : (level : ℕ) (s : Step) → is_resolved (Level level) s ≡ true → s.level ≡ level
unfolding is_resolved
of_level level s is = eqb-true s.level level is

pub other_level : (level : ℕ) (s : Step) → is_resolved (Level level) s ≡ false → s.level ≢ level
unfolding is_resolved
other_level level s is same = let both : true ≡ false = sym (eq-eqb s.level level same) ∙ is in cc

pub unresolved_level : (level : ℕ) (s : Step) → s.level ≢ level → is_resolved (Level level) s ≡ false
unfolding is_resolved
unresolved_level level s other = false_from_ne_true (nat_eq s.level level) (λ is. other (eqb-true s.level level is))

pub no_reason : (s : Step) → is_resolved Decisions s ≡ false → s.reason ≡ 0
unfolding is_resolved
no_reason s is = eqb-true s.reason 0 (by_test (nat_eq s.reason 0) is)
  where
    by_test : (b : Bool) → not b ≡ false → b ≡ true
    by_test true e = refl
    by_test false e = cc

pub said_opposite : (level : ℕ) (l : Literal) → said (Level level) l ≡ opposite l
unfolding said
said_opposite level l = refl

pub said_same : (l : Literal) → said Decisions l ≡ l
unfolding said
said_same l = refl

-- ---- hints for an outcome

outcome_variables : (t : TrailValue) (reach : Reach) (marks : List Bool) (places : List ℕ) (more : Literal) (lits : List Literal) → AreSteps t.vars t.steps → (0 < more.var) × (more.var ≤ t.vars) → IsOutcome t reach marks places more lits → AreVariables t.vars lits
outcome_variables t reach marks places more lits are variable outcome =
    All-weaker (λ l. (l ≡ more) ⊎ IsAside t reach marks places l) (λ l. (0 < l.var) × (l.var ≤ t.vars)) (λ l either. elim either [
      | inl same ↦ subst (λ (m : Literal). (0 < m.var) × (m.var ≤ t.vars)) (sym same) variable
      | inr one ↦ subst (λ (n : ℕ). (0 < n) × (n ≤ t.vars)) (sym (ap (λ (m : Literal). m.var) one.is ∙ said_var reach one.step.lit)) (step_variable t one.place one.step are one.there)
    ]) lits outcome.others

module _ (store : LineMap) (t : TrailValue) (marks seen : List Bool) (places : List ℕ) (least : ℕ) (hints : List Hint) (lits : List Literal) where
  pub lesson_hints : (level : ℕ) (u : Step) → AreSteps t.vars t.steps → IsWalk t (Level level) marks seen places least → IsStepAt t least u → IsOutcome t (Level level) marks places (opposite u.lit) lits → IsClosing store t (Level level) marks (least + spare (Level level)) [] hints → AreHints store t.vars lits hints
  unfolding spare
  lesson_hints level u are walk at outcome closing = record {
    ids = closing.ids;
    conflict = negation_first t.vars lits (named (stored store) hints) (outcome_variables t (Level level) marks places (opposite u.lit) lits are (step_variable t least u are at) outcome) outcome.rising
        (λ p long known. closing.closing p long (record {
          at = λ k s there on low. elim (cases_Bool (is_resolved (Level level) s)) [
            | inl resolved ↦ (let after : least ≤ k = walk.above k s there resolved on in
                let before : k < least + 1 = low resolved in
                let here : k ≡ least = omega arith in
                subst (λ (l : Literal). partial_truth p l ≡ Some true) (opposite_twice u.lit ∙ ap (λ (x : Step). x.lit) (step_same t least k u s at there (sym here))) (known (opposite u.lit) outcome.among))
            | inr free ↦ subst (λ (l : Literal). partial_truth p l ≡ Some true) (opposite_twice s.lit)
                (known (opposite s.lit) (subst (Contains lits) (said_opposite level s.lit) (outcome.covers k s there (walk.all.are.listed k (walk.all.known k on)) on free)))
          ];
          besides = All-nil (λ l. partial_truth p l ≡ Some true);
        }));
  }

  pub blame_hints : (l : Literal) → AreSteps t.vars t.steps → (0 < l.var) × (l.var ≤ t.vars) → IsWalk t Decisions marks seen places least → IsOutcome t Decisions marks places l lits → IsClosing store t Decisions marks least (l ∷ []) hints → AreHints store t.vars (map opposite lits) hints
  blame_hints l are variable walk outcome closing = record {
    ids = closing.ids;
    conflict = negation_first t.vars (map opposite lits) (named (stored store) hints)
        (All-map (λ (m : Literal). (0 < m.var) × (m.var ≤ t.vars)) opposite lits (outcome_variables t Decisions marks places l lits are variable outcome))
        (AllPairs-map (λ (m n : Literal). m.var < n.var) opposite (λ m. m) lits outcome.rising)
        (λ p long known. closing.closing p long (record {
          at = λ k s there on low. elim (cases_Bool (is_resolved Decisions s)) [
            | inl resolved ↦ absurd (let after : least ≤ k = walk.above k s there resolved on in let before : k < least = low resolved in omega arith)
            | inr free ↦ told p known s.lit (subst (Contains lits) (said_same s.lit) (outcome.covers k s there (walk.all.are.listed k (walk.all.known k on)) on free))
          ];
          besides = All-cons (λ m. partial_truth p m ≡ Some true) l [] (told p known l outcome.among) (All-nil (λ m. partial_truth p m ≡ Some true));
        }));
  }
    where
      told : (p : List (Option Bool)) → ((m : Literal) → Contains (map opposite lits) m → partial_truth p (opposite m) ≡ Some true) → (m : Literal) → Contains lits m → partial_truth p m ≡ Some true
      told p known m among = subst (λ (x : Literal). partial_truth p x ≡ Some true) (opposite_twice m) (known (opposite m) (Contains-map opposite lits m among))

-- where nothing is decided
pub refuting_hints : (store : LineMap) (t : TrailValue) (marks seen : List Bool) (places : List ℕ) (least : ℕ) (hints : List Hint) → IsUndecided t → IsWalk t Decisions marks seen places least → IsClosing store t Decisions marks (least + spare Decisions) [] hints → AreHints store t.vars [] hints
unfolding spare
refuting_hints store t marks seen places least hints undecided walk closing = record {
  ids = closing.ids;
  conflict = negation_first t.vars [] (named (stored store) hints) (All-nil (λ l. (0 < l.var) × (l.var ≤ t.vars))) (λ i j d before within. absurd (omega (arith, within)))
      (λ p long known. closing.closing p long (record {
        at = λ k s there on low. absurd
            (let reason : s.reason ≢ 0 = subst (λ (x : Step). x.reason ≢ 0) (read_at t k s s there) (undecided k s (slice_get_within t.steps k s there)) in
            let resolved : is_resolved Decisions s ≡ true = true_from_ne_false (is_resolved Decisions s) (λ free. reason (no_reason s free)) in
            let after : least ≤ k = walk.above k s there resolved on in
            let before : k < least + 0 = low resolved in
            omega arith);
        besides = All-nil (λ l. partial_truth p l ≡ Some true);
      }));
}

-- ---- a clause that forces a literal after a jump back

pub lesson_asserting : (store : LineMap) (t : TrailValue) (marks seen : List Bool) (places : List ℕ) (least top level : ℕ) (u : Step) (lits : List Literal) → IsSearchTrail store t → top ≡ last_level t.steps → 0 < top → IsWalk t (Level top) marks seen places least → IsStepAt t least u → IsOutcome t (Level top) marks places (opposite u.lit) lits → IsHighest t marks places top level → IsAsserting t top level lits (opposite u.lit)
lesson_asserting store t marks seen places least top level u lits search last above walk at outcome highest = record {
  rising = outcome.rising;
  among = outcome.among;
  at_top = record { place = least; step = u; there = at; is = sym (opposite_twice u.lit); has = of_level top u (walk.resolved u at) };
  others = All-weaker (λ l. (l ≡ opposite u.lit) ⊎ IsAside t (Level top) marks places l) (λ l. (l ≡ opposite u.lit) ⊎ IsFalseBy t (λ s. s.level ≤ level) l) (λ l either. elim either [
    | inl same ↦ inl same
    | inr one ↦ inr (record {
      place = one.place;
      step = one.step;
      there = one.there;
      is = sym (opposite_back l one.step.lit (one.is ∙ said_opposite top one.step.lit));
      has = highest.most one.place one.step one.there one.among one.on (other_level top one.step one.unresolved);
    })
  ]) lits outcome.others;
  below = elim highest.reached [
    | inl none ↦ omega arith
    | inr found ↦ (let most : found.1.level ≤ last_level t.steps = upto_last t search.rising found.0 found.1 found.2 in
        let other : found.1.level ≢ top = found.5 in
        let same : found.1.level ≡ level = found.6 in
        omega arith)
  ];
  reached = elim highest.reached [
    | inl none ↦ inl none
    | inr found ↦ inr (
      opposite found.1.lit,
      subst (Contains lits) (said_opposite top found.1.lit) (outcome.covers found.0 found.1 found.2 found.3 found.4 (unresolved_level top found.1 found.5)),
      record { place = found.0; step = found.1; there = found.2; is = sym (opposite_twice found.1.lit); has = found.6 },
    )
  ];
}

-- ---- the blame for a literal

pub blamed : (t : TrailValue) (marks : List Bool) (places : List ℕ) (l : Literal) (lits : List Literal) → IsOutcome t Decisions marks places l lits → All (λ m. (m ≡ l) ⊎ IsDecided t m) lits
blamed t marks places l lits outcome = All-weaker (λ m. (m ≡ l) ⊎ IsAside t Decisions marks places m) (λ m. (m ≡ l) ⊎ IsDecided t m) (λ m either. elim either [
  | inl same ↦ inl same
  | inr one ↦ inr (one.place, one.step, one.there, no_reason one.step one.unresolved, sym (one.is ∙ said_same one.step.lit))
]) lits outcome.others

-- a step of another kind is of another variable
pub apart_from : (store : LineMap) (t : TrailValue) (reach : Reach) (p : ℕ) (u : Step) (l : Literal) → IsSearchTrail store t → IsStepAt t p u → is_resolved reach u ≡ true → l.var ≡ u.lit.var → (q : ℕ) (s : Step) → IsStepAt t q s → is_resolved reach s ≡ false → s.lit.var ≢ l.var
apart_from store t reach p u l search at resolved var q s there free same =
    let here : q ≡ p = place_same t q p s u search.steps there at (same ∙ var) in
    let both : true ≡ false = sym resolved ∙ ap (is_resolved reach) (step_same t p q u s at there (sym here)) ∙ free in
    cc

-- the step of a literal's variable is the one that makes it false
pub step_of_false : (t : TrailValue) (P : Step → Type 0) (l : Literal) (place : ℕ) → AreSteps t.vars t.steps → IsPlaceOf t.steps l.var place → (f : IsFalseBy t P l) → IsStepAt t place f.step
step_of_false t P l place are here f =
    let same : f.place ≡ place = place_same t f.place place f.step here.step are f.there here.there (ap (λ (m : Literal). m.var) f.is ∙ sym here.is) in
    ap (slice_get t.steps) (sym same) ∙ f.there
