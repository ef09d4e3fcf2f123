-- Watched clauses under a trail: what the trail says of their literals, and what follows.
use Rattle.std.proofs.Common.{◌≡◌, ◌≢◌, ◌⊎◌, ℕ, ◌-◌, ◌<◌, ◌≤◌, Bool, true, false, not, if◌then◌else◌, Option, Some, None, List, length, get_or, refl, arith, ap, sym, subst, ◌∙◌, inl, inr}
use Rattle.std.specs.List.{Contains, swap}
use Rattle.std.specs.List.Sorted.{IsPermutation}
use Rattle.std.specs.Option.{option_map}
use Rattle.std.proofs.lemmas.Bool.{cases_eq}
use Rattle.std.proofs.lemmas.List.{get_or-map, length-map}
use Rattle.std.proofs.lemmas.List.Edits.{swapped_from_swap, length-swap}
use Rattle.std.proofs.lemmas.List.Elements.{Contains-get_or}
use Rattle.std.proofs.lemmas.List.Sorted.{IsPermutation-swap, IsPermutation-trans}
use Rattle.std.proofs.lemmas.Option.{get_or_from_slice_get, slice_get_within}
use Rattle.scut_base.specs.Literal.{Literal}
use Rattle.scut_base.specs.Assignment.{partial_truth}
use Rattle.pb_lin.specs.Constraint.{ConstraintValue, opposite, literals}
use Rattle.pb_lin.specs.LineMap.{LineMap}
use Rattle.pb_lin.specs.Propagation.{is_forced, IsClosedUnder}
use Rattle.clause_prop.specs.declared.step.Step.{Step}
use Rattle.watch_prop.specs.declared.watch_lists.Entry.{Entry}
use Rattle.watch_prop.specs.Slot.{Slot}
use Rattle.clause_prop.specs.LineKinds.{is_watched}
use Rattle.clause_prop.specs.Steps.{AreSteps, IsPlaceOf, assigned, last_level}
use Rattle.clause_prop.specs.Propagating.{IsConflict, IsForcedStep}
use Rattle.watch_prop.specs.Watching.{AreFalse, AreOthersFalse, HasTrue, IsKept, IsValue, clause_at, lits_of, no_literal, no_slot}
use Rattle.watch_prop.specs.Watches.{AreSlots}
use Rattle.clause_prop.proofs.Assigned.{assigned-at, assigned-found, index}
use Rattle.watch_prop.proofs.WatchLists.{contains_at, place_in, contains_take}
use Rattle.watch_prop.proofs.WatchedLines.{closed_by, first_forced, term_of, violated}

no_step : Step
no_step = record { lit = no_literal; level = 0; reason = 0 }

-- ---- what the trail says of a literal

-- a literal of the trail has its value
pub told_at : (n : ℕ) (steps : List Step) (m : Literal) → AreSteps n steps → Contains (lits_of steps) m → (0 < m.var) × (get_or (assigned n steps) (m.var - 1) None ≡ Some (not m.neg))
told_at n steps m are (k, below, at) =
    let within : k < length steps = omega (arith, below, length-map steps (λ s. s.lit)) in
    let is : (get_or steps k no_step).lit ≡ m = sym (get_or-map (λ s. s.lit) steps k no_step m within) ∙ at in
    let w = are.within k no_step within in
    subst (λ (l : Literal). (0 < l.var) × (get_or (assigned n steps) (l.var - 1) None ≡ Some (not l.neg))) is (w.0, assigned-at n steps k no_step are within)

pub consistent : (n : ℕ) (steps : List Step) (l : Literal) → AreSteps n steps → Contains (lits_of steps) l → Contains (lits_of steps) (opposite l) → ⊥
consistent n steps l are here there = clash l.neg (sym (told_at n steps l are here).1 ∙ (told_at n steps (opposite l) are there).1)
  where
    clash : (b : Bool) → Some (not b) ≡ Some (not (not b)) → ⊥
    clash true e = cc
    clash false e = cc

under_sign : (s b : Bool) → b ≡ not s → (if s then not b else b) ≡ true
under_sign true b e = ap not e
under_sign false b e = e

-- a true literal
pub true_of : (n : ℕ) (steps : List Step) (l : Literal) → AreSteps n steps → Contains (lits_of steps) l → partial_truth (assigned n steps) l ≡ Some true
true_of n steps l are among =
    ap (λ o. option_map (λ b. if l.neg then not b else b) o) (told_at n steps l are among).1 ∙ ap Some (under_sign l.neg (not l.neg) refl)

-- a false literal
pub false_of : (n : ℕ) (steps : List Step) (l : Literal) → AreSteps n steps → Contains (lits_of steps) (opposite l) → partial_truth (assigned n steps) l ≡ Some false
false_of n steps l are among =
    ap (λ o. option_map (λ b. if l.neg then not b else b) o) (told_at n steps (opposite l) are among).1 ∙ ap Some (twice l.neg)
  where
    twice : (s : Bool) → (if s then not (not (not s)) else not (not s)) ≡ false
    twice true = refl
    twice false = refl

-- what a value says
value_some : (n : ℕ) (steps : List Step) (v : ℕ) (neg b : Bool) → AreSteps n steps → Contains (lits_of steps) (record { var = v; neg = not b }) → IsValue (lits_of steps) (record { var = v; neg = neg }) (Some (if neg then not b else b))
value_some n steps v true true are h = (h, λ x. consistent n steps (record { var = v; neg = true }) are x h)
value_some n steps v true false are h = (h, λ x. consistent n steps (record { var = v; neg = true }) are h x)
value_some n steps v false true are h = (h, λ x. consistent n steps (record { var = v; neg = false }) are h x)
value_some n steps v false false are h = (h, λ x. consistent n steps (record { var = v; neg = false }) are x h)

-- the literal of a value that a place has
found_literal : (n : ℕ) (steps : List Step) (v : ℕ) (b : Bool) → AreSteps n steps → 0 < v → get_or (assigned n steps) (v - 1) None ≡ Some b → Contains (lits_of steps) (record { var = v; neg = not b })
found_literal n steps v b are positive is =
    let (k, within, at) = assigned-found n steps (v - 1) b no_step is in
    let s : Step = get_or steps k no_step in
    let w = are.within k no_step within in
    let var : s.lit.var ≡ v = omega (arith, w.0, at, positive) in
    let value : Some (not s.lit.neg) ≡ Some b = sym (assigned-at n steps k no_step are within) ∙ ap (λ (i : ℕ). get_or (assigned n steps) i None) at ∙ is in
    let sign : s.lit.neg ≡ not b = by_value s.lit.neg b value in
    let long : k < length (lits_of steps) = omega (arith, within, length-map steps (λ r. r.lit)) in
    let here : Contains (lits_of steps) s.lit = subst (Contains (lits_of steps)) (get_or-map (λ r. r.lit) steps k no_step no_literal within) (Contains-get_or (lits_of steps) k no_literal long) in
    subst (Contains (lits_of steps)) (ap (λ (x : ℕ). record { var = x; neg = s.lit.neg }) var ∙ ap (λ (x : Bool). record { var = v; neg = x }) sign) here
  where
    by_value : (s b : Bool) → Some (not s) ≡ Some b → s ≡ not b
    by_value true true e = cc
    by_value true false e = refl
    by_value false true e = refl
    by_value false false e = cc

pub value_of : (n : ℕ) (steps : List Step) (l : Literal) → AreSteps n steps → 0 < l.var → IsValue (lits_of steps) l (partial_truth (assigned n steps) l)
value_of n steps l are positive = by_value (get_or (assigned n steps) (l.var - 1) None) refl
  where
    none_of : (m : Literal) → m.var ≡ l.var → get_or (assigned n steps) (l.var - 1) None ≡ None → Contains (lits_of steps) m → ⊥
    none_of m var none among = cc (none, (told_at n steps m are among).1, ap (λ (v : ℕ). get_or (assigned n steps) (v - 1) None) var)

    by_value : (o : Option Bool) → get_or (assigned n steps) (l.var - 1) None ≡ o → IsValue (lits_of steps) l (option_map (λ b. if l.neg then not b else b) (get_or (assigned n steps) (l.var - 1) None))
    by_value None e = subst (λ o. IsValue (lits_of steps) l (option_map (λ b. if l.neg then not b else b) o)) (sym e) (none_of l refl e, none_of (opposite l) refl e)
    by_value (Some b) e = subst (λ o. IsValue (lits_of steps) l (option_map (λ b. if l.neg then not b else b) o)) (sym e) (value_some n steps l.var l.neg b are (found_literal n steps l.var b are positive e))

-- no step makes a literal false that isn't false
pub never_false : (n : ℕ) (steps : List Step) (l : Literal) → AreSteps n steps → (Contains (lits_of steps) (opposite l) → ⊥) → (p : ℕ) → p < length steps → get_or (lits_of steps) p no_literal ≢ opposite l
never_false n steps l are other p below e = other (contains_at (lits_of steps) p (opposite l) (omega (arith, below, length-map steps (λ s. s.lit))) e)

-- nor one before the step of its variable
pub before_place : (n : ℕ) (steps : List Step) (l : Literal) (k : ℕ) → AreSteps n steps → IsPlaceOf steps l.var k → (p : ℕ) → p < k → get_or (lits_of steps) p no_literal ≢ opposite l
before_place n steps l k are place p below e =
    let within : k < length steps = slice_get_within steps k place.step place.there in
    let at_p : (get_or steps p no_step).lit.var ≡ l.var = ap (λ (m : Literal). m.var) (sym (get_or-map (λ s. s.lit) steps p no_step no_literal (omega (arith, below, within))) ∙ e) in
    let at_k : (get_or steps k no_step).lit.var ≡ l.var = ap (λ (s : Step). s.lit.var) (get_or_from_slice_get steps k place.step no_step place.there) ∙ place.is in
    are.apart p k no_step below within (at_p ∙ sym at_k)

-- ---- clauses

-- all literals but the first are false, where the second one is, and those behind it
pub others_of_first : (clause trail : List Literal) (lit : Literal) → 2 ≤ length clause → get_or clause 1 no_literal ≡ lit → Contains trail (opposite lit) → AreFalse clause trail 2 → AreOthersFalse clause trail (get_or clause 0 no_literal)
others_of_first clause trail lit long second false_lit others = (
  0,
  omega (arith, long),
  refl,
  λ i other below. elim (cases_eq i 1) [
    | inl e ↦ subst (λ j. Contains trail (opposite (get_or clause j no_literal))) (sym e) (subst (λ m. Contains trail (opposite m)) (sym second) false_lit)
    | inr n ↦ others i (omega (arith, other, n)) below
  ],
)

-- where one of two literals is false, all others than the other one are
pub others_of_two : (clause trail : List Literal) (lit other : Literal) → length clause ≡ 2 → Contains clause lit → Contains clause other → other ≢ lit → Contains trail (opposite lit) → AreOthersFalse clause trail other
others_of_two clause trail lit other two lit_in other_in apart false_lit =
    let (p, p_in, p_is) = place_in clause lit lit_in in
    let (k, k_in, k_is) = place_in clause other other_in in
    let sides : k ≢ p = λ e. apart (sym k_is ∙ ap (λ i. get_or clause i no_literal) e ∙ p_is) in (
      k,
      k_in,
      k_is,
      λ i n below.
          let is : p ≡ i = omega (arith, two, p_in, k_in, below, sides, n) in
          subst (λ m. Contains trail (opposite m)) (sym p_is ∙ ap (λ j. get_or clause j no_literal) is) false_lit,
    )

pub all_false : (clause trail : List Literal) (l : Literal) → AreOthersFalse clause trail l → Contains trail (opposite l) → (i : ℕ) → i < length clause → Contains trail (opposite (get_or clause i no_literal))
all_false clause trail l (k, within, is, others) false_l i below = elim (cases_eq i k) [
  | inl e ↦ subst (λ m. Contains trail (opposite m)) (sym (ap (λ j. get_or clause j no_literal) e ∙ is)) false_l
  | inr n ↦ others i n below
]

-- a clause whose literals are all false is a conflict
pub conflict_at : (own : List Slot) (index : List ℕ) (lines : LineMap) (n : ℕ) (steps : List Step) (j : ℕ) (l : Literal) → AreSteps n steps → AreSlots own index lines → 2 ≤ length (clause_at own j) → AreOthersFalse (clause_at own j) (lits_of steps) l → Contains (lits_of steps) (opposite l) → IsConflict lines (record { vars = n; steps = steps }) (get_or own j no_slot).id
conflict_at own index lines n steps j l are slots long others false_l =
    let s = slots.stored j long in
    record {
      line = s.line;
      there = s.there;
      violated = violated (assigned n steps) s.line (clause_at own j) s.kind s.same (λ k below. false_of n steps _ are (all_false (clause_at own j) (lits_of steps) l others false_l k below));
    }

-- one whose literals but one are false forces that one: it is the first in another order
pub forced_at : (own : List Slot) (index : List ℕ) (lines : LineMap) (n : ℕ) (steps : List Step) (j : ℕ) (l : Literal) → AreSteps n steps → AreSlots own index lines → 2 ≤ length (clause_at own j) → AreOthersFalse (clause_at own j) (lits_of steps) l → partial_truth (assigned n steps) l ≡ None
    → IsForcedStep lines n steps (record { lit = l; level = last_level steps; reason = (get_or own j no_slot).id })
forced_at own index lines n steps j l are slots long (k, within, is, others) open_l =
    let s = slots.stored j long in
    let lits = clause_at own j in
    let new = swap lits 0 k in
    let moved = swapped_from_swap lits new 0 k no_literal (omega (arith, long)) within refl in
    let len : length new ≡ length lits = length-swap lits 0 k in
    let same : IsPermutation (literals s.line.terms) new = IsPermutation-trans _ _ _ s.same (IsPermutation-swap lits new 0 k (omega (arith, long)) within refl) in
    let first : get_or new 0 no_literal ≡ l = moved.0 ∙ is in
    let rest : (i : ℕ) → 1 ≤ i → i < length new → Contains (lits_of steps) (opposite (get_or new i no_literal)) = λ i from below. elim (cases_eq i k) [
      | inl e ↦ subst (λ m. Contains (lits_of steps) (opposite m)) (sym (ap (λ x. get_or new x no_literal) e ∙ moved.1)) (others 0 (λ f. absurd (omega (arith, from, e, f))) (omega (arith, long)))
      | inr m ↦ subst (λ m. Contains (lits_of steps) (opposite m)) (sym (moved.2 i (λ f. absurd (omega (arith, from, f))) m)) (others i m (omega (arith, below, len)))
    ] in
    let forced = first_forced (assigned n steps) s.line new s.kind same (omega (arith, long, len)) (ap (partial_truth (assigned n steps)) first ∙ open_l) (λ i from below. false_of n steps _ are (rest i from below)) in
    record {
      line = s.line;
      there = s.there;
      forces = record {
        term = (l, 1);
        among = term_of s.line lits l s.kind s.same (contains_at lits k l within is);
        literal = refl;
        forced = ap (λ (m : Literal). is_forced (assigned n steps) s.line (m, 1)) (sym first) ∙ forced;
      };
      level = refl;
    }

-- one with a true literal forces nothing
closed_true : (n : ℕ) (steps : List Step) (c : ConstraintValue) (lits : List Literal) → AreSteps n steps → is_watched c ≡ true → IsPermutation (literals c.terms) lits → HasTrue (lits_of steps) lits → IsClosedUnder (assigned n steps) c
closed_true n steps c lits are kind same (l, among, true_l) =
    let (i, within, at) = place_in lits l among in
    let here : partial_truth (assigned n steps) (get_or lits i no_literal) ≡ Some true = ap (partial_truth (assigned n steps)) at ∙ true_of n steps l are true_l in
    closed_by (assigned n steps) c lits kind same i within (λ e. cc (e, here)) (λ k below open_k. (i, λ e. cc (open_k, here, ap (λ (x : ℕ). partial_truth (assigned n steps) (get_or lits x no_literal)) e), within, λ e. cc (e, here)))

-- so does one whose first two literals aren't false
closed_two : (n : ℕ) (steps : List Step) (c : ConstraintValue) (lits : List Literal) → is_watched c ≡ true → IsPermutation (literals c.terms) lits → 2 ≤ length lits → partial_truth (assigned n steps) (get_or lits 0 no_literal) ≢ Some false → partial_truth (assigned n steps) (get_or lits 1 no_literal) ≢ Some false
    → IsClosedUnder (assigned n steps) c
closed_two n steps c lits kind same long first second =
    closed_by (assigned n steps) c lits kind same 0 (omega (arith, long)) first (λ k below open_k. elim (cases_eq k 0) [
      | inl e ↦ (1, (λ f. absurd (omega (arith, f, e))), omega (arith, long), second)
      | inr m ↦ (0, (λ f. m (sym f)), omega (arith, long), first)
    ])

false_or_not : (o : Option Bool) → (o ≡ Some false) ⊎ (o ≢ Some false)
false_or_not None = inr (λ e. cc)
false_or_not (Some true) = inr (λ e. cc)
false_or_not (Some false) = inl refl

-- where all steps were looked at, a clause is closed
pub closed_slot : (own : List Slot) (lists : List (List Entry)) (ends : List ℕ) (n : ℕ) (steps : List Step) (c : ConstraintValue) (j : ℕ) → IsKept own lists ends n (lits_of steps) → length ends ≡ length steps → AreSteps n steps → 2 ≤ length (clause_at own j) → is_watched c ≡ true → IsPermutation (literals c.terms) (clause_at own j)
    → ((l : Literal) → Contains (clause_at own j) l → 0 < l.var) → IsClosedUnder (assigned n steps) c
closed_slot own lists ends n steps c j kept all are long kind same positive =
    elim (false_or_not (partial_truth (assigned n steps) (get_or lits 0 no_literal))) [
      | inl e ↦ by_false 0 (omega (arith, long)) (inl refl) e
      | inr first ↦ elim (false_or_not (partial_truth (assigned n steps) (get_or lits 1 no_literal))) [
        | inl e ↦ by_false 1 (omega (arith, long)) (inr refl) e
        | inr second ↦ closed_two n steps c lits kind same long first second
      ]
    ]
  where
    lits : List Literal
    lits = clause_at own j

    said_false : (l : Literal) → 0 < l.var → partial_truth (assigned n steps) l ≡ Some false → Contains (lits_of steps) (opposite l)
    said_false l some e = (subst (IsValue (lits_of steps) l) e (value_of n steps l are some)).0

    by_false : (k : ℕ) → k < length lits → (get_or lits 0 no_literal ≡ get_or lits k no_literal) ⊎ (get_or lits 1 no_literal ≡ get_or lits k no_literal) → partial_truth (assigned n steps) (get_or lits k no_literal) ≡ Some false → IsClosedUnder (assigned n steps) c
    by_false k below which e =
        let l = get_or lits k no_literal in
        let (p, within, is) = place_in (lits_of steps) (opposite l) (said_false l (positive l (Contains-get_or lits k no_literal below)) e) in
        let looked : p < length ends = omega (arith, within, all, length-map steps (λ s. s.lit)) in
        let (m, among, true_m) = kept.settled j l p (long, which) looked is in
        closed_true n steps c lits are kind same (m, among, contains_take (get_or ends p 0) (lits_of steps) m true_m)
