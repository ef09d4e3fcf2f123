-- What marking a place keeps, and what it says of a literal.
use Rattle.std.specs.Prelude.{◌≡◌, ◌≢◌, ℕ, ◌+◌, ◌<◌, ◌≤◌, ◌⊎◌, Bool, true, false, not, None, List, [], ◌∷◌, ◌++◌, length, slice_get, All, Contains, refl}
use Rattle.std.proofs.Common.{zero, suc, sym, ◌∙◌, ap, subst, inl, inr, get_or, set, take, arith}
use Rattle.std.proofs.Math.Bool.{beq}
use Rattle.std.proofs.lemmas.Bool.{cases_eq}
use Rattle.std.proofs.lemmas.List.{get_or-set_same, get_or-set_other, length-set, get_or_default, take_all}
use Rattle.std.proofs.lemmas.List.Elements.{All-nil, All-push, All-more, All-weaker, Contains-push, Contains-append_left}
use Rattle.std.proofs.lemmas.List.Quantifiers.{all_pairs_push}
use Rattle.std.proofs.lemmas.Option.{slice_get_within}
use Rattle.scut_base.specs.Literal.{Literal}
use Rattle.scut_base.specs.Assignment.{partial_truth}
use Rattle.pb_lin.specs.Constraint.{opposite}
use Rattle.clause_prop.specs.declared.step.Step.{Step}
use Rattle.clause_prop.specs.Steps.{TrailValue, AreSteps, IsPlaceOf, partial}
use Rattle.cdcl_trail.specs.SearchTrail.{IsStepAt}
use Rattle.cdcl_state.specs.declared.reach.Reach.{Reach}
use Rattle.cdcl_state.specs.Walking.{AreMarks, AreSeen, AreUnresolved, IsClear, IsMarkedBefore, IsMore, IsWalk, is_marked, is_resolved}
use Rattle.cdcl_state.proofs.TrailSteps.{no_step, place_same, step_same}

marked_within : (marks : List Bool) (q : ℕ) → is_marked marks q ≡ true → q < length marks
marked_within [] q on = let e : false ≡ true = on in cc
marked_within (b ∷ bs) zero on = omega arith
marked_within (b ∷ bs) (suc q) on = let h : q < length bs = marked_within bs q on in omega arith

pub more_set : (marks : List Bool) (p : ℕ) → IsMore marks (set marks p true)
more_set marks p q on = elim (cases_eq q p) [
  | inl here ↦ ap (is_marked (set marks p true)) here ∙ get_or-set_same marks p true false (subst (λ (n : ℕ). n < length marks) here (marked_within marks q on))
  | inr apart ↦ get_or-set_other marks p q true false apart ∙ on
]

before_set : (marks : List Bool) (p q : ℕ) → q ≢ p → is_marked (set marks p true) q ≡ true → is_marked marks q ≡ true
before_set marks p q apart on = sym (get_or-set_other marks p q true false apart) ∙ on

pub are_marked : (n : ℕ) (marks : List Bool) (places : List ℕ) (p : ℕ) → AreMarks n marks places → n ≤ length marks → p < n → is_marked marks p ≡ false → AreMarks n (set marks p true) (places ++ p ∷ [])
are_marked n marks places p are long within off = record {
  listed = λ q on. elim (cases_eq q p) [
    | inl here ↦ subst (λ (k : ℕ). Contains (places ++ p ∷ []) k) (sym here) (Contains-push places p)
    | inr apart ↦ Contains-append_left places (p ∷ []) q (are.listed q (before_set marks p q apart on))
  ];
  on = All-push (λ q. is_marked (set marks p true) q ≡ true) places p
      (All-weaker (λ q. is_marked marks q ≡ true) (λ q. is_marked (set marks p true) q ≡ true) (λ q. more_set marks p q) places are.on)
      (get_or-set_same marks p true false (omega arith));
  apart = all_pairs_push (λ a b. a ≢ b) places p are.apart (λ k d inside same.
      (let on : is_marked marks (get_or places k d) ≡ true = are.on k d inside in
      let both : true ≡ false = sym on ∙ ap (is_marked marks) same ∙ off in
      cc));
  within = All-push (λ q. q < n) places p are.within within;
}

-- a mark that is put on a place that is seen
more_known : (marks seen : List Bool) (p : ℕ) → IsMore marks seen → is_marked seen p ≡ true → IsMore (set marks p true) seen
more_known marks seen p known there q on = elim (cases_eq q p) [
  | inl here ↦ ap (is_marked seen) here ∙ there
  | inr apart ↦ known q (before_set marks p q apart on)
]

fewer : (marks : List Bool) (p q : ℕ) → is_marked (set marks p false) q ≡ true → is_marked marks q ≡ true
fewer marks p q on = elim (cases_eq q p) [
  | inl here ↦ absurd (off here)
  | inr apart ↦ sym (get_or-set_other marks p q false false apart) ∙ on
]
  where
    off : q ≡ p → ⊥
    off here =
        let inside : q < length (set marks p false) = marked_within (set marks p false) q on in
        let low : p < length marks = omega (arith, inside, length-set marks p false) in
        let clear : is_marked (set marks p false) p ≡ false = get_or-set_same marks p false false low in
        let both : true ≡ false = sym on ∙ ap (is_marked (set marks p false)) here ∙ clear in
        cc

module _ (t : TrailValue) (reach : Reach) (marks seen more : List Bool) (places list : List ℕ) (least : ℕ) (walk : IsWalk t reach marks seen places least) (are : AreMarks (length t.steps) more list) (grows : IsMore seen more) (same : length more ≡ length seen) where
  -- one place more is listed
  pub walk_listed : IsWalk t reach marks more list least
  walk_listed = record {
    all = record {
      are = are;
      known = λ p on. grows p (walk.all.known p on);
      long = walk.all.long;
      room = omega (arith, walk.all.room);
    };
    above = walk.above;
    resolved = walk.resolved;
  }

  -- and marked
  pub walk_marked : (p : ℕ) (s : Step) (low : ℕ) → is_marked more p ≡ true → IsStepAt t p s → low ≤ least → (is_resolved reach s ≡ true → low ≤ p) → (low ≡ least) ⊎ ((low ≡ p) × (is_resolved reach s ≡ true))
      → IsWalk t reach (set marks p true) more list low
  walk_marked p s low there at falls reached one_of = record {
    all = record {
      are = are;
      known = more_known marks more p (λ q on. grows q (walk.all.known q on)) there;
      long = omega (arith, length-set marks p true, walk.all.long);
      room = omega (arith, length-set marks p true, walk.all.room);
    };
    above = λ q r here resolved on. elim (cases_eq q p) [
      | inl is ↦ (let one : r ≡ s = step_same t q p r s here at is in
          let low_p : low ≤ p = reached (ap (is_resolved reach) (sym one) ∙ resolved) in
          omega arith)
      | inr apart ↦ (let before : least ≤ q = walk.above q r here resolved (before_set marks p q apart on) in omega arith)
    ];
    resolved = λ r here. elim one_of [
      | inl is ↦ walk.resolved r (ap (slice_get t.steps) (sym is) ∙ here)
      | inr is ↦ ap (is_resolved reach) (step_same t low p r s here at is.0) ∙ is.1
    ];
  }

-- a mark is taken off
pub walk_unmarked : (t : TrailValue) (reach : Reach) (marks seen : List Bool) (places : List ℕ) (least p : ℕ) → IsWalk t reach marks seen places least → IsWalk t reach (set marks p false) seen places least
walk_unmarked t reach marks seen places least p walk = record {
  all = record {
    are = walk.all.are;
    known = λ q on. walk.all.known q (fewer marks p q on);
    long = omega (arith, length-set marks p false, walk.all.long);
    room = omega (arith, length-set marks p false, walk.all.room);
  };
  above = λ q s at resolved on. walk.above q s at resolved (fewer marks p q on);
  resolved = walk.resolved;
}

-- where the walk resolves no step before a place, a mark before it lowers nothing
pub least_stays : (t : TrailValue) (reach : Reach) (end p least low : ℕ) (s : Step) → p < end → IsStepAt t p s → (low ≡ least) ⊎ ((low ≡ p) × (is_resolved reach s ≡ true)) → AreUnresolved t reach end → low ≡ least
least_stays t reach end p least low s before at one_of free = elim one_of [
  | inl is ↦ is
  | inr is ↦ absurd (let both : true ≡ false = sym is.1 ∙ free p s before at in cc)
]

module _ (t : TrailValue) (marks : List Bool) (end : ℕ) (l : Literal) (are : AreSteps t.vars t.steps) where
  pub marked_open : partial_truth (partial t) l ≡ None → IsMarkedBefore t marks end l
  marked_open none p s before there is = absurd (no_step t l p s are none there (ap (λ (m : Literal). m.var) is))

  -- only the step of its variable can make a literal false
  marked_there : (place : ℕ) → IsPlaceOf t.steps l.var place → ((s : Step) → IsStepAt t place s → place < end → s.lit ≡ opposite l → is_marked marks place ≡ true) → IsMarkedBefore t marks end l
  marked_there place here marked p s before there is =
      let same : p ≡ place = place_same t p place s here.step are there here.there (ap (λ (m : Literal). m.var) is ∙ sym here.is) in
      ap (is_marked marks) same ∙ marked s (ap (slice_get t.steps) (sym same) ∙ there) (omega arith) is

  pub marked_at : (place : ℕ) → IsPlaceOf t.steps l.var place → is_marked marks place ≡ true → IsMarkedBefore t marks end l
  marked_at place here on = marked_there place here (λ s there before is. on)

  pub marked_late : (place : ℕ) → IsPlaceOf t.steps l.var place → end ≤ place → IsMarkedBefore t marks end l
  marked_late place here late = marked_there place here (λ s there before is. absurd (omega arith))

  pub marked_true : (place : ℕ) (s : Step) → IsPlaceOf t.steps l.var place → IsStepAt t place s → s.lit.neg ≡ l.neg → IsMarkedBefore t marks end l
  marked_true place s here at sign = marked_there place here (λ r there before is.
      absurd (clash l.neg (sym sign ∙ ap (λ (x : Step). x.lit.neg) (step_same t place place s r at there refl) ∙ ap (λ (m : Literal). m.neg) is)))
    where
      clash : (b : Bool) → b ≡ not b → ⊥
      clash true e = cc
      clash false e = cc

pub place_within : (t : TrailValue) (v place : ℕ) → IsPlaceOf t.steps v place → place < length t.steps
place_within t v place here = slice_get_within t.steps place here.step here.there

pub more_marked : (t : TrailValue) (marks more : List Bool) (end : ℕ) → IsMore marks more → (l : Literal) → IsMarkedBefore t marks end l → IsMarkedBefore t more end l
more_marked t marks more end grows l marked p s before there is = grows p (marked p s before there is)

-- the next of the literals
pub marked_step : (t : TrailValue) (marks more : List Bool) (end : ℕ) (lits items : List Literal) (i : ℕ) (l : Literal) → items ≡ lits → i < length items → l ≡ get_or items i l → IsMore marks more → All (IsMarkedBefore t marks end) (take i lits) → IsMarkedBefore t more end l → All (IsMarkedBefore t more end) (take (i + 1) lits)
marked_step t marks more end lits items i l same within is grows before here =
    let inside : i < length lits = subst (λ (ls : List Literal). i < length ls) same within in
    let read : l ≡ get_or lits i l = is ∙ ap (λ (ls : List Literal). get_or ls i l) same in
    All-more (IsMarkedBefore t more end) lits i l inside (All-weaker (IsMarkedBefore t marks end) (IsMarkedBefore t more end) (more_marked t marks more end grows) (take i lits) before) (subst (IsMarkedBefore t more end) read here)

pub marked_all : (t : TrailValue) (marks : List Bool) (end : ℕ) (lits items : List Literal) (i : ℕ) → items ≡ lits → length items ≤ i → All (IsMarkedBefore t marks end) (take i lits) → All (IsMarkedBefore t marks end) lits
marked_all t marks end lits items i same past before =
    let far : length lits ≤ i = subst (λ (ls : List Literal). length ls ≤ i) same past in
    subst (λ (ls : List Literal). All (IsMarkedBefore t marks end) ls) (take_all i lits far) before

pub mark_read : (marks : List Bool) (i : ℕ) (b : Bool) → i < length marks → b ≡ get_or marks i b → is_marked marks i ≡ b
mark_read marks i b within read = get_or_default marks i false b within ∙ sym read

pub beq_is : (a b : Bool) → beq a b ≡ true → a ≡ b
beq_is true true e = refl
beq_is true false e = cc
beq_is false true e = cc
beq_is false false e = refl

-- what holds of all holds of one that was read
pub read_one : (P : Literal → Type 0) (lits items : List Literal) (i : ℕ) (l : Literal) → All P lits → items ≡ lits → i < length items → l ≡ get_or items i l → P l
read_one P lits items i l each same within is =
    subst P (sym (is ∙ ap (λ (ls : List Literal). get_or ls i l) same)) (each i l (subst (λ (ls : List Literal). i < length ls) same within))

-- before the walk nothing is marked
pub seen_start : (n : ℕ) (marks seen : List Bool) (places : List ℕ) → IsClear marks → IsClear seen → places ≡ [] → length marks ≤ length seen → n ≤ length marks → AreSeen n marks seen places
seen_start n marks seen places clear unseen none room long = subst (λ (ps : List ℕ). AreSeen n marks seen ps) (sym none) (record {
  are = record {
    listed = λ p on. absurd (let both : true ≡ false = sym on ∙ unseen p in cc);
    on = All-nil (λ p. is_marked seen p ≡ true);
    apart = λ i j d before inside. absurd (omega (arith, inside));
    within = All-nil (λ p. p < n);
  };
  known = λ p on. absurd (let both : true ≡ false = sym on ∙ clear p in cc);
  long = long;
  room = room;
})

pub walk_start : (t : TrailValue) (reach : Reach) (marks seen : List Bool) (places : List ℕ) (least : ℕ) → IsClear marks → AreSeen (length t.steps) marks seen places → ((s : Step) → IsStepAt t least s → is_resolved reach s ≡ true) → IsWalk t reach marks seen places least
walk_start t reach marks seen places least clear all resolved = record {
  all = all;
  above = λ p s at res on. absurd (let both : true ≡ false = sym on ∙ clear p in cc);
  resolved = resolved;
}
