-- Who waits in a heap, as variables come and go.
use Rattle.std.proofs.Common.{◌≡◌, ◌≢◌, ℕ, zero, suc, ◌+◌, ◌-◌, ◌/◌, ◌<◌, ◌≤◌, List, [], ◌∷◌, ◌++◌, length, get_or, set, map, replicate, get_or-set_other, get_or-set_same, refl, arith, ap, sym, ◌∙◌, subst, ⊎_elim, inl, inr}
use Rattle.std.proofs.lemmas.Bool.{cases_eq}
use Rattle.std.proofs.lemmas.List.{get_or_append_left, length-append, length-replicate}
use Rattle.cdcl_state.specs.Heap.{HeapValue, ArePlaces, CountsOn, IsAdded, IsExtended, IsGrownHeap, IsOrdered, IsOrderedButAbove, IsOrderedButBelow, IsRaised, IsTaken, IsWaitingFrom, SameHeap, Waits, key, swapped, with_count}
use Rattle.cdcl_state.proofs.HeapOrder.{front_most, ordered_halved, ordered_longer, ordered_raised, ordered_same, ordered_shorter}
use Rattle.cdcl_state.proofs.HeapSteps.{key_swapped, vars_swapped}

-- ---- a variable comes

pub wait_ordered : (h v : HeapValue) (place : ℕ) → v ≡ swapped h place h.count → h.count ≤ place → place < length h.vars → IsOrdered (key h) h.count → IsOrderedButAbove (key v) (h.count + 1) h.count
wait_ordered h v place is past inside o =
    subst (λ (u : HeapValue). IsOrderedButAbove (key u) (h.count + 1) h.count) (sym is)
    (ordered_longer (key h) (key (swapped h place h.count)) h.count place (key_swapped h place h.count inside (omega arith)) past o)

pub wait_added : (h v new : HeapValue) (place var : ℕ) → v ≡ swapped h place h.count → h.count ≤ place → place < length h.vars → get_or h.vars place 0 ≡ var → SameHeap (with_count v (h.count + 1)) new → IsAdded h new var
wait_added h v new place var is past inside own same =
    let t = subst (λ (u : HeapValue). SameHeap (with_count u (h.count + 1)) new) is same in
    let s = vars_swapped h place h.count inside (omega arith) in record {
      activities = t.activities;
      here = t.kept var (h.count, omega arith, s.1 ∙ own);
      kept = λ other w.
          let less = w.1 in
          t.kept other (w.0, omega arith, s.2 w.0 (λ (e : w.0 ≡ place). omega arith) (λ (e : w.0 ≡ h.count). omega arith) ∙ w.2);
      only = λ other w.
          let u = t.only other w in
          let less = u.1 in ⊎_elim
          (λ (e : u.0 ≡ h.count). inr (sym u.2 ∙ ap (λ (q : ℕ). get_or (swapped h place h.count).vars q 0) e ∙ s.1 ∙ own))
          (λ (ne : u.0 ≢ h.count). inl (u.0, omega arith, sym (s.2 u.0 (λ (e : u.0 ≡ place). omega arith) ne) ∙ u.2))
          (cases_eq u.0 h.count);
    }

-- ---- a variable goes

pub take_ordered : (h v : HeapValue) (last : ℕ) → v ≡ swapped h 0 last → h.count ≡ last + 1 → h.count ≤ length h.vars → IsOrdered (key h) h.count → IsOrderedButBelow (key v) last 0
take_ordered h v last is count room o =
    subst (λ (u : HeapValue). IsOrderedButBelow (key u) last 0) (sym is)
    (ordered_shorter (key h) (key (swapped h 0 last)) last (key_swapped h 0 last (omega arith) (omega arith)) (subst (IsOrdered (key h)) count o))

pub take_taken : (h v new : HeapValue) (last var : ℕ) → v ≡ swapped h 0 last → h.count ≡ last + 1 → h.count ≤ length h.vars → get_or h.vars 0 0 ≡ var → 0 < var → var ≤ length h.activities → IsOrdered (key h) h.count → SameHeap (with_count v last) new → IsTaken h new var
take_taken h v new last var is count room own positive within o same =
    let t = subst (λ (u : HeapValue). SameHeap (with_count u last) new) is same in
    let s = vars_swapped h 0 last (omega arith) (omega arith) in
    let value = λ (x : ℕ). get_or h.activities (x - 1) 0 in record {
      activities = t.activities;
      count = omega (arith, t.count);
      positive = positive;
      within = within;
      greatest = λ other w. let most = front_most (key h) h.count o w.0 w.1 in let e1 = ap value w.2 in let e2 = ap value own in omega arith;
      kept = λ other w apart.
          let less = w.1 in
          let not_front : w.0 ≢ 0 = λ (e : w.0 ≡ 0). apart (sym w.2 ∙ ap (λ (q : ℕ). get_or h.vars q 0) e ∙ own) in ⊎_elim
          (λ (e : w.0 ≡ last). t.kept other (0, omega arith, s.0 ∙ sym (ap (λ (q : ℕ). get_or h.vars q 0) e) ∙ w.2))
          (λ (ne : w.0 ≢ last). t.kept other (w.0, omega arith, s.2 w.0 not_front ne ∙ w.2))
          (cases_eq w.0 last);
      only = λ other w.
          let u = t.only other w in
          let less = u.1 in ⊎_elim
          (λ (e : u.0 ≡ 0). (last, omega arith, sym s.0 ∙ sym (ap (λ (q : ℕ). get_or (swapped h 0 last).vars q 0) e) ∙ u.2))
          (λ (ne : u.0 ≢ 0). (u.0, omega arith, sym (s.2 u.0 ne (λ (e : u.0 ≡ last). omega arith)) ∙ u.2))
          (cases_eq u.0 0);
    }

-- ---- an activity rises, or all are halved

abbrev pub raised : HeapValue → ℕ → ℕ → HeapValue
raised h var sum = record { activities = set h.activities (var - 1) sum; vars = h.vars; count = h.count; room = h.room }

raised-other : (h : HeapValue) (places : List ℕ) (var sum k : ℕ) → ArePlaces (length h.activities) h.vars places h.count → k < length h.activities → k ≢ get_or places (var - 1) 0 → key (raised h var sum) k ≡ key h k
raised-other h places var sum k are inside ne =
    get_or-set_other h.activities (var - 1) (get_or h.vars k 0 - 1) sum 0 (λ e. ne (sym (are.found k inside) ∙ ap (λ (v : ℕ). get_or places v 0) e))

pub raise_ordered : (h : HeapValue) (places : List ℕ) (var sum place : ℕ) → ArePlaces (length h.activities) h.vars places h.count → 0 < var → var ≤ length h.activities → place ≡ get_or places (var - 1) 0 → get_or h.activities (var - 1) 0 ≤ sum
    → IsOrdered (key h) h.count → IsOrderedButAbove (key (raised h var sum)) h.count place
raise_ordered h places var sum place are positive within is more o =
    let counted = are.counted in
    let own : get_or h.vars place 0 ≡ var = ap (λ (p : ℕ). get_or h.vars p 0) is ∙ are.there var positive within in
    let before : key h place ≡ get_or h.activities (var - 1) 0 = ap (λ (v : ℕ). get_or h.activities (v - 1) 0) own in
    let after : key (raised h var sum) place ≡ sum = ap (λ (v : ℕ). get_or (set h.activities (var - 1) sum) (v - 1) 0) own ∙ get_or-set_same h.activities (var - 1) sum 0 (omega arith) in
    ordered_raised (key h) (key (raised h var sum)) h.count place
    (λ k less ne. raised-other h places var sum k are (omega arith) (λ e. ne (e ∙ sym is))) (omega arith) o

pub raise_outside : (h : HeapValue) (places : List ℕ) (var sum place : ℕ) → ArePlaces (length h.activities) h.vars places h.count → place ≡ get_or places (var - 1) 0 → h.count ≤ place → IsOrdered (key h) h.count → IsOrdered (key (raised h var sum)) h.count
raise_outside h places var sum place are is past o =
    let counted = are.counted in
    ordered_same (key h) (key (raised h var sum)) h.count (λ k less. raised-other h places var sum k are (omega arith) (λ e. absurd (omega arith))) o

pub raise_whole : (h new : HeapValue) (var sum : ℕ) → SameHeap (raised h var sum) new → IsRaised h new var sum
raise_whole h new var sum same = record { activities = same.activities; kept = same.kept; only = same.only }

half_at : (xs : List ℕ) (i : ℕ) → get_or (map (λ a. a / 2) xs) i 0 ≡ get_or xs i 0 / 2
half_at [] i = refl
half_at (x ∷ xs) zero = refl
half_at (x ∷ xs) (suc i) = half_at xs i

pub halve_ordered : (activities halves vars : List ℕ) (count room : ℕ) → halves ≡ map (λ a. a / 2) activities → IsOrdered (key (record { activities = activities; vars = vars; count = count; room = room })) count → IsOrdered (key (record { activities = halves; vars = vars; count = count; room = room })) count
halve_ordered activities halves vars count room is o =
    ordered_halved (key (record { activities = activities; vars = vars; count = count; room = room })) (key (record { activities = halves; vars = vars; count = count; room = room })) count
    (λ k. ap (λ (xs : List ℕ). get_or xs (get_or vars k 0 - 1) 0) is ∙ half_at activities (get_or vars k 0 - 1)) o

-- ---- more variables

-- longer lists keep what is in front
pub extended : (h new : HeapValue) (places : List ℕ) (more : ℕ) → ArePlaces (length h.activities) h.vars places h.count → new.activities ≡ h.activities ++ replicate more 0 → CountsOn h.vars new.vars 1 more → new.count ≡ h.count → IsExtended h new more
extended h new places more are activities v count = record {
  activities = activities;
  ordered = λ o. subst (IsOrdered (key new)) (sym count) (ordered_same (key h) (key new) h.count same_key o);
  kept = λ var w. let less = w.1 in (w.0, omega arith, same_var w.0 less ∙ w.2);
  only = λ var w. let less : w.0 < h.count = let l = w.1 in omega arith in (w.0, less, sym (same_var w.0 less) ∙ w.2);
}
  where
    same_var : (k : ℕ) → k < h.count → get_or new.vars k 0 ≡ get_or h.vars k 0
    same_var k less = v.kept k (omega (arith, are.room, are.counted))

    same_key : (k : ℕ) → k < h.count → key new k ≡ key h k
    same_key k less =
        let inside : k < length h.activities = omega (arith, are.counted) in
        let one = are.positive k inside in
        let two = are.within k inside in
        ap (λ (x : ℕ). get_or new.activities (x - 1) 0) (same_var k less)
        ∙ ap (λ (xs : List ℕ). get_or xs (get_or h.vars k 0 - 1) 0) activities
        ∙ get_or_append_left h.activities (replicate more 0) 0 (get_or h.vars k 0 - 1) (omega arith)

pub waiting_more : (old h new : HeapValue) (known at : ℕ) → known ≤ at → IsWaitingFrom old h known at → IsAdded h new (at + 1) → IsWaitingFrom old new known (at + 1)
waiting_more old h new known at from w a = record {
  activities = a.activities ∙ w.activities;
  kept = λ var x. a.kept var (w.kept var x);
  fresh = λ var above below. ⊎_elim
      (λ (e : var ≡ at + 1). subst (Waits new) (sym e) a.here)
      (λ (ne : var ≢ at + 1). a.kept var (w.fresh var above (omega arith)))
      (cases_eq var (at + 1));
  only = λ var x. ⊎_elim
      (λ (before : Waits h var). ⊎_elim
      (λ (first : Waits old var). inl first)
      (λ (later : (known < var) × (var ≤ at)). let l = later.1 in inr (later.0, omega arith))
      (w.only var before))
      (λ (e : var ≡ at + 1). inr (omega arith, omega arith))
      (a.only var x);
}

pub grown : (old h new : HeapValue) (vars : ℕ) → IsExtended old h (vars - length old.activities) → IsWaitingFrom h new (length old.activities) (length h.activities) → IsGrownHeap old new vars
grown old h new vars e w =
    let long : length h.activities ≡ length old.activities + (vars - length old.activities) = ap length e.activities ∙ length-append old.activities (replicate (vars - length old.activities) 0) ∙ ap (λ (n : ℕ). length old.activities + n) (length-replicate {A = ℕ} (vars - length old.activities) 0) in record {
      activities = w.activities ∙ e.activities;
      kept = λ var x. w.kept var (e.kept var x);
      fresh = λ var above below. w.fresh var above (omega arith);
      only = λ var x. ⊎_elim
          (λ (before : Waits h var). inl (e.only var before))
          (λ (later : (length old.activities < var) × (var ≤ length h.activities)). let l = later.1 in let first = later.0 in inr (first, omega arith))
          (w.only var x);
    }

pub grown_from : (old h new : HeapValue) (vars known more : ℕ) → known ≡ length old.activities → more ≡ vars - known → IsExtended old h more → IsWaitingFrom h new known (length h.activities) → IsGrownHeap old new vars
grown_from old h new vars known more is rest e w =
    grown old h new vars (subst (IsExtended old h) (rest ∙ ap (λ (n : ℕ). vars - n) is) e) (subst (λ (n : ℕ). IsWaitingFrom h new n (length h.activities)) is w)
