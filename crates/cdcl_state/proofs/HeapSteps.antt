-- Who waits in a heap, and its order, as variables change places.
use Rattle.std.proofs.Common.{◌≡◌, ◌≢◌, ℕ, ◌-◌, ◌<◌, ◌≤◌, length, get_or, refl, arith, ap, sym, ◌∙◌, subst, ⊎_elim}
use Rattle.std.proofs.lemmas.Bool.{cases_eq}
use Rattle.std.proofs.lemmas.List.Edits.{Swapped, swapped_from_swap, length-swap}
use Rattle.cdcl_state.specs.Heap.{HeapValue, IsOrderedButAbove, IsOrderedButBelow, IsLesserParent, IsGreaterChild, SameHeap, key, swapped}
use Rattle.cdcl_state.proofs.HeapOrder.{risen, sunk}

pub vars_swapped : (h : HeapValue) (i j : ℕ) → i < length h.vars → j < length h.vars → Swapped (λ k. get_or h.vars k 0) (λ k. get_or (swapped h i j).vars k 0) i j
vars_swapped h i j in_i in_j = swapped_from_swap h.vars (swapped h i j).vars i j 0 in_i in_j refl

pub key_swapped : (h : HeapValue) (i j : ℕ) → i < length h.vars → j < length h.vars → Swapped (key h) (key (swapped h i j)) i j
key_swapped h i j in_i in_j =
    let s = vars_swapped h i j in_i in_j in
    let own = λ (v : ℕ). get_or h.activities (v - 1) 0 in
    (ap own s.0, ap own s.1, λ m not_i not_j. ap own (s.2 m not_i not_j))

-- a place of the exchanged list, for one of the list before, and the other way round
waits-swapped : (f g : ℕ → ℕ) (count i j : ℕ) → Swapped f g i j → i < count → j < count → (var : ℕ) → ((k : ℕ) × (k < count) × (f k ≡ var)) → (k : ℕ) × (k < count) × (g k ≡ var)
waits-swapped f g count i j s in_i in_j var w = ⊎_elim
    (λ (e : w.0 ≡ i). (j, in_j, s.1 ∙ sym (ap f e) ∙ w.2))
    (λ (not_i : w.0 ≢ i). ⊎_elim
    (λ (e : w.0 ≡ j). (i, in_i, s.0 ∙ sym (ap f e) ∙ w.2))
    (λ (not_j : w.0 ≢ j). (w.0, w.1, s.2 w.0 not_i not_j ∙ w.2))
    (cases_eq w.0 j))
    (cases_eq w.0 i)

swapped_back : (f g : ℕ → ℕ) (i j : ℕ) → Swapped f g i j → Swapped g f i j
swapped_back f g i j s = (sym s.1, sym s.0, λ m not_i not_j. sym (s.2 m not_i not_j))

pub same_heap : (h : HeapValue) → SameHeap h h
same_heap h = record { activities = refl; count = refl; kept = λ var w. w; only = λ var w. w }

pub same_twice : (g h k : HeapValue) → SameHeap g h → SameHeap h k → SameHeap g k
same_twice g h k s t = record {
  activities = t.activities ∙ s.activities;
  count = t.count ∙ s.count;
  kept = λ var w. t.kept var (s.kept var w);
  only = λ var w. s.only var (t.only var w);
}

pub same_swapped : (h : HeapValue) (i j : ℕ) → i < h.count → j < h.count → h.count ≤ length h.vars → SameHeap h (swapped h i j)
same_swapped h i j in_i in_j room =
    let s = vars_swapped h i j (omega arith) (omega arith) in record {
      activities = refl;
      count = refl;
      kept = waits-swapped (λ k. get_or h.vars k 0) (λ k. get_or (swapped h i j).vars k 0) h.count i j s in_i in_j;
      only = waits-swapped (λ k. get_or (swapped h i j).vars k 0) (λ k. get_or h.vars k 0) h.count i j (swapped_back (λ k. get_or h.vars k 0) (λ k. get_or (swapped h i j).vars k 0) i j s) in_i in_j;
    }

-- ---- a place that rises

pub record IsRising (old h : HeapValue) (at : ℕ) : Type 0 where
  pub within : at < h.count
  pub room : h.count ≤ length h.vars
  pub ordered : IsOrderedButAbove (key h) h.count at
  pub same : SameHeap old h

pub rising : (old h new : HeapValue) (at above : ℕ) → IsRising old h at → IsLesserParent (key h) at above → new ≡ swapped h at above → IsRising old new above
rising old h new at above r l is =
    let room = r.room in
    let within = r.within in
    let positive = l.positive in
    let below : above < h.count = omega (arith, l.is) in
    subst (λ (n : HeapValue). IsRising old n above) (sym is) (record {
      within = below;
      room = omega (arith, length-swap h.vars at above);
      ordered = risen (key h) (key (swapped h at above)) h.count at above (key_swapped h at above (omega arith) (omega arith)) within r.ordered l;
      same = same_twice old h (swapped h at above) r.same (same_swapped h at above within below room);
    })

-- ---- a place that sinks

pub record IsSinking (old h : HeapValue) (at : ℕ) : Type 0 where
  pub room : h.count ≤ length h.vars
  pub ordered : IsOrderedButBelow (key h) h.count at
  pub same : SameHeap old h

pub sinking : (old h new : HeapValue) (at child : ℕ) → IsSinking old h at → IsGreaterChild (key h) h.count at child → new ≡ swapped h at child → IsSinking old new child
sinking old h new at child r l is =
    let room = r.room in
    let below = l.within in
    let positive = l.positive in
    let within : at < h.count = omega (arith, l.is) in
    subst (λ (n : HeapValue). IsSinking old n child) (sym is) (record {
      room = omega (arith, length-swap h.vars at child);
      ordered = sunk (key h) (key (swapped h at child)) h.count at child (key_swapped h at child (omega arith) (omega arith)) within r.ordered l;
      same = same_twice old h (swapped h at child) r.same (same_swapped h at child within below room);
    })
