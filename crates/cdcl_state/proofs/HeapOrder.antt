-- The order of a heap, as a place rises or sinks.
use Rattle.std.proofs.Common.{◌≡◌, ◌≢◌, ℕ, zero, suc, ◌+◌, ◌/◌, ◌<◌, ◌≤◌, arith, ap, ◌∙◌, ⊎_elim}
use Rattle.std.proofs.lemmas.Bool.{cases_eq}
use Rattle.std.proofs.lemmas.List.Edits.{Swapped}
use Rattle.cdcl_state.specs.Heap.{IsOrdered, IsOrderedButAbove, IsOrderedButBelow, IsLesserParent, IsGreaterChild, parent}

parent-below : (k : ℕ) → 0 < k → parent k < k
parent-below k positive = omega arith

pub risen : (f g : ℕ → ℕ) (count at above : ℕ) → Swapped f g at above → at < count → IsOrderedButAbove f count at → IsLesserParent f at above → IsOrderedButAbove g count above
risen f g count at above s inside o l = record {
  others = λ k positive less ne. ⊎_elim
      (λ (e : k ≡ at). let e1 = ap g e in let e2 = ap (λ (q : ℕ). g (parent q)) e in let e3 = ap g l.is in omega (arith, s.0, s.1, l.less))
      (λ (not_at : k ≢ at).
      let same = s.2 k not_at ne in ⊎_elim
      (λ (e : parent k ≡ at). let e1 = ap g e in let e2 = ap f l.is in omega (arith, s.0, o.across k positive less e l.positive))
      (λ (apart : parent k ≢ at).
      let old = o.others k positive less not_at in ⊎_elim
      (λ (e : parent k ≡ above). let e1 = ap g e in let e2 = ap f e in omega (arith, s.1, l.less))
      (λ (other : parent k ≢ above). let e1 = s.2 (parent k) apart other in omega arith)
      (cases_eq (parent k) above))
      (cases_eq (parent k) at))
      (cases_eq k at);
  across = λ k positive less e up.
      let smaller : above < at = let p = parent-below at l.positive in omega (arith, l.is) in
      let higher = parent-below above up in
      let top : g (parent above) ≡ f (parent above) = s.2 (parent above) (λ (q : parent above ≡ at). omega arith) (λ (q : parent above ≡ above). omega arith) in
      let step = o.others above up (omega arith) (λ (q : above ≡ at). omega arith) in ⊎_elim
      (λ (here : k ≡ at). let e1 = ap g here in omega (arith, s.0))
      (λ (not_at : k ≢ at).
      let old = o.others k positive less not_at in
      let e1 = ap f e in
      let under = parent-below k positive in
      let e2 = s.2 k not_at (λ (q : k ≡ above). omega arith) in omega arith)
      (cases_eq k at);
}

pub sunk : (f g : ℕ → ℕ) (count at child : ℕ) → Swapped f g at child → at < count → IsOrderedButBelow f count at → IsGreaterChild f count at child → IsOrderedButBelow g count child
sunk f g count at child s inside o c = record {
  others = λ k positive less ne.
      let deeper = parent-below child c.positive in
      let up = parent-below k positive in ⊎_elim
      (λ (e : parent k ≡ at).
      let e1 = ap g e in ⊎_elim
      (λ (here : k ≡ child). let e2 = ap g here in omega (arith, s.0, s.1, c.more))
      (λ (other : k ≢ child).
      let same = s.2 k (λ (q : k ≡ at). omega arith) other in omega (arith, s.0, c.most k positive less e))
      (cases_eq k child))
      (λ (apart : parent k ≢ at).
      let old = o.others k positive less apart in
      let upper = s.2 (parent k) apart ne in ⊎_elim
      (λ (here : k ≡ at).
      let e1 = ap g here in
      let e2 = ap (λ (q : ℕ). f (parent q)) here in
      let e3 = o.across child c.positive c.within c.is (omega arith) in omega (arith, s.0))
      (λ (not_at : k ≢ at). ⊎_elim
      (λ (there : k ≡ child). absurd (apart (ap parent there ∙ c.is)))
      (λ (other : k ≢ child). let same = s.2 k not_at other in omega arith)
      (cases_eq k child))
      (cases_eq k at))
      (cases_eq (parent k) at);
  across = λ k positive less e up.
      let deeper = parent-below child c.positive in
      let under = parent-below k positive in
      let apart : parent k ≢ at = λ (q : parent k ≡ at). let d = c.is in omega arith in
      let old = o.others k positive less apart in
      let same = s.2 k (λ (q : k ≡ at). let d = c.is in omega arith) (λ (q : k ≡ child). omega arith) in
      let e1 = ap f e in
      let e2 = ap g c.is in omega (arith, s.0);
}

-- ---- a place more, a place less, and other activities

-- a place beyond the heap comes to its end
pub ordered_longer : (f g : ℕ → ℕ) (count place : ℕ) → Swapped f g place count → count ≤ place → IsOrdered f count → IsOrderedButAbove g (count + 1) count
ordered_longer f g count place s past o = record {
  others = λ k positive less ne.
      let under = parent-below k positive in
      let own = s.2 k (λ (e : k ≡ place). omega arith) ne in
      let upper = s.2 (parent k) (λ (e : parent k ≡ place). omega arith) (λ (e : parent k ≡ count). omega arith) in
      let old = o.below k positive (omega arith) in omega arith;
  across = λ k positive less e up. let under = parent-below k positive in absurd (omega arith);
}

-- the last place comes to the front, and is no more
pub ordered_shorter : (f g : ℕ → ℕ) (last : ℕ) → Swapped f g 0 last → IsOrdered f (last + 1) → IsOrderedButBelow g last 0
ordered_shorter f g last s o = record {
  others = λ k positive less ne.
      let under = parent-below k positive in
      let own = s.2 k (λ (e : k ≡ 0). omega arith) (λ (e : k ≡ last). omega arith) in
      let upper = s.2 (parent k) ne (λ (e : parent k ≡ last). omega arith) in
      let old = o.below k positive (omega arith) in omega arith;
  across = λ k positive less e up. absurd (omega arith);
}

-- no place has more than the front
front-most : (f : ℕ → ℕ) (count bound : ℕ) → IsOrdered f count → (k : ℕ) → k < bound → k < count → f k ≤ f 0
front-most f count zero o k less inside = absurd (omega arith)
front-most f count (suc bound) o k less inside = ⊎_elim
    (λ (e : k ≡ 0). let e1 = ap f e in omega arith)
    (λ (ne : k ≢ 0).
    let positive : 0 < k = omega arith in
    let under = parent-below k positive in
    let step = o.below k positive inside in
    let far = front-most f count bound o (parent k) (omega arith) (omega arith) in omega arith)
    (cases_eq k 0)

pub front_most : (f : ℕ → ℕ) (count : ℕ) → IsOrdered f count → (k : ℕ) → k < count → f k ≤ f 0
front_most f count o k inside = front-most f count (k + 1) o k (omega arith) inside

-- one place has more
pub ordered_raised : (f g : ℕ → ℕ) (count place : ℕ) → ((k : ℕ) → k < count → k ≢ place → g k ≡ f k) → f place ≤ g place → IsOrdered f count → IsOrderedButAbove g count place
ordered_raised f g count place same more o = record {
  others = λ k positive less ne.
      let under = parent-below k positive in
      let own = same k less ne in
      let old = o.below k positive less in ⊎_elim
      (λ (e : parent k ≡ place). let e1 = ap f e in let e2 = ap g e in omega arith)
      (λ (apart : parent k ≢ place). let upper = same (parent k) (omega arith) apart in omega arith)
      (cases_eq (parent k) place);
  across = λ k positive less e up.
      let under = parent-below k positive in
      let above = parent-below place up in
      let own = same k less (λ (q : k ≡ place). omega arith) in
      let old = o.below k positive less in
      let e1 = ap f e in
      let higher = o.below place up (omega arith) in
      let upper = same (parent place) (omega arith) (λ (q : parent place ≡ place). omega arith) in omega arith;
}

pub ordered_same : (f g : ℕ → ℕ) (count : ℕ) → ((k : ℕ) → k < count → g k ≡ f k) → IsOrdered f count → IsOrdered g count
ordered_same f g count same o = record {
  below = λ k positive less.
      let under = parent-below k positive in
      let own = same k less in
      let upper = same (parent k) (omega arith) in
      let old = o.below k positive less in omega arith;
}

pub ordered_halved : (f g : ℕ → ℕ) (count : ℕ) → ((k : ℕ) → g k ≡ f k / 2) → IsOrdered f count → IsOrdered g count
ordered_halved f g count half o = record {
  below = λ k positive less.
      let own = half k in
      let upper = half (parent k) in
      let old = o.below k positive less in omega arith;
}
