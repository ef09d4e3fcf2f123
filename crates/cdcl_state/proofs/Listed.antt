-- Lists of places that grow, and the next of those that wait in a heap.
use Rattle.std.specs.Prelude.{◌≡◌, ℕ, ◌+◌, ◌-◌, ◌<◌, ◌≤◌, ◌⊎◌, Bool, true, List, [], ◌∷◌, ◌++◌, length, All, Contains}
use Rattle.std.proofs.Common.{sym, ◌∙◌, ap, subst, inl, inr, take, drop, get_or, arith, append-nil, append_assoc, length-drop}
use Rattle.std.specs.List.Sorted.{IsPermutation}
use Rattle.std.specs.Ordering.{nat_cmp}
use Rattle.std.specs.BinaryHeap.{IsUpperBound}
use Rattle.std.proofs.lemmas.List.{take_all}
use Rattle.std.proofs.lemmas.List.Prefix.{front_rest}
use Rattle.std.proofs.lemmas.List.Elements.{All-contains, All-more, All-weaker, Contains-append_cases}
use Rattle.std.proofs.lemmas.List.Sorted.{Contains-permutation, le_from_greatest}
use Rattle.scut_base.proofs.Lists.{Contains-head, Contains-cons, Contains-cons_cases}
use Rattle.scut_base.specs.Literal.{Literal}
use Rattle.pb_lin.specs.LineMap.{LineMap}
use Rattle.hint_rup.specs.declared.hint.Hint.{Hint}
use Rattle.clause_prop.specs.Steps.{TrailValue}
use Rattle.cdcl_state.specs.declared.reach.Reach.TheVariants.{Decisions}
use Rattle.cdcl_state.specs.Walking.{IsClosing, IsLonger, IsNextPlace, IsWalk, is_marked, spare}

-- ---- lists that grow

pub longer_same : (old new : List ℕ) → new ≡ old → IsLonger old new
longer_same old new same = ([], same ∙ sym (append-nil old))

pub longer_push : (old new : List ℕ) (p : ℕ) → new ≡ old ++ p ∷ [] → IsLonger old new
longer_push old new p is = (p ∷ [], is)

pub longer_more : (old mid new : List ℕ) → IsLonger old mid → IsLonger mid new → IsLonger old new
longer_more old mid new one two = (one.0 ++ two.0, two.1 ∙ ap (λ (xs : List ℕ). xs ++ two.0) one.1 ∙ append_assoc old one.0 two.0)

-- ---- a heap of places

pub pushed_one : (old new : List ℕ) (x : ℕ) → IsPermutation (x ∷ old) new → Contains new x
pushed_one old new x is = Contains-permutation (x ∷ old) new x is (Contains-head x old)

pub pushed_others : (old new : List ℕ) (x p : ℕ) → IsPermutation (x ∷ old) new → Contains old p → Contains new p
pushed_others old new x p is among = Contains-permutation (x ∷ old) new p is (Contains-cons x p old among)

-- a place more was pushed
pub pushed_all : (old new places : List ℕ) (i : ℕ) → i < length places → IsPermutation (get_or places i 0 ∷ old) new → All (Contains old) (take i places) → All (Contains new) (take (i + 1) places)
pushed_all old new places i inside pushed before =
    All-more (Contains new) places i 0 inside (All-weaker (Contains old) (Contains new) (λ p among. pushed_others old new (get_or places i 0) p pushed among) (take i places) before) (pushed_one old new (get_or places i 0) pushed)

pub none_among : (xs : List ℕ) (p : ℕ) → length xs ≡ 0 → Contains xs p → ⊥
none_among xs p none among = let inside : among.0 < length xs = among.1 in omega arith

module _ (items old new : List ℕ) (end x : ℕ) (kept : (p : ℕ) → Contains items p → p < end → Contains old p) (popped : IsPermutation old (x ∷ new)) where
  left_or : (p : ℕ) → Contains items p → p < end → (x ≡ p) ⊎ Contains new p
  left_or p among low = Contains-cons_cases x p new (Contains-permutation old (x ∷ new) p popped (kept p among low))

  -- one that isn't before the end was popped
  pub popped_late : end ≤ x → (p : ℕ) → Contains items p → p < end → Contains new p
  popped_late late p among low = elim (left_or p among low) [
    | inl same ↦ absurd (omega arith)
    | inr rest ↦ rest
  ]

  -- one that is before it was popped
  pub popped_next : x < end → IsUpperBound nat_cmp x new → IsNextPlace items end new x
  popped_next before bound = record {
    before = before;
    greatest = λ p among low. elim (left_or p among low) [
      | inl same ↦ omega arith
      | inr rest ↦ All-contains (λ y. y ≤ x) new p (le_from_greatest x new bound) rest
    ];
    others = λ p among low. elim (left_or p among (omega arith)) [
      | inl same ↦ absurd (omega arith)
      | inr rest ↦ rest
    ];
  }

-- what was put to the places waits, as those did that were there
pub listed_on : (old new items left after : List ℕ) (end place : ℕ) → IsLonger old new → IsNextPlace items end left place → ((p : ℕ) → Contains old p → p < end → Contains items p) → ((p : ℕ) → Contains left p → Contains after p) → All (Contains after) (drop (length old) new)
    → (p : ℕ) → Contains new p → p < place → Contains after p
listed_on old new items left after end place longer next listed kept all p among low =
    elim (Contains-append_cases old longer.0 p (subst (λ (xs : List ℕ). Contains xs p) longer.1 among)) [
      | inl one ↦ kept p (next.others p (listed p one (let before = next.before in omega arith)) low)
      | inr more ↦ All-contains (Contains after) longer.0 p (subst (All (Contains after)) (front_rest new old longer.0 longer.1) all) more
    ]

-- the same of a slice of the places
pub rest_all : (after slice new old : List ℕ) (known : ℕ) → slice ≡ new → known ≡ length old → All (Contains after) (take (length slice - known) (drop known slice)) → All (Contains after) (drop (length old) new)
rest_all after slice new old known same at all =
    subst (λ (ps : List ℕ). All (Contains after) (drop (length old) ps)) same
    (subst (λ (n : ℕ). All (Contains after) (drop n slice)) at
    (subst (All (Contains after)) (take_all (length slice - known) (drop known slice) (omega (arith, length-drop known slice))) all))

-- ---- the walk

pub after_least : (least place : ℕ) → least ≤ place → least + spare Decisions ≤ place
unfolding spare
after_least least place after = omega arith

module _ (store : LineMap) (t : TrailValue) (marks : List Bool) (given : List Literal) (hints : List Hint) where
  -- past places that aren't marked
  pub closing_to : (end to : ℕ) → ((p : ℕ) → is_marked marks p ≡ true → p < end → p < to) → IsClosing store t Decisions marks end given hints → IsClosing store t Decisions marks to given hints
  closing_to end to low rest = record {
    ids = rest.ids;
    closing = λ p long meets. rest.closing p long (record {
      at = λ k s there on below. meets.at k s there on (λ resolved. low k on (below resolved));
      besides = meets.besides;
    });
  }

  module _ (seen : List Bool) (places : List ℕ) (least : ℕ) (walk : IsWalk t Decisions marks seen places least) where
    listed : (p : ℕ) → is_marked marks p ≡ true → Contains places p
    listed p on = walk.all.are.listed p (walk.all.known p on)

    -- to the next of the places
    pub closing_next : (items left : List ℕ) (end place : ℕ) → ((p : ℕ) → Contains places p → p < end → Contains items p) → IsNextPlace items end left place → IsClosing store t Decisions marks end given hints → IsClosing store t Decisions marks (place + 1) given hints
    closing_next items left end place waits next = closing_to end (place + 1) (λ p on low. (let below = next.greatest p (waits p (listed p on) low) low in omega arith))

    -- where the next one is before the least
    pub closing_early : (items left : List ℕ) (end place : ℕ) → ((p : ℕ) → Contains places p → p < end → Contains items p) → IsNextPlace items end left place → place < least → IsClosing store t Decisions marks end given hints → IsClosing store t Decisions marks (least + spare Decisions) given hints
    unfolding spare
    closing_early items left end place waits next early = closing_to end (least + 0) (λ p on low. (let below = next.greatest p (waits p (listed p on) low) low in omega arith))

    -- where none is left
    pub closing_none : (items : List ℕ) (end : ℕ) → ((p : ℕ) → Contains places p → p < end → Contains items p) → ((p : ℕ) → Contains items p → end ≤ p) → IsClosing store t Decisions marks end given hints → IsClosing store t Decisions marks (least + spare Decisions) given hints
    unfolding spare
    closing_none items end waits none = closing_to end (least + 0) (λ p on low. absurd (let past = none p (waits p (listed p on) low) in omega arith))
