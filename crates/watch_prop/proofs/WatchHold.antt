-- What keeps the slots in step with the stored clauses.
use Rattle.std.proofs.Common.{◌≡◌, ◌≢◌, ℕ, Bool, true, false, ◌≤◌, Option, Some, None, List, [], length, get_or, refl, arith, ap, sym, subst, ◌∙◌, inl, inr}
use Rattle.std.specs.List.Sorted.{IsPermutation}
use Rattle.std.specs.FinMap.{get, remove, empty, get-remove, get-empty}
use Rattle.std.specs.Ordering.{nat_cmp, eq_by_cmp}
use Rattle.std.proofs.lemmas.Bool.{cases_eq, false≢true, cond-true, cond-false, eq-eqb, ne_eqb}
use Rattle.std.proofs.lemmas.Cmp.{nat_cmp_total}
use Rattle.std.specs.Cmp.{unsigned_tied}
use Rattle.std.proofs.lemmas.List.{get_or_past}
use Rattle.std.proofs.lemmas.List.Sorted.{IsPermutation-trans, length_permutation}
use Rattle.pb_lin.specs.Constraint.{ConstraintValue}
use Rattle.pb_lin.specs.LineMap.{LineMap}
use Rattle.watch_prop.specs.Slot.{Slot}
use Rattle.watch_prop.specs.SlotTable.{slot_in}
use Rattle.clause_prop.specs.LineKinds.{is_watched, IsClosedForWatched, IsClosedForCounted}
use Rattle.pb_lin.specs.Propagation.{IsClosedUnder}
use Rattle.clause_prop.specs.Steps.{TrailValue, partial}
use Rattle.clause_prop.specs.Propagating.{IsClosedFor}
use Rattle.watch_prop.specs.Watching.{IsPut, clause_at, no_slot}
use Rattle.watch_prop.specs.Watches.{AreSameWatched, AreSlots, IsCopy, IsStored}
use Rattle.watch_prop.proofs.WatchLists.{at_put}

-- ---- a line less

pub get_removed : (lines : LineMap) (id : ℕ) → get (remove lines id) id ≡ None
get_removed lines id = get-remove nat_cmp_total lines id id ∙ cond-true (eq_by_cmp nat_cmp id id) None (get lines id) (unsigned_tied id id ∙ eq-eqb id id refl)

pub get_kept : (lines : LineMap) (id q : ℕ) → q ≢ id → get (remove lines id) q ≡ get lines q
get_kept lines id q other = get-remove nat_cmp_total lines id q ∙ cond-false (eq_by_cmp nat_cmp q id) None (get lines q) (unsigned_tied q id ∙ ne_eqb q id other)

none_not_some : {X : Type 0} (o : Option X) (x : X) → o ≡ None → o ≡ Some x → ⊥
none_not_some o x none some = cc

-- an id that has a line after another is gone
other_id : (lines : LineMap) (id q : ℕ) (c : ConstraintValue) → get (remove lines id) q ≡ Some c → q ≢ id
other_id lines id q c there same = none_not_some (get (remove lines id) q) c (ap (get (remove lines id)) same ∙ get_removed lines id) there

-- an index that gives another id what it gave
abbrev pub FindsOthers : List ℕ → List ℕ → ℕ → Type 0
FindsOthers old new id = (q : ℕ) → q ≢ id → slot_in new q ≡ slot_in old q

-- ---- slots

-- a clause in another order
pub hold_reordered : (own new : List Slot) (index : List ℕ) (lines : LineMap) (slot : ℕ) (s : Slot) → IsPut own new slot s → AreSlots own index lines → s.id ≡ (get_or own slot no_slot).id → IsPermutation (clause_at own slot) s.lits → AreSlots new index lines
hold_reordered own new index lines slot s put slots same_id same =
    let len = length_permutation _ _ same in
    record {
      stored = at_put (λ j x. 2 ≤ length x.lits → IsStored x.lits index lines j x.id) own new slot s put slots.stored (λ long.
          let old = slots.stored slot (omega (arith, long, len)) in
          record {
            line = old.line;
            there = ap (get lines) same_id ∙ old.there;
            kind = old.kind;
            merged = old.merged;
            same = IsPermutation-trans _ _ _ old.same same;
            found = ap (λ (i : ℕ). slot_in index i) same_id ∙ old.found;
          });
      held = λ id c there kind.
          let h = slots.held id c there kind in
          let at : ((get_or new h.slot no_slot).id ≡ id) × (2 ≤ length (clause_at new h.slot)) = at_put (λ j x. j ≡ h.slot → (x.id ≡ id) × (2 ≤ length x.lits)) own new slot s put
          (λ j e. subst (λ i. ((get_or own i no_slot).id ≡ id) × (2 ≤ length (clause_at own i))) (sym e) (h.is, h.long))
          (λ e. let long = h.long in (same_id ∙ ap (λ (i : ℕ). (get_or own i no_slot).id) e ∙ h.is, (let l = ap (λ (i : ℕ). length (clause_at own i)) e in omega (arith, l, long, len))))
          h.slot refl in
          record { slot = h.slot; is = at.0; long = at.1 };
    }

-- a clause without literals begins at a place where none did, and its id has no line
pub hold_slot : (own opened : List Slot) (index new : List ℕ) (lines : LineMap) (slot : ℕ) (s : Slot) → IsPut own opened slot s → get_or own slot no_slot ≡ no_slot → AreSlots own index lines → get lines s.id ≡ None → s.lits ≡ [] → FindsOthers index new s.id → AreSlots opened new lines
hold_slot own opened index new lines slot s put past slots fresh none others = record {
  stored = at_put (λ j x. 2 ≤ length x.lits → IsStored x.lits new lines j x.id) own opened slot s put
      (λ j long.
      let old = slots.stored j long in
      record {
        line = old.line;
        there = old.there;
        kind = old.kind;
        merged = old.merged;
        same = old.same;
        found = others (get_or own j no_slot).id (λ e. none_not_some (get lines (get_or own j no_slot).id) old.line (ap (get lines) e ∙ fresh) old.there) ∙ old.found;
      })
      (λ long. absurd (omega (arith, long, ap length none)));
  held = λ id c there kind.
      let h = slots.held id c there kind in
      let at : ((get_or opened h.slot no_slot).id ≡ id) × (2 ≤ length (clause_at opened h.slot)) = at_put (λ j x. j ≡ h.slot → (x.id ≡ id) × (2 ≤ length x.lits)) own opened slot s put
      (λ j e. subst (λ i. ((get_or own i no_slot).id ≡ id) × (2 ≤ length (clause_at own i))) (sym e) (h.is, h.long))
      (λ e. absurd (let long = h.long in let none_there = ap (λ (x : Slot). length x.lits) (subst (λ i. get_or own i no_slot ≡ no_slot) e past) in omega (arith, long, none_there)))
      h.slot refl in
      record { slot = h.slot; is = at.0; long = at.1 };
}

-- a slot without literals gets the clause of its id
pub hold_filled : (own new : List Slot) (index : List ℕ) (lines : LineMap) (slot : ℕ) (s : Slot) (line : ConstraintValue) → IsPut own new slot s → AreSlots own index (remove lines s.id) → clause_at own slot ≡ [] → 2 ≤ length s.lits → IsCopy lines s.id line s.lits → slot_in index s.id ≡ Some slot → AreSlots new index lines
hold_filled own new index lines slot s line put slots none long copy found = record {
  stored = at_put (λ j x. 2 ≤ length x.lits → IsStored x.lits index lines j x.id) own new slot s put
      (λ j more.
      let old = slots.stored j more in
      record {
        line = old.line;
        there = sym (get_kept lines s.id (get_or own j no_slot).id (other_id lines s.id (get_or own j no_slot).id old.line old.there)) ∙ old.there;
        kind = old.kind;
        merged = old.merged;
        same = old.same;
        found = old.found;
      })
      (λ _. record { line = line; there = copy.there; kind = copy.kind; merged = copy.merged; same = copy.same; found = found });
  held = λ id c there kind. elim (cases_eq id s.id) [
    | inl e ↦
        record { slot = slot; is = ap (λ (x : Slot). x.id) put.here ∙ sym e; long = subst (λ (x : Slot). 2 ≤ length x.lits) (sym put.here) long }
    | inr n ↦
        let h = slots.held id c (get_kept lines s.id id n ∙ there) kind in
        let more = h.long in
        let other : get_or new h.slot no_slot ≡ get_or own h.slot no_slot = put.others h.slot (λ e. absurd (let l = ap length none in let m = ap (λ (i : ℕ). length (clause_at own i)) e in omega (arith, more, l, m))) in
        record { slot = h.slot; is = ap (λ (x : Slot). x.id) other ∙ h.is; long = subst (λ (x : Slot). 2 ≤ length x.lits) (sym other) more }
  ];
}

-- an id that no slot has is dropped
pub hold_absent : (own : List Slot) (index new : List ℕ) (lines : LineMap) (id : ℕ) → AreSlots own index lines → FindsOthers index new id → ((j : ℕ) → 2 ≤ length (clause_at own j) → (get_or own j no_slot).id ≢ id) → AreSlots own new (remove lines id)
hold_absent own index new lines id slots others absent = record {
  stored = λ j long.
      let old = slots.stored j long in
      let q : ℕ = (get_or own j no_slot).id in
      record {
        line = old.line;
        there = get_kept lines id q (absent j long) ∙ old.there;
        kind = old.kind;
        merged = old.merged;
        same = old.same;
        found = others q (absent j long) ∙ old.found;
      };
  held = λ q c there kind. slots.held q c (sym (get_kept lines id q (other_id lines id q c there)) ∙ there) kind;
}

-- a slot whose id the index doesn't lead to
pub absent_by : (own : List Slot) (index : List ℕ) (lines : LineMap) (id : ℕ) (o : Option ℕ) → AreSlots own index lines → slot_in index id ≡ o → ((j : ℕ) → o ≡ Some j → 2 ≤ length (clause_at own j) → (get_or own j no_slot).id ≢ id) → (j : ℕ) → 2 ≤ length (clause_at own j) → (get_or own j no_slot).id ≢ id
absent_by own index lines id o slots is other j long same =
    let old = slots.stored j long in
    other j (sym is ∙ ap (λ (i : ℕ). slot_in index i) (sym same) ∙ old.found) long same

pub same_some : (i j : ℕ) → Some i ≡ Some j → i ≡ j
same_some i j e = cc

-- the slot of the id that is dropped loses its literals
pub hold_emptied : (own emptied : List Slot) (index new : List ℕ) (lines : LineMap) (id slot : ℕ) (s : Slot) → IsPut own emptied slot s → AreSlots own index lines → FindsOthers index new id → slot_in index id ≡ Some slot → (get_or own slot no_slot).id ≡ id → s.lits ≡ [] → AreSlots emptied new (remove lines id)
hold_emptied own emptied index new lines id slot s put slots others found own_id none = record {
  stored = λ j long. elim (cases_eq j slot) [
    | inl e ↦ absurd (
        let here : clause_at emptied j ≡ [] = ap (λ (i : ℕ). clause_at emptied i) e ∙ ap (λ (x : Slot). x.lits) put.here ∙ none in
        omega (arith, long, ap length here)
        )
    | inr n ↦
        let other : get_or emptied j no_slot ≡ get_or own j no_slot = put.others j n in
        let old = slots.stored j (subst (λ (x : Slot). 2 ≤ length x.lits) other long) in
        let q : ℕ = (get_or own j no_slot).id in
        let q_other : q ≢ id = λ e. n (same_some j slot (sym old.found ∙ ap (λ (i : ℕ). slot_in index i) e ∙ found)) in
        subst (λ (x : Slot). IsStored x.lits new (remove lines id) j x.id) (sym other) (record {
          line = old.line;
          there = get_kept lines id q q_other ∙ old.there;
          kind = old.kind;
          merged = old.merged;
          same = old.same;
          found = others q q_other ∙ old.found;
        })
  ];
  held = λ q c there kind.
      let q_other : q ≢ id = other_id lines id q c there in
      let h = slots.held q c (sym (get_kept lines id q q_other) ∙ there) kind in
      let other : get_or emptied h.slot no_slot ≡ get_or own h.slot no_slot = put.others h.slot (λ e. q_other (sym h.is ∙ ap (λ (i : ℕ). (get_or own i no_slot).id) e ∙ own_id)) in
      record { slot = h.slot; is = ap (λ (x : Slot). x.id) other ∙ h.is; long = subst (λ (x : Slot). 2 ≤ length x.lits) (sym other) h.long };
}

-- the other kind of lines changes
pub hold_same : (own : List Slot) (index : List ℕ) (old new : LineMap) → AreSameWatched old new → AreSlots own index old → AreSlots own index new
hold_same own index old new same slots = record {
  stored = λ j long.
      let s = slots.stored j long in
      record { line = s.line; there = same.stays _ s.line s.kind s.there; kind = s.kind; merged = s.merged; same = s.same; found = s.found };
  held = λ id c there kind. slots.held id c (same.was id c kind there) kind;
}

pub hold_none_of : (own : List Slot) (index : List ℕ) → own ≡ [] → AreSlots own index empty
hold_none_of own index none = record {
  stored = λ j long. absurd (let past = ap (λ (o : List Slot). length (clause_at o j)) none in let zero_long = ap (λ (s : Slot). length s.lits) (get_or_past [] j no_slot (omega arith)) in omega (arith, long, past, zero_long));
  held = λ id c there kind. absurd (none_not_some (get empty id) c (get-empty nat_cmp id) there);
}

pub not_equal : (a b : ℕ) → a ≢ b → a ≡ b → ⊥
not_equal a b n e = n e

-- ---- lines of the other kind

both_kinds : (c d : ConstraintValue) → is_watched c ≡ true → is_watched d ≡ false → Some d ≡ Some c → ⊥
both_kinds c d yes_c no_d e = false≢true (sym no_d ∙ ap is_watched (some_same d c e) ∙ yes_c)
  where
    some_same : (x y : ConstraintValue) → Some x ≡ Some y → x ≡ y
    some_same x y f = cc

-- a line that isn't watched is dropped
pub same_watched_removed : (lines : LineMap) (id : ℕ) (c : ConstraintValue) → get lines id ≡ Some c → is_watched c ≡ false → AreSameWatched lines (remove lines id)
same_watched_removed lines id c here kind = record {
  stays = λ q d watched there. get_kept lines id q (λ e. both_kinds d c watched kind (sym here ∙ ap (get lines) (sym e) ∙ there)) ∙ there;
  was = λ q d watched there. sym (get_kept lines id q (other_id lines id q d there)) ∙ there;
}

pub same_watched_back : (old new : LineMap) → AreSameWatched old new → AreSameWatched new old
same_watched_back old new same = record { stays = same.was; was = same.stays }

-- a line that isn't watched is stored
pub same_watched_added : (lines : LineMap) (id : ℕ) (c : ConstraintValue) → get lines id ≡ Some c → is_watched c ≡ false → AreSameWatched (remove lines id) lines
same_watched_added lines id c here kind = same_watched_back lines (remove lines id) (same_watched_removed lines id c here kind)

-- lines closed by kinds are closed
pub closed_by_kinds : (lines : LineMap) (t : TrailValue) → IsClosedForWatched lines t → IsClosedForCounted lines t → IsClosedFor lines t
closed_by_kinds lines t watched counted id c there = by_kind (is_watched c) refl
  where
    by_kind : (b : Bool) → is_watched c ≡ b → IsClosedUnder (partial t) c
    by_kind true e = watched id c there e
    by_kind false e = counted id c there e
