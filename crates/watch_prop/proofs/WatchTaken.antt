-- Clauses that are taken over from others, one place after another.
use Rattle.std.proofs.Common.{◌≡◌, ◌≢◌, ℕ, true, ◌+◌, ◌<◌, ◌≤◌, Option, Some, None, length, get_or, inl, inr, refl, arith, ap, sym, subst, ◌∙◌}
use Rattle.std.specs.FinMap.{get, remove, insert, empty, get-insert, get-empty}
use Rattle.std.specs.Ordering.{nat_cmp, eq_by_cmp}
use Rattle.std.specs.Cmp.{unsigned_tied}
use Rattle.std.proofs.lemmas.Bool.{cases_eq, cases_lt, cond-true, cond-false, eq-eqb, ne_eqb}
use Rattle.std.proofs.lemmas.Cmp.{nat_cmp_total}
use Rattle.std.proofs.lemmas.List.{get_or_past}
use Rattle.pb_lin.specs.Constraint.{ConstraintValue}
use Rattle.pb_lin.specs.LineMap.{LineMap}
use Rattle.clause_prop.specs.LineKinds.{is_watched}
use Rattle.watch_prop.specs.declared.watches.Watches.{Watches}
use Rattle.watch_prop.specs.Slot.{Slot}
use Rattle.watch_prop.specs.SlotTable.{slot_in}
use Rattle.watch_prop.specs.Watching.{clause_at, no_slot}
use Rattle.watch_prop.specs.Watches.{AreTaken, Hold, IsCopy}
use Rattle.watch_prop.proofs.WatchHold.{get_kept, get_removed, hold_same, same_some}

-- a line more
pub get_added : (lines : LineMap) (id : ℕ) (c : ConstraintValue) → get (insert lines id c) id ≡ Some c
get_added lines id c = get-insert nat_cmp_total lines id c id ∙ cond-true (eq_by_cmp nat_cmp id id) (Some c) (get lines id) (unsigned_tied id id ∙ eq-eqb id id refl)

pub get_beside : (lines : LineMap) (id : ℕ) (c : ConstraintValue) (q : ℕ) → q ≢ id → get (insert lines id c) q ≡ get lines q
get_beside lines id c q other = get-insert nat_cmp_total lines id c q ∙ cond-false (eq_by_cmp nat_cmp q id) (Some c) (get lines q) (unsigned_tied q id ∙ ne_eqb q id other)

none_no_some : {X : Type 0} (o : Option X) → ((x : X) → o ≡ Some x → ⊥) → o ≡ None
none_no_some None other = refl
none_no_some (Some x) other = absurd (other x refl)

same_value : {X : Type 0} (x y : X) → Some x ≡ Some y → x ≡ y
same_value x y e = cc

-- the place of a line's clause
place_of : (w : Watches) (lines : LineMap) (id j : ℕ) (c : ConstraintValue) → Hold w lines → get lines id ≡ Some c → is_watched c ≡ true → slot_in w.index id ≡ Some j → ((get_or w.slots j no_slot).id ≡ id) × (2 ≤ length (clause_at w.slots j))
place_of w lines id j c hold there kind found =
    let h = hold.held id c there kind in
    let s = hold.stored h.slot h.long in
    let same : h.slot ≡ j = same_some h.slot j (sym s.found ∙ ap (slot_in w.index) h.is ∙ found) in
    subst (λ i. ((get_or w.slots i no_slot).id ≡ id) × (2 ≤ length (clause_at w.slots i))) same (h.is, h.long)

-- none is taken from the places before the first
pub taken_none : (own others : Watches) (lines : LineMap) → Hold own empty → AreTaken own others lines 0
taken_none own others lines hold = record {
  part = empty;
  hold = hold;
  from = λ id c there. absurd (none_some (get empty id) c (get-empty nat_cmp id) there);
  all = λ id j c there kind found below. absurd (omega (arith, below));
}
  where
    none_some : {X : Type 0} (o : Option X) (x : X) → o ≡ None → o ≡ Some x → ⊥
    none_some o x none some = cc

-- no clause begins at a place, or it was dropped
pub taken_past : (own others : Watches) (lines : LineMap) (place : ℕ) → Hold others lines → length (clause_at others.slots place) < 2 → AreTaken own others lines place → AreTaken own others lines (place + 1)
taken_past own others lines place hold short taken = record {
  part = taken.part;
  hold = taken.hold;
  from = λ id c there. (let f = taken.from id c there in (f.0, (f.1.0, (let b = f.1.1 in omega (arith, b)), f.1.2)));
  all = λ id j c there kind found below. elim (cases_eq j place) [
    | inl e ↦ absurd (let p = place_of others lines id j c hold there kind found in let long = p.1 in let same = ap (λ (i : ℕ). length (clause_at others.slots i)) e in omega (arith, long, same, short))
    | inr n ↦ taken.all id j c there kind found (omega (arith, n, below))
  ];
}

-- the lines before the one of a place
pub before_place_same : (own others : Watches) (lines : LineMap) (place : ℕ) (line : ConstraintValue) → (taken : AreTaken own others lines place) → slot_in others.index (get_or others.slots place no_slot).id ≡ Some place → Hold own (remove (insert taken.part (get_or others.slots place no_slot).id line) (get_or others.slots place no_slot).id)
before_place_same own others lines place line taken found =
    let id = (get_or others.slots place no_slot).id in
    let part = taken.part in
    let more = remove (insert part id line) id in
    let fresh : get part id ≡ None = none_no_some (get part id) (λ c there. absurd (let f = taken.from id c there in let same = same_some f.1.0 place (sym f.1.2 ∙ found) in let below = f.1.1 in omega (arith, same, below))) in
    let same : (q : ℕ) → get more q ≡ get part q = λ q. elim (cases_eq q id) [
      | inl e ↦ ap (get more) e ∙ get_removed (insert part id line) id ∙ sym fresh ∙ ap (get part) (sym e)
      | inr n ↦ get_kept (insert part id line) id q n ∙ get_beside part id line q n
    ] in
    hold_same own.slots own.index part more (record { stays = λ q c kind there. same q ∙ there; was = λ q c kind there. sym (same q) ∙ there }) taken.hold

-- the clause of a place is taken
pub taken_more : (own new others : Watches) (lines : LineMap) (place : ℕ) → Hold others lines → 2 ≤ length (clause_at others.slots place) → (taken : AreTaken own others lines place)
    → ((part : LineMap) (line : ConstraintValue) → IsCopy part (get_or others.slots place no_slot).id line (clause_at others.slots place) → Hold own (remove part (get_or others.slots place no_slot).id) → Hold new part) → AreTaken new others lines (place + 1)
taken_more own new others lines place hold long taken watched =
    let id = (get_or others.slots place no_slot).id in
    let s = hold.stored place long in
    let part = insert taken.part id s.line in
    record {
      part = part;
      hold = watched part s.line (record { there = get_added taken.part id s.line; kind = s.kind; merged = s.merged; same = s.same }) (before_place_same own others lines place s.line taken s.found);
      from = λ q c there. elim (cases_eq q id) [
        | inl e ↦
            let same : s.line ≡ c = same_value s.line c (sym (get_added taken.part id s.line) ∙ ap (get part) (sym e) ∙ there) in
            (ap (get lines) e ∙ s.there ∙ ap Some same, (place, omega arith, ap (slot_in others.index) e ∙ s.found))
        | inr n ↦ (let f = taken.from q c (sym (get_beside taken.part id s.line q n) ∙ there) in (f.0, (f.1.0, (let b = f.1.1 in omega (arith, b)), f.1.2)))
      ];
      all = λ q j c there kind found below. elim (cases_eq q id) [
        | inl e ↦
            let same : s.line ≡ c = same_value s.line c (sym s.there ∙ ap (get lines) (sym e) ∙ there) in
            ap (get part) e ∙ get_added taken.part id s.line ∙ ap Some same
        | inr n ↦
            let other : j ≢ place = λ f. n (sym (place_of others lines q j c hold there kind found).0 ∙ ap (λ (i : ℕ). (get_or others.slots i no_slot).id) f) in
            get_beside taken.part id s.line q n ∙ taken.all q j c there kind found (omega (arith, other, below))
      ];
    }

-- all places are gone through
pub taken_all : (own others : Watches) (lines : LineMap) → Hold others lines → AreTaken own others lines (length others.slots) → Hold own lines
taken_all own others lines hold taken =
    hold_same own.slots own.index taken.part lines (record {
      stays = λ q c kind there. (taken.from q c there).0;
      was = λ q c kind there.
          let h = hold.held q c there kind in
          let s = hold.stored h.slot h.long in
          taken.all q h.slot c there kind (ap (slot_in others.index) (sym h.is) ∙ s.found) (within h.slot h.long);
    }) taken.hold
  where
    within : (j : ℕ) → 2 ≤ length (clause_at others.slots j) → j < length others.slots
    within j long = elim (cases_lt j (length others.slots)) [
      | inl b ↦ b
      | inr p ↦ absurd (let none = ap (λ (s : Slot). length s.lits) (get_or_past others.slots j no_slot p) in omega (arith, long, none))
    ]
