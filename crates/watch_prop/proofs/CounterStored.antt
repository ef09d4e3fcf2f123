-- Lines that are taken up, and lines that are let go.
use Rattle.std.proofs.Common.{◌≡◌, ◌≢◌, ℕ, ◌+◌, ◌<◌, ◌≤◌, Bool, true, false, cond, Option, Some, None, List, [], ◌∷◌, ◌++◌, length, set, take, refl, arith, ap, sym, ◌∙◌, subst, ⊎_elim, inl, inr, length-set, get_or-set_same, get_or-set_other, eq-eqb}
use Rattle.std.specs.FinMap.{get, remove, empty, get-empty}
use Rattle.std.specs.Prelude.{nat_eq}
use Rattle.std.specs.Map.{lookup}
use Rattle.std.specs.Ordering.{nat_cmp}
use Rattle.std.proofs.lemmas.Bool.{cases_eq, cases_lt, cond-true, cond-false, ne_eqb}
use Rattle.std.proofs.lemmas.List.{get_or_append_left, get_or_push, length_push, get_or_past}
use Rattle.pb_lin.specs.Constraint.{ConstraintValue}
use Rattle.pb_lin.specs.LineMap.{LineMap}
use Rattle.clause_prop.specs.Steps.{TrailValue}
use Rattle.clause_prop.specs.LineKinds.{is_watched}
use Rattle.watch_prop.specs.declared.occurrence_lists.OccurrenceLists.{OccurrenceLists}
use Rattle.watch_prop.specs.Counting.{AreKept, AreOfSlots, IsCounter, IsDone, IsHeld, IsWaiting, end_of, fresh_at, line_at, list_at, listed, no_fresh, no_line}
use Rattle.watch_prop.specs.declared.counter_lines.CounterLine.{CounterLine}
use Rattle.watch_prop.specs.declared.counter_lines.Fresh.{Fresh}
use Rattle.watch_prop.proofs.CounterKeeps.{removed_same, removed_other}

two_truths : (b : Bool) → b ≡ true → b ≡ false → ⊥
two_truths b e f = cc

none_there : {X : Type 0} (o : Option X) (x : X) → o ≡ None → o ≡ Some x → ⊥
none_there o x e f = cc

some_same : {X : Type 0} (a b : X) (o : Option X) → o ≡ Some a → o ≡ Some b → a ≡ b
some_same a b o e f = cc

-- nothing is kept
pub kept_new : (lists : OccurrenceLists) (slot_of : ℕ → Option ℕ) (n : ℕ) → ((k : ℕ) → list_at lists k ≡ []) → ((id : ℕ) → slot_of id ≡ None) → AreKept [] lists slot_of 0 [] [] 0 empty (record { vars = n; steps = [] })
kept_new lists slot_of n nothing none = record {
  found = λ id c there kind. absurd (none_there (get empty id) c (get-empty nat_cmp id) there);
  slots = λ id j is. absurd (none_there (slot_of id) j (none id) is);
  named = λ j live. absurd (two_truths false live refl);
  held = λ j live. absurd (two_truths false live refl);
  occurrences = λ code. subst (AreOfSlots 0) (sym (nothing code)) (λ k d less. absurd (omega (arith, less)));
  looked = omega arith;
  counts = omega arith;
  within = λ p less. absurd (omega (arith, less));
  rising = λ p q le less. absurd (omega (arith, less));
  begun = omega arith;
  of_slots = λ k less. absurd (omega (arith, less));
  late = λ k less. absurd (omega (arith, less));
  later = λ i k le less. absurd (omega (arith, less));
}

pub kept_empty : (lines : List CounterLine) (lists : OccurrenceLists) (entries : List (ℕ × ℕ)) (ends : List ℕ) (fresh : List Fresh) (n : ℕ) → lines ≡ [] → ((k : ℕ) → list_at lists k ≡ []) → entries ≡ [] → ends ≡ [] → fresh ≡ []
    → AreKept lines lists (λ id. lookup (nat_eq id) entries) 0 ends fresh 0 empty (record { vars = n; steps = [] })
kept_empty lines lists entries ends fresh n no_lines no_lists no_entries no_ends no_news =
    subst (λ (ls : List CounterLine). AreKept ls lists (λ id. lookup (nat_eq id) entries) 0 ends fresh 0 empty (record { vars = n; steps = [] })) (sym no_lines)
    (subst (λ (es : List ℕ). AreKept [] lists (λ id. lookup (nat_eq id) entries) 0 es fresh 0 empty (record { vars = n; steps = [] })) (sym no_ends)
    (subst (λ (fs : List Fresh). AreKept [] lists (λ id. lookup (nat_eq id) entries) 0 [] fs 0 empty (record { vars = n; steps = [] })) (sym no_news)
    (kept_new lists (λ id. lookup (nat_eq id) entries) n no_lists (λ id. ap (λ (es : List (ℕ × ℕ)). lookup (nat_eq id) es) no_entries))))

-- ---- a slot that isn't in use

pub dead_same : (lines : List CounterLine) (j : ℕ) → line_at (lines ++ no_line ∷ []) j ≡ line_at lines j
dead_same lines j = ⊎_elim
    (λ (less : j < length lines). get_or_append_left lines (no_line ∷ []) no_line j less)
    (λ (past : length lines ≤ j). ⊎_elim
    (λ (e : j ≡ length lines). get_or_push lines no_line no_line j (sym e) ∙ sym (get_or_past lines j no_line past))
    (λ (other : j ≢ length lines). get_or_past (lines ++ no_line ∷ []) j no_line (omega (arith, past, other, length_push lines no_line)) ∙ sym (get_or_past lines j no_line past))
    (cases_eq j (length lines)))
    (cases_lt j (length lines))

pub kept_dead : (lines : List CounterLine) (lists : OccurrenceLists) (slot_of : ℕ → Option ℕ) (counted : ℕ) (ends : List ℕ) (fresh : List Fresh) (done : ℕ) (store : LineMap) (t : TrailValue)
    → AreKept lines lists slot_of counted ends fresh done store t → AreKept (lines ++ no_line ∷ []) lists slot_of counted ends fresh done store t
kept_dead lines lists slot_of counted ends fresh done store t kept = record {
  found = kept.found;
  slots = λ id j is.
      let s = kept.slots id j is in
      (let less = s.0 in omega (arith, less, length_push lines no_line), ap (λ (l : CounterLine). l.id) (dead_same lines j) ∙ s.1, ap (λ (l : CounterLine). l.live) (dead_same lines j) ∙ s.2);
  named = λ j live. ap (λ (l : CounterLine). slot_of l.id) (dead_same lines j) ∙ kept.named j (sym (ap (λ (l : CounterLine). l.live) (dead_same lines j)) ∙ live);
  held = λ j live. subst (IsHeld lists counted ends fresh done store t j) (sym (dead_same lines j)) (kept.held j (sym (ap (λ (l : CounterLine). l.live) (dead_same lines j)) ∙ live));
  occurrences = λ code k d less. (let o = kept.occurrences code k d less in omega (arith, o, length_push lines no_line));
  looked = kept.looked;
  counts = kept.counts;
  within = kept.within;
  rising = kept.rising;
  begun = kept.begun;
  of_slots = λ k less. (let o = kept.of_slots k less in omega (arith, o, length_push lines no_line));
  late = kept.late;
  later = kept.later;
}

-- ---- occurrences of a slot that isn't in use

pub kept_lists : (lines : List CounterLine) (lists new : OccurrenceLists) (slot_of : ℕ → Option ℕ) (counted : ℕ) (ends : List ℕ) (fresh : List Fresh) (done : ℕ) (store : LineMap) (t : TrailValue) (slot : ℕ) → length lines ≡ slot + 1 → line_at lines slot ≡ no_line
    → ((code : ℕ) → AreOfSlots (slot + 1) (list_at new code)) → ((code j : ℕ) → j < slot → listed j (list_at new code) ≡ listed j (list_at lists code))
    → AreKept lines lists slot_of counted ends fresh done store t → AreKept lines new slot_of counted ends fresh done store t
kept_lists lines lists new slot_of counted ends fresh done store t slot len dead slots others kept = record {
  found = kept.found;
  slots = kept.slots;
  named = kept.named;
  held = λ j live.
      let held = kept.held j live in
      let within : j < length lines = (kept.slots (line_at lines j).id j (kept.named j live)).0 in
      let apart : j ≢ slot = λ e. two_truths (line_at lines j).live live (ap (λ (i : ℕ). (line_at lines i).live) e ∙ ap (λ (l : CounterLine). l.live) dead) in
      record {
        line = held.line;
        there = held.there;
        kind = held.kind;
        counter = record {
          normal = held.counter.normal;
          within = held.counter.within;
          occurs = λ code. others code j (omega (arith, within, apart, len)) ∙ held.counter.occurs code;
          sum = held.counter.sum;
          limit = held.counter.limit;
          enough = held.counter.enough;
        };
        ready = held.ready;
      };
  occurrences = λ code k d less. (let o = slots code k d less in omega (arith, o, len));
  looked = kept.looked;
  counts = kept.counts;
  within = kept.within;
  rising = kept.rising;
  begun = kept.begun;
  of_slots = kept.of_slots;
  late = kept.late;
  later = kept.later;
}

-- ---- a fresh slot

pub kept_fresh : (lines : List CounterLine) (lists : OccurrenceLists) (slot_of : ℕ → Option ℕ) (counted : ℕ) (ends : List ℕ) (fresh : List Fresh) (done : ℕ) (store : LineMap) (t : TrailValue) (slot : ℕ) → slot < length lines
    → AreKept lines lists slot_of counted ends fresh done store t → AreKept lines lists slot_of counted ends (fresh ++ record { slot = slot; end = 0 } ∷ []) done store t
kept_fresh lines lists slot_of counted ends fresh done store t slot short kept = record {
  found = kept.found;
  slots = kept.slots;
  named = kept.named;
  held = λ j live.
      let held = kept.held j live in
      record {
        line = held.line;
        there = held.there;
        kind = held.kind;
        counter = held.counter;
        ready = λ q le. ⊎_elim
            (λ (w : IsWaiting fresh done j).
            inl (record { place = w.place; short = (let s = w.short in omega (arith, s, length_push fresh next)); is = ap (λ (f : Fresh). f.slot) (same w.place w.short) ∙ w.is; late = w.late }))
            (λ (is : IsDone ends fresh done t.vars t.steps j held.line q). inr (record {
              by = is.by;
              settled = is.settled;
              reached = ⊎_elim
                  (λ (old : is.by ≤ end_of ends q). inl old)
                  (λ (new : (k : ℕ) × (k < done) × ((fresh_at fresh k).slot ≡ j) × (is.by ≤ (fresh_at fresh k).end)).
                  let unchanged = same new.0 (below new.0 new.1) in
                  inr (new.0, new.1, ap (λ (f : Fresh). f.slot) unchanged ∙ new.2, subst (λ (f : Fresh). is.by ≤ f.end) (sym unchanged) new.3))
                  is.reached;
            }))
            (held.ready q le);
      };
  occurrences = kept.occurrences;
  looked = kept.looked;
  counts = kept.counts;
  within = kept.within;
  rising = kept.rising;
  begun = (let begun = kept.begun in omega (arith, begun, length_push fresh next));
  of_slots = λ k less. ⊎_elim
      (λ (old : k < length fresh). subst (λ (f : Fresh). f.slot < length lines) (sym (same k old)) (kept.of_slots k old))
      (λ (new : length fresh ≤ k). subst (λ (f : Fresh). f.slot < length lines) (sym (get_or_push fresh next no_fresh k (omega (arith, new, less, length_push fresh next)))) short)
      (cases_lt k (length fresh));
  late = λ k less. subst (λ (f : Fresh). f.end ≤ length t.steps) (sym (same k (below k less))) (kept.late k less);
  later = λ i k le less. subst (λ (f : Fresh). f.end ≤ (fresh_at (fresh ++ next ∷ []) k).end) (sym (same i (below i (omega (arith, le, less)))))
      (subst (λ (f : Fresh). (fresh_at fresh i).end ≤ f.end) (sym (same k (below k less))) (kept.later i k le less));
}
  where
    next : Fresh
    next = record { slot = slot; end = 0 }

    same : (k : ℕ) → k < length fresh → fresh_at (fresh ++ next ∷ []) k ≡ fresh_at fresh k
    same k less = get_or_append_left fresh (next ∷ []) no_fresh k less

    below : (k : ℕ) → k < done → k < length fresh
    below k less = let begun = kept.begun in omega (arith, less, begun)

-- ---- a slot that is taken into use

pub kept_live : (lines : List CounterLine) (lists : OccurrenceLists) (slot_of slot_in : ℕ → Option ℕ) (counted : ℕ) (ends : List ℕ) (fresh : List Fresh) (done : ℕ) (store : LineMap) (t : TrailValue) (id slot : ℕ) (line : CounterLine) (c : ConstraintValue)
    → slot < length lines → line_at lines slot ≡ no_line → slot_in id ≡ Some slot → ((q : ℕ) → q ≢ id → slot_in q ≡ slot_of q) → line.id ≡ id → line.live ≡ true → get store id ≡ Some c → is_watched c ≡ false
    → IsCounter lists t.vars (take counted t.steps) slot line c → IsWaiting fresh done slot
    → AreKept lines lists slot_of counted ends fresh done (remove store id) t → AreKept (set lines slot line) lists slot_in counted ends fresh done store t
kept_live lines lists slot_of slot_in counted ends fresh done store t id slot line c short dead in_use elsewhere named_id live there kind counter waits kept = record {
  found = λ q d at counted_line. ⊎_elim
      (λ (e : q ≡ id). (slot, ap slot_in e ∙ in_use))
      (λ (other : q ≢ id). let was = kept.found q d (removed_other store id q other ∙ at) counted_line in (was.0, elsewhere q other ∙ was.1))
      (cases_eq q id);
  slots = λ q j is. ⊎_elim
      (λ (e : q ≡ id).
      let same : slot ≡ j = some_same slot j (slot_in id) in_use (subst (λ (i : ℕ). slot_in i ≡ Some j) e is) in
      subst (λ (i : ℕ). (i < length (set lines slot line)) × ((line_at (set lines slot line) i).id ≡ q) × ((line_at (set lines slot line) i).live ≡ true)) same
      (omega (arith, short, length-set lines slot line), ap (λ (l : CounterLine). l.id) here ∙ named_id ∙ sym e, ap (λ (l : CounterLine). l.live) here ∙ live))
      (λ (other : q ≢ id).
      let s = kept.slots q j (sym (elsewhere q other) ∙ is) in
      let apart : j ≢ slot = away j s.2 in
      (let less = s.0 in omega (arith, less, length-set lines slot line), ap (λ (l : CounterLine). l.id) (stays j apart) ∙ s.1, ap (λ (l : CounterLine). l.live) (stays j apart) ∙ s.2))
      (cases_eq q id);
  named = λ j is_live. ⊎_elim
      (λ (e : j ≡ slot). ap (λ (i : ℕ). slot_in (line_at (set lines slot line) i).id) e ∙ ap (λ (l : CounterLine). slot_in l.id) here ∙ ap slot_in named_id ∙ in_use ∙ ap (λ (i : ℕ). Some i) (sym e))
      (λ (other : j ≢ slot).
      let was : (line_at lines j).live ≡ true = sym (ap (λ (l : CounterLine). l.live) (stays j other)) ∙ is_live in
      ap (λ (l : CounterLine). slot_in l.id) (stays j other) ∙ elsewhere (line_at lines j).id (of_other j was) ∙ kept.named j was)
      (cases_eq j slot);
  held = λ j is_live. ⊎_elim
      (λ (e : j ≡ slot). subst (λ (i : ℕ). IsHeld lists counted ends fresh done store t i (line_at (set lines slot line) i)) (sym e)
      (subst (IsHeld lists counted ends fresh done store t slot) (sym here) own))
      (λ (other : j ≢ slot).
      let was : (line_at lines j).live ≡ true = sym (ap (λ (l : CounterLine). l.live) (stays j other)) ∙ is_live in
      subst (IsHeld lists counted ends fresh done store t j) (sym (stays j other)) (stored j was (kept.held j was)))
      (cases_eq j slot);
  occurrences = λ code k d less. (let o = kept.occurrences code k d less in omega (arith, o, length-set lines slot line));
  looked = kept.looked;
  counts = kept.counts;
  within = kept.within;
  rising = kept.rising;
  begun = kept.begun;
  of_slots = λ k less. (let o = kept.of_slots k less in omega (arith, o, length-set lines slot line));
  late = kept.late;
  later = kept.later;
}
  where
    here : line_at (set lines slot line) slot ≡ line
    here = get_or-set_same lines slot line no_line short

    stays : (j : ℕ) → j ≢ slot → line_at (set lines slot line) j ≡ line_at lines j
    stays j other = get_or-set_other lines slot j line no_line other

    away : (j : ℕ) → (line_at lines j).live ≡ true → j ≢ slot
    away j is_live = λ e. two_truths (line_at lines j).live is_live (ap (λ (i : ℕ). (line_at lines i).live) e ∙ ap (λ (l : CounterLine). l.live) dead)

    -- the line of another live slot has another id, since the store lacks this one
    of_other : (j : ℕ) → (line_at lines j).live ≡ true → (line_at lines j).id ≢ id
    of_other j is_live = λ e.
        let held = kept.held j is_live in
        none_there (get (remove store id) id) held.line (removed_same store id) (subst (λ (i : ℕ). get (remove store id) i ≡ Some held.line) e held.there)

    stored : (j : ℕ) → (line_at lines j).live ≡ true → IsHeld lists counted ends fresh done (remove store id) t j (line_at lines j) → IsHeld lists counted ends fresh done store t j (line_at lines j)
    stored j is_live held = record {
      line = held.line;
      there = sym (removed_other store id (line_at lines j).id (of_other j is_live)) ∙ held.there;
      kind = held.kind;
      counter = held.counter;
      ready = held.ready;
    }

    own : IsHeld lists counted ends fresh done store t slot line
    own = record {
      line = c;
      there = ap (get store) named_id ∙ there;
      kind = kind;
      counter = counter;
      ready = λ q le. inl waits;
    }

-- ---- a line that is let go

pub kept_dropped : (lines : List CounterLine) (lists : OccurrenceLists) (slot_of slot_in : ℕ → Option ℕ) (counted : ℕ) (ends : List ℕ) (fresh : List Fresh) (done : ℕ) (store : LineMap) (t : TrailValue) (id slot : ℕ)
    → slot_of id ≡ Some slot → slot_in id ≡ None → ((q : ℕ) → q ≢ id → slot_in q ≡ slot_of q)
    → AreKept lines lists slot_of counted ends fresh done store t → AreKept (set lines slot no_line) lists slot_in counted ends fresh done (remove store id) t
kept_dropped lines lists slot_of slot_in counted ends fresh done store t id slot in_use free elsewhere kept = record {
  found = λ q d at kind. ⊎_elim
      (λ (e : q ≡ id). absurd (none_there (get (remove store id) id) d (removed_same store id) (subst (λ (i : ℕ). get (remove store id) i ≡ Some d) e at)))
      (λ (other : q ≢ id). let was = kept.found q d (sym (removed_other store id q other) ∙ at) kind in (was.0, elsewhere q other ∙ was.1))
      (cases_eq q id);
  slots = λ q j is. ⊎_elim
      (λ (e : q ≡ id). absurd (none_there (slot_in id) j free (subst (λ (i : ℕ). slot_in i ≡ Some j) e is)))
      (λ (other : q ≢ id).
      let s = kept.slots q j (sym (elsewhere q other) ∙ is) in
      let apart : j ≢ slot = λ e. other (sym s.1 ∙ ap (λ (i : ℕ). (line_at lines i).id) e ∙ at_slot.1) in
      (let less = s.0 in omega (arith, less, length-set lines slot no_line), ap (λ (l : CounterLine). l.id) (stays j apart) ∙ s.1, ap (λ (l : CounterLine). l.live) (stays j apart) ∙ s.2))
      (cases_eq q id);
  named = λ j is_live.
      let other : j ≢ slot = apart_from j is_live in
      let was : (line_at lines j).live ≡ true = sym (ap (λ (l : CounterLine). l.live) (stays j other)) ∙ is_live in
      ap (λ (l : CounterLine). slot_in l.id) (stays j other) ∙ elsewhere (line_at lines j).id (of_other j was other) ∙ kept.named j was;
  held = λ j is_live.
      let other : j ≢ slot = apart_from j is_live in
      let was : (line_at lines j).live ≡ true = sym (ap (λ (l : CounterLine). l.live) (stays j other)) ∙ is_live in
      subst (IsHeld lists counted ends fresh done (remove store id) t j) (sym (stays j other)) (stored j was other (kept.held j was));
  occurrences = λ code k d less. (let o = kept.occurrences code k d less in omega (arith, o, length-set lines slot no_line));
  looked = kept.looked;
  counts = kept.counts;
  within = kept.within;
  rising = kept.rising;
  begun = kept.begun;
  of_slots = λ k less. (let o = kept.of_slots k less in omega (arith, o, length-set lines slot no_line));
  late = kept.late;
  later = kept.later;
}
  where
    at_slot : (slot < length lines) × ((line_at lines slot).id ≡ id) × ((line_at lines slot).live ≡ true)
    at_slot = kept.slots id slot in_use

    stays : (j : ℕ) → j ≢ slot → line_at (set lines slot no_line) j ≡ line_at lines j
    stays j other = get_or-set_other lines slot j no_line no_line other

    apart_from : (j : ℕ) → (line_at (set lines slot no_line) j).live ≡ true → j ≢ slot
    apart_from j is_live = λ e. two_truths (line_at (set lines slot no_line) j).live is_live (ap (λ (i : ℕ). (line_at (set lines slot no_line) i).live) e ∙ ap (λ (l : CounterLine). l.live) (get_or-set_same lines slot no_line no_line at_slot.0))

    of_other : (j : ℕ) → (line_at lines j).live ≡ true → j ≢ slot → (line_at lines j).id ≢ id
    of_other j is_live other = λ e. other (some_same j slot (slot_of id) (subst (λ (i : ℕ). slot_of i ≡ Some j) e (kept.named j is_live)) in_use)

    stored : (j : ℕ) → (line_at lines j).live ≡ true → j ≢ slot → IsHeld lists counted ends fresh done store t j (line_at lines j) → IsHeld lists counted ends fresh done (remove store id) t j (line_at lines j)
    stored j is_live other held = record {
      line = held.line;
      there = removed_other store id (line_at lines j).id (of_other j is_live other) ∙ held.there;
      kind = held.kind;
      counter = held.counter;
      ready = held.ready;
    }

-- an id that has no slot
pub kept_other : (lines : List CounterLine) (lists : OccurrenceLists) (slot_of slot_in : ℕ → Option ℕ) (counted : ℕ) (ends : List ℕ) (fresh : List Fresh) (done : ℕ) (store : LineMap) (t : TrailValue) (id : ℕ)
    → slot_of id ≡ None → ((q : ℕ) → slot_in q ≡ slot_of q)
    → AreKept lines lists slot_of counted ends fresh done store t → AreKept lines lists slot_in counted ends fresh done (remove store id) t
kept_other lines lists slot_of slot_in counted ends fresh done store t id free same kept = record {
  found = λ q d at kind. ⊎_elim
      (λ (e : q ≡ id). absurd (none_there (get (remove store id) id) d (removed_same store id) (subst (λ (i : ℕ). get (remove store id) i ≡ Some d) e at)))
      (λ (other : q ≢ id). let was = kept.found q d (sym (removed_other store id q other) ∙ at) kind in (was.0, same q ∙ was.1))
      (cases_eq q id);
  slots = λ q j is. kept.slots q j (sym (same q) ∙ is);
  named = λ j is_live. same (line_at lines j).id ∙ kept.named j is_live;
  held = λ j is_live.
      let held = kept.held j is_live in
      let apart : (line_at lines j).id ≢ id = λ e. none_there (slot_of id) j free (subst (λ (i : ℕ). slot_of i ≡ Some j) e (kept.named j is_live)) in
      record {
        line = held.line;
        there = removed_other store id (line_at lines j).id apart ∙ held.there;
        kind = held.kind;
        counter = held.counter;
        ready = held.ready;
      };
  occurrences = kept.occurrences;
  looked = kept.looked;
  counts = kept.counts;
  within = kept.within;
  rising = kept.rising;
  begun = kept.begun;
  of_slots = kept.of_slots;
  late = kept.late;
  later = kept.later;
}

-- ---- a map from ids to slots that changes at one id

pub update_here : (old new : ℕ → Option ℕ) (id : ℕ) (o : Option ℕ) → ((q : ℕ) → new q ≡ cond (nat_eq id q) o (old q)) → new id ≡ o
update_here old new id o is = is id ∙ cond-true (nat_eq id id) o (old id) (eq-eqb id id refl)

pub update_other : (old new : ℕ → Option ℕ) (id : ℕ) (o : Option ℕ) → ((q : ℕ) → new q ≡ cond (nat_eq id q) o (old q)) → (q : ℕ) → q ≢ id → new q ≡ old q
update_other old new id o is q other = is q ∙ cond-false (nat_eq id q) o (old q) (ne_eqb id q (λ e. other (sym e)))

pub update_none : (old new : ℕ → Option ℕ) (id : ℕ) → ((q : ℕ) → new q ≡ cond (nat_eq id q) None (old q)) → old id ≡ None → (q : ℕ) → new q ≡ old q
update_none old new id is none q = ⊎_elim
    (λ (e : q ≡ id). ap new e ∙ update_here old new id None is ∙ sym none ∙ ap old (sym e))
    (λ (other : q ≢ id). update_other old new id None is q other)
    (cases_eq q id)

-- lists that have the same of each live slot
pub kept_swept : (lines : List CounterLine) (lists new : OccurrenceLists) (slot_of : ℕ → Option ℕ) (counted : ℕ) (ends : List ℕ) (fresh : List Fresh) (done : ℕ) (store : LineMap) (t : TrailValue)
    → ((n code : ℕ) → AreOfSlots n (list_at lists code) → AreOfSlots n (list_at new code)) → ((code j : ℕ) → (line_at lines j).live ≡ true → listed j (list_at new code) ≡ listed j (list_at lists code))
    → AreKept lines lists slot_of counted ends fresh done store t → AreKept lines new slot_of counted ends fresh done store t
kept_swept lines lists new slot_of counted ends fresh done store t slots same kept = record {
  found = kept.found;
  slots = kept.slots;
  named = kept.named;
  held = λ j live.
      let held = kept.held j live in
      record {
        line = held.line;
        there = held.there;
        kind = held.kind;
        counter = record {
          normal = held.counter.normal;
          within = held.counter.within;
          occurs = λ code. same code j live ∙ held.counter.occurs code;
          sum = held.counter.sum;
          limit = held.counter.limit;
          enough = held.counter.enough;
        };
        ready = held.ready;
      };
  occurrences = λ code. slots (length lines) code (kept.occurrences code);
  looked = kept.looked;
  counts = kept.counts;
  within = kept.within;
  rising = kept.rising;
  begun = kept.begun;
  of_slots = kept.of_slots;
  late = kept.late;
  later = kept.later;
}
