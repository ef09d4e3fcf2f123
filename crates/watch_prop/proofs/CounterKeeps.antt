-- What keeps the counters in step: trails that grow or are cut, and lines of the other kind.
use Rattle.std.proofs.Common.{◌≡◌, ◌≢◌, ◌⊎◌, ℕ, zero, suc, ◌<◌, ◌≤◌, Bool, true, false, cond, Option, Some, None, List, ◌++◌, length, get_or, take, refl, arith, ap, sym, ◌∙◌, subst, ⊎_elim, inl, inr, length-append}
use Rattle.std.specs.FinMap.{get, remove, get-remove}
use Rattle.std.specs.Ordering.{nat_cmp, eq_by_cmp}
use Rattle.std.specs.Cmp.{nat_cmp_total, unsigned_tied}
use Rattle.std.specs.Prelude.{nat_eq}
use Rattle.std.proofs.lemmas.Cmp.{eq_by_cmp_equiv}
use Rattle.std.proofs.lemmas.Bool.{cases_eq, cases_lt, eq-eqb, ne_eqb}
use Rattle.std.proofs.lemmas.List.{take-append-le, take-take, get_or-take, length-take}
use Rattle.pb_lin.specs.Constraint.{ConstraintValue}
use Rattle.pb_lin.specs.LineMap.{LineMap}
use Rattle.clause_prop.specs.Steps.{TrailValue, assigned, cut}
use Rattle.clause_prop.specs.LineKinds.{is_watched}
use Rattle.watch_prop.specs.declared.occurrence_lists.OccurrenceLists.{OccurrenceLists}
use Rattle.watch_prop.specs.Counting.{AreKept, AreTold, IsCounter, IsDone, IsHeld, IsSettled, IsWaiting, end_of, fresh_at, line_at, possible}
use Rattle.clause_prop.specs.declared.step.Step.{Step}
use Rattle.watch_prop.specs.declared.counter_lines.CounterLine.{CounterLine}
use Rattle.watch_prop.specs.declared.counter_lines.Fresh.{Fresh}

-- ---- ends

-- how far q steps had taken the trail when they had been looked at
pub end_within : (ends : List ℕ) (steps : List Step) (q : ℕ) → ((p : ℕ) → p < length ends → (p < get_or ends p 0) × (get_or ends p 0 ≤ length steps)) → q ≤ length ends → (q ≤ end_of ends q) × (end_of ends q ≤ length steps)
end_within ends steps zero within le = (omega arith, omega arith)
end_within ends steps (suc p) within le = let w = within p (omega (arith, le)) in (let low = w.0 in omega (arith, low), w.1)

-- what the line of a slot is settled by is within the trail
pub by_within : (ends : List ℕ) (fresh : List Fresh) (done n : ℕ) (steps : List Step) (j : ℕ) (c : ConstraintValue) (q : ℕ) → ((p : ℕ) → p < length ends → (p < get_or ends p 0) × (get_or ends p 0 ≤ length steps)) → ((k : ℕ) → k < done → (fresh_at fresh k).end ≤ length steps) → q ≤ length ends
    → (is : IsDone ends fresh done n steps j c q) → is.by ≤ length steps
by_within ends fresh done n steps j c q within late le is = ⊎_elim
    (λ (old : is.by ≤ end_of ends q). let end = (end_within ends steps q within le).1 in omega (arith, old, end))
    (λ (new : (k : ℕ) × (k < done) × ((fresh_at fresh k).slot ≡ j) × (is.by ≤ (fresh_at fresh k).end)). let end = late new.0 new.1 in let by = new.3 in omega (arith, end, by))
    is.reached

-- ---- another trail

-- a held line under another trail, where the counted steps and the settled ones are the same
pub held_trail : (lists : OccurrenceLists) (counted : ℕ) (ends : List ℕ) (fresh : List Fresh) (done : ℕ) (store : LineMap) (t u : TrailValue) (j : ℕ) (kept : CounterLine) → u.vars ≡ t.vars → take counted u.steps ≡ take counted t.steps
    → ((c : ConstraintValue) (q : ℕ) → q ≤ length ends → IsDone ends fresh done t.vars t.steps j c q → IsWaiting fresh done j ⊎ IsDone ends fresh done u.vars u.steps j c q)
    → IsHeld lists counted ends fresh done store t j kept → IsHeld lists counted ends fresh done store u j kept
held_trail lists counted ends fresh done store t u j kept vars same ready held = record {
  line = held.line;
  there = held.there;
  kind = held.kind;
  counter = subst (λ (n : ℕ). IsCounter lists n (take counted u.steps) j kept held.line) (sym vars) (subst (λ (ss : List Step). IsCounter lists t.vars ss j kept held.line) (sym same) held.counter);
  ready = λ q le. ⊎_elim (λ (w : IsWaiting fresh done j). inl w) (λ (is : IsDone ends fresh done t.vars t.steps j held.line q). ready held.line q le is) (held.ready q le);
}

pub settled_steps : (n m : ℕ) (ss rs : List Step) (c : ConstraintValue) (q e : ℕ) → m ≡ n → take q rs ≡ take q ss → take e rs ≡ take e ss → IsSettled n ss c q e → IsSettled m rs c q e
settled_steps n m ss rs c q e vars first later settled =
    subst (λ (k : ℕ). IsSettled k rs c q e) (sym vars) (record {
      meets = subst (λ (xs : List Step). c.degree ≤ possible n xs c.terms) (sym first) settled.meets;
      told = subst (λ (xs : List Step). AreTold (assigned n (take e rs)) c (possible n xs c.terms)) (sym first)
          (subst (λ (xs : List Step). AreTold (assigned n xs) c (possible n (take q ss) c.terms)) (sym later) settled.told);
    })

pub kept_longer : (lines : List CounterLine) (lists : OccurrenceLists) (slot_of : ℕ → Option ℕ) (counted : ℕ) (ends : List ℕ) (fresh : List Fresh) (done : ℕ) (store : LineMap) (t u : TrailValue) (more : List Step) → u.vars ≡ t.vars → u.steps ≡ t.steps ++ more
    → AreKept lines lists slot_of counted ends fresh done store t → AreKept lines lists slot_of counted ends fresh done store u
kept_longer lines lists slot_of counted ends fresh done store t u more vars is kept = record {
  found = kept.found;
  slots = kept.slots;
  named = kept.named;
  held = λ j live. held_trail lists counted ends fresh done store t u j (line_at lines j) vars (first counted kept.counts) (λ c q le done_by. inr (record {
    by = done_by.by;
    settled = settled_steps t.vars u.vars t.steps u.steps c q done_by.by vars (first q (let counts = kept.counts in let looked = kept.looked in omega (arith, le, counts, looked))) (first done_by.by (by_within ends fresh done t.vars t.steps j c q kept.within kept.late le done_by)) done_by.settled;
    reached = done_by.reached;
  })) (kept.held j live);
  occurrences = kept.occurrences;
  looked = kept.looked;
  counts = (let counts = kept.counts in omega (arith, counts, longer));
  within = λ p less. (let w = kept.within p less in (w.0, let high = w.1 in omega (arith, high, longer)));
  rising = kept.rising;
  begun = kept.begun;
  of_slots = kept.of_slots;
  late = λ k less. (let high = kept.late k less in omega (arith, high, longer));
  later = kept.later;
}
  where
    longer : length t.steps ≤ length u.steps
    longer = omega (arith, ap length is, length-append t.steps more)

    first : (k : ℕ) → k ≤ length t.steps → take k u.steps ≡ take k t.steps
    first k le = ap (take k) is ∙ take-append-le k t.steps more le

-- ends that are forgotten
pub kept_ends : (lines : List CounterLine) (lists : OccurrenceLists) (slot_of : ℕ → Option ℕ) (counted : ℕ) (ends : List ℕ) (fresh : List Fresh) (done : ℕ) (store : LineMap) (t : TrailValue) (count : ℕ)
    → AreKept lines lists slot_of counted ends fresh done store t → AreKept lines lists slot_of counted (take count ends) fresh done store t
kept_ends lines lists slot_of counted ends fresh done store t count kept = record {
  found = kept.found;
  slots = kept.slots;
  named = kept.named;
  held = λ j live. (let held = kept.held j live in record {
    line = held.line;
    there = held.there;
    kind = held.kind;
    counter = held.counter;
    ready = λ q le. ⊎_elim
        (λ (w : IsWaiting fresh done j). inl w)
        (λ (is : IsDone ends fresh done t.vars t.steps j held.line q). inr (record { by = is.by; settled = is.settled; reached = subst (λ (e : ℕ). (is.by ≤ e) ⊎ ((k : ℕ) × (k < done) × ((fresh_at fresh k).slot ≡ j) × (is.by ≤ (fresh_at fresh k).end))) (sym (end_same q le)) is.reached }))
        (held.ready q (omega (arith, le, fewer)));
  });
  occurrences = kept.occurrences;
  looked = (let looked = kept.looked in omega (arith, looked, fewer));
  counts = kept.counts;
  within = λ p less. subst (λ (e : ℕ). (p < e) × (e ≤ length t.steps)) (sym (same p less)) (kept.within p (omega (arith, less, fewer)));
  rising = λ p q le less. subst (λ (e : ℕ). e ≤ get_or (take count ends) q 0) (sym (same p (omega (arith, le, less)))) (subst (λ (e : ℕ). get_or ends p 0 ≤ e) (sym (same q less)) (kept.rising p q le (omega (arith, less, fewer))));
  begun = kept.begun;
  of_slots = kept.of_slots;
  late = kept.late;
  later = kept.later;
}
  where
    fewer : length (take count ends) ≤ length ends
    fewer = grind (arith, length-take count ends)

    same : (p : ℕ) → p < length (take count ends) → get_or (take count ends) p 0 ≡ get_or ends p 0
    same p less = get_or-take count ends p 0 (grind (arith, less, length-take count ends))

    end_same : (q : ℕ) → q ≤ length (take count ends) → end_of (take count ends) q ≡ end_of ends q
    end_same zero le = refl
    end_same (suc p) le = same p (omega (arith, le))

-- new lines that wait again
pub kept_done : (lines : List CounterLine) (lists : OccurrenceLists) (slot_of : ℕ → Option ℕ) (counted : ℕ) (ends : List ℕ) (fresh : List Fresh) (done : ℕ) (store : LineMap) (t : TrailValue) (fewer : ℕ) → fewer ≤ done
    → AreKept lines lists slot_of counted ends fresh done store t → AreKept lines lists slot_of counted ends fresh fewer store t
kept_done lines lists slot_of counted ends fresh done store t fewer le kept = record {
  found = kept.found;
  slots = kept.slots;
  named = kept.named;
  held = λ j live. (let held = kept.held j live in record {
    line = held.line;
    there = held.there;
    kind = held.kind;
    counter = held.counter;
    ready = λ q less. ⊎_elim
        (λ (w : IsWaiting fresh done j). inl (record { place = w.place; short = w.short; is = w.is; late = (let late = w.late in omega (arith, le, late)) }))
        (λ (is : IsDone ends fresh done t.vars t.steps j held.line q). ⊎_elim
        (λ (old : is.by ≤ end_of ends q). inr (record { by = is.by; settled = is.settled; reached = inl old }))
        (λ (new : (k : ℕ) × (k < done) × ((fresh_at fresh k).slot ≡ j) × (is.by ≤ (fresh_at fresh k).end)). ⊎_elim
        (λ (stays : new.0 < fewer). inr (record { by = is.by; settled = is.settled; reached = inr (new.0, stays, new.2, new.3) }))
        (λ (waits : fewer ≤ new.0). inl (record { place = new.0; short = (let short = new.1 in let begun = kept.begun in omega (arith, short, begun)); is = new.2; late = waits }))
        (cases_lt new.0 fewer))
        is.reached)
        (held.ready q less);
  });
  occurrences = kept.occurrences;
  looked = kept.looked;
  counts = kept.counts;
  within = kept.within;
  rising = kept.rising;
  begun = (let begun = kept.begun in omega (arith, le, begun));
  of_slots = kept.of_slots;
  late = λ k less. kept.late k (omega (arith, less, le));
  later = λ i k up less. kept.later i k up (omega (arith, less, le));
}

-- a cut, where nothing was counted, looked at or gone through with more steps
pub kept_cut : (lines : List CounterLine) (lists : OccurrenceLists) (slot_of : ℕ → Option ℕ) (counted : ℕ) (ends : List ℕ) (fresh : List Fresh) (done : ℕ) (store : LineMap) (t : TrailValue) (keep : ℕ) → keep ≤ length t.steps → counted ≤ keep
    → ((k : ℕ) → k < length ends → get_or ends k 0 ≤ keep) → ((k : ℕ) → k < done → (fresh_at fresh k).end ≤ keep)
    → AreKept lines lists slot_of counted ends fresh done store t → AreKept lines lists slot_of counted ends fresh done store (cut t keep)
kept_cut lines lists slot_of counted ends fresh done store t keep short counts within late kept = record {
  found = kept.found;
  slots = kept.slots;
  named = kept.named;
  held = λ j live. held_trail lists counted ends fresh done store t (cut t keep) j (line_at lines j) refl (first counted counts) (λ c q le is. inr (record {
    by = is.by;
    settled = settled_steps t.vars t.vars t.steps (take keep t.steps) c q is.by refl (first q (let looked = kept.looked in omega (arith, le, looked, counts))) (first is.by (by_keep j c q le is)) is.settled;
    reached = is.reached;
  })) (kept.held j live);
  occurrences = kept.occurrences;
  looked = kept.looked;
  counts = omega (arith, counts, long);
  within = λ p less. ((kept.within p less).0, (let high = within p less in omega (arith, high, long)));
  rising = kept.rising;
  begun = kept.begun;
  of_slots = kept.of_slots;
  late = λ k less. (let high = late k less in omega (arith, high, long));
  later = kept.later;
}
  where
    long : length (take keep t.steps) ≡ keep
    long = grind (arith, length-take keep t.steps)

    first : (k : ℕ) → k ≤ keep → take k (take keep t.steps) ≡ take k t.steps
    first k le = take-take k keep t.steps le

    end_keep : (q : ℕ) → q ≤ length ends → end_of ends q ≤ keep
    end_keep zero le = omega arith
    end_keep (suc p) le = within p (omega (arith, le))

    by_keep : (j : ℕ) (c : ConstraintValue) (q : ℕ) → q ≤ length ends → (is : IsDone ends fresh done t.vars t.steps j c q) → is.by ≤ keep
    by_keep j c q le is = ⊎_elim
        (λ (old : is.by ≤ end_of ends q). let end = end_keep q le in omega (arith, old, end))
        (λ (new : (k : ℕ) × (k < done) × ((fresh_at fresh k).slot ≡ j) × (is.by ≤ (fresh_at fresh k).end)). let end = late new.0 new.1 in let by = new.3 in omega (arith, end, by))
        is.reached

-- ---- another store

turned : (q id : ℕ) → eq_by_cmp nat_cmp q id ≡ nat_eq id q
turned q id = (eq_by_cmp_equiv nat_cmp_total).symm q id ∙ unsigned_tied id q

pub removed_same : (store : LineMap) (id : ℕ) → get (remove store id) id ≡ None
removed_same store id = get-remove nat_cmp_total store id id ∙ ap (λ b. cond b None (get store id)) (turned id id ∙ eq-eqb id id refl)

pub removed_other : (store : LineMap) (id q : ℕ) → q ≢ id → get (remove store id) q ≡ get store q
removed_other store id q other = get-remove nat_cmp_total store id q ∙ ap (λ b. cond b None (get store q)) (turned q id ∙ ne_eqb id q (λ e. other (sym e)))

-- a store that has the same counted lines
pub kept_store : (lines : List CounterLine) (lists : OccurrenceLists) (slot_of : ℕ → Option ℕ) (counted : ℕ) (ends : List ℕ) (fresh : List Fresh) (done : ℕ) (store new : LineMap) (t : TrailValue)
    → ((q : ℕ) (c : ConstraintValue) → get new q ≡ Some c → is_watched c ≡ false → get store q ≡ Some c) → ((j : ℕ) (c : ConstraintValue) → is_watched c ≡ false → get store (line_at lines j).id ≡ Some c → get new (line_at lines j).id ≡ Some c)
    → AreKept lines lists slot_of counted ends fresh done store t → AreKept lines lists slot_of counted ends fresh done new t
kept_store lines lists slot_of counted ends fresh done store new t back forth kept = record {
  found = λ id c there kind. kept.found id c (back id c there kind) kind;
  slots = kept.slots;
  named = kept.named;
  held = λ j live. (let held = kept.held j live in record {
    line = held.line;
    there = forth j held.line held.kind held.there;
    kind = held.kind;
    counter = held.counter;
    ready = held.ready;
  });
  occurrences = kept.occurrences;
  looked = kept.looked;
  counts = kept.counts;
  within = kept.within;
  rising = kept.rising;
  begun = kept.begun;
  of_slots = kept.of_slots;
  late = kept.late;
  later = kept.later;
}

some_same : {X : Type 0} (a b : X) (o : Option X) → o ≡ Some a → o ≡ Some b → a ≡ b
some_same a b o e f = cc

none_there : {X : Type 0} (o : Option X) (x : X) → o ≡ None → o ≡ Some x → ⊥
none_there o x e f = cc

two_kinds : (b : Bool) → b ≡ true → b ≡ false → ⊥
two_kinds b e f = cc

pub kept_watched : (lines : List CounterLine) (lists : OccurrenceLists) (slot_of : ℕ → Option ℕ) (counted : ℕ) (ends : List ℕ) (fresh : List Fresh) (done : ℕ) (store : LineMap) (t : TrailValue) (id : ℕ) (c : ConstraintValue) → get store id ≡ Some c → is_watched c ≡ true
    → AreKept lines lists slot_of counted ends fresh done (remove store id) t → AreKept lines lists slot_of counted ends fresh done store t
kept_watched lines lists slot_of counted ends fresh done store t id c there watched kept = kept_store lines lists slot_of counted ends fresh done (remove store id) store t
    (λ q d here kind. ⊎_elim
    (λ (e : q ≡ id). absurd (two_kinds (is_watched d) (subst (λ (x : ConstraintValue). is_watched x ≡ true) (some_same c d (get store id) there (subst (λ (i : ℕ). get store i ≡ Some d) e here)) watched) kind))
    (λ (other : q ≢ id). removed_other store id q other ∙ here)
    (cases_eq q id))
    (λ j d kind here. ⊎_elim
    (λ (e : (line_at lines j).id ≡ id). absurd (none_there (get (remove store id) id) d (removed_same store id) (subst (λ (i : ℕ). get (remove store id) i ≡ Some d) e here)))
    (λ (other : (line_at lines j).id ≢ id). sym (removed_other store id (line_at lines j).id other) ∙ here)
    (cases_eq (line_at lines j).id id))
    kept

pub kept_unwatched : (lines : List CounterLine) (lists : OccurrenceLists) (slot_of : ℕ → Option ℕ) (counted : ℕ) (ends : List ℕ) (fresh : List Fresh) (done : ℕ) (store : LineMap) (t : TrailValue) (id : ℕ) (c : ConstraintValue) → get store id ≡ Some c → is_watched c ≡ true
    → AreKept lines lists slot_of counted ends fresh done store t → AreKept lines lists slot_of counted ends fresh done (remove store id) t
kept_unwatched lines lists slot_of counted ends fresh done store t id c there watched kept = kept_store lines lists slot_of counted ends fresh done store (remove store id) t
    (λ q d here kind. ⊎_elim
    (λ (e : q ≡ id). absurd (none_there (get (remove store id) id) d (removed_same store id) (subst (λ (i : ℕ). get (remove store id) i ≡ Some d) e here)))
    (λ (other : q ≢ id). sym (removed_other store id q other) ∙ here)
    (cases_eq q id))
    (λ j d kind here. ⊎_elim
    (λ (e : (line_at lines j).id ≡ id). absurd (two_kinds (is_watched d) (subst (λ (x : ConstraintValue). is_watched x ≡ true) (some_same c d (get store id) there (subst (λ (i : ℕ). get store i ≡ Some d) e here)) watched) kind))
    (λ (other : (line_at lines j).id ≢ id). removed_other store id (line_at lines j).id other ∙ here)
    (cases_eq (line_at lines j).id id))
    kept
