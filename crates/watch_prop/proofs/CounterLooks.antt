-- Steps that were looked at, and new lines that were gone through.
use Rattle.std.proofs.Common.{◌≡◌, ◌≢◌, ◌⊎◌, ℕ, zero, suc, ◌+◌, ◌<◌, ◌≤◌, true, Option, Some, List, [], ◌∷◌, ◌++◌, length, get_or, set, All, refl, arith, ap, sym, ◌∙◌, subst, ⊎_elim, inl, inr, length-set, get_or-set_same, get_or-set_other}
use Rattle.scut_base.specs.LiteralCode.{code_of}
use Rattle.std.specs.FinMap.{get}
use Rattle.std.proofs.lemmas.Bool.{cases_eq, cases_lt}
use Rattle.std.proofs.lemmas.List.{get_or_append_left, get_or_push, length_push}
use Rattle.std.proofs.lemmas.List.Sums.{sum_by-cons}
use Rattle.pb_lin.specs.Constraint.{opposite}
use Rattle.pb_lin.specs.LineMap.{LineMap}
use Rattle.pb_lin.specs.Propagation.{IsClosedUnder}
use Rattle.clause_prop.specs.Steps.{AreSteps, TrailValue, partial}
use Rattle.clause_prop.specs.LineKinds.{IsClosedForCounted}
use Rattle.watch_prop.specs.declared.occurrence_lists.OccurrenceLists.{OccurrenceLists}
use Rattle.watch_prop.specs.Counting.{AreKept, IsDone, IsGone, IsHeld, IsSettled, IsWaiting, end_of, fresh_at, line_at, list_at, listed, no_fresh, share}
use Rattle.clause_prop.specs.declared.step.Step.{Step}
use Rattle.watch_prop.specs.declared.counter_lines.CounterLine.{CounterLine}
use Rattle.watch_prop.specs.declared.counter_lines.Occurrence.{Occurrence}
use Rattle.watch_prop.specs.declared.counter_lines.Fresh.{Fresh}
use Rattle.watch_prop.proofs.CounterTrails.{settled_closed, settled_later, settled_next}
use Rattle.watch_prop.proofs.CounterLists.{share_other}
use Rattle.watch_prop.proofs.CounterKeeps.{by_within}
use Rattle.watch_prop.proofs.CounterChanges.{held_gone}

some_same : {X : Type 0} (a b : X) (o : Option X) → o ≡ Some a → o ≡ Some b → a ≡ b
some_same a b o e f = cc

-- ---- the list of a step

-- a slot is in a list, or has nothing there
in_list : (j : ℕ) (list : List Occurrence) → ((k : ℕ) × (k < length list) × ((d : Occurrence) → (get_or list k d).slot ≡ j)) ⊎ (listed j list ≡ 0)
in_list j [] = inr refl
in_list j (e ∷ list) = ⊎_elim
    (λ (here : e.slot ≡ j). inl (zero, omega arith, λ d. here))
    (λ (other : e.slot ≢ j). ⊎_elim
    (λ (later : (k : ℕ) × (k < length list) × ((d : Occurrence) → (get_or list k d).slot ≡ j)). inl (suc later.0, (let short = later.1 in omega (arith, short)), later.2))
    (λ (none : listed j list ≡ 0). inr (sum_is e list none (share_other j e other)))
    (in_list j list))
    (cases_eq e.slot j)
  where
    sum_is : (x : Occurrence) (xs : List Occurrence) → listed j xs ≡ 0 → share j x ≡ 0 → listed j (x ∷ xs) ≡ 0
    sum_is x xs rest one = omega (arith, sum_by-cons (share j) x xs, rest, one)

-- the lines of a list were gone through, so each line is settled with the step that the list is of
pub held_looked : (lines : List CounterLine) (lists : OccurrenceLists) (slot_of : ℕ → Option ℕ) (counted : ℕ) (ends : List ℕ) (fresh : List Fresh) (done : ℕ) (store : LineMap) (t : TrailValue) (d : Step) → AreSteps t.vars t.steps → length ends < counted
    → All (λ e. IsGone store t (line_at lines e.slot)) (list_at lists (code_of (opposite (get_or t.steps (length ends) d).lit)))
    → (kept : AreKept lines lists slot_of counted ends fresh done store t) → (j : ℕ) → (live : (line_at lines j).live ≡ true) → IsDone ends fresh done t.vars t.steps j (kept.held j live).line (length ends) → IsSettled t.vars t.steps (kept.held j live).line (length ends + 1) (length t.steps)
held_looked lines lists slot_of counted ends fresh done store t d are less gone kept j live is = ⊎_elim
    (λ (there : (k : ℕ) × (k < length list) × ((e : Occurrence) → (get_or list k e).slot ≡ j)).
    let e : Occurrence = record { slot = 0; coefficient = 0 } in
    let went : IsGone store t (line_at lines j) = subst (λ (i : ℕ). IsGone store t (line_at lines i)) (there.2 e) (gone there.0 e there.1) in
    held_gone lists counted ends fresh done store t j (line_at lines j) (length ends + 1) are (omega (arith, less)) counts live held went)
    (λ (none : listed j list ≡ 0).
    let by : IsSettled t.vars t.steps held.line (length ends) (length t.steps) = settled_later t.vars t.steps held.line (length ends) is.by (length t.steps) (by_within ends fresh done t.vars t.steps j held.line (length ends) kept.within kept.late (omega arith) is) (omega arith) is.settled in
    settled_next t.vars t.steps held.line (length ends) (length t.steps) d are (omega (arith, less, counts)) held.counter.normal.merged.from_one (sym (held.counter.occurs (code_of (opposite (get_or t.steps (length ends) d).lit))) ∙ none) by)
    (in_list j list)
  where
    list : List Occurrence
    list = list_at lists (code_of (opposite (get_or t.steps (length ends) d).lit))

    held : IsHeld lists counted ends fresh done store t j (line_at lines j)
    held = kept.held j live

    counts : counted ≤ length t.steps
    counts = kept.counts

-- a step was looked at
pub kept_looked : (lines : List CounterLine) (lists : OccurrenceLists) (slot_of : ℕ → Option ℕ) (counted : ℕ) (ends : List ℕ) (fresh : List Fresh) (done : ℕ) (store : LineMap) (t : TrailValue) (d : Step) → AreSteps t.vars t.steps → length ends < counted
    → All (λ e. IsGone store t (line_at lines e.slot)) (list_at lists (code_of (opposite (get_or t.steps (length ends) d).lit)))
    → AreKept lines lists slot_of counted ends fresh done store t → AreKept lines lists slot_of counted (ends ++ length t.steps ∷ []) fresh done store t
kept_looked lines lists slot_of counted ends fresh done store t d are less gone kept = record {
  found = kept.found;
  slots = kept.slots;
  named = kept.named;
  held = λ j live.
      let held = kept.held j live in
      record {
        line = held.line;
        there = held.there;
        kind = held.kind;
        counter = held.counter;
        ready = λ q le. ⊎_elim
            (λ (old : q < length ends + 1). ⊎_elim
            (λ (w : IsWaiting fresh done j). inl w)
            (λ (is : IsDone ends fresh done t.vars t.steps j held.line q). inr (record {
              by = is.by;
              settled = is.settled;
              reached = subst (λ (e : ℕ). (is.by ≤ e) ⊎ ((k : ℕ) × (k < done) × ((fresh_at fresh k).slot ≡ j) × (is.by ≤ (fresh_at fresh k).end))) (sym (end_old q (omega (arith, old)))) is.reached;
            }))
            (held.ready q (omega (arith, old))))
            (λ (new : length ends + 1 ≤ q). ⊎_elim
            (λ (w : IsWaiting fresh done j). inl w)
            (λ (is : IsDone ends fresh done t.vars t.steps j held.line (length ends)).
            let is_new : length ends + 1 ≡ q = omega (arith, new, le, length_push ends (length t.steps)) in
            inr (subst (λ (i : ℕ). IsDone (ends ++ length t.steps ∷ []) fresh done t.vars t.steps j held.line i) is_new (record {
              by = length t.steps;
              settled = held_looked lines lists slot_of counted ends fresh done store t d are less gone kept j live is;
              reached = inl (subst (λ (e : ℕ). length t.steps ≤ e) (sym end_new) (omega arith));
            })))
            (held.ready (length ends) (omega arith)))
            (cases_lt q (length ends + 1));
      };
  occurrences = kept.occurrences;
  looked = omega (arith, less, length_push ends (length t.steps));
  counts = kept.counts;
  within = λ p short. ⊎_elim
      (λ (old : p < length ends). subst (λ (e : ℕ). (p < e) × (e ≤ length t.steps)) (sym (get_or_append_left ends (length t.steps ∷ []) 0 p old)) (kept.within p old))
      (λ (new : length ends ≤ p).
      let counts = kept.counts in
      subst (λ (e : ℕ). (p < e) × (e ≤ length t.steps)) (sym (get_or_push ends (length t.steps) 0 p (omega (arith, new, short, length_push ends (length t.steps))))) (omega (arith, less, counts, short, length_push ends (length t.steps)), omega arith))
      (cases_lt p (length ends));
  rising = λ p q le short. ⊎_elim
      (λ (old : q < length ends).
      subst (λ (e : ℕ). e ≤ get_or (ends ++ length t.steps ∷ []) q 0) (sym (get_or_append_left ends (length t.steps ∷ []) 0 p (omega (arith, le, old))))
      (subst (λ (e : ℕ). get_or ends p 0 ≤ e) (sym (get_or_append_left ends (length t.steps ∷ []) 0 q old)) (kept.rising p q le old)))
      (λ (new : length ends ≤ q).
      subst (λ (e : ℕ). get_or (ends ++ length t.steps ∷ []) p 0 ≤ e) (sym (get_or_push ends (length t.steps) 0 q (omega (arith, new, short, length_push ends (length t.steps)))))
      (at_most p (omega (arith, le, short, length_push ends (length t.steps)))))
      (cases_lt q (length ends));
  begun = kept.begun;
  of_slots = kept.of_slots;
  late = kept.late;
  later = kept.later;
}
  where
    at_most : (p : ℕ) → p ≤ length ends → get_or (ends ++ length t.steps ∷ []) p 0 ≤ length t.steps
    at_most p le = ⊎_elim
        (λ (old : p < length ends). let w = (kept.within p old).1 in let same = get_or_append_left ends (length t.steps ∷ []) 0 p old in omega (arith, w, same))
        (λ (new : length ends ≤ p). let same = get_or_push ends (length t.steps) 0 p (omega (arith, new, le)) in omega (arith, same))
        (cases_lt p (length ends))

    end_old : (q : ℕ) → q ≤ length ends → end_of (ends ++ length t.steps ∷ []) q ≡ end_of ends q
    end_old zero le = refl
    end_old (suc p) le = get_or_append_left ends (length t.steps ∷ []) 0 p (omega (arith, le))

    plus_one : (n : ℕ) → n + 1 ≡ suc n
    plus_one n = omega arith

    end_new : end_of (ends ++ length t.steps ∷ []) (length ends + 1) ≡ length t.steps
    end_new = ap (λ (q : ℕ). end_of (ends ++ length t.steps ∷ []) q) (plus_one (length ends)) ∙ get_or_push ends (length t.steps) 0 (length ends) refl

-- ---- a new line

pub kept_visited : (lines : List CounterLine) (lists : OccurrenceLists) (slot_of : ℕ → Option ℕ) (counted : ℕ) (ends : List ℕ) (fresh : List Fresh) (done : ℕ) (store : LineMap) (t : TrailValue) → AreSteps t.vars t.steps → done < length fresh
    → IsGone store t (line_at lines (fresh_at fresh done).slot)
    → AreKept lines lists slot_of counted ends fresh done store t → AreKept lines lists slot_of counted ends (set fresh done (record { slot = (fresh_at fresh done).slot; end = length t.steps })) (done + 1) store t
kept_visited lines lists slot_of counted ends fresh done store t are short gone kept = record {
  found = kept.found;
  slots = kept.slots;
  named = kept.named;
  held = λ j live.
      let held = kept.held j live in
      record {
        line = held.line;
        there = held.there;
        kind = held.kind;
        counter = held.counter;
        ready = λ q le. ⊎_elim
            (λ (own : (fresh_at fresh done).slot ≡ j). inr (record {
              by = length t.steps;
              settled = held_gone lists counted ends fresh done store t j (line_at lines j) q are (let looked = kept.looked in omega (arith, le, looked)) kept.counts live held (subst (λ (i : ℕ). IsGone store t (line_at lines i)) own gone);
              reached = inr (done, omega arith, ap (λ (f : Fresh). f.slot) here ∙ own, subst (λ (f : Fresh). length t.steps ≤ f.end) (sym here) (omega arith));
            }))
            (λ (other : (fresh_at fresh done).slot ≢ j). ⊎_elim
            (λ (w : IsWaiting fresh done j).
            let apart : w.place ≢ done = λ e. other (ap (λ (k : ℕ). (fresh_at fresh k).slot) (sym e) ∙ w.is) in
            inl (record {
              place = w.place;
              short = (let s = w.short in omega (arith, s, length-set fresh done next));
              is = ap (λ (f : Fresh). f.slot) (same w.place apart) ∙ w.is;
              late = (let late = w.late in omega (arith, late, apart));
            }))
            (λ (is : IsDone ends fresh done t.vars t.steps j held.line q). inr (record {
              by = is.by;
              settled = is.settled;
              reached = ⊎_elim
                  (λ (old : is.by ≤ end_of ends q). inl old)
                  (λ (new : (k : ℕ) × (k < done) × ((fresh_at fresh k).slot ≡ j) × (is.by ≤ (fresh_at fresh k).end)).
                  let k : ℕ = new.0 in
                  let less : k < done = new.1 in
                  let unchanged : fresh_at (set fresh done next) k ≡ fresh_at fresh k = same k (omega (arith, less)) in
                  inr (k, omega (arith, less), ap (λ (f : Fresh). f.slot) unchanged ∙ new.2, subst (λ (f : Fresh). is.by ≤ f.end) (sym unchanged) new.3))
                  is.reached;
            }))
            (held.ready q le))
            (cases_eq (fresh_at fresh done).slot j);
      };
  occurrences = kept.occurrences;
  looked = kept.looked;
  counts = kept.counts;
  within = kept.within;
  rising = kept.rising;
  begun = omega (arith, short, length-set fresh done next);
  of_slots = λ k less. ⊎_elim
      (λ (e : k ≡ done). subst (λ (i : ℕ). (fresh_at (set fresh done next) i).slot < length lines) (sym e) (subst (λ (f : Fresh). f.slot < length lines) (sym here) (kept.of_slots done short)))
      (λ (other : k ≢ done). subst (λ (f : Fresh). f.slot < length lines) (sym (same k other)) (kept.of_slots k (omega (arith, less, length-set fresh done next))))
      (cases_eq k done);
  late = λ k less. end_at k less;
  later = λ i k le less. ⊎_elim
      (λ (e : k ≡ done). subst (λ (m : ℕ). (fresh_at (set fresh done next) i).end ≤ (fresh_at (set fresh done next) m).end) (sym e) (subst (λ (f : Fresh). (fresh_at (set fresh done next) i).end ≤ f.end) (sym here) (end_at i (omega (arith, le, less)))))
      (λ (other : k ≢ done).
      let below : k < done = omega (arith, less, other) in
      subst (λ (f : Fresh). f.end ≤ (fresh_at (set fresh done next) k).end) (sym (same i (omega (arith, le, below))))
      (subst (λ (f : Fresh). (fresh_at fresh i).end ≤ f.end) (sym (same k other)) (kept.later i k le below)))
      (cases_eq k done);
}
  where
    next : Fresh
    next = record { slot = (fresh_at fresh done).slot; end = length t.steps }

    here : fresh_at (set fresh done next) done ≡ next
    here = get_or-set_same fresh done next no_fresh short

    same : (k : ℕ) → k ≢ done → fresh_at (set fresh done next) k ≡ fresh_at fresh k
    same k other = get_or-set_other fresh done k next no_fresh other

    end_at : (k : ℕ) → k < done + 1 → (fresh_at (set fresh done next) k).end ≤ length t.steps
    end_at k less = ⊎_elim
        (λ (e : k ≡ done). subst (λ (i : ℕ). (fresh_at (set fresh done next) i).end ≤ length t.steps) (sym e) (subst (λ (f : Fresh). f.end ≤ length t.steps) (sym here) (omega arith)))
        (λ (other : k ≢ done). subst (λ (f : Fresh). f.end ≤ length t.steps) (sym (same k other)) (kept.late k (omega (arith, less, other))))
        (cases_eq k done)

-- ---- all is gone through

pub kept_closed : (lines : List CounterLine) (lists : OccurrenceLists) (slot_of : ℕ → Option ℕ) (counted : ℕ) (ends : List ℕ) (fresh : List Fresh) (done : ℕ) (store : LineMap) (t : TrailValue) → done ≡ length fresh → length t.steps ≤ length ends
    → AreKept lines lists slot_of counted ends fresh done store t → IsClosedForCounted store t
kept_closed lines lists slot_of counted ends fresh done store t all looked kept id c there kind =
    let slot = kept.found id c there kind in
    let j : ℕ = slot.0 in
    let at = kept.slots id j slot.1 in
    let held = kept.held j at.2 in
    let same : held.line ≡ c = some_same held.line c (get store id) (subst (λ (i : ℕ). get store i ≡ Some held.line) at.1 held.there) there in
    subst (IsClosedUnder (partial t)) same (settled_closed t held.line (⊎_elim
    (λ (w : IsWaiting fresh done j). let s = w.short in let late = w.late in absurd (omega (arith, s, late, all)))
    (λ (is : IsDone ends fresh done t.vars t.steps j held.line (length ends)).
    let whole : length ends ≡ length t.steps = (let counts = kept.counts in let looks = kept.looked in omega (arith, looked, counts, looks)) in
    subst (λ (q : ℕ). IsSettled t.vars t.steps held.line q (length t.steps)) whole
    (settled_later t.vars t.steps held.line (length ends) is.by (length t.steps) (by_within ends fresh done t.vars t.steps j held.line (length ends) kept.within kept.late (omega arith) is) (omega arith) is.settled))
    (held.ready (length ends) (omega arith))))
