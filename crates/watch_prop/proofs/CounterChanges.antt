-- What changes the counters: steps that are counted, looked at and gone through.
use Rattle.std.proofs.Common.{◌≡◌, ◌≢◌, ℕ, ◌+◌, ◌-◌, ◌<◌, ◌≤◌, ◌^◌, Bool, true, false, not, cond, if◌then◌else◌, Option, Some, None, List, [], ◌∷◌, length, get_or, take, All, arith, ap, sym, ◌∙◌, subst, ⊎_elim, inl, inr, length-set, get_or-set_same, get_or-set_other}
use Rattle.std.specs.Option.{is_none, option_map}
use Rattle.std.specs.List.{fold}
use Rattle.std.specs.FinMap.{get}
use Rattle.std.specs.Prelude.{replicate}
use Rattle.std.proofs.lemmas.Bool.{cases_eq, cond-true}
use Rattle.std.proofs.lemmas.List.{get_or-replicate, length-replicate, take_all}
use Rattle.std.proofs.lemmas.List.Sums.{sum_by-le-sum_by}
use Rattle.scut_base.specs.Literal.{Literal}
use Rattle.scut_base.specs.LiteralCode.{code_of}
use Rattle.scut_base.specs.Assignment.{partial_truth}
use Rattle.scut_base.proofs.Lists.{sum_by_same_in}
use Rattle.pb_lin.specs.Constraint.{ConstraintValue, UpTo, opposite, possible_value, total, unless_false}
use Rattle.pb_lin.specs.LineMap.{LineMap}
use Rattle.clause_prop.specs.Steps.{AreSteps, TrailValue, assigned, with_true}
use Rattle.watch_prop.specs.declared.occurrence_lists.OccurrenceLists.{OccurrenceLists}
use Rattle.watch_prop.specs.Counting.{AreKept, IsCounter, IsDone, IsGone, IsHeld, IsOver, IsSettled, IsWaiting, line_at, list_at, listed, lowered, possible, raised}
use Rattle.clause_prop.specs.declared.step.Step.{Step}
use Rattle.watch_prop.specs.declared.counter_lines.CounterLine.{CounterLine}
use Rattle.watch_prop.specs.declared.counter_lines.Fresh.{Fresh}
use Rattle.clause_prop.proofs.Assigned.{Values, index}
use Rattle.watch_prop.proofs.CounterForcing.{sum_under}
use Rattle.watch_prop.proofs.CounterTrails.{settled_gone, sum_falls_to, sum_step}

-- ---- more variables

agree_from : (p r : Values) (steps : List Step) (i : ℕ) → i < length p → i < length r → get_or p i None ≡ get_or r i None → get_or (fold with_true p steps) i None ≡ get_or (fold with_true r steps) i None
agree_from p r [] i below below' same = same
agree_from p r (s ∷ steps) i below below' same =
    agree_from (with_true p s) (with_true r s) steps i (omega (arith, below, length-set p (index s) (Some (not s.lit.neg)))) (omega (arith, below', length-set r (index s) (Some (not s.lit.neg))))
    (⊎_elim
    (λ (e : i ≡ index s).
    ap (λ (k : ℕ). get_or (with_true p s) k None) e ∙ get_or-set_same p (index s) (Some (not s.lit.neg)) None (omega (arith, below, e))
    ∙ sym (ap (λ (k : ℕ). get_or (with_true r s) k None) e ∙ get_or-set_same r (index s) (Some (not s.lit.neg)) None (omega (arith, below', e))))
    (λ (other : i ≢ index s). get_or-set_other p (index s) i (Some (not s.lit.neg)) None other ∙ same ∙ sym (get_or-set_other r (index s) i (Some (not s.lit.neg)) None other))
    (cases_eq i (index s)))

truth_agree : (n m : ℕ) (steps : List Step) (l : Literal) → n ≤ m → 0 < l.var → l.var ≤ n → partial_truth (assigned m steps) l ≡ partial_truth (assigned n steps) l
truth_agree n m steps l le positive within =
    ap (λ (o : Option Bool). option_map (λ b. if l.neg then not b else b) o)
    (agree_from (replicate m None) (replicate n None) steps (l.var - 1)
    (omega (arith, le, positive, within, length-replicate {A = Option Bool} m None)) (omega (arith, positive, within, length-replicate {A = Option Bool} n None))
    (get_or-replicate {A = Option Bool} m (l.var - 1) None None (omega (arith, le, positive, within)) ∙ sym (get_or-replicate {A = Option Bool} n (l.var - 1) None None (omega (arith, positive, within)))))

sum_agree : (n m : ℕ) (steps : List Step) (terms : List (Literal × ℕ)) → n ≤ m → All (λ t. 0 < t.0.var) terms → All (λ t. t.0.var ≤ n) terms → possible m steps terms ≡ possible n steps terms
sum_agree n m steps terms le positive within =
    sum_by_same_in (possible_value (assigned m steps)) (possible_value (assigned n steps)) terms
    (λ k d short. ap (λ (o : Option Bool). unless_false o (get_or terms k d).1) (truth_agree n m steps (get_or terms k d).0 le (positive k d short) (within k d short)))

settled_vars : (n m : ℕ) (steps : List Step) (c : ConstraintValue) (q e : ℕ) → n ≤ m → All (λ t. 0 < t.0.var) c.terms → UpTo n c → IsSettled n steps c q e → IsSettled m steps c q e
settled_vars n m steps c q e le positive within settled =
    let sums : possible n (take q steps) c.terms ≡ possible m (take q steps) c.terms = sym (sum_agree n m (take q steps) c.terms le positive within) in
    record {
      meets = subst (λ (sum : ℕ). c.degree ≤ sum) sums settled.meets;
      told = λ k d short exceeds.
          ap is_none (truth_agree n m (take e steps) (get_or c.terms k d).0 le (positive k d short) (within k d short))
          ∙ settled.told k d short (subst (λ (sum : ℕ). sum < (get_or c.terms k d).1 + c.degree) (sym sums) exceeds);
    }

pub kept_vars : (lines : List CounterLine) (lists : OccurrenceLists) (slot_of : ℕ → Option ℕ) (counted : ℕ) (ends : List ℕ) (fresh : List Fresh) (done : ℕ) (store : LineMap) (t : TrailValue) (m : ℕ) → t.vars ≤ m
    → AreKept lines lists slot_of counted ends fresh done store t → AreKept lines lists slot_of counted ends fresh done store (record { vars = m; steps = t.steps })
kept_vars lines lists slot_of counted ends fresh done store t m le kept = record {
  found = kept.found;
  slots = kept.slots;
  named = kept.named;
  held = λ j live.
      let held = kept.held j live in
      let c = held.line in
      let counter = held.counter in
      let positive = counter.normal.merged.from_one in
      record {
        line = c;
        there = held.there;
        kind = held.kind;
        counter = record {
          normal = counter.normal;
          within = λ k d short. (let w = counter.within k d short in omega (arith, w, le));
          occurs = counter.occurs;
          sum = counter.sum ∙ sym (sum_agree t.vars m (take counted t.steps) c.terms le positive counter.within);
          limit = counter.limit;
          enough = counter.enough;
        };
        ready = λ q less. ⊎_elim
            (λ (w : IsWaiting fresh done j). inl w)
            (λ (is : IsDone ends fresh done t.vars t.steps j c q). inr (record { by = is.by; settled = settled_vars t.vars m t.steps c q is.by le positive counter.within is.settled; reached = is.reached }))
            (held.ready q less);
      };
  occurrences = kept.occurrences;
  looked = kept.looked;
  counts = kept.counts;
  within = kept.within;
  rising = kept.rising;
  begun = kept.begun;
  of_slots = kept.of_slots;
  late = kept.late;
  later = kept.later;
}

-- ---- sums

-- the line with another sum
abbrev pub with_sum : CounterLine → ℕ → CounterLine
with_sum line n = record { id = line.id; live = line.live; possible = n; limit = line.limit }

pub kept_sums : (lines new : List CounterLine) (lists : OccurrenceLists) (slot_of : ℕ → Option ℕ) (counted m : ℕ) (ends : List ℕ) (fresh : List Fresh) (done : ℕ) (store : LineMap) (t : TrailValue) (f : ℕ → ℕ)
    → length new ≡ length lines → ((j : ℕ) → line_at new j ≡ with_sum (line_at lines j) (f j))
    → ((j : ℕ) (c : ConstraintValue) → (line_at lines j).live ≡ true → IsCounter lists t.vars (take counted t.steps) j (line_at lines j) c → f j ≡ possible t.vars (take m t.steps) c.terms)
    → length ends ≤ m → m ≤ length t.steps
    → AreKept lines lists slot_of counted ends fresh done store t → AreKept new lists slot_of m ends fresh done store t
kept_sums lines new lists slot_of counted m ends fresh done store t f len same sums looked counts kept = record {
  found = kept.found;
  slots = λ id j is. (let s = kept.slots id j is in (omega (arith, s.0, len), ap (λ (l : CounterLine). l.id) (same j) ∙ s.1, ap (λ (l : CounterLine). l.live) (same j) ∙ s.2));
  named = λ j live. ap slot_of (ap (λ (l : CounterLine). l.id) (same j)) ∙ kept.named j (was j live);
  held = λ j live. subst (IsHeld lists m ends fresh done store t j) (sym (same j)) (held_sum j (was j live) (kept.held j (was j live)));
  occurrences = λ code. subst (λ (n : ℕ). All (λ e. e.slot < n) (list_at lists code)) (sym len) (kept.occurrences code);
  looked = looked;
  counts = counts;
  within = kept.within;
  rising = kept.rising;
  begun = kept.begun;
  of_slots = λ k less. (let o = kept.of_slots k less in omega (arith, o, len));
  late = kept.late;
  later = kept.later;
}
  where
    was : (j : ℕ) → (line_at new j).live ≡ true → (line_at lines j).live ≡ true
    was j live = sym (ap (λ (l : CounterLine). l.live) (same j)) ∙ live

    held_sum : (j : ℕ) → (line_at lines j).live ≡ true → IsHeld lists counted ends fresh done store t j (line_at lines j) → IsHeld lists m ends fresh done store t j (with_sum (line_at lines j) (f j))
    held_sum j live held = record {
      line = held.line;
      there = held.there;
      kind = held.kind;
      counter = record {
        normal = held.counter.normal;
        within = held.counter.within;
        occurs = held.counter.occurs;
        sum = sums j held.line live held.counter;
        limit = held.counter.limit;
        enough = held.counter.enough;
      };
      ready = held.ready;
    }

-- what the opposite of the step at k has in the line of a live slot
takes : (lines : List CounterLine) (lists : OccurrenceLists) (n : ℕ) (steps : List Step) (k m : ℕ) (d : Step) (j : ℕ) (c : ConstraintValue) → AreSteps n steps → k < length steps → IsCounter lists n (take m steps) j (line_at lines j) c
    → possible n (take (k + 1) steps) c.terms + listed j (list_at lists (code_of (opposite (get_or steps k d).lit))) ≡ possible n (take k steps) c.terms
takes lines lists n steps k m d j c are short counter =
    ap (λ (w : ℕ). possible n (take (k + 1) steps) c.terms + w) (counter.occurs (code_of (opposite (get_or steps k d).lit)))
    ∙ sum_step n steps k d c.terms are short counter.normal.merged.from_one

pub count_fits : (lines : List CounterLine) (lists : OccurrenceLists) (slot_of : ℕ → Option ℕ) (counted : ℕ) (ends : List ℕ) (fresh : List Fresh) (done : ℕ) (store : LineMap) (t : TrailValue) (d : Step) → AreSteps t.vars t.steps → counted < length t.steps
    → AreKept lines lists slot_of counted ends fresh done store t → (j : ℕ) → (line_at lines j).live ≡ true → listed j (list_at lists (code_of (opposite (get_or t.steps counted d).lit))) ≤ (line_at lines j).possible
count_fits lines lists slot_of counted ends fresh done store t d are short kept j live =
    let held = kept.held j live in
    let step = takes lines lists t.vars t.steps counted counted d j held.line are short held.counter in
    let sum = held.counter.sum in
    omega (arith, step, sum)

pub kept_counted : (lines new : List CounterLine) (lists : OccurrenceLists) (slot_of : ℕ → Option ℕ) (counted : ℕ) (ends : List ℕ) (fresh : List Fresh) (done : ℕ) (store : LineMap) (t : TrailValue) (d : Step) → AreSteps t.vars t.steps → counted < length t.steps
    → length new ≡ length lines → ((j : ℕ) → line_at new j ≡ lowered (line_at lines j) (listed j (list_at lists (code_of (opposite (get_or t.steps counted d).lit)))))
    → AreKept lines lists slot_of counted ends fresh done store t → AreKept new lists slot_of (counted + 1) ends fresh done store t
kept_counted lines new lists slot_of counted ends fresh done store t d are short len same kept =
    kept_sums lines new lists slot_of counted (counted + 1) ends fresh done store t
    (λ j. (line_at lines j).possible - cond (line_at lines j).live (listed j (list_at lists (code_of (opposite (get_or t.steps counted d).lit)))) 0)
    len same
    (λ j c live counter.
    let share_is = cond-true (line_at lines j).live (listed j (list_at lists (code_of (opposite (get_or t.steps counted d).lit)))) 0 live in
    let step = takes lines lists t.vars t.steps counted counted d j c are short counter in
    let sum = counter.sum in
    omega (arith, share_is, step, sum))
    (let looked = kept.looked in omega (arith, looked)) (omega (arith, short)) kept

whole_sum : (p : Values) (terms : List (Literal × ℕ)) → sum_under p terms ≤ total terms
whole_sum p terms = sum_by-le-sum_by (possible_value p) (λ t. t.1) terms (λ t. unless_le (partial_truth p t.0) t.1)
  where
    unless_le : (o : Option Bool) (n : ℕ) → unless_false o n ≤ n
    unless_le (Some false) n = omega arith
    unless_le (Some true) n = omega arith
    unless_le None n = omega arith

pub uncount_fits : (lines : List CounterLine) (lists : OccurrenceLists) (slot_of : ℕ → Option ℕ) (counted m : ℕ) (ends : List ℕ) (fresh : List Fresh) (done : ℕ) (store : LineMap) (t : TrailValue) (d : Step) → AreSteps t.vars t.steps → counted ≡ m + 1
    → AreKept lines lists slot_of counted ends fresh done store t → (j : ℕ) → (line_at lines j).live ≡ true → (line_at lines j).possible + listed j (list_at lists (code_of (opposite (get_or t.steps m d).lit))) ≤ 2 ^ 100
uncount_fits lines lists slot_of counted m ends fresh done store t d are next kept j live =
    let held = kept.held j live in
    let counts = kept.counts in
    let step = takes lines lists t.vars t.steps m counted d j held.line are (omega (arith, counts, next)) held.counter in
    let sum = held.counter.sum ∙ ap (λ (k : ℕ). possible t.vars (take k t.steps) held.line.terms) next in
    let small = held.counter.normal.small in
    let whole = whole_sum (assigned t.vars (take m t.steps)) held.line.terms in
    omega (arith, step, sum, small, whole)

pub kept_uncounted : (lines new : List CounterLine) (lists : OccurrenceLists) (slot_of : ℕ → Option ℕ) (counted m : ℕ) (ends : List ℕ) (fresh : List Fresh) (done : ℕ) (store : LineMap) (t : TrailValue) (d : Step) → AreSteps t.vars t.steps → counted ≡ m + 1 → length ends ≤ m
    → length new ≡ length lines → ((j : ℕ) → line_at new j ≡ raised (line_at lines j) (listed j (list_at lists (code_of (opposite (get_or t.steps m d).lit)))))
    → AreKept lines lists slot_of counted ends fresh done store t → AreKept new lists slot_of m ends fresh done store t
kept_uncounted lines new lists slot_of counted m ends fresh done store t d are next looked len same kept =
    let counts = kept.counts in
    kept_sums lines new lists slot_of counted m ends fresh done store t
    (λ j. (line_at lines j).possible + cond (line_at lines j).live (listed j (list_at lists (code_of (opposite (get_or t.steps m d).lit)))) 0)
    len same
    (λ j c live counter.
    let share_is = cond-true (line_at lines j).live (listed j (list_at lists (code_of (opposite (get_or t.steps m d).lit)))) 0 live in
    let step = takes lines lists t.vars t.steps m counted d j c are (omega (arith, counts, next)) counter in
    let sum = counter.sum ∙ ap (λ (k : ℕ). possible t.vars (take k t.steps) c.terms) next in
    omega (arith, share_is, step, sum))
    looked (omega (arith, counts, next)) kept

-- ---- what was gone through

some_same : {X : Type 0} (a b : X) (o : Option X) → o ≡ Some a → o ≡ Some b → a ≡ b
some_same a b o e f = cc

pub kept_over : (lines : List CounterLine) (lists : OccurrenceLists) (slot_of : ℕ → Option ℕ) (counted : ℕ) (ends : List ℕ) (fresh : List Fresh) (done : ℕ) (store : LineMap) (t : TrailValue) → AreSteps t.vars t.steps
    → AreKept lines lists slot_of counted ends fresh done store t → (j : ℕ) → IsOver store t (line_at lines j)
kept_over lines lists slot_of counted ends fresh done store t are kept j live c there =
    let held = kept.held j live in
    let same : held.line ≡ c = some_same held.line c (get store (line_at lines j).id) held.there there in
    let falls = sum_falls_to t.vars t.steps counted (length t.steps) held.line.terms are kept.counts (omega arith) in
    let whole : possible t.vars (take (length t.steps) t.steps) held.line.terms ≡ possible t.vars t.steps held.line.terms = ap (λ (ss : List Step). possible t.vars ss held.line.terms) (take_all (length t.steps) t.steps (omega arith)) in
    let sum = held.counter.sum in
    subst (λ (x : ConstraintValue). possible t.vars t.steps x.terms ≤ (line_at lines j).possible) same (omega (arith, falls, whole, sum))

-- a live line that was gone through is settled for each number of steps that were looked at, or are counted
pub held_gone : (lists : OccurrenceLists) (counted : ℕ) (ends : List ℕ) (fresh : List Fresh) (done : ℕ) (store : LineMap) (t : TrailValue) (j : ℕ) (line : CounterLine) (q : ℕ) → AreSteps t.vars t.steps → q ≤ counted → counted ≤ length t.steps → line.live ≡ true
    → (held : IsHeld lists counted ends fresh done store t j line) → IsGone store t line → IsSettled t.vars t.steps held.line q (length t.steps)
held_gone lists counted ends fresh done store t j line q are le counts live held gone =
    settled_gone t.vars t.steps held.line q counted line.limit line.possible are le counts held.counter.sum held.counter.limit held.counter.enough (gone live held.line held.there)
