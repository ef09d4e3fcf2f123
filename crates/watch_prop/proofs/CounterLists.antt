-- Lists of occurrences, and the sums that change by them.
use Rattle.std.proofs.Common.{◌≡◌, ◌≢◌, ℕ, ◌+◌, ◌-◌, ◌<◌, ◌≤◌, ◌^◌, Bool, true, false, cond, length-set, if◌then◌else◌, Some, List, [], ◌∷◌, ◌++◌, length, get_or, set, take, All, refl, arith, ap, sym, ◌∙◌, subst, ⊎_elim, eq-eqb, get_or-set_same, get_or-set_other}
use Rattle.std.specs.Prelude.{nat_eq, slice_get}
use Rattle.std.proofs.lemmas.Bool.{cases_eq, ne_eqb, cond-true, cond-false}
use Rattle.std.proofs.lemmas.Option.{get_or_from_slice_get, slice_get-get_or}
use Rattle.std.proofs.lemmas.List.{get_or_default}
use Rattle.std.proofs.lemmas.List.Sums.{sum_by_more, sum_by_more_le, sum_by_push}
use Rattle.std.proofs.lemmas.List.Elements.{All-push}
use Rattle.scut_base.specs.Literal.{Literal}
use Rattle.scut_base.specs.LiteralCode.{code_of}
use Rattle.scut_base.proofs.Lists.{sum_by_zero}
use Rattle.pb_lin.proofs.AtPlace.{take_place, sum_place}
use Rattle.watch_prop.specs.declared.occurrence_lists.CodeList.{CodeList}
use Rattle.watch_prop.specs.declared.occurrence_lists.OccurrenceLists.{OccurrenceLists}
use Rattle.watch_prop.specs.Counting.{AreOfSlots, AreQuiet, IsQuiet, coefficient_at, items_for, line_at, list_at, listed, lowered, raised, no_line, no_occurrence, share, weight}
use Rattle.pb_lin.specs.Constraint.{opposite}
use Rattle.clause_prop.specs.declared.step.Step.{Step}
use Rattle.watch_prop.specs.declared.counter_lines.CounterLine.{CounterLine}
use Rattle.watch_prop.specs.declared.counter_lines.Occurrence.{Occurrence}

pub all_more : {X : Type 0} (P Q : X → Type 0) (xs : List X) (k : ℕ) (x : X) → ((y : X) → P y → Q y) → All P (take k xs) → slice_get xs k ≡ Some x → Q x → All Q (take (k + 1) xs)
all_more {X} P Q xs k x weaker all found one = subst (All Q) (sym (take_place xs k x found)) (All-push Q (take k xs) x (λ i d less. weaker (get_or (take k xs) i d) (all i d less)) one)

-- what holds of the other elements and of a new one holds after a write
pub set_cases : {X : Type 0} (d : X) (P : ℕ → X → Type 0) (xs : List X) (c : ℕ) (x : X) → c < length xs → ((k : ℕ) → k ≢ c → P k (get_or xs k d)) → P c x → (k : ℕ) → P k (get_or (set xs c x) k d)
set_cases {X} d P xs c x short others here k = ⊎_elim
    (λ (e : k ≡ c).
    let value : get_or (set xs c x) k d ≡ x = ap (λ (i : ℕ). get_or (set xs c x) i d) e ∙ get_or-set_same xs c x d short in
    subst (λ (y : X). P k y) (sym value) (subst (λ (i : ℕ). P i x) (sym e) here))
    (λ (other : k ≢ c). subst (λ (y : X). P k y) (sym (get_or-set_other xs c k x d other)) (others k other))
    (cases_eq k c)

pub share_own : (j : ℕ) (e : Occurrence) → e.slot ≡ j → share j e ≡ e.coefficient
share_own j e same = cond-true (nat_eq e.slot j) e.coefficient 0 (eq-eqb e.slot j same)

pub share_other : (j : ℕ) (e : Occurrence) → e.slot ≢ j → share j e ≡ 0
share_other j e other = cond-false (nat_eq e.slot j) e.coefficient 0 (ne_eqb e.slot j other)

weight_own : (code : ℕ) (t : Literal × ℕ) → code_of t.0 ≡ code → weight code t ≡ t.1
weight_own code t same = cond-true (nat_eq (code_of t.0) code) t.1 0 (eq-eqb (code_of t.0) code same)

weight_other : (code : ℕ) (t : Literal × ℕ) → code_of t.0 ≢ code → weight code t ≡ 0
weight_other code t other = cond-false (nat_eq (code_of t.0) code) t.1 0 (ne_eqb (code_of t.0) code other)

-- a slot that is above all of a list has nothing there
pub none_listed : (slot : ℕ) (list : List Occurrence) → AreOfSlots slot list → listed slot list ≡ 0
none_listed slot list below = sum_by_zero (share slot) list (λ k d less. share_other slot (get_or list k d) (λ e. let b = below k d less in absurd (omega (arith, e, b))))

pub more_slots : (n m : ℕ) (list : List Occurrence) → n ≤ m → AreOfSlots n list → AreOfSlots m list
more_slots n m list le below = λ k d less. let b = below k d less in omega (arith, b, le)

-- ---- sums that change

lowered_twice : (line : CounterLine) (n m : ℕ) → lowered (lowered line n) m ≡ lowered line (n + m)
lowered_twice line n m = ap (λ (p : ℕ). record { id = line.id; live = line.live; possible = p; limit = line.limit }) (by_live line.live line.possible)
  where
    by_live : (b : Bool) (p : ℕ) → (p - cond b n 0) - cond b m 0 ≡ p - cond b (n + m) 0
    by_live true p = omega arith
    by_live false p = omega arith

lowered_none : (line : CounterLine) → line ≡ lowered line 0
lowered_none line = ap (λ (p : ℕ). record { id = line.id; live = line.live; possible = p; limit = line.limit }) (by_live line.live line.possible)
  where
    by_live : (b : Bool) (p : ℕ) → p ≡ p - cond b 0 0
    by_live true p = omega arith
    by_live false p = omega arith

-- the first of a list were taken off
pub record AreLowered (old lines : List CounterLine) (list : List Occurrence) (low : Bool) (k : ℕ) : Type 0 where
  pub len : length lines ≡ length old
  pub each : (j : ℕ) → line_at lines j ≡ lowered (line_at old j) (listed j (take k list))
  pub quiet : low ≡ false → AreQuiet lines (take k list)

pub lowered_first : (lines : List CounterLine) (list : List Occurrence) → AreLowered lines lines list false 0
lowered_first lines list = record {
  len = refl;
  each = λ j. lowered_none (line_at lines j);
  quiet = λ e k d less. absurd (omega (arith, less));
}

pub lowered_fits : (lines old : List CounterLine) (list : List Occurrence) (low : Bool) (k : ℕ) (x : CounterLine) → AreLowered old lines list low k → ((j : ℕ) → (line_at old j).live ≡ true → listed j list ≤ (line_at old j).possible)
    → k < length list → (get_or list k no_occurrence).slot < length lines → x ≡ get_or lines (get_or list k no_occurrence).slot x → x.live ≡ true → (get_or list k no_occurrence).coefficient ≤ x.possible
lowered_fits lines old list low k x before enough short within is live =
    let e : Occurrence = get_or list k no_occurrence in
    let j : ℕ = e.slot in
    let less : x ≡ lowered (line_at old j) (listed j (take k list)) = is ∙ get_or_default lines j x no_line within ∙ before.each j in
    let was : (line_at old j).live ≡ true = sym (ap (λ (l : CounterLine). l.live) less) ∙ live in
    let own : x.possible ≡ (line_at old j).possible - cond (line_at old j).live (listed j (take k list)) 0 = ap (λ (l : CounterLine). l.possible) less in
    let whole : cond (line_at old j).live (listed j (take k list)) 0 ≡ listed j (take k list) = cond-true (line_at old j).live (listed j (take k list)) 0 was in
    let part : listed j (take k list) + share j e ≤ listed j list = sum_by_more_le (share j) list k no_occurrence short in
    omega (arith, own, whole, part, share_own j e refl, enough j was)

-- one more was taken off
pub lowered_more : (lines old : List CounterLine) (list : List Occurrence) (low next : Bool) (k : ℕ) (x new : CounterLine) → AreLowered old lines list low k → k < length list → (get_or list k no_occurrence).slot < length lines → x ≡ get_or lines (get_or list k no_occurrence).slot x
    → new ≡ lowered x (get_or list k no_occurrence).coefficient → (next ≡ false → (low ≡ false) × IsQuiet new) → AreLowered old (set lines (get_or list k no_occurrence).slot new) list next (k + 1)
lowered_more lines old list low next k x new before short within is put quiet = record {
  len = length-set lines e.slot new ∙ before.len;
  each = set_cases no_line (λ j l. l ≡ lowered (line_at old j) (listed j (take (k + 1) list))) lines e.slot new within
      (λ j other. before.each j ∙ ap (lowered (line_at old j)) (let more = sum_by_more (share j) list k no_occurrence short in let none = share_other j e (λ f. other (sym f)) in omega (arith, more, none)))
      (put ∙ ap (λ (l : CounterLine). lowered l e.coefficient) (is ∙ get_or_default lines e.slot x no_line within ∙ before.each e.slot) ∙ lowered_twice (line_at old e.slot) (listed e.slot (take k list)) e.coefficient
      ∙ ap (lowered (line_at old e.slot)) (let more = sum_by_more (share e.slot) list k no_occurrence short in let own = share_own e.slot e refl in omega (arith, more, own)));
  quiet = λ none.
      let both = quiet none in
      all_more (λ f. IsQuiet (line_at lines f.slot)) (λ f. IsQuiet (line_at (set lines e.slot new) f.slot)) list k e
      (λ f was. keeps f.slot both.1 was) (before.quiet both.0) (slice_get-get_or list k no_occurrence short) (subst IsQuiet (sym (get_or-set_same lines e.slot new no_line within)) both.1);
}
  where
    e : Occurrence
    e = get_or list k no_occurrence

    keeps : (j : ℕ) → IsQuiet new → IsQuiet (line_at lines j) → IsQuiet (line_at (set lines e.slot new) j)
    keeps j calm was = ⊎_elim
        (λ (f : j ≡ e.slot). subst (λ (i : ℕ). IsQuiet (line_at (set lines e.slot new) i)) (sym f) (subst IsQuiet (sym (get_or-set_same lines e.slot new no_line within)) calm))
        (λ (other : j ≢ e.slot). subst IsQuiet (sym (get_or-set_other lines e.slot j new no_line other)) was)
        (cases_eq j e.slot)

pub add_fits : (lines old : List CounterLine) (list : List Occurrence) (k : ℕ) (x : CounterLine) → ((j : ℕ) → line_at lines j ≡ raised (line_at old j) (listed j (take k list))) → ((j : ℕ) → (line_at old j).live ≡ true → (line_at old j).possible + listed j list ≤ 2 ^ 100)
    → k < length list → (get_or list k no_occurrence).slot < length lines → x ≡ get_or lines (get_or list k no_occurrence).slot x → x.live ≡ true → x.possible + (get_or list k no_occurrence).coefficient ≤ 2 ^ 100
add_fits lines old list k x each small short within is live =
    let e : Occurrence = get_or list k no_occurrence in
    let j : ℕ = e.slot in
    let up : x ≡ raised (line_at old j) (listed j (take k list)) = is ∙ get_or_default lines j x no_line within ∙ each j in
    let was : (line_at old j).live ≡ true = sym (ap (λ (l : CounterLine). l.live) up) ∙ live in
    let own : x.possible ≡ (line_at old j).possible + cond (line_at old j).live (listed j (take k list)) 0 = ap (λ (l : CounterLine). l.possible) up in
    let whole : cond (line_at old j).live (listed j (take k list)) 0 ≡ listed j (take k list) = cond-true (line_at old j).live (listed j (take k list)) 0 was in
    let part : listed j (take k list) + share j e ≤ listed j list = sum_by_more_le (share j) list k no_occurrence short in
    omega (arith, own, whole, part, share_own j e refl, small j was)

-- ---- a line's literals, listed one after another

pub record AreListed (old lists : OccurrenceLists) (terms : List (Literal × ℕ)) (slot at : ℕ) : Type 0 where
  pub slots : (code : ℕ) → AreOfSlots (slot + 1) (list_at lists code)
  pub others : (code j : ℕ) → j < slot → listed j (list_at lists code) ≡ listed j (list_at old code)
  pub listed : (code : ℕ) → listed slot (list_at lists code) ≡ coefficient_at (take at terms) code

pub listed_first : (lists : OccurrenceLists) (terms : List (Literal × ℕ)) (slot : ℕ) → ((code : ℕ) → AreOfSlots slot (list_at lists code)) → AreListed lists lists terms slot 0
listed_first lists terms slot below = record {
  slots = λ code. more_slots slot (slot + 1) (list_at lists code) (omega arith) (below code);
  others = λ code j less. refl;
  listed = λ code. none_listed slot (list_at lists code) (below code);
}

pub listed_more : (old mid new : OccurrenceLists) (terms : List (Literal × ℕ)) (slot at code : ℕ) (t : Literal × ℕ) → AreListed old mid terms slot at → ((k : ℕ) → k ≢ code → list_at new k ≡ list_at mid k)
    → list_at new code ≡ list_at mid code ++ record { slot = slot; coefficient = t.1 } ∷ [] → slice_get terms at ≡ Some t → code ≡ code_of t.0 → AreListed old new terms slot (at + 1)
listed_more old mid new terms slot at code t before kept put found is = record {
  slots = each (λ k l. AreOfSlots (slot + 1) l)
      (λ k other. before.slots k)
      (All-push (λ e. e.slot < slot + 1) list entry (before.slots code) (omega arith));
  others = λ k j less. each (λ k' l. listed j l ≡ listed j (list_at old k'))
      (λ k' other. before.others k' j less)
      (sum_by_push (share j) list entry ∙ ap (λ n. listed j list + n) (share_other j entry (λ e. absurd (omega (arith, e, less)))) ∙ plus_zero (listed j list) ∙ before.others code j less)
      k;
  listed = each (λ k l. listed slot l ≡ coefficient_at (take (at + 1) terms) k)
      (λ k other.
      let more : coefficient_at (take (at + 1) terms) k ≡ coefficient_at (take at terms) k + weight k t = sum_place (weight k) terms at t found in
      let none : weight k t ≡ 0 = weight_other k t (λ e. other (sym e ∙ sym is)) in
      let was : listed slot (list_at mid k) ≡ coefficient_at (take at terms) k = before.listed k in
      omega (arith, more, none, was))
      (let more : coefficient_at (take (at + 1) terms) code ≡ coefficient_at (take at terms) code + weight code t = sum_place (weight code) terms at t found in
      let here : weight code t ≡ t.1 = weight_own code t (sym is) in
      let was : listed slot list ≡ coefficient_at (take at terms) code = before.listed code in
      let push : listed slot (list ++ entry ∷ []) ≡ listed slot list + share slot entry = sum_by_push (share slot) list entry in
      omega (arith, more, here, was, push, share_own slot entry refl));
}
  where
    entry : Occurrence
    entry = record { slot = slot; coefficient = t.1 }

    list : List Occurrence
    list = list_at mid code

    plus_zero : (n : ℕ) → n + 0 ≡ n
    plus_zero n = omega arith

    each : (P : ℕ → List Occurrence → Type 0) → ((k : ℕ) → k ≢ code → P k (list_at mid k)) → P code (list ++ entry ∷ []) → (k : ℕ) → P k (list_at new k)
    each P others here k = ⊎_elim
        (λ (e : k ≡ code). subst (λ (i : ℕ). P i (list_at new i)) (sym e) (subst (P code) (sym put) here))
        (λ (other : k ≢ code). subst (P k) (sym (kept k other)) (others k other))
        (cases_eq k code)

-- ---- lists that are swept

swept_if : (n : ℕ) (b : Bool) (xs ys : List Occurrence) → (AreOfSlots n xs → AreOfSlots n ys) → AreOfSlots n (if b then xs else []) → AreOfSlots n (if b then ys else [])
swept_if n true xs ys keeps are = keeps are
swept_if n false xs ys keeps are = are

pub swept_slots : (l m : CodeList) (code n : ℕ) → m.code ≡ l.code → (AreOfSlots n l.items → AreOfSlots n m.items) → AreOfSlots n (items_for l code) → AreOfSlots n (items_for m code)
swept_slots l m code n same keeps are = subst (λ (c : ℕ). AreOfSlots n (if nat_eq c code then m.items else [])) (sym same) (swept_if n (nat_eq l.code code) l.items m.items keeps are)

listed_if : (j : ℕ) (b : Bool) (xs ys : List Occurrence) → listed j ys ≡ listed j xs → listed j (if b then ys else []) ≡ listed j (if b then xs else [])
listed_if j true xs ys same = same
listed_if j false xs ys same = refl

pub swept_listed : (l m : CodeList) (code j : ℕ) → m.code ≡ l.code → listed j m.items ≡ listed j l.items → listed j (items_for m code) ≡ listed j (items_for l code)
swept_listed l m code j same one = ap (λ (c : ℕ). listed j (if nat_eq c code then m.items else [])) same ∙ listed_if j (nat_eq l.code code) l.items m.items one

-- the list that a step makes false, of the step at a place
pub step_list : (lists ls : OccurrenceLists) (list : List Occurrence) (steps : List Step) (k : ℕ) (s : Step) → slice_get steps k ≡ Some s → ls ≡ lists → list ≡ list_at ls (code_of (opposite s.lit)) → list ≡ list_at lists (code_of (opposite (get_or steps k s).lit))
step_list lists ls list steps k s found same is =
    is ∙ ap (λ (l : OccurrenceLists). list_at l (code_of (opposite s.lit))) same ∙ ap (λ (r : Step). list_at lists (code_of (opposite r.lit))) (sym (get_or_from_slice_get steps k s s found))
