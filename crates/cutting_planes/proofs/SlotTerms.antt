-- Slots of a sum: terms with coefficient 0 are none of it, and terms are added in place.
use Rattle.std.specs.Prelude.{◌≡◌, ℕ, ◌+◌, ◌-◌, ◌*◌, ◌<◌, ◌≤◌, ◌^◌, ◌==◌, Bool, true, false, not, cond, List, [], ◌∷◌, ◌++◌, Option, Some, None, IfSome, All, map, refl, slice_get, sum_by}
use Rattle.std.proofs.Common.{◌∙◌, ap, sym, subst, arith, zero, suc, length, get_or, set, take}
use Rattle.std.proofs.lemmas.List.{get_or-map, length-map, length-set, take_more}
use Rattle.std.proofs.lemmas.Option.{slice_get_within, get_or_from_slice_get}
use Rattle.std.proofs.lemmas.List.Elements.{All-nil, All-cons, All-head, All-tail, All-push, All-set, All-weaker, All-filter}
use Rattle.std.proofs.lemmas.List.Kept.{AllPairs-filter}
use Rattle.std.proofs.lemmas.List.Quantifiers.{all_pairs_push}
use Rattle.std.proofs.lemmas.List.Sums.{sum_by-append, sum_by-cons, sum_by_push, sum_by-set, sum_by-take-le}
use Rattle.std.proofs.lemmas.Bool.Decides.{nat_tests}
use Rattle.scut_base.specs.Literal.{Literal}
use Rattle.scut_base.specs.Assignment.{lit_true}
use Rattle.pb_lin.specs.Constraint.{ConstraintValue, IsNormal, size, total, term_value, value}
use Rattle.cutting_planes.specs.Rules.{IsSum, multiplied}
use Rattle.cutting_planes.specs.Runs.{nonzero}
use Rattle.cutting_planes.specs.Slots.{AreSlots, AreCounted, AreAdded}
use Rattle.cutting_planes.proofs.Terms.{Terms, changed, multiplied-one, total-cons, value-cons, total-multiplied}
use Rattle.cutting_planes.proofs.OneValue.{same_sum}

-- ---- coefficients 0

zero_from : (n : ℕ) → (n == 0) ≡ true → n ≡ 0
zero_from n e = grind (arith, nat_tests)

above_zero : (n : ℕ) → (n == 0) ≡ false → 0 < n
above_zero n e = grind (arith, nat_tests)

sum_step : (f : Literal × ℕ → ℕ) → ((t : Literal × ℕ) → t.1 ≡ 0 → f t ≡ 0) → (t : Literal × ℕ) (kept ts : Terms) (b : Bool) → (t.1 == 0) ≡ b → sum_by f kept ≡ sum_by f ts → sum_by f (cond (not b) (t ∷ kept) kept) ≡ sum_by f (t ∷ ts)
sum_step f none t kept ts true e rest =
    let nothing : f t ≡ 0 = none t (zero_from t.1 e) in
    let whole : sum_by f (t ∷ ts) ≡ f t + sum_by f ts = sum_by-cons f t ts in
    omega arith
sum_step f none t kept ts false e rest =
    let whole : sum_by f (t ∷ ts) ≡ f t + sum_by f ts = sum_by-cons f t ts in
    let more : sum_by f (t ∷ kept) ≡ f t + sum_by f kept = sum_by-cons f t kept in
    omega arith

-- where f is 0 at terms with coefficient 0, they add nothing
sum_nonzero : (f : Literal × ℕ → ℕ) → ((t : Literal × ℕ) → t.1 ≡ 0 → f t ≡ 0) → (ts : Terms) → sum_by f (nonzero ts) ≡ sum_by f ts
sum_nonzero f none [] = refl
sum_nonzero f none (t ∷ ts) = sum_step f none t (nonzero ts) ts (t.1 == 0) refl (sum_nonzero f none ts)

nothing_true : (b : Bool) (n : ℕ) → n ≡ 0 → cond b n 0 ≡ 0
nothing_true true n e = e
nothing_true false n e = refl

pub value-nonzero : (a : List Bool) (ts : Terms) → value a (nonzero ts) ≡ value a ts
value-nonzero a ts = sum_nonzero (term_value a) (λ t e. nothing_true (lit_true a t.0) t.1 e) ts

pub total-nonzero : (ts : Terms) → total (nonzero ts) ≡ total ts
total-nonzero ts = sum_nonzero (λ t. t.1) (λ t e. e) ts

positive_step : (t : Literal × ℕ) (ts : Terms) (b : Bool) → (t.1 == 0) ≡ b → All (λ u. 0 < u.1) ts → All (λ u. 0 < u.1) (cond (not b) (t ∷ ts) ts)
positive_step t ts true e all = all
positive_step t ts false e all = All-cons (λ u. 0 < u.1) t ts (above_zero t.1 e) all

positive_nonzero : (ts : Terms) → All (λ t. 0 < t.1) (nonzero ts)
positive_nonzero [] = All-nil (λ t. 0 < t.1)
positive_nonzero (t ∷ ts) = positive_step t (nonzero ts) (t.1 == 0) refl (positive_nonzero ts)

pub nonzero_empty : (ts : Terms) → All (λ t. t.1 ≡ 0) ts → nonzero ts ≡ []
nonzero_empty [] all = refl
nonzero_empty (t ∷ ts) all =
    ap (λ (n : ℕ). cond (not (n == 0)) (t ∷ nonzero ts) (nonzero ts)) (All-head (λ u. u.1 ≡ 0) t ts all) ∙ nonzero_empty ts (All-tail (λ u. u.1 ≡ 0) t ts all)

pub total_empty : (ts : Terms) → All (λ t. t.1 ≡ 0) ts → total ts ≡ 0
total_empty ts all = sym (total-nonzero ts) ∙ ap total (nonzero_empty ts all)

-- ---- slots

pub slots_push : (ts : Terms) (y : Literal × ℕ) (last : ℕ) → AreSlots ts → All (λ t. t.0.var ≤ last) ts → last < y.0.var → AreSlots (ts ++ y ∷ [])
slots_push ts y last slots below above = record {
  from_one = All-push (λ t. 0 < t.0.var) ts y slots.from_one (omega arith);
  rising = all_pairs_push (λ s t. s.0.var < t.0.var) ts y slots.rising (All-weaker (λ t. t.0.var ≤ last) (λ t. t.0.var < y.0.var) (λ t h. omega arith) ts below);
}

-- a slot that is written keeps its variable
var_set : (ts : Terms) (k : ℕ) (y : Literal × ℕ) (i : ℕ) (d : Literal × ℕ) → k < length ts → ((e : Literal × ℕ) → (get_or ts k e).0.var ≡ y.0.var) → (get_or (set ts k y) i d).0.var ≡ (get_or ts i d).0.var
var_set [] k y i d short same = absurd (omega arith)
var_set (t ∷ ts) zero y zero d short same = sym (same d)
var_set (t ∷ ts) zero y (suc i) d short same = refl
var_set (t ∷ ts) (suc k) y zero d short same = refl
var_set (t ∷ ts) (suc k) y (suc i) d short same = var_set ts k y i d (omega arith) same

slots_set : (ts : Terms) (k : ℕ) (y : Literal × ℕ) → AreSlots ts → k < length ts → ((e : Literal × ℕ) → (get_or ts k e).0.var ≡ y.0.var) → AreSlots (set ts k y)
slots_set ts k y slots short same = record {
  from_one = All-set (λ t. 0 < t.0.var) ts k y (let is : (get_or ts k y).0.var ≡ y.0.var = same y in let least : 0 < (get_or ts k y).0.var = slots.from_one k y short in omega arith) slots.from_one;
  rising = λ i j d less within.
      let one : (get_or (set ts k y) i d).0.var ≡ (get_or ts i d).0.var = var_set ts k y i d short same in
      let other : (get_or (set ts k y) j d).0.var ≡ (get_or ts j d).0.var = var_set ts k y j d short same in
      let long : length (set ts k y) ≡ length ts = length-set ts k y in
      let up : (get_or ts i d).0.var < (get_or ts j d).0.var = slots.rising i j d less (omega arith) in
      omega arith;
}

pub normal_slots : (ts : Terms) (sum degree : ℕ) → AreCounted ts sum degree → IsNormal (nonzero ts) degree
normal_slots ts sum degree counted = record {
  merged = record {
    positive = positive_nonzero ts;
    from_one = All-filter (λ t. not (t.1 == 0)) (λ t. 0 < t.0.var) ts counted.slots.from_one;
    rising = AllPairs-filter (λ s t. s.0.var < t.0.var) (λ t. not (t.1 == 0)) ts counted.slots.rising;
  };
  small =
      let kept : total (nonzero ts) ≡ total ts = total-nonzero ts in
      let whole : total ts ≡ sum = counted.counted in
      let small : sum + degree ≤ 2 ^ 100 = counted.small in
      omega arith;
}

-- ---- terms added

pub added_none : (ts : Terms) → AreSlots ts → AreAdded ts [] ts 0
added_none ts slots = record { slots = slots; same = λ a. omega arith; coefficients = omega arith }

pub added_one : (ts : Terms) (k : ℕ) (t y : Literal × ℕ) (cancelled : ℕ) → AreSlots ts → k < length ts → ((e : Literal × ℕ) → (get_or ts k e).0.var ≡ t.0.var) → y.0.var ≡ (get_or ts k y).0.var → ((a : List Bool) → term_value a (get_or ts k y) + term_value a t ≡ term_value a y + cancelled) → (get_or ts k y).1 + t.1 ≡ y.1 + cancelled + cancelled → AreAdded ts (t ∷ []) (set ts k y) cancelled
added_one ts k t y cancelled slots short is variable same coefficients = record {
  slots = slots_set ts k y slots short (λ e. is e ∙ sym (is y) ∙ sym variable);
  same = λ a.
      let written : value a (set ts k y) + term_value a (get_or ts k y) ≡ value a ts + term_value a y = sum_by-set (term_value a) ts k y y short in
      let one : value a (t ∷ []) ≡ term_value a t + value a [] = value-cons a t [] in
      let here = same a in
      omega arith;
  coefficients =
      let written : total (set ts k y) + (get_or ts k y).1 ≡ total ts + y.1 = sum_by-set (λ t. t.1) ts k y y short in
      let one : total (t ∷ []) ≡ t.1 + total [] = total-cons t [] in
      omega arith;
}

pub added_more : (old xs mid : Terms) (t : Literal × ℕ) (new : Terms) (m n : ℕ) → AreAdded old xs mid m → AreAdded mid (t ∷ []) new n → AreAdded old (xs ++ t ∷ []) new (m + n)
added_more old xs mid t new m n first next = record {
  slots = next.slots;
  same = λ a.
      let both : value a (xs ++ t ∷ []) ≡ value a xs + value a (t ∷ []) = sum_by-append (term_value a) xs (t ∷ []) in
      let here = first.same a in
      let there = next.same a in
      omega arith;
  coefficients =
      let both : total (xs ++ t ∷ []) ≡ total xs + total (t ∷ []) = sum_by-append (λ t. t.1) xs (t ∷ []) in
      let here = first.coefficients in
      let there = next.coefficients in
      omega arith;
}

-- the sum that slots are after terms were added
pub counted_after : (old terms new : Terms) (cancelled sum degree added d : ℕ) → AreCounted old sum degree → AreAdded old terms new cancelled → total terms ≡ added → sum + degree + (added + d) ≤ 2 ^ 100 → AreCounted new ((sum + added) - 2 * cancelled) ((degree + d) - cancelled)
counted_after old terms new cancelled sum degree added d counted is whole small =
    let before : total old ≡ sum = counted.counted in
    let after : total old + total terms ≡ total new + cancelled + cancelled = is.coefficients in
    record { slots = is.slots; counted = omega arith; small = omega arith }

pub sum_after : (old new : Terms) (cancelled sum degree : ℕ) (c : ConstraintValue) → AreAdded old c.terms new cancelled → AreCounted new sum ((degree + c.degree) - cancelled) → IsSum (record { terms = nonzero new; degree = (degree + c.degree) - cancelled }) (record { terms = nonzero old; degree = degree }) c
sum_after old new cancelled sum degree c is counted = record {
  cancelled = cancelled;
  same = λ a.
      let before : value a (nonzero old) ≡ value a old = value-nonzero a old in
      let after : value a (nonzero new) ≡ value a new = value-nonzero a new in
      let here = is.same a in
      omega arith;
  degree = refl;
  normal = normal_slots new sum ((degree + c.degree) - cancelled) counted;
}

-- the sum of nothing and a constraint is the constraint
pub sum_of_nothing : (r nothing c : ConstraintValue) → IsSum r nothing c → nothing.terms ≡ [] → nothing.degree ≡ 0 → IsNormal c.terms c.degree → r ≡ c
sum_of_nothing r nothing c is none least normal = same_sum r c nothing c is (record {
  cancelled = 0;
  same = λ a. let no_value : value a nothing.terms ≡ 0 = ap (value a) none in omega arith;
  degree = omega arith;
  normal = normal;
})

-- ---- the terms of a multiple, one by one

-- the next one
multiple_next : (ts : Terms) (k i : ℕ) (t : Literal × ℕ) → slice_get ts i ≡ Some t → take (i + 1) (map (changed (λ n. n * k)) ts) ≡ take i (map (changed (λ n. n * k)) ts) ++ (t.0, t.1 * k) ∷ []
multiple_next ts k i t is =
    let short : i < length ts = slice_get_within ts i t is in
    let long : length (map (changed (λ n. n * k)) ts) ≡ length ts = length-map ts (changed (λ n. n * k)) in
    take_more (map (changed (λ n. n * k)) ts) i t (omega arith)
    ∙ ap (λ (u : Literal × ℕ). take i (map (changed (λ n. n * k)) ts) ++ u ∷ []) (get_or-map (changed (λ n. n * k)) ts i t t short ∙ ap (changed (λ n. n * k)) (get_or_from_slice_get ts i t t is))

pub multiple_total : (ts : Terms) (k i : ℕ) (t : Literal × ℕ) → slice_get ts i ≡ Some t → total (take (i + 1) (map (changed (λ n. n * k)) ts)) ≡ total (take i (map (changed (λ n. n * k)) ts)) + t.1 * k
multiple_total ts k i t is = ap total (multiple_next ts k i t is) ∙ sum_by_push (λ t. t.1) (take i (map (changed (λ n. n * k)) ts)) (t.0, t.1 * k)

pub multiple_small : (ts : Terms) (k i : ℕ) (t : Literal × ℕ) → slice_get ts i ≡ Some t → total (take i (map (changed (λ n. n * k)) ts)) + t.1 * k ≤ total (map (changed (λ n. n * k)) ts)
multiple_small ts k i t is =
    let next : total (take (i + 1) (map (changed (λ n. n * k)) ts)) ≡ total (take i (map (changed (λ n. n * k)) ts)) + t.1 * k = multiple_total ts k i t is in
    let within : total (take (i + 1) (map (changed (λ n. n * k)) ts)) ≤ total (map (changed (λ n. n * k)) ts) = sum_by-take-le (λ t. t.1) (map (changed (λ n. n * k)) ts) (i + 1) in
    omega arith

pub multiple_more : (old ts mid new : Terms) (k i : ℕ) (t : Literal × ℕ) (m n : ℕ) → slice_get ts i ≡ Some t → AreAdded old (take i (map (changed (λ n. n * k)) ts)) mid m → AreAdded mid ((t.0, t.1 * k) ∷ []) new n → AreAdded old (take (i + 1) (map (changed (λ n. n * k)) ts)) new (m + n)
multiple_more old ts mid new k i t m n is first next =
    subst (λ (xs : Terms). AreAdded old xs new (m + n)) (sym (multiple_next ts k i t is)) (added_more old (take i (map (changed (λ n. n * k)) ts)) mid (t.0, t.1 * k) new m n first next)

-- ---- sizes

pub multiple_size : (k : ℕ) (c : ConstraintValue) → total (multiplied k c).terms + c.degree * k ≡ size c * k
multiple_size k c = let terms : total (multiplied k c).terms ≡ total c.terms * k = total-multiplied k c.terms in omega arith

-- the size of slots is that of the constraint that they are
pub slots_size : (ts : Terms) (sum degree : ℕ) (c : ConstraintValue) → AreCounted ts sum degree → record { terms = nonzero ts; degree = degree } ≡ c → sum + degree ≡ size c
slots_size ts sum degree c counted is =
    let kept : total (nonzero ts) ≡ total ts = total-nonzero ts in
    let whole : total ts ≡ sum = counted.counted in
    let same : total (nonzero ts) + degree ≡ size c = ap size is in
    omega arith

-- both together, before terms cancel
pub plus_small : (ts : Terms) (sum degree k : ℕ) (s c : ConstraintValue) → AreCounted ts sum degree → record { terms = nonzero ts; degree = degree } ≡ s → size s + size c * k ≤ 2 ^ 100 → sum + degree + (total (multiplied k c).terms + c.degree * k) ≤ 2 ^ 100
plus_small ts sum degree k s c counted is small =
    let left : sum + degree ≡ size s = slots_size ts sum degree s counted is in
    let right : total (multiplied k c).terms + c.degree * k ≡ size c * k = multiple_size k c in
    omega arith

pub plus_counted : (ts start new made : Terms) (sum degree k added cancelled degree' : ℕ) (s c : ConstraintValue) → AreCounted ts sum degree → record { terms = nonzero ts; degree = degree } ≡ s → start ≡ ts → made ≡ new → AreAdded start (multiplied k c).terms new cancelled → added ≡ total (multiplied k c).terms → size s + size c * k ≤ 2 ^ 100 → degree' ≡ (degree + c.degree * k) - cancelled → AreCounted made ((sum + added) - 2 * cancelled) degree'
plus_counted ts start new made sum degree k added cancelled degree' s c counted is same same' terms total_added small least =
    let fits = plus_small ts sum degree k s c counted is small in
    let both : AreAdded ts (multiplied k c).terms new cancelled = subst (λ (us : Terms). AreAdded us (multiplied k c).terms new cancelled) same terms in
    let after : AreCounted new ((sum + added) - 2 * cancelled) ((degree + c.degree * k) - cancelled) = counted_after ts (multiplied k c).terms new cancelled sum degree added (c.degree * k) counted both (sym total_added) (omega arith) in
    subst (λ (us : Terms). AreCounted us ((sum + added) - 2 * cancelled) degree') (sym same') (subst (λ (d : ℕ). AreCounted new ((sum + added) - 2 * cancelled) d) (sym least) after)

pub plus_sum : (ts start new made : Terms) (sum' degree k cancelled degree' : ℕ) (s c : ConstraintValue) → AreCounted made sum' degree' → record { terms = nonzero ts; degree = degree } ≡ s → start ≡ ts → made ≡ new → AreAdded start (multiplied k c).terms new cancelled → degree' ≡ (degree + c.degree * k) - cancelled → IsSum (record { terms = nonzero made; degree = degree' }) s (multiplied k c)
plus_sum ts start new made sum' degree k cancelled degree' s c counted is same same' terms least =
    let both : AreAdded ts (multiplied k c).terms made cancelled = subst (λ (us : Terms). AreAdded ts (multiplied k c).terms us cancelled) (sym same') (subst (λ (us : Terms). AreAdded us (multiplied k c).terms new cancelled) same terms) in
    let after : AreCounted made sum' ((degree + c.degree * k) - cancelled) = subst (λ (d : ℕ). AreCounted made sum' d) least counted in
    subst (λ (p : ConstraintValue). IsSum (record { terms = nonzero made; degree = degree' }) p (multiplied k c)) is
    (subst (λ (d : ℕ). IsSum (record { terms = nonzero made; degree = d }) (record { terms = nonzero ts; degree = degree }) (multiplied k c)) (sym least)
    (sum_after ts made cancelled sum' degree (multiplied k c) both after))

-- ---- nothing

pub counted_empty : (ts : Terms) → AreSlots ts → All (λ t. t.1 ≡ 0) ts → AreCounted ts 0 0
counted_empty ts slots empty = record { slots = slots; counted = total_empty ts empty; small = omega arith }

-- the sum of empty slots and a constraint once
pub start_sum : (ts : Terms) (r c : ConstraintValue) → All (λ t. t.1 ≡ 0) ts → IsNormal c.terms c.degree → IsSum r (record { terms = nonzero ts; degree = 0 }) (multiplied 1 c) → r ≡ c
start_sum ts r c empty normal is =
    sum_of_nothing r (record { terms = nonzero ts; degree = 0 }) c (subst (λ (q : ConstraintValue). IsSum r (record { terms = nonzero ts; degree = 0 }) q) (multiplied-one c) is) (nonzero_empty ts empty) refl normal

pub start_small : (ts : Terms) (c : ConstraintValue) → All (λ t. t.1 ≡ 0) ts → IsNormal c.terms c.degree → total (nonzero ts) + 0 + size c * 1 ≤ 2 ^ 100
start_small ts c empty normal =
    let none : total (nonzero ts) ≡ 0 = ap total (nonzero_empty ts empty) in
    let small : total c.terms + c.degree ≤ 2 ^ 100 = normal.small in
    omega arith

pub start_if_some : (ts : Terms) (found : Option ConstraintValue) (c : ConstraintValue) → All (λ t. t.1 ≡ 0) ts → IsNormal c.terms c.degree → IfSome found (λ s. IsSum s (record { terms = nonzero ts; degree = 0 }) (multiplied 1 c)) → IfSome found (λ s. s ≡ c)
start_if_some ts None c empty normal is = tt
start_if_some ts (Some s) c empty normal is = start_sum ts s c empty normal is
