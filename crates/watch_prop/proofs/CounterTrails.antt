-- A line under the first steps of a trail.
use Rattle.std.proofs.Common.{◌≡◌, ◌≢◌, ◌⊎◌, ℕ, zero, suc, ◌+◌, ◌-◌, ◌*◌, ◌<◌, ◌≤◌, Bool, true, false, not, cond, if◌then◌else◌, Option, Some, None, List, length, get_or, take, All, refl, arith, ap, sym, ◌∙◌, subst, ⊎_elim, eq-eqb, get_or-set_same}
use Rattle.std.specs.Prelude.{nat_eq, pos, ◌-ℤ◌, ◌≤ℤ◌, int_lt, ◌&&◌}
use Rattle.std.specs.Option.{is_none, option_map}
use Rattle.std.proofs.lemmas.Bool.{cases_eq, cases_lt, ne_eqb, cond-true, cond-false}
use Rattle.std.proofs.lemmas.Int.{ints}
use Rattle.std.proofs.lemmas.List.{take_more, get_or-take, length-take-le, take_all, get_or_default}
use Rattle.scut_base.specs.Literal.{Literal}
use Rattle.scut_base.specs.LiteralCode.{code_of}
use Rattle.scut_base.specs.Assignment.{partial_truth}
use Rattle.scut_base.proofs.Lists.{sum_by-add, sum_by_same_in}
use Rattle.pb_lin.specs.Constraint.{ConstraintValue, opposite, possible_value, slack, unless_false}
use Rattle.pb_lin.specs.Propagation.{IsClosedUnder}
use Rattle.clause_prop.specs.Steps.{AreSteps, TrailValue, assigned, partial, with_true}
use Rattle.watch_prop.specs.Counting.{AreTold, IsSettled, coefficient_at, possible, weight}
use Rattle.clause_prop.specs.declared.step.Step.{Step}
use Rattle.clause_prop.proofs.Assigned.{Values, assigned-none, assigned-push, index, length-assigned}
use Rattle.watch_prop.proofs.CounterForcing.{sum_under, sum_falls, told_with, value_none}
use Rattle.clause_prop.proofs.Forcing.{truth_other}

-- ---- one step

pub step_open : (n : ℕ) (steps : List Step) (k : ℕ) (d : Step) → AreSteps n steps → k < length steps → partial_truth (assigned n (take k steps)) (get_or steps k d).lit ≡ None
step_open n steps k d are short =
    ap (λ (o : Option Bool). option_map (λ b. if (get_or steps k d).lit.neg then not b else b) o) (assigned-none n (take k steps) (index (get_or steps k d)) others)
  where
    others : All (λ r. index r ≢ index (get_or steps k d)) (take k steps)
    others i e less =
        let below : i < k = omega (arith, less, length-take-le k steps) in
        let same : get_or (take k steps) i e ≡ get_or steps i e = get_or-take k steps i e below in
        let own : get_or steps k e ≡ get_or steps k d = get_or_default steps k e d short in
        λ (eq : index (get_or (take k steps) i e) ≡ index (get_or steps k d)).
        let here = are.within k e short in
        let there = are.within i e (omega (arith, below, short)) in
        let equal : index (get_or steps i e) ≡ index (get_or steps k e) = sym (ap index same) ∙ eq ∙ sym (ap index own) in
        are.apart i k e below short (omega (arith, here.0, there.0, equal))

pub assigned_step : (n : ℕ) (steps : List Step) (k : ℕ) (d : Step) → k < length steps → assigned n (take (k + 1) steps) ≡ with_true (assigned n (take k steps)) (get_or steps k d)
assigned_step n steps k d short = ap (assigned n) (take_more steps k d short) ∙ assigned-push n (take k steps) (get_or steps k d)

-- ---- what a step takes away

code_apart : (l m : Literal) → l.var ≢ m.var → code_of l ≢ code_of m
code_apart l m other same = by_signs l.neg m.neg same
  where
    by_signs : (b c : Bool) → 2 * l.var + cond b 1 0 ≡ 2 * m.var + cond c 1 0 → ⊥
    by_signs true true e = other (omega (arith, e))
    by_signs true false e = absurd (omega (arith, e))
    by_signs false true e = absurd (omega (arith, e))
    by_signs false false e = other (omega (arith, e))

-- a step's value and the weight of its opposite share the coefficient
signs : (b c : Bool) (v w n : ℕ) → v ≡ w → unless_false (option_map (λ x. if b then not x else x) (Some (not c))) n + cond (nat_eq (2 * v + cond b 1 0) (2 * w + cond (not c) 1 0)) n 0 ≡ n
signs true true v w n e = ap (λ (x : ℕ). n + x) (cond-false (nat_eq (2 * v + 1) (2 * w + 0)) n 0 (ne_eqb (2 * v + 1) (2 * w + 0) (λ f. absurd (omega (arith, f))))) ∙ omega arith
signs true false v w n e = ap (λ (x : ℕ). 0 + x) (cond-true (nat_eq (2 * v + 1) (2 * w + 1)) n 0 (eq-eqb (2 * v + 1) (2 * w + 1) (omega (arith, e)))) ∙ omega arith
signs false true v w n e = ap (λ (x : ℕ). 0 + x) (cond-true (nat_eq (2 * v + 0) (2 * w + 0)) n 0 (eq-eqb (2 * v + 0) (2 * w + 0) (omega (arith, e)))) ∙ omega arith
signs false false v w n e = ap (λ (x : ℕ). n + x) (cond-false (nat_eq (2 * v + 0) (2 * w + 1)) n 0 (ne_eqb (2 * v + 0) (2 * w + 1) (λ f. absurd (omega (arith, f))))) ∙ omega arith

value_step : (p : Values) (s : Step) (t : Literal × ℕ) → 0 < s.lit.var → s.lit.var ≤ length p → partial_truth p s.lit ≡ None → 0 < t.0.var → possible_value (with_true p s) t + weight (code_of (opposite s.lit)) t ≡ possible_value p t
value_step p s t from_one within none positive = ⊎_elim
    (λ (e : t.0.var - 1 ≡ s.lit.var - 1).
    let vars : t.0.var ≡ s.lit.var = omega (arith, from_one, positive, e) in
    let new : get_or (with_true p s) (t.0.var - 1) None ≡ Some (not s.lit.neg) = ap (λ (i : ℕ). get_or (with_true p s) i None) e ∙ get_or-set_same p (s.lit.var - 1) (Some (not s.lit.neg)) None (omega (arith, from_one, within)) in
    let old : get_or p (t.0.var - 1) None ≡ None = ap (λ (i : ℕ). get_or p i None) e ∙ value_none (get_or p (s.lit.var - 1) None) s.lit.neg none in
    let value : possible_value (with_true p s) t ≡ unless_false (option_map (λ x. if t.0.neg then not x else x) (Some (not s.lit.neg))) t.1 = ap (λ (o : Option Bool). unless_false (option_map (λ x. if t.0.neg then not x else x) o) t.1) new in
    let whole : possible_value p t ≡ t.1 = ap (λ (o : Option Bool). unless_false (option_map (λ x. if t.0.neg then not x else x) o) t.1) old in
    ap (λ (n : ℕ). n + weight (code_of (opposite s.lit)) t) value ∙ signs t.0.neg s.lit.neg t.0.var s.lit.var t.1 vars ∙ sym whole)
    (λ (other : t.0.var - 1 ≢ s.lit.var - 1).
    let apart : t.0.var ≢ s.lit.var = λ e. other (ap (λ (v : ℕ). v - 1) e) in
    let same : possible_value (with_true p s) t ≡ possible_value p t = ap (λ (o : Option Bool). unless_false o t.1) (truth_other p s t.0 other) in
    let none_there : weight (code_of (opposite s.lit)) t ≡ 0 = cond-false (nat_eq (code_of t.0) (code_of (opposite s.lit))) t.1 0 (ne_eqb (code_of t.0) (code_of (opposite s.lit)) (code_apart t.0 (opposite s.lit) apart)) in
    omega (arith, same, none_there))
    (cases_eq (t.0.var - 1) (s.lit.var - 1))

sum_with : (p : Values) (s : Step) (terms : List (Literal × ℕ)) → 0 < s.lit.var → s.lit.var ≤ length p → partial_truth p s.lit ≡ None → All (λ t. 0 < t.0.var) terms → sum_under (with_true p s) terms + coefficient_at terms (code_of (opposite s.lit)) ≡ sum_under p terms
sum_with p s terms from_one within none positive =
    sym (sum_by-add (possible_value (with_true p s)) (weight (code_of (opposite s.lit))) terms)
    ∙ sum_by_same_in (λ t. possible_value (with_true p s) t + weight (code_of (opposite s.lit)) t) (possible_value p) terms (λ k d short. value_step p s (get_or terms k d) from_one within none (positive k d short))

pub sum_step : (n : ℕ) (steps : List Step) (k : ℕ) (d : Step) (terms : List (Literal × ℕ)) → AreSteps n steps → k < length steps → All (λ t. 0 < t.0.var) terms
    → possible n (take (k + 1) steps) terms + coefficient_at terms (code_of (opposite (get_or steps k d).lit)) ≡ possible n (take k steps) terms
sum_step n steps k d terms are short positive =
    let here = are.within k d short in
    ap (λ (p : Values). sum_under p terms + coefficient_at terms (code_of (opposite (get_or steps k d).lit))) (assigned_step n steps k d short)
    ∙ sum_with (assigned n (take k steps)) (get_or steps k d) terms here.0 (omega (arith, here.1, length-assigned n (take k steps))) (step_open n steps k d are short) positive

-- ---- more steps

any_step : Step
any_step = record { lit = record { var = 1; neg = false }; level = 0; reason = 0 }

plus_zero : (m : ℕ) → m + 0 ≡ m
plus_zero m = omega arith

next_place : (k m : ℕ) → k + suc m ≡ (k + m) + 1
next_place k m = omega arith

falls_by : (n : ℕ) (steps : List Step) (k : ℕ) (terms : List (Literal × ℕ)) (i : ℕ) → AreSteps n steps → k + i ≤ length steps → possible n (take (k + i) steps) terms ≤ possible n (take k steps) terms
falls_by n steps k terms zero are short =
    let same : possible n (take (k + 0) steps) terms ≡ possible n (take k steps) terms = ap (λ (m : ℕ). possible n (take m steps) terms) (plus_zero k) in
    omega (arith, same)
falls_by n steps k terms (suc i) are short =
    let less : k + i < length steps = omega (arith, short) in
    let rest : possible n (take (k + i) steps) terms ≤ possible n (take k steps) terms = falls_by n steps k terms i are (omega (arith, less)) in
    let one : sum_under (with_true (assigned n (take (k + i) steps)) (get_or steps (k + i) any_step)) terms ≤ sum_under (assigned n (take (k + i) steps)) terms = sum_falls (assigned n (take (k + i) steps)) (get_or steps (k + i) any_step) terms (step_open n steps (k + i) any_step are less) in
    let is : possible n (take (k + suc i) steps) terms ≡ sum_under (with_true (assigned n (take (k + i) steps)) (get_or steps (k + i) any_step)) terms = ap (λ (m : ℕ). possible n (take m steps) terms) (next_place k i) ∙ ap (λ (p : Values). sum_under p terms) (assigned_step n steps (k + i) any_step less) in
    omega (arith, rest, one, is)

pub sum_falls_to : (n : ℕ) (steps : List Step) (k m : ℕ) (terms : List (Literal × ℕ)) → AreSteps n steps → k ≤ m → m ≤ length steps → possible n (take m steps) terms ≤ possible n (take k steps) terms
sum_falls_to n steps k m terms are le short =
    subst (λ (j : ℕ). possible n (take j steps) terms ≤ possible n (take k steps) terms) (up k m le) (falls_by n steps k terms (m - k) are (omega (arith, le, short)))
  where
    up : (a b : ℕ) → a ≤ b → a + (b - a) ≡ b
    up a b h = omega (arith, h)

-- the literal has a value
abbrev pub HasValue : Values → Literal → Type 0
HasValue p l = is_none (partial_truth p l) ≡ false

told_by : (n : ℕ) (steps : List Step) (k : ℕ) (l : Literal) (i : ℕ) → k + i ≤ length steps → HasValue (assigned n (take k steps)) l → HasValue (assigned n (take (k + i) steps)) l
told_by n steps k l zero short told = subst (λ (m : ℕ). HasValue (assigned n (take m steps)) l) (sym (plus_zero k)) told
told_by n steps k l (suc i) short told =
    let less : k + i < length steps = omega (arith, short) in
    subst (λ (m : ℕ). HasValue (assigned n (take m steps)) l) (sym (next_place k i))
    (subst (λ (p : Values). HasValue p l) (sym (assigned_step n steps (k + i) any_step less))
    (told_with (assigned n (take (k + i) steps)) (get_or steps (k + i) any_step) l (told_by n steps k l i (omega (arith, less)) told)))

pub told_later : (n : ℕ) (steps : List Step) (k m : ℕ) (c : ConstraintValue) (sum : ℕ) → k ≤ m → m ≤ length steps → AreTold (assigned n (take k steps)) c sum → AreTold (assigned n (take m steps)) c sum
told_later n steps k m c sum le short told = λ i d inside exceeds.
    subst (λ (j : ℕ). HasValue (assigned n (take j steps)) (get_or c.terms i d).0) (up k m le) (told_by n steps k (get_or c.terms i d).0 (m - k) (omega (arith, le, short)) (told i d inside exceeds))
  where
    up : (a b : ℕ) → a ≤ b → a + (b - a) ≡ b
    up a b h = omega (arith, h)

-- ---- settled lines

pub settled_later : (n : ℕ) (steps : List Step) (c : ConstraintValue) (q e m : ℕ) → e ≤ m → m ≤ length steps → IsSettled n steps c q e → IsSettled n steps c q m
settled_later n steps c q e m le short settled = record { meets = settled.meets; told = told_later n steps e m c (possible n (take q steps) c.terms) le short settled.told }

-- a step whose opposite isn't in the line
pub settled_next : (n : ℕ) (steps : List Step) (c : ConstraintValue) (q e : ℕ) (d : Step) → AreSteps n steps → q < length steps → All (λ t. 0 < t.0.var) c.terms → coefficient_at c.terms (code_of (opposite (get_or steps q d).lit)) ≡ 0
    → IsSettled n steps c q e → IsSettled n steps c (q + 1) e
settled_next n steps c q e d are short positive none settled =
    let step = sum_step n steps q d c.terms are short positive in
    let same : possible n (take q steps) c.terms ≡ possible n (take (q + 1) steps) c.terms = omega (arith, step, none) in
    record {
      meets = subst (λ (sum : ℕ). c.degree ≤ sum) same settled.meets;
      told = subst (AreTold (assigned n (take e steps)) c) same settled.told;
    }

-- at a smaller sum more is told
pub told_below : (p : Values) (c : ConstraintValue) (a b : ℕ) → a ≤ b → AreTold p c a → AreTold p c b
told_below p c a b le told = λ i d inside exceeds. told i d inside (omega (arith, le, exceeds))

-- a line that was gone through is settled
pub settled_gone : (n : ℕ) (steps : List Step) (c : ConstraintValue) (q counted limit sum : ℕ) → AreSteps n steps → q ≤ counted → counted ≤ length steps → sum ≡ possible n (take counted steps) c.terms → All (λ t. t.1 + c.degree ≤ limit) c.terms → c.degree ≤ limit
    → (limit ≤ sum) ⊎ ((c.degree ≤ sum) × AreTold (assigned n steps) c sum) → IsSettled n steps c q (length steps)
settled_gone n steps c q counted limit sum are le short is bounds enough gone =
    let falls : sum ≤ possible n (take q steps) c.terms = subst (λ (m : ℕ). m ≤ possible n (take q steps) c.terms) (sym is) (sum_falls_to n steps q counted c.terms are le short) in
    ⊎_elim
    (λ (high : limit ≤ sum). record {
      meets = omega (arith, high, falls, enough);
      told = λ i d inside exceeds. absurd (let bound = bounds i d inside in omega (arith, bound, exceeds, high, falls));
    })
    (λ (low : (c.degree ≤ sum) × AreTold (assigned n steps) c sum). record {
      meets = (let meets = low.0 in omega (arith, meets, falls));
      told = subst (λ (ss : List Step). AreTold (assigned n ss) c (possible n (take q steps) c.terms)) (sym (take_all (length steps) steps (omega arith))) (told_below (assigned n steps) c sum (possible n (take q steps) c.terms) falls low.1);
    })
    gone

-- settled for all steps is closed
pub settled_closed : (t : TrailValue) (c : ConstraintValue) → IsSettled t.vars t.steps c (length t.steps) (length t.steps) → IsClosedUnder (partial t) c
settled_closed t c settled = record {
  possible = not_negative (sum_under (partial t) c.terms) c.degree (subst (λ (sum : ℕ). c.degree ≤ sum) sum_is settled.meets);
  unforced = λ k d short. ⊎_elim
      (λ (exceeds : sum_under (partial t) c.terms < (get_or c.terms k d).1 + c.degree).
      let told : is_none (partial_truth (partial t) (get_or c.terms k d).0) ≡ false = all k d short exceeds in
      ap (λ (b : Bool). b && int_lt (slack (partial t) c) (pos (get_or c.terms k d).1)) told)
      (λ (past : (get_or c.terms k d).1 + c.degree ≤ sum_under (partial t) c.terms).
      ap (λ (b : Bool). is_none (partial_truth (partial t) (get_or c.terms k d).0) && b) (within (sum_under (partial t) c.terms) c.degree (get_or c.terms k d).1 past) ∙ and_false (is_none (partial_truth (partial t) (get_or c.terms k d).0)))
      (cases_lt (sum_under (partial t) c.terms) ((get_or c.terms k d).1 + c.degree));
}
  where
    whole : take (length t.steps) t.steps ≡ t.steps
    whole = take_all (length t.steps) t.steps (omega arith)

    sum_is : possible t.vars (take (length t.steps) t.steps) c.terms ≡ sum_under (partial t) c.terms
    sum_is = ap (λ (ss : List Step). possible t.vars ss c.terms) whole

    all : AreTold (partial t) c (sum_under (partial t) c.terms)
    all = subst (λ (ss : List Step). AreTold (assigned t.vars ss) c (sum_under (partial t) c.terms)) whole (subst (AreTold (assigned t.vars (take (length t.steps) t.steps)) c) sum_is settled.told)

    not_negative : (a b : ℕ) → b ≤ a → pos 0 ≤ℤ (pos a -ℤ pos b)
    not_negative a b le = grind (arith, ints)

    within : (a b n : ℕ) → n + b ≤ a → int_lt (pos a -ℤ pos b) (pos n) ≡ false
    within a b n le = grind (arith, ints)

    and_false : (b : Bool) → (b && false) ≡ false
    and_false true = refl
    and_false false = refl
