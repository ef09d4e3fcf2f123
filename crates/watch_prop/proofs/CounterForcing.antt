-- A line under a trail that gets steps: what isn't false falls, and what has a value keeps it.
use Rattle.std.proofs.Common.{◌≡◌, ◌≢◌, ℕ, ◌+◌, ◌-◌, ◌<◌, ◌≤◌, ◌&&◌, Bool, true, false, not, if◌then◌else◌, Option, Some, None, List, [], ◌∷◌, ◌++◌, length, get_or, refl, arith, ap, sym, ◌∙◌, subst, ⊎_elim, sum_by, get_or-set_same}
use Rattle.std.specs.Option.{is_none, option_map}
use Rattle.std.specs.FinMap.{get}
use Rattle.std.specs.Prelude.{pos, int_lt, ◌-ℤ◌, ◌<ℤ◌, slice_get, Contains}
use Rattle.std.proofs.lemmas.Bool.{cases_eq, cases_lt}
use Rattle.std.proofs.lemmas.Int.{ints}
use Rattle.std.proofs.lemmas.Option.{none-some, get_or_from_slice_get, slice_get_within}
use Rattle.std.proofs.lemmas.List.{set_past, get_or_default}
use Rattle.std.proofs.lemmas.List.Sums.{sum_by-le-sum_by}
use Rattle.std.proofs.lemmas.List.Elements.{Contains-get_or}
use Rattle.scut_base.specs.Literal.{Literal}
use Rattle.scut_base.specs.Assignment.{partial_truth}
use Rattle.pb_lin.specs.Constraint.{ConstraintValue, possible_value, slack, unless_false}
use Rattle.pb_lin.specs.LineMap.{LineMap}
use Rattle.pb_lin.specs.Propagation.{is_forced}
use Rattle.clause_prop.specs.Steps.{TrailValue, partial, with_step, with_true, last_level}
use Rattle.clause_prop.specs.Propagating.{Extends}
use Rattle.watch_prop.specs.Counting.{AreTold, possible}
use Rattle.clause_prop.specs.declared.step.Step.{Step}
use Rattle.clause_prop.proofs.Assigned.{Values, length-assigned, assigned-push}
use Rattle.clause_prop.proofs.Extensions.{extends_none, extends_forced}
use Rattle.clause_prop.proofs.Forcing.{truth_here, truth_other}

-- what isn't false of the terms
abbrev pub sum_under : Values → List (Literal × ℕ) → ℕ
sum_under p terms = sum_by (possible_value p) terms

unless_le : (o : Option Bool) (n : ℕ) → unless_false o n ≤ n
unless_le (Some false) n = omega arith
unless_le (Some true) n = omega arith
unless_le None n = omega arith

-- an open literal's variable has no value
pub value_none : (o : Option Bool) (b : Bool) → option_map (λ v. if b then not v else v) o ≡ None → o ≡ None
value_none None b e = refl
value_none (Some v) b e = absurd (none-some (if b then not v else v) (sym e))

-- where the variable of a step is open, no term's value rises
pub value_falls : (p : Values) (s : Step) (t : Literal × ℕ) → partial_truth p s.lit ≡ None → possible_value (with_true p s) t ≤ possible_value p t
value_falls p s t none = ⊎_elim
    (λ (e : t.0.var - 1 ≡ s.lit.var - 1).
    let own : get_or p (t.0.var - 1) None ≡ None = ap (λ (i : ℕ). get_or p i None) e ∙ value_none (get_or p (s.lit.var - 1) None) s.lit.neg none in
    let whole : possible_value p t ≡ t.1 = ap (λ (o : Option Bool). unless_false (option_map (λ v. if t.0.neg then not v else v) o) t.1) own in
    omega (arith, whole, unless_le (partial_truth (with_true p s) t.0) t.1))
    (λ (other : t.0.var - 1 ≢ s.lit.var - 1).
    let same : possible_value (with_true p s) t ≡ possible_value p t = ap (λ (o : Option Bool). unless_false o t.1) (truth_other p s t.0 other) in
    omega (arith, same))
    (cases_eq (t.0.var - 1) (s.lit.var - 1))

pub sum_falls : (p : Values) (s : Step) (terms : List (Literal × ℕ)) → partial_truth p s.lit ≡ None → sum_under (with_true p s) terms ≤ sum_under p terms
sum_falls p s terms none = sum_by-le-sum_by (possible_value (with_true p s)) (possible_value p) terms (λ t. value_falls p s t none)

-- what has a value keeps one
pub told_with : (p : Values) (s : Step) (l : Literal) → is_none (partial_truth p l) ≡ false → is_none (partial_truth (with_true p s) l) ≡ false
told_with p s l told = ⊎_elim
    (λ (e : l.var - 1 ≡ s.lit.var - 1). ⊎_elim
    (λ (less : s.lit.var - 1 < length p).
    let own : get_or (with_true p s) (l.var - 1) None ≡ Some (not s.lit.neg) = ap (λ (i : ℕ). get_or (with_true p s) i None) e ∙ get_or-set_same p (s.lit.var - 1) (Some (not s.lit.neg)) None less in
    ap (λ (o : Option Bool). is_none (option_map (λ v. if l.neg then not v else v) o)) own)
    (λ (past : length p ≤ s.lit.var - 1).
    subst (λ (q : Values). is_none (partial_truth q l) ≡ false) (sym (set_past p (s.lit.var - 1) (Some (not s.lit.neg)) past)) told)
    (cases_lt (s.lit.var - 1) (length p)))
    (λ (other : l.var - 1 ≢ s.lit.var - 1). ap is_none (truth_other p s l other) ∙ told)
    (cases_eq (l.var - 1) (s.lit.var - 1))

-- each of the first terms whose coefficient exceeds the slack at this sum has a value
abbrev pub AreToldUpTo : Values → ConstraintValue → ℕ → ℕ → Type 0
AreToldUpTo p c sum n = (k : ℕ) (d : Literal × ℕ) → k < n → k < length c.terms → sum < (get_or c.terms k d).1 + c.degree → is_none (partial_truth p (get_or c.terms k d).0) ≡ false

-- The first terms were gone through with a sum that is at least the line's: what exceeds it has a value, and the line forced the steps that the trail got.
pub record IsAbove (line : ConstraintValue) (id sum : ℕ) (old new : TrailValue) (at : ℕ) : Type 0 where
  pub vars : new.vars ≡ old.vars
  pub over : possible new.vars new.steps line.terms ≤ sum
  pub told : AreToldUpTo (partial new) line sum at
  pub extends : (store : LineMap) → get store id ≡ Some line → Extends store old new

pub above_none : (line : ConstraintValue) (id sum : ℕ) (t : TrailValue) → possible t.vars t.steps line.terms ≤ sum → IsAbove line id sum t t 0
above_none line id sum t over = record {
  vars = refl;
  over = over;
  told = λ k d less there. absurd (omega (arith, less));
  extends = λ store there. extends_none store t;
}

and_false_left : (a b : Bool) → (a && b) ≡ false → b ≡ true → a ≡ false
and_false_left true true e f = absurd cc
and_false_left true false e f = absurd cc
and_false_left false b e f = refl

and_true_left : (a b : Bool) → (a && b) ≡ true → a ≡ true
and_true_left true b e = refl
and_true_left false b e = absurd cc

and_true_right : (a b : Bool) → (a && b) ≡ true → b ≡ true
and_true_right true b e = e
and_true_right false b e = absurd cc

and_both : (a b : Bool) → a ≡ true → b ≡ true → (a && b) ≡ true
and_both a b e f = ap (λ (x : Bool). x && b) e ∙ f

test_from_lt : (s n : ℕ) → s < n → int_lt (pos s) (pos n) ≡ true
test_from_lt s n less = grind (arith, ints)

lt_from_test : (s n : ℕ) → int_lt (pos s) (pos n) ≡ true → s < n
lt_from_test s n test = grind (arith, ints)

below_slack : (sum degree s n : ℕ) → sum ≤ s + degree → s < n → int_lt (pos sum -ℤ pos degree) (pos n) ≡ true
below_slack sum degree s n over less = grind (arith, ints)

-- a term that has a value, or whose coefficient isn't above
pub above_same : (line : ConstraintValue) (id s : ℕ) (old new : TrailValue) (at : ℕ) (t : Literal × ℕ) → IsAbove line id (s + line.degree) old new at → slice_get line.terms at ≡ Some t
    → (is_none (partial_truth (partial new) t.0) && int_lt (pos s) (pos t.1)) ≡ false → IsAbove line id (s + line.degree) old new (at + 1)
above_same line id s old new at t above found test = record {
  vars = above.vars;
  over = above.over;
  told = λ k d less there exceeds. ⊎_elim
      (λ (e : k ≡ at).
      let here : at < length line.terms = slice_get_within line.terms at t found in
      let one : get_or line.terms k d ≡ t = ap (λ (j : ℕ). get_or line.terms j d) e ∙ get_or_default line.terms at d t here ∙ get_or_from_slice_get line.terms at t t found in
      let up : s + line.degree < t.1 + line.degree = subst (λ (u : Literal × ℕ). s + line.degree < u.1 + line.degree) one exceeds in
      subst (λ (u : Literal × ℕ). is_none (partial_truth (partial new) u.0) ≡ false) (sym one)
      (and_false_left (is_none (partial_truth (partial new) t.0)) (int_lt (pos s) (pos t.1)) test (test_from_lt s t.1 (omega (arith, up)))))
      (λ (other : k ≢ at). above.told k d (omega (arith, less, other)) there exceeds)
      (cases_eq k at);
  extends = above.extends;
}

-- an open term whose coefficient is above gets a step
pub above_pushed : (line : ConstraintValue) (id s : ℕ) (old new : TrailValue) (at : ℕ) (t : Literal × ℕ) → IsAbove line id (s + line.degree) old new at → slice_get line.terms at ≡ Some t → 0 < t.0.var → t.0.var ≤ new.vars
    → partial_truth (partial new) t.0 ≡ None → (is_none (partial_truth (partial new) t.0) && int_lt (pos s) (pos t.1)) ≡ true → IsAbove line id (s + line.degree) old (with_step new (record { lit = t.0; level = last_level new.steps; reason = id })) (at + 1)
above_pushed line id s old new at t above found from_one within none test = record {
  vars = above.vars;
  over =
      let falls : sum_under (with_true (partial new) step) line.terms ≤ sum_under (partial new) line.terms = sum_falls (partial new) step line.terms none in
      let same : possible new.vars (new.steps ++ step ∷ []) line.terms ≡ sum_under (with_true (partial new) step) line.terms = ap (λ (p : Values). sum_under p line.terms) push in
      omega (arith, falls, same, above.over);
  told = subst (λ (p : Values). AreToldUpTo p line (s + line.degree) (at + 1)) (sym push) (λ k d less there exceeds. ⊎_elim
      (λ (e : k ≡ at).
      let one : get_or line.terms k d ≡ t = ap (λ (j : ℕ). get_or line.terms j d) e ∙ get_or_default line.terms at d t here ∙ is in
      subst (λ (u : Literal × ℕ). is_none (partial_truth (with_true (partial new) step) u.0) ≡ false) (sym one)
      (ap is_none (truth_here (partial new) step from_one (omega (arith, within, length-assigned new.vars new.steps)))))
      (λ (other : k ≢ at). told_with (partial new) step (get_or line.terms k d).0 (above.told k d (omega (arith, less, other)) there exceeds))
      (cases_eq k at));
  extends = λ store there. extends_forced store old new line id t (above.extends store there) there contains forced;
}
  where
    step : Step
    step = record { lit = t.0; level = last_level new.steps; reason = id }

    push : partial (with_step new step) ≡ with_true (partial new) step
    push = assigned-push new.vars new.steps step

    here : at < length line.terms
    here = slice_get_within line.terms at t found

    is : get_or line.terms at t ≡ t
    is = get_or_from_slice_get line.terms at t t found

    contains : Contains line.terms t
    contains = subst (Contains line.terms) is (Contains-get_or line.terms at t here)

    forced : is_forced (partial new) line t ≡ true
    forced =
        let up : s < t.1 = lt_from_test s t.1 (and_true_right (is_none (partial_truth (partial new) t.0)) (int_lt (pos s) (pos t.1)) test) in
        and_both (is_none (partial_truth (partial new) t.0)) (int_lt (slack (partial new) line) (pos t.1)) (ap is_none none) (below_slack (sum_under (partial new) line.terms) line.degree s t.1 above.over up)

-- all terms
pub above_whole : (line : ConstraintValue) (id sum : ℕ) (old new : TrailValue) (at : ℕ) → IsAbove line id sum old new at → length line.terms ≤ at → AreTold (partial new) line sum
above_whole line id sum old new at above past = λ k d short exceeds. above.told k d (omega (arith, past, short)) short exceeds

-- a sum below the degree is a negative slack
pub below_zero : (p : Values) (line : ConstraintValue) (sum : ℕ) → sum_under p line.terms ≤ sum → sum < line.degree → slack p line <ℤ pos 0
below_zero p line sum over less = negative (sum_under p line.terms) line.degree (omega (arith, over, less))
  where
    negative : (a b : ℕ) → a < b → (pos a -ℤ pos b) <ℤ pos 0
    negative a b below = grind (arith, ints)
