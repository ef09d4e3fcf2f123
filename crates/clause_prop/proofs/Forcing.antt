-- A line under a trail that gets a step of an open literal of the line.
use Rattle.std.proofs.Common.{◌≡◌, ◌≢◌, ◌⊎◌, ℕ, ◌+◌, ◌-◌, ◌<◌, ◌≤◌, ◌&&◌, Bool, true, false, not, if◌then◌else◌, Option, Some, None, List, length, get_or, All, refl, arith, ap, sym, ◌∙◌, subst, ⊎_elim, get_or-set_other, get_or-set_same}
use Rattle.std.specs.Prelude.{pos, int_lt, ◌-ℤ◌}
use Rattle.std.specs.Option.{is_none, option_map}
use Rattle.std.proofs.lemmas.Bool.{cases_eq}
use Rattle.std.proofs.lemmas.List.{get_or_default}
use Rattle.scut_base.specs.Literal.{Literal}
use Rattle.scut_base.specs.Assignment.{partial_truth}
use Rattle.scut_base.proofs.Lists.{sum_by_same_in}
use Rattle.pb_lin.specs.Constraint.{ConstraintValue, IsMerged, possible_value, slack, unless_false}
use Rattle.pb_lin.specs.Propagation.{is_forced}
use Rattle.clause_prop.specs.Steps.{with_true}
use Rattle.clause_prop.specs.declared.step.Step.{Step}
use Rattle.clause_prop.proofs.Assigned.{Values}

-- the terms at two places are of two variables
vars_apart : (terms : List (Literal × ℕ)) (i k : ℕ) (d : Literal × ℕ) → IsMerged terms → i < length terms → k < length terms → k ≢ i → (get_or terms k d).0.var - 1 ≢ (get_or terms i d).0.var - 1
vars_apart terms i k d merged here there other = λ same.
    let ki = merged.from_one k d there in
    let ii = merged.from_one i d here in
    ⊎_elim
    (λ (less : k < i). let up = merged.rising k i d less here in omega (arith, up, same, ki, ii))
    (λ (more : i < k). let up = merged.rising i k d more there in omega (arith, up, same, ki, ii))
    (two_sides k i other)
  where
    two_sides : (a b : ℕ) → a ≢ b → (a < b) ⊎ (b < a)
    two_sides a b ne = grind arith

-- a step makes its own literal true
pub truth_here : (p : Values) (s : Step) → 0 < s.lit.var → s.lit.var ≤ length p → partial_truth (with_true p s) s.lit ≡ Some true
truth_here p s from_one within =
    ap (λ o. option_map (λ b. if s.lit.neg then not b else b) o) (get_or-set_same p (s.lit.var - 1) (Some (not s.lit.neg)) None (omega arith)) ∙ by_sign s.lit.neg
  where
    by_sign : (b : Bool) → option_map (λ v. if b then not v else v) (Some (not b)) ≡ Some true
    by_sign true = refl
    by_sign false = refl

-- and keeps what is of another place
pub truth_other : (p : Values) (s : Step) (l : Literal) → l.var - 1 ≢ s.lit.var - 1 → partial_truth (with_true p s) l ≡ partial_truth p l
truth_other p s l apart = ap (λ o. option_map (λ b. if l.neg then not b else b) o) (get_or-set_other p (s.lit.var - 1) (l.var - 1) (Some (not s.lit.neg)) None apart)

-- a step of an open literal of the line keeps the value of each of its terms
value_kept : (p : Values) (terms : List (Literal × ℕ)) (i : ℕ) (t : Literal × ℕ) (s : Step) → IsMerged terms → i < length terms → get_or terms i t ≡ t → s.lit ≡ t.0 → t.0.var ≤ length p → partial_truth p t.0 ≡ None
    → All (λ u. possible_value (with_true p s) u ≡ possible_value p u) terms
value_kept p terms i t s merged here is lit within none = λ k d there. ⊎_elim
    (λ (e : k ≡ i).
    let one : get_or terms k d ≡ t = ap (λ (j : ℕ). get_or terms j d) e ∙ get_or_default terms i d t here ∙ is in
    subst (λ (u : Literal × ℕ). possible_value (with_true p s) u ≡ possible_value p u) (sym one)
    (ap (λ (o : Option Bool). unless_false o t.1) (subst (λ (l : Literal). partial_truth (with_true p s) l ≡ Some true) lit (truth_here p s (subst (λ (l : Literal). 0 < l.var) (sym lit) own) (subst (λ (l : Literal). l.var ≤ length p) (sym lit) within)))
    ∙ sym (ap (λ (o : Option Bool). unless_false o t.1) none)))
    (λ (other : k ≢ i).
    let apart : (get_or terms k d).0.var - 1 ≢ s.lit.var - 1 = subst (λ (l : Literal). (get_or terms k d).0.var - 1 ≢ l.var - 1) (sym lit) (subst (λ (u : Literal × ℕ). (get_or terms k d).0.var - 1 ≢ u.0.var - 1) (get_or_default terms i d t here ∙ is) (vars_apart terms i k d merged here there other)) in
    ap (λ (o : Option Bool). unless_false o (get_or terms k d).1) (truth_other p s (get_or terms k d).0 apart))
    (cases_eq k i)
  where
    own : 0 < t.0.var
    own = subst (λ (u : Literal × ℕ). 0 < u.0.var) is (merged.from_one i t here)

pub slack_kept : (p : Values) (c : ConstraintValue) (i : ℕ) (t : Literal × ℕ) (s : Step) → IsMerged c.terms → i < length c.terms → get_or c.terms i t ≡ t → s.lit ≡ t.0 → t.0.var ≤ length p → partial_truth p t.0 ≡ None
    → slack (with_true p s) c ≡ slack p c
slack_kept p c i t s merged here is lit within none =
    ap (λ (n : ℕ). pos n -ℤ pos c.degree) (sum_by_same_in (possible_value (with_true p s)) (possible_value p) c.terms (value_kept p c.terms i t s merged here is lit within none))

-- none of the first terms is forced
abbrev pub AreUnforced : Values → ConstraintValue → ℕ → Type 0
AreUnforced p c n = (k : ℕ) (d : Literal × ℕ) → k < n → k < length c.terms → is_forced p c (get_or c.terms k d) ≡ false

and_false : (b : Bool) → (b && false) ≡ false
and_false true = refl
and_false false = refl

-- after a step of a term, neither it nor one before it is forced
pub unforced_pushed : (p : Values) (c : ConstraintValue) (i : ℕ) (t : Literal × ℕ) (s : Step) → IsMerged c.terms → i < length c.terms → get_or c.terms i t ≡ t → s.lit ≡ t.0 → t.0.var ≤ length p → partial_truth p t.0 ≡ None
    → AreUnforced p c i → AreUnforced (with_true p s) c (i + 1)
unforced_pushed p c i t s merged here is lit within none before = λ k d less there. ⊎_elim
    (λ (e : k ≡ i).
    let one : get_or c.terms k d ≡ t = ap (λ (j : ℕ). get_or c.terms j d) e ∙ get_or_default c.terms i d t here ∙ is in
    let own : 0 < t.0.var = subst (λ (u : Literal × ℕ). 0 < u.0.var) is (merged.from_one i t here) in
    let truth : partial_truth (with_true p s) t.0 ≡ Some true = subst (λ (l : Literal). partial_truth (with_true p s) l ≡ Some true) lit (truth_here p s (subst (λ (l : Literal). 0 < l.var) (sym lit) own) (subst (λ (l : Literal). l.var ≤ length p) (sym lit) within)) in
    subst (λ (u : Literal × ℕ). is_forced (with_true p s) c u ≡ false) (sym one)
    (ap (λ (o : Option Bool). is_none o && int_lt (slack (with_true p s) c) (pos t.1)) truth))
    (λ (other : k ≢ i).
    let u : Literal × ℕ = get_or c.terms k d in
    let apart : u.0.var - 1 ≢ s.lit.var - 1 = subst (λ (l : Literal). u.0.var - 1 ≢ l.var - 1) (sym lit) (subst (λ (v : Literal × ℕ). u.0.var - 1 ≢ v.0.var - 1) (get_or_default c.terms i d t here ∙ is) (vars_apart c.terms i k d merged here there other)) in
    ap (λ (o : Option Bool). is_none o && int_lt (slack (with_true p s) c) (pos u.1)) (truth_other p s u.0 apart)
    ∙ ap (λ z. is_none (partial_truth p u.0) && int_lt z (pos u.1)) (slack_kept p c i t s merged here is lit within none)
    ∙ before k d (omega (arith, less, other)) there)
    (cases_eq k i)

-- a term that isn't forced
pub unforced_more : (p : Values) (c : ConstraintValue) (i : ℕ) (t : Literal × ℕ) → i < length c.terms → get_or c.terms i t ≡ t → is_forced p c t ≡ false → AreUnforced p c i → AreUnforced p c (i + 1)
unforced_more p c i t here is none before = λ k d less there. ⊎_elim
    (λ (e : k ≡ i). subst (λ (u : Literal × ℕ). is_forced p c u ≡ false) (sym (ap (λ (j : ℕ). get_or c.terms j d) e ∙ get_or_default c.terms i d t here ∙ is)) none)
    (λ (other : k ≢ i). before k d (omega (arith, less, other)) there)
    (cases_eq k i)
