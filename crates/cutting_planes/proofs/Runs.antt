-- Tokens that weaken, applied together: their terms lose their coefficients one by one, and are dropped at the end.
use Rattle.std.specs.Prelude.{◌≡◌, ◌≢◌, ℕ, ◌+◌, ◌-◌, ◌<◌, ◌≤◌, ◌==◌, Bool, true, false, not, cond, if◌then◌else◌, List, [], ◌∷◌, All, AllPairs, Result, refl, sum_by}
use Rattle.std.specs.List.{filter}
use Rattle.std.proofs.Common.{◌∙◌, ap, sym, subst, arith, zero, suc, length, get_or, set, take, drop}
use Rattle.std.proofs.lemmas.List.{drop_more}
use Rattle.std.proofs.lemmas.List.Elements.{All-head, All-tail}
use Rattle.std.proofs.lemmas.List.Sums.{sum_by-cons}
use Rattle.std.proofs.lemmas.Bool.Decides.{nat_tests}
use Rattle.scut_base.specs.Literal.{Literal}
use Rattle.pb_lin.specs.Constraint.{ConstraintValue, IsNormal}
use Rattle.pb_lin.specs.Given.{Given}
use Rattle.pb_lin.proofs.Merges.{rising_head, rising_tail}
use Rattle.cutting_planes.specs.Rules.{coefficient_in, weakened}
use Rattle.cutting_planes.specs.Applied.{IsApplied}
use Rattle.cutting_planes.specs.Runs.{IsWeakening, weakened_variable, weakened_all, nonzero, IsRunStep, LeadsTo, IsRunApplied}
use Rattle.cutting_planes.specs.declared.token.PolToken.{PolToken}
use Rattle.cutting_planes.specs.declared.token.PolToken.TheVariants.{Id, Axiom, Negated, Denied, Add, Mul, Div, Saturate, Weaken}
use Rattle.cutting_planes.specs.declared.fault.PolFault.{PolFault}
use Rattle.cutting_planes.proofs.Terms.{Terms, normal-weakened}

abbrev Rising : Terms → Type 0
Rising ts = AllPairs (λ s t. s.0.var < t.0.var) ts

-- the terms of other variables
abbrev others : ℕ → Terms → Terms
others v ts = filter (λ t. not (t.0.var == v)) ts

eq_false : (m n : ℕ) → m ≢ n → (m == n) ≡ false
eq_false m n h = grind (arith, nat_tests)

eq_true : (m n : ℕ) → m ≡ n → (m == n) ≡ true
eq_true m n h = grind (arith, nat_tests)

-- a term of another variable stays
others_cons : (v : ℕ) (t : Literal × ℕ) (b : Bool) (ts : Terms) → t.0.var ≢ v → others v (cond b (t ∷ ts) ts) ≡ cond b (t ∷ others v ts) (others v ts)
others_cons v t true ts other = ap (λ (c : Bool). cond (not c) (t ∷ others v ts) (others v ts)) (eq_false t.0.var v other)
others_cons v t false ts other = refl

-- without a term of the variable nothing is dropped
pub others_all : (v : ℕ) (ts : Terms) → All (λ t. t.0.var ≢ v) ts → others v (nonzero ts) ≡ nonzero ts
others_all v [] all = refl
others_all v (t ∷ ts) all =
    others_cons v t (not (t.1 == 0)) (nonzero ts) (All-head (λ u. u.0.var ≢ v) t ts all)
    ∙ ap (λ (rest : Terms). cond (not (t.1 == 0)) (t ∷ rest) rest) (others_all v ts (All-tail (λ u. u.0.var ≢ v) t ts all))

coefficient_other : (v : ℕ) (t : Literal × ℕ) → t.0.var ≢ v → coefficient_in v t ≡ 0
coefficient_other v t other = ap (λ (b : Bool). if b then t.1 else 0) (eq_false t.0.var v other)

coefficient_same : (v : ℕ) (t : Literal × ℕ) → t.0.var ≡ v → coefficient_in v t ≡ t.1
coefficient_same v t same = ap (λ (b : Bool). if b then t.1 else 0) (eq_true t.0.var v same)

-- a term whose coefficient is 0 adds nothing
sum_nonzero : (v : ℕ) (t : Literal × ℕ) (ts : Terms) → sum_by (coefficient_in v) (nonzero (t ∷ ts)) ≡ coefficient_in v t + sum_by (coefficient_in v) (nonzero ts)
sum_nonzero v t ts = by (t.1 == 0) refl
  where
    zero_coefficient : (c b : Bool) (n : ℕ) → b ≡ true → (n == 0) ≡ b → (if c then n else 0) ≡ 0
    zero_coefficient true b n e f = grind (arith, nat_tests)
    zero_coefficient false b n e f = refl

    by : (b : Bool) → (t.1 == 0) ≡ b → sum_by (coefficient_in v) (cond (not b) (t ∷ nonzero ts) (nonzero ts)) ≡ coefficient_in v t + sum_by (coefficient_in v) (nonzero ts)
    by true e = let none : coefficient_in v t ≡ 0 = zero_coefficient (t.0.var == v) true t.1 refl e in omega arith
    by false e = sum_by-cons (coefficient_in v) t (nonzero ts)

pub gone_none : (v : ℕ) (ts : Terms) → All (λ t. t.0.var ≢ v) ts → sum_by (coefficient_in v) (nonzero ts) ≡ 0
gone_none v [] all = refl
gone_none v (t ∷ ts) all =
    let whole = sum_nonzero v t ts in
    let one : coefficient_in v t ≡ 0 = coefficient_other v t (All-head (λ u. u.0.var ≢ v) t ts all) in
    let rest : sum_by (coefficient_in v) (nonzero ts) ≡ 0 = gone_none v ts (All-tail (λ u. u.0.var ≢ v) t ts all) in
    omega arith

-- the other terms of a rising list, after one of the variable
rest_others : (v : ℕ) (t : Literal × ℕ) (ts : Terms) → Rising (t ∷ ts) → t.0.var ≡ v → All (λ u. u.0.var ≢ v) ts
rest_others v t ts rising same k d short e = let above : t.0.var < (get_or ts k d).0.var = rising_head t ts rising k d short in absurd (omega arith)

-- and one before another of the variable
first_other : (v : ℕ) (t : Literal × ℕ) (ts : Terms) (k : ℕ) → Rising (t ∷ ts) → k < length ts → ((d : Literal × ℕ) → (get_or ts k d).0.var ≡ v) → t.0.var ≢ v
first_other v t ts k rising short is e =
    let above : t.0.var < (get_or ts k t).0.var = rising_head t ts rising k t short in
    let same : (get_or ts k t).0.var ≡ v = is t in
    absurd (omega arith)

-- where the coefficient of the variable is made 0, its term is dropped with those of coefficient 0
pub others_cleared : (v : ℕ) (ts : Terms) (k : ℕ) (l : Literal) → Rising ts → k < length ts → ((d : Literal × ℕ) → (get_or ts k d).0.var ≡ v) → nonzero (set ts k (l, 0)) ≡ others v (nonzero ts)
others_cleared v [] k l rising short is = absurd (omega arith)
others_cleared v (t ∷ ts) zero l rising short is = sym (by (t.1 == 0))
  where
    kept : others v (nonzero ts) ≡ nonzero ts
    kept = others_all v ts (rest_others v t ts rising (is t))

    by : (b : Bool) → others v (cond (not b) (t ∷ nonzero ts) (nonzero ts)) ≡ nonzero ts
    by true = kept
    by false = ap (λ (c : Bool). cond (not c) (t ∷ others v (nonzero ts)) (others v (nonzero ts))) (eq_true t.0.var v (is t)) ∙ kept
others_cleared v (t ∷ ts) (suc k) l rising short is =
    ap (λ (rest : Terms). cond (not (t.1 == 0)) (t ∷ rest) rest) (others_cleared v ts k l (rising_tail t ts rising) (omega arith) is)
    ∙ sym (others_cons v t (not (t.1 == 0)) (nonzero ts) (first_other v t ts k rising (omega arith) is))

-- and its coefficient is what is lost
pub gone_one : (v : ℕ) (ts : Terms) (k : ℕ) (d : Literal × ℕ) → Rising ts → k < length ts → ((e : Literal × ℕ) → (get_or ts k e).0.var ≡ v) → sum_by (coefficient_in v) (nonzero ts) ≡ (get_or ts k d).1
gone_one v [] k d rising short is = absurd (omega arith)
gone_one v (t ∷ ts) zero d rising short is =
    let whole = sum_nonzero v t ts in
    let one : coefficient_in v t ≡ t.1 = coefficient_same v t (is t) in
    let rest : sum_by (coefficient_in v) (nonzero ts) ≡ 0 = gone_none v ts (rest_others v t ts rising (is t)) in
    omega arith
gone_one v (t ∷ ts) (suc k) d rising short is =
    let whole = sum_nonzero v t ts in
    let one : coefficient_in v t ≡ 0 = coefficient_other v t (first_other v t ts k rising (omega arith) is) in
    let rest : sum_by (coefficient_in v) (nonzero ts) ≡ (get_or ts k d).1 = gone_one v ts k d (rising_tail t ts rising) (omega arith) is in
    omega arith

-- ---- a run of tokens

pub run_leads : (given : Given) (tokens : List PolToken) (n : ℕ) (c : ConstraintValue) (stack : List ConstraintValue) → n ≤ length tokens → ((k : ℕ) (d : PolToken) → k < n → IsWeakening (get_or tokens k d)) → LeadsTo given tokens (c ∷ stack) n (weakened_all (take n tokens) c ∷ stack)
run_leads given [] zero c stack short all = λ answer value. value
run_leads given (token ∷ tokens) zero c stack short all = λ answer value. value
run_leads given [] (suc n) c stack short all = absurd (omega arith)
run_leads given (Weaken var ∷ tokens) (suc n) c stack short all = λ answer value.
    (weakened var c ∷ stack, refl, run_leads given tokens n (weakened var c) stack (omega arith) (λ k d less. all (suc k) d (omega arith)) answer value)
run_leads given (Id id ∷ tokens) (suc n) c stack short all = absurd (all 0 Add (omega arith))
run_leads given (Axiom lit ∷ tokens) (suc n) c stack short all = absurd (all 0 Add (omega arith))
run_leads given (Negated ∷ tokens) (suc n) c stack short all = absurd (all 0 Add (omega arith))
run_leads given (Denied ∷ tokens) (suc n) c stack short all = absurd (all 0 Add (omega arith))
run_leads given (Add ∷ tokens) (suc n) c stack short all = absurd (all 0 Add (omega arith))
run_leads given (Mul k ∷ tokens) (suc n) c stack short all = absurd (all 0 Add (omega arith))
run_leads given (Div k ∷ tokens) (suc n) c stack short all = absurd (all 0 Add (omega arith))
run_leads given (Saturate ∷ tokens) (suc n) c stack short all = absurd (all 0 Add (omega arith))

-- with the run's terms at the end dropped, from the place in the run on
pub run_more : (run : List PolToken) (i : ℕ) (token : PolToken) (v : ℕ) (ts ts' : Terms) (lost lost' degree : ℕ) (whole : ConstraintValue) → i < length run → v ≡ weakened_variable (get_or run i token) → nonzero ts' ≡ others v (nonzero ts) → lost' ≡ lost + sum_by (coefficient_in v) (nonzero ts) → weakened_all (drop i run) (record { terms = nonzero ts; degree = degree - lost }) ≡ whole → weakened_all (drop (i + 1) run) (record { terms = nonzero ts'; degree = degree - lost' }) ≡ whole
run_more run i token v ts ts' lost lost' degree whole short named kept gone is =
    let before : ConstraintValue = record { terms = nonzero ts; degree = degree - lost } in
    let made : record { terms = nonzero ts'; degree = degree - lost' } ≡ weakened v before =
    ap (λ (xs : Terms). record { terms = xs; degree = degree - lost' }) kept
    ∙ ap (λ (n : ℕ). record { terms = others v (nonzero ts); degree = n }) (omega arith) in
    ap (weakened_all (drop (i + 1) run)) (made ∙ ap (λ (u : ℕ). weakened u before) named)
    ∙ sym (ap (λ (tokens : List PolToken). weakened_all tokens before) (drop_more run i token short)) ∙ is

pub nonzero_positive : (ts : Terms) → All (λ t. 0 < t.1) ts → nonzero ts ≡ ts
nonzero_positive [] all = refl
nonzero_positive (t ∷ ts) all =
    let above : 0 < t.1 = All-head (λ u. 0 < u.1) t ts all in
    ap (λ (b : Bool). cond (not b) (t ∷ nonzero ts) (nonzero ts)) (eq_false t.1 0 (λ e. absurd (omega arith)))
    ∙ ap (λ (rest : Terms). t ∷ rest) (nonzero_positive ts (All-tail (λ u. 0 < u.1) t ts all))

pub normal-weakened_all : (run : List PolToken) (c : ConstraintValue) → IsNormal c.terms c.degree → IsNormal (weakened_all run c).terms (weakened_all run c).degree
normal-weakened_all [] c normal = normal
normal-weakened_all (token ∷ run) c normal = normal-weakened_all run (weakened (weakened_variable token) c) (normal-weakened (weakened_variable token) c normal)

-- ---- what the first tokens do to a stack

pub run_of_one : (given : Given) (var : ℕ) (old new : List ConstraintValue) (result : Result (Unit {0}) PolFault) → IsRunApplied (Weaken var ∷ []) old new result → IsApplied given (Weaken var) old new result
run_of_one given var [] new result applied = applied
run_of_one given var (c ∷ old) new result applied = applied

pub run_begins : (given : Given) (tokens : List PolToken) (n : ℕ) (old new : List ConstraintValue) → n ≤ length tokens → ((k : ℕ) (d : PolToken) → k < n → IsWeakening (get_or tokens k d)) → IsRunStep (take n tokens) old new → LeadsTo given tokens old n new
run_begins given tokens n [] new short all step = absurd step
run_begins given tokens n (c ∷ stack) new short all step =
    subst (λ (s : List ConstraintValue). LeadsTo given tokens (c ∷ stack) n s) (sym step) (run_leads given tokens n c stack short all)

-- the terms that are left when a run has ended
pub run_dropped : (run : List PolToken) (whole : ConstraintValue) (start ts made : Terms) (degree lost : ℕ) → IsNormal whole.terms whole.degree → start ≡ whole.terms → made ≡ nonzero ts → degree ≡ whole.degree - lost → ((d : ℕ) → record { terms = nonzero ts; degree = d - lost } ≡ weakened_all run (record { terms = nonzero start; degree = d })) → record { terms = made; degree = degree } ≡ weakened_all run whole
run_dropped run whole start ts made degree lost normal same kept left is =
    ap (λ (xs : Terms). record { terms = xs; degree = degree }) kept
    ∙ ap (λ (n : ℕ). record { terms = nonzero ts; degree = n }) left
    ∙ is whole.degree
    ∙ ap (λ (xs : Terms). weakened_all run (record { terms = xs; degree = whole.degree })) (ap nonzero same ∙ nonzero_positive whole.terms normal.merged.positive)

pub run_normal : (run : List PolToken) (whole made : ConstraintValue) → IsNormal whole.terms whole.degree → made ≡ weakened_all run whole → IsNormal made.terms made.degree
run_normal run whole made normal is = subst (λ (c : ConstraintValue). IsNormal c.terms c.degree) (sym is) (normal-weakened_all run whole normal)
