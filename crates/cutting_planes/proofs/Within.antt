-- What tokens make is in normal form, over the variables of what they may name.
use Rattle.std.specs.Prelude.{◌≡◌, ℕ, ◌*◌, ◌<◌, ◌≤◌, ◌^◌, ◌==◌, Bool, true, false, not, min, if◌then◌else◌, List, [], ◌∷◌, ℤ, pos, unsigned_abs, nat_lt, int_lt, Option, Some, None, Ok, All, map, refl}
use Rattle.std.proofs.Common.{sym, subst, arith, negsuc, zero, suc}
use Rattle.std.specs.FinMap.{get}
use Rattle.std.proofs.lemmas.Bool.{ltb-false}
use Rattle.std.proofs.lemmas.List.Elements.{All-nil, All-cons, All-map, All-filter, All-head, All-tail}
use Rattle.scut_base.specs.Literal.{Literal}
use Rattle.scut_base.proofs.Options.{if_some}
use Rattle.pb_lin.specs.Constraint.{ConstraintValue, IsVariable, TermsUpTo, UpTo, size}
use Rattle.pb_lin.specs.Given.{Given, GivenWithin, IsWithin}
use Rattle.pb_lin.proofs.Ones.{normal-ones}
use Rattle.pb_lin.proofs.Variables.{value-agree, variables_bounded}
use Rattle.cutting_planes.specs.Rules.{literal_axiom, IsSum, multiplied, rounded_up, divided, saturated, weakened}
use Rattle.cutting_planes.specs.Stack.{factor_fault, size_fault, token_fault, IsPushed, IsStep, TokenUpTo, final_answer, IsValueOn}
use Rattle.cutting_planes.specs.declared.token.PolToken.{PolToken}
use Rattle.cutting_planes.specs.declared.token.PolToken.TheVariants.{Id, Axiom, Negated, Denied, Add, Mul, Div, Saturate, Weaken}
use Rattle.cutting_planes.specs.declared.fault.PolFault.{PolFault}
use Rattle.cutting_planes.specs.declared.fault.PolFault.TheVariants.{BadFactor, Overflow}
use Rattle.cutting_planes.proofs.Terms.{Terms, changed, normal-multiplied, normal-divided, normal-saturated, normal-weakened}
use Rattle.cutting_planes.proofs.Truth.{by_fault, from_one}

abbrev StackWithin : ℕ → List ConstraintValue → Type 0
StackWithin n [] = Unit {0}
StackWithin n (c ∷ cs) = IsWithin n c × StackWithin n cs

within_along : (n : ℕ) (new stack : List ConstraintValue) (c : ConstraintValue) → new ≡ c ∷ stack → IsWithin n c → StackWithin n stack → StackWithin n new
within_along n new stack c e within all = subst (λ (cs : List ConstraintValue). StackWithin n cs) (sym e) (within, all)

pushed_within : (n : ℕ) (named : Option ConstraintValue) (stack new : List ConstraintValue) → ((c : ConstraintValue) → named ≡ Some c → IsWithin n c) → IsPushed named stack new → StackWithin n stack → StackWithin n new
pushed_within n None stack new within step all = absurd step
pushed_within n (Some c) stack new within step all = within_along n new stack c step (within c refl) all

-- ---- what each rule makes

axiom_within : (n : ℕ) (l : Literal) → IsVariable n l.var → IsWithin n (literal_axiom l)
axiom_within n l is = record {
  normal = normal-ones (l ∷ []) 0 (λ i j d less short. absurd (omega arith)) (λ d short. is.0) (omega arith);
  upto = All-cons (λ t. t.0.var ≤ n) (l, 1) [] is.1 (All-nil (λ t. t.0.var ≤ n));
}

sum_within : (n : ℕ) (r p q : ConstraintValue) → IsSum r p q → IsWithin n p → IsWithin n q → IsWithin n r
sum_within n r p q sum wp wq = record {
  normal = sum.normal;
  upto = variables_bounded n r.terms sum.normal.merged (λ a b agree.
      let left = value-agree n p.terms wp.normal.merged.from_one wp.upto a b agree in
      let right = value-agree n q.terms wq.normal.merged.from_one wq.upto a b agree in
      let here = sum.same a in
      let there = sum.same b in
      omega arith);
}

changed_upto : (n : ℕ) (g : ℕ → ℕ) (ts : Terms) → TermsUpTo n ts → TermsUpTo n (map (changed g) ts)
changed_upto n g ts upto = All-map (λ t. t.0.var ≤ n) (changed g) ts upto

-- a test that fails decides for the other
if_none : (b : Bool) (f : PolFault) (other : Option PolFault) → (if b then Some f else other) ≡ None → (b ≡ false) × (other ≡ None)
if_none true f other e = cc
if_none false f other e = (refl, e)

multiplied_within : (n : ℕ) (k : ℤ) (c : ConstraintValue) → factor_fault k (size_fault (size c * unsigned_abs k)) ≡ None → IsWithin n c → IsWithin n (multiplied (unsigned_abs k) c)
multiplied_within n k c fine within =
    let factor = if_none (int_lt k (pos 1)) BadFactor (size_fault (size c * unsigned_abs k)) fine in
    let fits = if_none (nat_lt (2 ^ 100) (size c * unsigned_abs k)) Overflow None factor.1 in
    let least : 0 < unsigned_abs k = positive k factor.0 in
    record {
      normal = normal-multiplied (unsigned_abs k) c within.normal least (ltb-false (2 ^ 100) (size c * unsigned_abs k) fits.0);
      upto = changed_upto n (λ m. m * unsigned_abs k) c.terms within.upto;
    }
  where
    positive : (k : ℤ) → int_lt k (pos 1) ≡ false → 0 < unsigned_abs k
    positive (pos zero) e = cc
    positive (pos (suc m)) e = omega arith
    positive (negsuc m) e = cc

divided_within : (n : ℕ) (k : ℤ) (c : ConstraintValue) → factor_fault k None ≡ None → IsWithin n c → IsWithin n (divided (unsigned_abs k) c)
divided_within n k c fine within = record {
  normal = normal-divided (unsigned_abs k) c within.normal (from_one k fine);
  upto = changed_upto n (λ m. rounded_up m (unsigned_abs k)) c.terms within.upto;
}

saturated_within : (n : ℕ) (c : ConstraintValue) → IsWithin n c → IsWithin n (saturated c)
saturated_within n c within = record { normal = normal-saturated c within.normal; upto = by (c.degree == 0) }
  where
    by : (b : Bool) → TermsUpTo n (if b then [] else map (changed (λ m. min m c.degree)) c.terms)
    by true = All-nil (λ t. t.0.var ≤ n)
    by false = changed_upto n (λ m. min m c.degree) c.terms within.upto

weakened_within : (n var : ℕ) (c : ConstraintValue) → IsWithin n c → IsWithin n (weakened var c)
weakened_within n var c within = record {
  normal = normal-weakened var c within.normal;
  upto = All-filter (λ t. not (t.0.var == var)) (λ t. t.0.var ≤ n) c.terms within.upto;
}

-- ---- tokens

step_within : (n : ℕ) (given : Given) → GivenWithin n given → (token : PolToken) → TokenUpTo n token → (stack new : List ConstraintValue) → token_fault given token stack ≡ None → IsStep given token stack new → StackWithin n stack → StackWithin n new
step_within n given within (Id id) upto stack new e step all = pushed_within n (get given.lines id) stack new (within.lines id) step all
step_within n given within (Axiom lit) upto stack new e step all = within_along n new stack (literal_axiom lit) step (axiom_within n lit upto) all
step_within n given within Negated upto stack new e step all = pushed_within n given.negated stack new (λ c is. if_some (IsWithin n) given.negated c within.negated is) step all
step_within n given within Denied upto stack new e step all = pushed_within n given.denied stack new (λ c is. if_some (IsWithin n) given.denied c within.denied is) step all
step_within n given within Add upto [] new e step all = absurd step
step_within n given within Add upto (q ∷ []) new e step all = absurd step
step_within n given within Add upto (q ∷ p ∷ stack) new e step all = within_along n new stack step.0 step.2 (sum_within n step.0 p q step.1 all.1.0 all.0) all.1.1
step_within n given within (Mul k) upto [] new e step all = absurd step
step_within n given within (Mul k) upto (c ∷ stack) new e step all = within_along n new stack (multiplied (unsigned_abs k) c) step (multiplied_within n k c e all.0) all.1
step_within n given within (Div k) upto [] new e step all = absurd step
step_within n given within (Div k) upto (c ∷ stack) new e step all = within_along n new stack (divided (unsigned_abs k) c) step (divided_within n k c e all.0) all.1
step_within n given within Saturate upto [] new e step all = absurd step
step_within n given within Saturate upto (c ∷ stack) new e step all = within_along n new stack (saturated c) step (saturated_within n c all.0) all.1
step_within n given within (Weaken var) upto [] new e step all = absurd step
step_within n given within (Weaken var) upto (c ∷ stack) new e step all = within_along n new stack (weakened var c) step (weakened_within n var c all.0) all.1

last_within : (n : ℕ) (stack : List ConstraintValue) (c : ConstraintValue) → Ok c ≡ final_answer stack → StackWithin n stack → IsWithin n c
last_within n [] c e all = cc
last_within n (d ∷ []) c e all = let same : d ≡ c = cc in subst (IsWithin n) same all.0
last_within n (d ∷ f ∷ stack) c e all = cc

value_within : (n : ℕ) (given : Given) → GivenWithin n given → (tokens : List PolToken) → All (TokenUpTo n) tokens → (stack : List ConstraintValue) (c : ConstraintValue) → IsValueOn given stack tokens (Ok c) → StackWithin n stack → IsWithin n c
value_within n given within [] upto stack c value all = last_within n stack c value all
value_within n given within (token ∷ tokens) upto stack c value all =
    by_fault (token_fault given token stack) value
    (λ fine next. value_within n given within tokens (All-tail (TokenUpTo n) token tokens upto) next.0 c next.2 (step_within n given within token (All-head (TokenUpTo n) token tokens upto) stack next.0 fine next.1 all))
    (λ f is. cc)

pub value_upto : (given : Given) (tokens : List PolToken) (c : ConstraintValue) (n : ℕ) → GivenWithin n given → All (TokenUpTo n) tokens → IsValueOn given [] tokens (Ok c) → UpTo n c
value_upto given tokens c n within upto value = (value_within n given within tokens upto [] c value tt).upto

pub value_is_within : (given : Given) (tokens : List PolToken) (c : ConstraintValue) (n : ℕ) → GivenWithin n given → All (TokenUpTo n) tokens → IsValueOn given [] tokens (Ok c) → IsWithin n c
value_is_within given tokens c n within upto value = value_within n given within tokens upto [] c value tt
