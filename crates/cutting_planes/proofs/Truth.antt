-- What the tokens make is implied by what they may name.
use Rattle.std.specs.Prelude.{◌≡◌, ℕ, ◌<◌, Bool, List, [], ◌∷◌, ℤ, pos, unsigned_abs, Option, Some, None, Ok, Err, MatchOption, IfOk, refl}
use Rattle.std.proofs.Common.{sym, subst, arith, negsuc, zero, suc, ◌≤◌, length, drop, ◌⊎◌, inl, inr}
use Rattle.std.proofs.lemmas.List.{drop_all}
use Rattle.std.specs.FinMap.{get}
use Rattle.scut_base.proofs.Options.{if_some}
use Rattle.pb_lin.specs.Constraint.{ConstraintValue, Holds}
use Rattle.pb_lin.specs.Given.{Given, HoldsGiven}
use Rattle.cutting_planes.specs.Rules.{literal_axiom, multiplied, divided, saturated, weakened}
use Rattle.cutting_planes.specs.Stack.{factor_fault, token_fault, IsPushed, IsStep, Answer, final_answer, IsValueOn, IsPolValue}
use Rattle.cutting_planes.specs.declared.token.PolToken.{PolToken}
use Rattle.cutting_planes.specs.declared.token.PolToken.TheVariants.{Id, Axiom, Negated, Denied, Add, Mul, Div, Saturate, Weaken}
use Rattle.cutting_planes.specs.declared.fault.PolFault.{PolFault}
use Rattle.cutting_planes.specs.declared.fault.PolFault.TheVariants.{NoSuchId, Stack, BadFactor, Overflow, NoMemory}
use Rattle.cutting_planes.proofs.Terms.{multiplied_holds, divided_holds, saturated_holds, weakened_holds, literal_axiom_holds, sum_holds}

-- each constraint holds
abbrev HoldAll : List Bool → List ConstraintValue → Type 0
HoldAll a [] = Unit {0}
HoldAll a (c ∷ cs) = Holds a c × HoldAll a cs

all_along : (a : List Bool) (new stack : List ConstraintValue) (c : ConstraintValue) → new ≡ c ∷ stack → Holds a c → HoldAll a stack → HoldAll a new
all_along a new stack c e holds all = subst (λ (cs : List ConstraintValue). HoldAll a cs) (sym e) (holds, all)

pushed_holds : (a : List Bool) (named : Option ConstraintValue) (stack new : List ConstraintValue) → ((c : ConstraintValue) → named ≡ Some c → Holds a c) → IsPushed named stack new → HoldAll a stack → HoldAll a new
pushed_holds a None stack new named_holds step all = absurd step
pushed_holds a (Some c) stack new named_holds step all = all_along a new stack c step (named_holds c refl) all

-- a divisor that isn't faulty is positive
pub from_one : (k : ℤ) → factor_fault k None ≡ None → 0 < unsigned_abs k
from_one (pos zero) e = cc
from_one (pos (suc n)) e = omega arith
from_one (negsuc n) e = cc

step_holds : (a : List Bool) (given : Given) → HoldsGiven a given → (token : PolToken) (stack new : List ConstraintValue) → token_fault given token stack ≡ None → IsStep given token stack new → HoldAll a stack → HoldAll a new
step_holds a given holds (Id id) stack new e step all = pushed_holds a (get given.lines id) stack new (holds.lines id) step all
step_holds a given holds (Axiom lit) stack new e step all = all_along a new stack (literal_axiom lit) step (literal_axiom_holds a lit) all
step_holds a given holds Negated stack new e step all = pushed_holds a given.negated stack new (λ c e. if_some (Holds a) given.negated c holds.negated e) step all
step_holds a given holds Denied stack new e step all = pushed_holds a given.denied stack new (λ c e. if_some (Holds a) given.denied c holds.denied e) step all
step_holds a given holds Add [] new e step all = absurd step
step_holds a given holds Add (q ∷ []) new e step all = absurd step
step_holds a given holds Add (q ∷ p ∷ stack) new e step all = all_along a new stack step.0 step.2 (sum_holds a step.0 p q step.1 all.1.0 all.0) all.1.1
step_holds a given holds (Mul k) [] new e step all = absurd step
step_holds a given holds (Mul k) (c ∷ stack) new e step all = all_along a new stack (multiplied (unsigned_abs k) c) step (multiplied_holds a (unsigned_abs k) c all.0) all.1
step_holds a given holds (Div k) [] new e step all = absurd step
step_holds a given holds (Div k) (c ∷ stack) new e step all = all_along a new stack (divided (unsigned_abs k) c) step (divided_holds a (unsigned_abs k) c (from_one k e) all.0) all.1
step_holds a given holds Saturate [] new e step all = absurd step
step_holds a given holds Saturate (c ∷ stack) new e step all = all_along a new stack (saturated c) step (saturated_holds a c all.0) all.1
step_holds a given holds (Weaken var) [] new e step all = absurd step
step_holds a given holds (Weaken var) (c ∷ stack) new e step all = all_along a new stack (weakened var c) step (weakened_holds a var c all.0) all.1

last_holds : (a : List Bool) (stack : List ConstraintValue) (c : ConstraintValue) → Ok c ≡ final_answer stack → HoldAll a stack → Holds a c
last_holds a [] c e all = cc
last_holds a (d ∷ []) c e all = let same : d ≡ c = cc in subst (λ (x : ConstraintValue). Holds a x) same all.0
last_holds a (d ∷ f ∷ stack) c e all = cc

pub by_fault : {P R : Type 0} {Q : PolFault → Type 0} (fault : Option PolFault) → MatchOption fault P Q → (fault ≡ None → P → R) → ((f : PolFault) → Q f → R) → R
by_fault None m none some = none refl m
by_fault (Some f) m none some = some f m

value_holds : (a : List Bool) (given : Given) → HoldsGiven a given → (tokens : List PolToken) (stack : List ConstraintValue) (c : ConstraintValue) → IsValueOn given stack tokens (Ok c) → HoldAll a stack → Holds a c
value_holds a given holds [] stack c value all = last_holds a stack c value all
value_holds a given holds (token ∷ tokens) stack c value all =
    by_fault (token_fault given token stack) value
    (λ fine next. value_holds a given holds tokens next.0 c next.2 (step_holds a given holds token stack next.0 fine next.1 all)) (λ f is. cc)

pub value_implied : (given : Given) (tokens : List PolToken) (answer : Answer) → IsPolValue given tokens answer → IfOk answer (λ c. (a : List Bool) → HoldsGiven a given → Holds a c)
value_implied given tokens (Ok c) value = λ a holds. value_holds a given holds tokens [] c value tt
value_implied given tokens (Err f) value = tt

-- ---- runs of tokens

pub value_from_run : (given : Given) (tokens : List PolToken) (answer : Answer) → IsValueOn given [] tokens answer → IsPolValue given tokens answer
value_from_run given tokens (Ok c) value = value
value_from_run given tokens (Err NoMemory) value = tt
value_from_run given tokens (Err (NoSuchId id)) value = value
value_from_run given tokens (Err Stack) value = value
value_from_run given tokens (Err BadFactor) value = value
value_from_run given tokens (Err Overflow) value = value

-- the value on the stack after n tokens is the value of all
abbrev pub Continues : Given → List PolToken → List ConstraintValue → ℕ → Type 0
Continues given tokens stack n = (answer : Answer) → IsValueOn given stack (drop n tokens) answer → IsValueOn given [] tokens answer

pub run_end : (given : Given) (tokens : List PolToken) (stack : List ConstraintValue) (n : ℕ) (answer : Answer) → length tokens ≤ n → (answer ≡ Err NoMemory) ⊎ (answer ≡ final_answer stack) → Continues given tokens stack n → IsPolValue given tokens answer
run_end given tokens stack n answer past (inl refused) continues = subst (λ (r : Answer). IsPolValue given tokens r) (sym refused) tt
run_end given tokens stack n answer past (inr is) continues =
    value_from_run given tokens answer (continues answer (subst (λ (ts : List PolToken). IsValueOn given stack ts answer) (sym (drop_all n tokens past)) is))
