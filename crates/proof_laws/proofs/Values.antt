-- Tokens have a value, and hints an answer, where all that they may name is in normal form.
use Rattle.std.proofs.Common.{◌≡◌, ◌≢◌, ◌⊎◌, inl, inr, ℕ, zero, suc, ◌+◌, ◌*◌, ◌<◌, ◌≤◌, ◌==◌, Bool, true, false, if◌then◌else◌, Option, Some, None, List, [], ◌∷◌, map, replicate, refl, arith, sym, subst, ⊎_elim, Ok, Err, Result, ℤ, pos, negsuc}
use Rattle.std.specs.Prelude.{◌^◌, MatchOption, min, nat_lt, int_lt, unsigned_abs, ◌<ℤ◌}
use Rattle.std.specs.List.{All}
use Rattle.std.specs.FinMap.{get}
use Rattle.std.proofs.lemmas.Bool.{cases_eq, cond-true, cond-false, ltb-false, eq-eqb, ne_eqb}
use Rattle.std.proofs.lemmas.Int.{ints}
use Rattle.std.proofs.lemmas.List.Elements.{All-head, All-tail}
use Rattle.scut_base.specs.Literal.{Literal}
use Rattle.pb_lin.specs.Constraint.{ConstraintValue, IsNormal, size, slack}
use Rattle.cutting_planes.specs.Rules.{literal_axiom, multiplied, divided, saturated, weakened}
use Rattle.pb_lin.specs.Given.{Given}
use Rattle.cutting_planes.specs.Stack.{token_fault, named_fault, factor_fault, size_fault, IsPushed, IsStep, IsValueOn, Answer, final_answer}
use Rattle.cutting_planes.specs.declared.token.PolToken.{PolToken}
use Rattle.cutting_planes.specs.declared.token.PolToken.TheVariants.{Id, Axiom, Negated, Denied, Add, Mul, Div, Saturate, Weaken}
use Rattle.cutting_planes.specs.declared.fault.PolFault.{PolFault}
use Rattle.cutting_planes.specs.declared.fault.PolFault.TheVariants.{BadFactor, Overflow as TooLarge}
use Rattle.cutting_planes.proofs.Rising.{normal_from_above}
use Rattle.hint_rup.specs.Propagation.{forced, Conflicts}
use Rattle.hint_rup.specs.Hints.{named, unnamed, IsAnswer}
use Rattle.hint_rup.specs.declared.hint.Hint.{Hint}
use Rattle.hint_rup.specs.declared.hint.RupFault.{RupFault}
use Rattle.hint_rup.specs.declared.hint.RupFault.TheVariants.{NoSuchId as RupNoSuchId, Open}
use Rattle.hint_rup.proofs.Conflict.{conflicts_none, conflicts_here, conflicts_later, conflicts_cases}
use Rattle.cutting_planes.proofs.Terms.{normal-nil, normal-multiplied, normal-divided, normal-cut, normal-weakened}
use Rattle.proof_laws.specs.State.{StateValue}
use Rattle.proof_laws.specs.WellFormed.{IsToken}
use Rattle.proof_laws.specs.Refusal.{given_in, rup_fault, IsHintsFault}
use Rattle.proof_laws.specs.declared.why.Why.{Why}
use Rattle.proof_laws.proofs.NormalForms.{sum_exists}

-- ---- the values of tokens

abbrev pub IsInNormalForm : ConstraintValue → Type 0
IsInNormalForm c = IsNormal c.terms c.degree

-- what a name stands for is in normal form, where it stands for something
abbrev IsNamedNormal : Option ConstraintValue → Type 0
IsNamedNormal named = (c : ConstraintValue) → named ≡ Some c → IsInNormalForm c

-- all that tokens may name is in normal form
pub record AreNormal (given : Given) : Type 0 where
  pub lines : (id : ℕ) (c : ConstraintValue) → get given.lines id ≡ Some c → IsInNormalForm c
  pub negated : (c : ConstraintValue) → given.negated ≡ Some c → IsInNormalForm c
  pub denied : (c : ConstraintValue) → given.denied ≡ Some c → IsInNormalForm c

abbrev AllNormal : List ConstraintValue → Type 0
AllNormal [] = Unit {0}
AllNormal (c ∷ cs) = IsInNormalForm c × AllNormal cs

-- a token makes a stack, of constraints in normal form again
abbrev HasStep : Given → PolToken → List ConstraintValue → Type 0
HasStep given token stack = (next : List ConstraintValue) × IsStep given token stack next × AllNormal next

-- a name without a fault puts what it stands for on the stack
pushed : (named : Option ConstraintValue) (id : ℕ) (stack : List ConstraintValue) → IsNamedNormal named → named_fault named id ≡ None → AllNormal stack → (next : List ConstraintValue) × IsPushed named stack next × AllNormal next
pushed None id stack normal fine all = cc
pushed (Some c) id stack normal fine all = (c ∷ stack, refl, (normal c refl, all))

too_large : (b : Bool) → (if b then Some TooLarge else None) ≡ None → b ≡ false
too_large true e = cc
too_large false e = refl

size_fits : (n : ℕ) → size_fault n ≡ None → n ≤ 2 ^ 100
size_fits n fine = ltb-false (2 ^ 100) n (too_large (nat_lt (2 ^ 100) n) fine)

-- a factor without a fault is at least 1
not_bad : (b : Bool) (other : Option PolFault) → (if b then Some BadFactor else other) ≡ None → (b ≡ false) × (other ≡ None)
not_bad true other e = cc
not_bad false other e = (refl, e)

factor_positive : (k : ℤ) → int_lt k (pos 1) ≡ false → 0 < unsigned_abs k
factor_positive (pos zero) fine = cc
factor_positive (pos (suc n)) fine = omega arith
factor_positive (negsuc n) fine = cc

factor_parts : (k : ℤ) (other : Option PolFault) → factor_fault k other ≡ None → (0 < unsigned_abs k) × (other ≡ None)
factor_parts k other fine = let parts = not_bad (int_lt k (pos 1)) other fine in (factor_positive k parts.0, parts.1)

axiom_normal : (l : Literal) → 0 < l.var → IsInNormalForm (literal_axiom l)
axiom_normal l from_one = normal_from_above ((l, 1) ∷ []) 0 (from_one, omega arith, tt) (omega arith)

saturated_normal : (c : ConstraintValue) → IsInNormalForm c → IsInNormalForm (saturated c)
saturated_normal c normal = ⊎_elim
    (λ (none : c.degree ≡ 0). subst (λ (ts : List (Literal × ℕ)). IsNormal ts c.degree) (sym (cond-true (c.degree == 0) [] cut (eq-eqb c.degree 0 none))) (normal-nil c.degree (omega arith)))
    (λ (some : c.degree ≢ 0). subst (λ (ts : List (Literal × ℕ)). IsNormal ts c.degree) (sym (cond-false (c.degree == 0) [] cut (ne_eqb c.degree 0 some))) (normal-cut c normal (omega arith)))
    (cases_eq c.degree 0)
  where
    cut : List (Literal × ℕ)
    cut = map (λ t. (t.0, min t.1 c.degree)) c.terms

-- a token without a fault has a step
has_step : (given : Given) → AreNormal given → (token : PolToken) → IsToken token → (stack : List ConstraintValue) → AllNormal stack → token_fault given token stack ≡ None → HasStep given token stack
has_step given normal (Id id) formed stack all fine = pushed (get given.lines id) id stack (normal.lines id) fine all
has_step given normal (Axiom l) formed stack all fine = (literal_axiom l ∷ stack, refl, (axiom_normal l formed.0, all))
has_step given normal Negated formed stack all fine = pushed given.negated 0 stack normal.negated fine all
has_step given normal Denied formed stack all fine = pushed given.denied 0 stack normal.denied fine all
has_step given normal Add formed [] all fine = cc
has_step given normal Add formed (q ∷ []) all fine = cc
has_step given normal Add formed (q ∷ p ∷ stack) all fine =
    let sum = sum_exists p q all.1.0 all.0 (size_fits (size p + size q) fine) in
    (sum.0 ∷ stack, (sum.0, sum.1, refl), (sum.1.normal, all.1.1))
has_step given normal (Mul k) formed [] all fine = cc
has_step given normal (Mul k) formed (c ∷ stack) all fine =
    let parts = factor_parts k (size_fault (size c * unsigned_abs k)) fine in
    (multiplied (unsigned_abs k) c ∷ stack, refl, (normal-multiplied (unsigned_abs k) c all.0 parts.0 (size_fits (size c * unsigned_abs k) parts.1), all.1))
has_step given normal (Div k) formed [] all fine = cc
has_step given normal (Div k) formed (c ∷ stack) all fine =
    (divided (unsigned_abs k) c ∷ stack, refl, (normal-divided (unsigned_abs k) c all.0 (factor_parts k None fine).0, all.1))
has_step given normal Saturate formed [] all fine = cc
has_step given normal Saturate formed (c ∷ stack) all fine = (saturated c ∷ stack, refl, (saturated_normal c all.0, all.1))
has_step given normal (Weaken var) formed [] all fine = cc
has_step given normal (Weaken var) formed (c ∷ stack) all fine = (weakened var c ∷ stack, refl, (normal-weakened var c all.0, all.1))

abbrev HasValue : Given → List ConstraintValue → List PolToken → Type 0
HasValue given stack tokens = (answer : Answer) × IsValueOn given stack tokens answer

-- where a token has no fault, what follows its step has a value
value_by_fault : (fault : Option PolFault) (Rest : Answer → Type 0) → (fault ≡ None → (answer : Answer) × Rest answer) → (answer : Answer) × MatchOption fault (Rest answer) (λ f. answer ≡ Err f)
value_by_fault None Rest rest = rest refl
value_by_fault (Some f) Rest rest = (Err f, refl)

value_on : (given : Given) → AreNormal given → (tokens : List PolToken) → All IsToken tokens → (stack : List ConstraintValue) → AllNormal stack → HasValue given stack tokens
value_on given normal [] formed stack all = (final_answer stack, refl)
value_on given normal (token ∷ tokens) formed stack all =
    value_by_fault (token_fault given token stack) (λ answer. (next : List ConstraintValue) × IsStep given token stack next × IsValueOn given next tokens answer) (λ fine.
    let step = has_step given normal token (All-head IsToken token tokens formed) stack all fine in
    let rest = value_on given normal tokens (All-tail IsToken token tokens formed) step.0 step.2 in
    (rest.0, (step.0, step.1, rest.1)))

pub value_exists : (given : Given) → AreNormal given → (tokens : List PolToken) → All IsToken tokens → HasValue given [] tokens
value_exists given normal tokens formed = value_on given normal tokens formed [] tt

-- ---- the answers to hints

abbrev pub IsDecided : Type 0 → Type 0
IsDecided P = P ⊎ (P → ⊥)

negative_decided : (z : ℤ) → IsDecided (z <ℤ pos 0)
negative_decided (pos n) = inr (λ h. omega (arith, ints))
negative_decided (negsuc n) = inl (omega (arith, ints))

-- propagation comes to a conflict or doesn't
conflicts_decided : (p : List (Option Bool)) (cs : List ConstraintValue) → IsDecided (Conflicts p cs)
conflicts_decided p [] = inr (conflicts_none p)
conflicts_decided p (c ∷ cs) = ⊎_elim
    (λ (here : slack p c <ℤ pos 0). inl (conflicts_here p c cs here))
    (λ (fine : slack p c <ℤ pos 0 → ⊥). ⊎_elim
    (λ (later : Conflicts (forced p c) cs). inl (conflicts_later p c cs later))
    (λ (none : Conflicts (forced p c) cs → ⊥). inr (λ found. ⊎_elim fine none (conflicts_cases p c cs found)))
    (conflicts_decided (forced p c) cs))
    (negative_decided (slack p c))

abbrev HasAnswer : Type 0 → Option ℕ → Type 0
HasAnswer Conflict first = (answer : Result (Unit {0}) RupFault) × IsAnswer answer Conflict first

no_conflict : (Conflict : Type 0) (first : Option ℕ) → (Conflict → ⊥) → HasAnswer Conflict first
no_conflict Conflict None none = (Err Open, (none, refl))
no_conflict Conflict (Some id) none = (Err (RupNoSuchId id), (none, refl))

answer_exists : (Conflict : Type 0) (first : Option ℕ) → IsDecided Conflict → HasAnswer Conflict first
answer_exists Conflict first (inl found) = (Ok tt, found)
answer_exists Conflict first (inr none) = no_conflict Conflict first none

pub hints_exist : (s : StateValue) (negated : ConstraintValue) (denied : Option ConstraintValue) (hints : List Hint) (why : Why) → (fault : Option Why) × IsHintsFault s negated denied hints why fault
hints_exist s negated denied hints why =
    let lines : List ConstraintValue = negated ∷ named (given_in s (Some negated) denied) hints in
    let found = answer_exists (Conflicts (replicate s.vars None) lines) (unnamed (given_in s (Some negated) denied) hints) (conflicts_decided (replicate s.vars None) lines) in
    (rup_fault why found.0, (found.0, found.1, refl))
