-- Tokens that push, multiply and add lead to the sum.
use Rattle.std.specs.Prelude.{◌≡◌, ℕ, ◌+◌, ◌*◌, ◌≤◌, ◌^◌, Bool, false, if◌then◌else◌, nat_lt, int_lt, unsigned_abs, List, [], ◌∷◌, ℤ, pos, Option, Some, None, Err, MatchOption, refl}
use Rattle.std.specs.FinMap.{get}
use Rattle.std.proofs.Common.{◌∙◌, ap, sym, subst, arith, get_or, drop}
use Rattle.std.proofs.lemmas.List.{drop-drop}
use Rattle.std.proofs.lemmas.Bool.Decides.{nat_tests}
use Rattle.pb_lin.specs.Constraint.{ConstraintValue, size}
use Rattle.pb_lin.specs.Given.{Given}
use Rattle.cutting_planes.specs.Rules.{IsSum, multiplied}
use Rattle.cutting_planes.specs.Stack.{size_fault, named_fault, token_fault, IsPushed, IsStep, Answer, IsValueOn}
use Rattle.cutting_planes.specs.Additions.{Pushes, IsAddition, IsAddend}
use Rattle.cutting_planes.specs.Runs.{LeadsTo}
use Rattle.cutting_planes.specs.declared.token.PolToken.{PolToken}
use Rattle.cutting_planes.specs.declared.token.PolToken.TheVariants.{Id, Axiom, Negated, Denied, Add, Mul, Div, Saturate, Weaken}
use Rattle.cutting_planes.specs.declared.fault.PolFault.{PolFault}
use Rattle.cutting_planes.specs.declared.fault.PolFault.TheVariants.{BadFactor, Overflow}
use Rattle.cutting_planes.proofs.Terms.{multiplied-one}
use Rattle.cutting_planes.proofs.SlotTerms.{multiple_size}

-- ---- single tokens

-- after a token that isn't faulty
goes_on : (given : Given) (token : PolToken) (tokens : List PolToken) (stack next : List ConstraintValue) (answer : Answer) → token_fault given token stack ≡ None → IsStep given token stack next → IsValueOn given next tokens answer → IsValueOn given stack (token ∷ tokens) answer
goes_on given token tokens stack next answer fine step value =
    subst (λ (fault : Option PolFault). MatchOption fault ((after : List ConstraintValue) × IsStep given token stack after × IsValueOn given after tokens answer) (λ f. answer ≡ Err f)) (sym fine) (next, step, value)

push_named : (given : Given) (token : PolToken) (tokens : List PolToken) (named : Option ConstraintValue) (id : ℕ) (c : ConstraintValue) (stack : List ConstraintValue) (answer : Answer) → token_fault given token stack ≡ named_fault named id → ((next : List ConstraintValue) → IsPushed named stack next → IsStep given token stack next) → named ≡ Some c → IsValueOn given (c ∷ stack) tokens answer → IsValueOn given stack (token ∷ tokens) answer
push_named given token tokens named id c stack answer fault step is value =
    goes_on given token tokens stack (c ∷ stack) answer (fault ∙ ap (λ (o : Option ConstraintValue). named_fault o id) is) (step (c ∷ stack) (subst (λ (o : Option ConstraintValue). IsPushed o stack (c ∷ stack)) (sym is) refl)) value

push : (given : Given) (token : PolToken) (tokens : List PolToken) (c : ConstraintValue) (stack : List ConstraintValue) (answer : Answer) → Pushes given token c → IsValueOn given (c ∷ stack) tokens answer → IsValueOn given stack (token ∷ tokens) answer
push given (Id id) tokens c stack answer is value = push_named given (Id id) tokens (get given.lines id) id c stack answer refl (λ next pushed. pushed) is value
push given Negated tokens c stack answer is value = push_named given Negated tokens given.negated 0 c stack answer refl (λ next pushed. pushed) is value
push given Denied tokens c stack answer is value = push_named given Denied tokens given.denied 0 c stack answer refl (λ next pushed. pushed) is value
push given (Axiom lit) tokens c stack answer is value = absurd is
push given Add tokens c stack answer is value = absurd is
push given (Mul k) tokens c stack answer is value = absurd is
push given (Div k) tokens c stack answer is value = absurd is
push given Saturate tokens c stack answer is value = absurd is
push given (Weaken var) tokens c stack answer is value = absurd is

not_above : (m n : ℕ) → n ≤ m → nat_lt m n ≡ false
not_above m n h = grind (arith, nat_tests)

size_fine : (n : ℕ) → n ≤ 2 ^ 100 → size_fault n ≡ None
size_fine n small = ap (λ (b : Bool). if b then Some Overflow else None) (not_above (2 ^ 100) n small)

add : (given : Given) (tokens : List PolToken) (r p q : ConstraintValue) (stack : List ConstraintValue) (answer : Answer) → size p + size q ≤ 2 ^ 100 → IsSum r p q → IsValueOn given (r ∷ stack) tokens answer → IsValueOn given (q ∷ p ∷ stack) (Add ∷ tokens) answer
add given tokens r p q stack answer small sum value =
    goes_on given Add tokens (q ∷ p ∷ stack) (r ∷ stack) answer (size_fine (size p + size q) small) (r, sum, refl) value

multiply : (given : Given) (factor : ℤ) (tokens : List PolToken) (c : ConstraintValue) (stack : List ConstraintValue) (answer : Answer) → int_lt factor (pos 1) ≡ false → size c * unsigned_abs factor ≤ 2 ^ 100 → IsValueOn given (multiplied (unsigned_abs factor) c ∷ stack) tokens answer → IsValueOn given (c ∷ stack) (Mul factor ∷ tokens) answer
multiply given factor tokens c stack answer from_one small value =
    goes_on given (Mul factor) tokens (c ∷ stack) (multiplied (unsigned_abs factor) c ∷ stack) answer
    (ap (λ (b : Bool). if b then Some BadFactor else size_fault (size c * unsigned_abs factor)) from_one ∙ size_fine (size c * unsigned_abs factor) small) refl value

-- ---- additions

add_once : (given : Given) (first : PolToken) (tokens : List PolToken) (c s r : ConstraintValue) (stack : List ConstraintValue) → Pushes given first c → size s + size c * 1 ≤ 2 ^ 100 → IsSum r s (multiplied 1 c) → LeadsTo given (first ∷ Add ∷ tokens) (s ∷ stack) 2 (r ∷ stack)
add_once given first tokens c s r stack pushes small sum = λ answer value.
    push given first (Add ∷ tokens) c (s ∷ stack) answer pushes
    (add given tokens r s c stack answer (omega arith) (subst (λ (q : ConstraintValue). IsSum r s q) (multiplied-one c) sum) value)

add_times : (given : Given) (first : PolToken) (factor : ℤ) (tokens : List PolToken) (c s r : ConstraintValue) (stack : List ConstraintValue) → Pushes given first c → int_lt factor (pos 1) ≡ false → size s + size c * unsigned_abs factor ≤ 2 ^ 100 → IsSum r s (multiplied (unsigned_abs factor) c) → LeadsTo given (first ∷ Mul factor ∷ Add ∷ tokens) (s ∷ stack) 3 (r ∷ stack)
add_times given first factor tokens c s r stack pushes from_one small sum = λ answer value.
    let whole = multiple_size (unsigned_abs factor) c in
    push given first (Mul factor ∷ Add ∷ tokens) c (s ∷ stack) answer pushes
    (multiply given factor (Add ∷ tokens) c (s ∷ stack) answer from_one (omega arith)
    (add given tokens r s (multiplied (unsigned_abs factor) c) stack answer (omega arith) sum value))

leads_along : (given : Given) (tokens : List PolToken) (c s r : ConstraintValue) (stack : List ConstraintValue) (k k' n n' : ℕ) → k ≡ k' → n ≡ n' → (size s + size c * k' ≤ 2 ^ 100 → IsSum r s (multiplied k' c) → LeadsTo given tokens (s ∷ stack) n' (r ∷ stack)) → size s + size c * k ≤ 2 ^ 100 → IsSum r s (multiplied k c) → LeadsTo given tokens (s ∷ stack) n (r ∷ stack)
leads_along given tokens c s r stack k k' n n' e f leads small sum =
    subst (λ (m : ℕ). LeadsTo given tokens (s ∷ stack) m (r ∷ stack)) (sym f)
    (leads (subst (λ (m : ℕ). size s + size c * m ≤ 2 ^ 100) e small) (subst (λ (m : ℕ). IsSum r s (multiplied m c)) e sum))

addition_leads : (given : Given) (tokens : List PolToken) (c s r : ConstraintValue) (stack : List ConstraintValue) (k n : ℕ) → ((d : PolToken) → Pushes given (get_or tokens 0 d) c) → IsAddition tokens k n → size s + size c * k ≤ 2 ^ 100 → IsSum r s (multiplied k c) → LeadsTo given tokens (s ∷ stack) n (r ∷ stack)
addition_leads given [] c s r stack k n pushes adds small sum = absurd adds
addition_leads given (first ∷ []) c s r stack k n pushes adds small sum = absurd adds
addition_leads given (first ∷ Add ∷ tokens) c s r stack k n pushes adds small sum =
    leads_along given (first ∷ Add ∷ tokens) c s r stack k 1 n 2 adds.0 adds.1 (add_once given first tokens c s r stack (pushes Add)) small sum
addition_leads given (first ∷ Mul factor ∷ []) c s r stack k n pushes adds small sum = absurd adds
addition_leads given (first ∷ Mul factor ∷ Add ∷ tokens) c s r stack k n pushes adds small sum =
    leads_along given (first ∷ Mul factor ∷ Add ∷ tokens) c s r stack k (unsigned_abs factor) n 3 adds.1 adds.2 (add_times given first factor tokens c s r stack (pushes Add) adds.0) small sum
addition_leads given (first ∷ Mul factor ∷ (Id id) ∷ tokens) c s r stack k n pushes adds small sum = absurd adds
addition_leads given (first ∷ Mul factor ∷ (Axiom lit) ∷ tokens) c s r stack k n pushes adds small sum = absurd adds
addition_leads given (first ∷ Mul factor ∷ Negated ∷ tokens) c s r stack k n pushes adds small sum = absurd adds
addition_leads given (first ∷ Mul factor ∷ Denied ∷ tokens) c s r stack k n pushes adds small sum = absurd adds
addition_leads given (first ∷ Mul factor ∷ (Mul again) ∷ tokens) c s r stack k n pushes adds small sum = absurd adds
addition_leads given (first ∷ Mul factor ∷ (Div divisor) ∷ tokens) c s r stack k n pushes adds small sum = absurd adds
addition_leads given (first ∷ Mul factor ∷ Saturate ∷ tokens) c s r stack k n pushes adds small sum = absurd adds
addition_leads given (first ∷ Mul factor ∷ (Weaken var) ∷ tokens) c s r stack k n pushes adds small sum = absurd adds
addition_leads given (first ∷ (Id id) ∷ tokens) c s r stack k n pushes adds small sum = absurd adds
addition_leads given (first ∷ (Axiom lit) ∷ tokens) c s r stack k n pushes adds small sum = absurd adds
addition_leads given (first ∷ Negated ∷ tokens) c s r stack k n pushes adds small sum = absurd adds
addition_leads given (first ∷ Denied ∷ tokens) c s r stack k n pushes adds small sum = absurd adds
addition_leads given (first ∷ (Div divisor) ∷ tokens) c s r stack k n pushes adds small sum = absurd adds
addition_leads given (first ∷ Saturate ∷ tokens) c s r stack k n pushes adds small sum = absurd adds
addition_leads given (first ∷ (Weaken var) ∷ tokens) c s r stack k n pushes adds small sum = absurd adds

-- the tokens so far, and the next addition
pub leads_more : (given : Given) (tokens : List PolToken) (at n k : ℕ) (start s r c : ConstraintValue) → ((stack : List ConstraintValue) → LeadsTo given tokens (start ∷ stack) at (s ∷ stack)) → IsAddend given (drop at tokens) c k n → size s + size c * k ≤ 2 ^ 100 → IsSum r s (multiplied k c) → (stack : List ConstraintValue) → LeadsTo given tokens (start ∷ stack) (at + n) (r ∷ stack)
leads_more given tokens at n k start s r c leads addend small sum stack = λ answer value.
    leads stack answer (addition_leads given (drop at tokens) c s r stack k n addend.pushes addend.adds small sum answer
    (subst (λ (ts : List PolToken). IsValueOn given (r ∷ stack) ts answer) (sym (drop-drop n at tokens)) value))

pub leads_none : (given : Given) (tokens : List PolToken) (c : ConstraintValue) (stack : List ConstraintValue) → LeadsTo given tokens (c ∷ stack) 0 (c ∷ stack)
leads_none given tokens c stack = λ answer value. value
