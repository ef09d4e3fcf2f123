-- The value of a stack of constraints under a list of tokens.
use Rattle.std.specs.Prelude.{◌≡◌, ℕ, ◌+◌, ◌*◌, ◌^◌, nat_lt, int_lt, unsigned_abs, if◌then◌else◌, List, [], ◌∷◌, ℤ, pos, Option, Some, None, Result, Ok, Err, MatchOption}
use Rattle.std.specs.FinMap.{get}
use Rattle.pb_lin.specs.Constraint.{ConstraintValue, IsVariable, size}
use Rattle.pb_lin.specs.Given.{Given}
use Rattle.cutting_planes.specs.Rules.{literal_axiom, IsSum, multiplied, divided, saturated, weakened}
use Rattle.cutting_planes.specs.declared.token.PolToken.{PolToken}
use Rattle.cutting_planes.specs.declared.token.PolToken.TheVariants.{Id, Axiom, Negated, Denied, Add, Mul, Div, Saturate, Weaken}
use Rattle.cutting_planes.specs.declared.fault.PolFault.{PolFault}
use Rattle.cutting_planes.specs.declared.fault.PolFault.TheVariants.{NoSuchId, Stack, BadFactor, Overflow, NoMemory}

-- a constraint is there, or this id names none
abbrev pub named_fault : Option ConstraintValue → ℕ → Option PolFault
named_fault None id = Some (NoSuchId id)
named_fault (Some c) id = None

-- the size of what is made is too large
abbrev pub size_fault : ℕ → Option PolFault
size_fault size = if nat_lt (2 ^ 100) size then Some Overflow else None

-- a factor is at least 1
abbrev pub factor_fault : ℤ → Option PolFault → Option PolFault
factor_fault k other = if int_lt k (pos 1) then Some BadFactor else other

-- what is wrong with a token on a stack, whose top is first; the size of a sum is that before cancelling
abbrev pub token_fault : Given → PolToken → List ConstraintValue → Option PolFault
token_fault given (Id id) stack = named_fault (get given.lines id) id
token_fault given (Axiom lit) stack = None
token_fault given Negated stack = named_fault given.negated 0
token_fault given Denied stack = named_fault given.denied 0
token_fault given Add (q ∷ p ∷ stack) = size_fault (size p + size q)
token_fault given Add stack = Some Stack
token_fault given token [] = Some Stack
token_fault given (Mul k) (c ∷ stack) = factor_fault k (size_fault (size c * unsigned_abs k))
token_fault given (Div k) (c ∷ stack) = factor_fault k None
token_fault given Saturate (c ∷ stack) = None
token_fault given (Weaken var) (c ∷ stack) = None

-- the stack with a constraint on its top, where it is there
abbrev pub IsPushed : Option ConstraintValue → List ConstraintValue → List ConstraintValue → Type 0
IsPushed None stack new = ⊥
IsPushed (Some c) stack new = new ≡ c ∷ stack

-- what a token that isn't faulty makes of a stack
abbrev pub IsStep : Given → PolToken → List ConstraintValue → List ConstraintValue → Type 0
IsStep given (Id id) stack new = IsPushed (get given.lines id) stack new
IsStep given (Axiom lit) stack new = new ≡ literal_axiom lit ∷ stack
IsStep given Negated stack new = IsPushed given.negated stack new
IsStep given Denied stack new = IsPushed given.denied stack new
IsStep given Add (q ∷ p ∷ stack) new = (r : ConstraintValue) × IsSum r p q × (new ≡ r ∷ stack)
IsStep given (Mul k) (c ∷ stack) new = new ≡ multiplied (unsigned_abs k) c ∷ stack
IsStep given (Div k) (c ∷ stack) new = new ≡ divided (unsigned_abs k) c ∷ stack
IsStep given Saturate (c ∷ stack) new = new ≡ saturated c ∷ stack
IsStep given (Weaken var) (c ∷ stack) new = new ≡ weakened var c ∷ stack
IsStep given token stack new = ⊥

abbrev pub Answer : Type 0
Answer = Result ConstraintValue PolFault

-- the answer for what is left at the end: exactly one constraint
abbrev pub final_answer : List ConstraintValue → Answer
final_answer (c ∷ []) = Ok c
final_answer stack = Err Stack

-- the answer for tokens on a stack: the fault of the first token that has one, or what is left at the end
abbrev pub IsValueOn : Given → List ConstraintValue → List PolToken → Answer → Type 0
IsValueOn given stack [] answer = answer ≡ final_answer stack
IsValueOn given stack (token ∷ tokens) answer = MatchOption (token_fault given token stack)
    ((next : List ConstraintValue) × IsStep given token stack next × IsValueOn given next tokens answer)
    (λ fault. answer ≡ Err fault)

-- the value of the tokens, or want of memory
abbrev pub IsPolValue : Given → List PolToken → Answer → Type 0
IsPolValue given tokens (Err NoMemory) = Unit {0}
IsPolValue given tokens answer = IsValueOn given [] tokens answer

-- a literal that the token names is of a variable from 1 to n
abbrev pub TokenUpTo : ℕ → PolToken → Type 0
TokenUpTo n (Axiom lit) = IsVariable n lit.var
TokenUpTo n token = Unit {0}
