-- What code answers that judges a line; but for `IsReason` nothing of it has to be believed.
use Rattle.std.specs.Prelude.{◌≡◌, ◌⊎◌, ◌<◌, ◌^◌, nat_lt, not, ℕ, ℤ, All, [], ◌∷◌, ◌++◌, List, Option, None, Some, option_map, option_to_list, Result, Ok, Err}
use Rattle.std.specs.List.{filter}
use Rattle.std.specs.FinMap.{get}
use Rattle.scut_base.specs.Literal.{Literal}
use Rattle.pb_lin.specs.Constraint.{ConstraintValue, IsVariable}
use Rattle.pb_lin.specs.LineMap.{LineMap}
use Rattle.pb_lin.specs.Substitution.{Images, ImageUpTo}
use Rattle.pb_lin.specs.Given.{Given}
use Rattle.pb_lin.specs.Problem.{ProblemValue}
use Rattle.cutting_planes.specs.Stack.{IsValueOn}
use Rattle.cutting_planes.specs.declared.token.PolToken.{PolToken}
use Rattle.cutting_planes.specs.declared.fault.PolFault.{PolFault}
use Rattle.proof_laws.specs.State.{StateValue}
use Rattle.proof_laws.specs.Steps.{with_line}
use Rattle.proof_laws.specs.Refusal.{pol_why, first_fault, fault_unless, range_fault, written, given_in, IsPolFault, IsHintsFault, IsTokensFault, IsOpenGoalFault}
use Rattle.proof_laws.specs.Legal.{IsRefused}
use Rattle.proof_laws.specs.declared.goal.Goal.{Goal}
use Rattle.proof_laws.specs.declared.goal.GoalProof.{GoalProof}
use Rattle.proof_laws.specs.declared.goal.GoalProof.TheVariants.{Rup as ByRup, Pol as ByPol}
use Rattle.proof_laws.specs.declared.line.Line.{Line}
use Rattle.proof_laws.specs.declared.line.Line.TheVariants.{Pol}
use Rattle.proof_laws.specs.declared.why.Why.{Why}
use Rattle.proof_laws.specs.declared.why.Why.TheVariants.{AfterEnd, LogLong, GoalOpen}
use Rattle.proof_rules.specs.declared.fault.StepFault.{StepFault}
use Rattle.proof_rules.specs.declared.fault.StepFault.TheVariants.{Refused, NoMemory}

-- Ok where there is no fault, and else the fault; want of memory says nothing.
abbrev pub IsVerdict : {T : Type 0} → (Option Why → Type 0) → Result T StepFault → Type 0
IsVerdict J (Ok x) = J None
IsVerdict J (Err (Refused why)) = J (Some why)
IsVerdict J (Err NoMemory) = Unit {0}

-- The value of the tokens, or the reason of their fault; want of memory says nothing.
abbrev pub IsEvaluated : Given → List PolToken → Result ConstraintValue StepFault → Type 0
IsEvaluated given tokens (Ok c) = IsValueOn given [] tokens (Ok c)
IsEvaluated given tokens (Err (Refused why)) = (f : PolFault) × IsValueOn given [] tokens (Err f) × (why ≡ pol_why f)
IsEvaluated given tokens (Err NoMemory) = Unit {0}

-- the fault of a goal in normal form: none where its degree is 0
abbrev pub IsClosedOrOpen : StateValue → ConstraintValue → List (Goal × GoalProof) → Goal → ConstraintValue → Option Why → Type 0
IsClosedOrOpen s c proofs name g fault = ((g.degree ≡ 0) × (fault ≡ None)) ⊎ ((0 < g.degree) × IsOpenGoalFault s c proofs name g fault)

-- the reason of a refusal; want of memory says nothing
abbrev pub IsReason : ProblemValue → StateValue → Line → StepFault → Type 0
IsReason p s line (Refused why) = IsRefused p s line why
IsReason p s line NoMemory = Unit {0}

-- the images' literals are of variables from 1 to n
abbrev pub ImagesUpTo : ℕ → Images → Type 0
ImagesUpTo n w = All (λ i. ImageUpTo n i.1) w

-- the literals are of variables from 1 to n
abbrev pub LiteralsUpTo : ℕ → List (ℤ × Literal) → Type 0
LiteralsUpTo n terms = All (λ t. IsVariable n t.1.var) terms

-- the line of an id with the id, if there is one
abbrev pub line_at : LineMap → ℕ → List (ℕ × ConstraintValue)
line_at lines id = option_to_list (option_map (λ c. (id, c)) (get lines id))

-- the entries of higher ids
abbrev pub above : ℕ → List (ℕ × ConstraintValue) → List (ℕ × ConstraintValue)
above id es = filter (λ e. nat_lt id e.0) es

-- the fault of a proof that is to derive a conflict from the live lines and two constraints
abbrev pub IsConflictFault : StateValue → ConstraintValue → ConstraintValue → Goal → GoalProof → Option Why → Type 0
IsConflictFault s negated denied name (ByRup hints) fault = IsHintsFault s negated (Some denied) hints (GoalOpen name) fault
IsConflictFault s negated denied name (ByPol tokens) fault = IsTokensFault s negated denied tokens (GoalOpen name) fault

-- the state with this vector logged, and this constraint live
abbrev pub with_logged : StateValue → ConstraintValue → List ℤ → StateValue
with_logged s cut costs = record (with_line s cut) { sols = s.sols ++ costs ∷ [] }

-- the first of the faults that lines of every kind may have
abbrev pub common_fault : StateValue → Line → Option Why
common_fault s line = first_fault (fault_unless (not s.ended) AfterEnd) (first_fault (fault_unless (nat_lt s.lines (2 ^ 61)) LogLong)
    (range_fault s.vars (written line)))

-- the fault of the tokens of a `pol` line; other lines have none so
abbrev pub IsValueFault : StateValue → Line → Option Why → Type 0
IsValueFault s (Pol tokens) fault = IsPolFault s tokens fault
IsValueFault s line fault = fault ≡ None

-- the constraint that the tokens of a `pol` line make; other lines make none so
abbrev pub IsValueMade : StateValue → Line → Option ConstraintValue → Type 0
IsValueMade s (Pol tokens) made = (c : ConstraintValue) × (made ≡ Some c) × IsValueOn (given_in s None None) [] tokens (Ok c)
IsValueMade s line made = made ≡ None
