-- Why a line is refused: its conditions in order, of which the first that fails decides.
use Rattle.std.specs.Prelude.{◌≡◌, ◌⊎◌, ℕ, ◌+◌, ◌*◌, ◌<◌, ◌^◌, ◌==◌, Bool, true, false, not, nat_lt, ◌&&◌, if◌then◌else◌, List, [], ◌∷◌, ◌++◌, map, length, Option, None, Some, option_map, MatchOption, Result, Ok, Err}
use Rattle.std.specs.List.{find, flat_map, list_all, position_from}
use Rattle.std.specs.FinMap.{get, contains_key}
use Rattle.scut_base.specs.Literal.{Literal}
use Rattle.pb_lin.specs.Constraint.{ConstraintValue, Covers, negation, opposite, size, total, value}
use Rattle.pb_lin.specs.CostRow.{CostRowValue}
use Rattle.pb_lin.specs.Problem.{ProblemValue}
use Rattle.pb_lin.specs.LineMap.{LineMap}
use Rattle.pb_lin.specs.Restriction.{restriction}
use Rattle.pb_lin.specs.Substitution.{Images}
use Rattle.pb_lin.specs.declared.witness.Image.{Image}
use Rattle.pb_lin.specs.declared.witness.Image.TheVariants.{Lit}
use Rattle.pb_lin.specs.Given.{Given}
use Rattle.cutting_planes.specs.Stack.{IsValueOn, Answer}
use Rattle.cutting_planes.specs.declared.token.PolToken.{PolToken}
use Rattle.cutting_planes.specs.declared.token.PolToken.TheVariants.{Axiom, Weaken}
use Rattle.cutting_planes.specs.declared.fault.PolFault.{PolFault}
use Rattle.cutting_planes.specs.declared.fault.PolFault.TheVariants.{NoSuchId as PolNoSuchId, Stack as PolStack, BadFactor as PolBadFactor, Overflow as PolOverflow, NoMemory as PolNoMemory}
use Rattle.hint_rup.specs.Hints.{IsReplayed}
use Rattle.hint_rup.specs.declared.hint.Hint.{Hint}
use Rattle.hint_rup.specs.declared.hint.RupFault.{RupFault}
use Rattle.hint_rup.specs.declared.hint.RupFault.TheVariants.{NoSuchId as RupNoSuchId, Open}
use Rattle.proof_laws.specs.State.{StateValue}
use Rattle.proof_laws.specs.WellFormed.{goal_kind, goal_number}
use Rattle.proof_laws.specs.Steps.{reached_if, reached_only_if}
use Rattle.proof_laws.specs.Substituted.{Requirement, IsGoalOf, redundance, dominance}
use Rattle.proof_laws.specs.declared.goal.Goal.{Goal}
use Rattle.proof_laws.specs.declared.goal.GoalProof.{GoalProof}
use Rattle.proof_laws.specs.declared.goal.GoalProof.TheVariants.{Rup as ByRup, Pol as ByPol}
use Rattle.proof_laws.specs.declared.line.Line.{Line}
use Rattle.proof_laws.specs.declared.line.Line.TheVariants.{Pol, Rup, Learn, Def, Red, Dom, Sol, Del, Reduce, End}
use Rattle.proof_laws.specs.declared.why.Why.{Why}
use Rattle.proof_laws.specs.declared.why.Why.TheVariants.{NoSuchId, VarRange, NotFresh, Overflow, Stack, BadFactor, RupOpen, GoalOpen, GoalMissing, SolRow, CutOpen, NotClause, NotContradiction, AfterEnd, LogLong}

-- the first fault decides: this one, or else what the rest has
abbrev pub FirstOf : Option Why → (Option Why → Type 0) → Option Why → Type 0
FirstOf None Rest fault = Rest fault
FirstOf (Some why) Rest fault = fault ≡ Some why

-- a fault where a test fails
abbrev pub fault_unless : Bool → Why → Option Why
fault_unless true why = None
fault_unless false why = Some why

-- the first of two faults
abbrev pub first_fault : Option Why → Option Why → Option Why
first_fault None second = second
first_fault (Some why) second = Some why

-- ---- what is written

abbrev pub token_variables : PolToken → List ℕ
token_variables (Axiom l) = l.var ∷ []
token_variables (Weaken var) = var ∷ []
token_variables token = []

abbrev pub term_variables : List (Literal × ℕ) → List ℕ
term_variables terms = map (λ t. t.0.var) terms

abbrev pub image_variables : ℕ × Image → List ℕ
image_variables (var, Lit l) = var ∷ l.var ∷ []
image_variables (var, image) = var ∷ []

abbrev pub proof_variables : GoalProof → List ℕ
proof_variables (ByRup hints) = []
proof_variables (ByPol tokens) = flat_map token_variables tokens

-- the variables of a constraint, a substitution and its proofs, as they are written
abbrev pub substitution_variables : ConstraintValue → Images → List (Goal × GoalProof) → List ℕ
substitution_variables goal w proofs = term_variables goal.terms ++ (flat_map image_variables w ++ flat_map (λ q. proof_variables q.1) proofs)

-- The variables that a line writes, as they stand in its text. Those of `def` and `sol` have conditions of their own.
abbrev pub written : Line → List ℕ
written (Pol tokens) = flat_map token_variables tokens
written (Rup goal hints) = term_variables goal.terms
written (Learn goal hints) = term_variables goal.terms
written (Red goal w proofs) = substitution_variables goal w proofs
written (Dom goal w proofs) = substitution_variables goal w proofs
written line = []

-- the first of these variables that is above n
abbrev pub range_fault : ℕ → List ℕ → Option Why
range_fault n vars = option_map VarRange (find (λ v. nat_lt n v) vars)

-- ---- derivations

abbrev pub size_fault : ℕ → Option Why
size_fault size = fault_unless (not (nat_lt (2 ^ 100) size)) Overflow

-- the same cause, of a stack; its want of memory is the value of no tokens
abbrev pub pol_why : PolFault → Why
pol_why (PolNoSuchId id) = NoSuchId id
pol_why PolStack = Stack
pol_why PolBadFactor = BadFactor
pol_why PolOverflow = Overflow
pol_why PolNoMemory = Overflow

abbrev pub pol_fault : Answer → Option Why
pol_fault (Ok c) = None
pol_fault (Err f) = Some (pol_why f)

-- the tokens make a constraint whose coefficients sum below its degree, and else this is the fault
abbrev pub contradiction_fault : Why → Answer → Option Why
contradiction_fault otherwise (Ok c) = fault_unless (nat_lt (total c.terms) c.degree) otherwise
contradiction_fault otherwise (Err f) = Some (pol_why f)

abbrev pub rup_fault : Why → Result (Unit {0}) RupFault → Option Why
rup_fault otherwise (Ok done) = None
rup_fault otherwise (Err (RupNoSuchId id)) = Some (NoSuchId id)
rup_fault otherwise (Err Open) = Some otherwise

-- the live lines, and what is given besides
abbrev pub given_in : StateValue → Option ConstraintValue → Option ConstraintValue → Given
given_in s negated denied = record { lines = s.live; negated = negated; denied = denied }

-- the fault of hints that are to lead to a conflict
abbrev pub IsHintsFault : StateValue → ConstraintValue → Option ConstraintValue → List Hint → Why → Option Why → Type 0
IsHintsFault s negated denied hints otherwise fault =
    (answer : Result (Unit {0}) RupFault) × IsReplayed s.vars negated (given_in s (Some negated) denied) hints answer × (fault ≡ rup_fault otherwise answer)

-- the fault of a constraint that is to follow by propagation
abbrev pub IsRupFault : StateValue → ConstraintValue → List Hint → Option Why → Type 0
IsRupFault s goal hints fault = FirstOf (size_fault (size (negation goal))) (IsHintsFault s (negation goal) None hints RupOpen) fault

abbrev pub IsPolFault : StateValue → List PolToken → Option Why → Type 0
IsPolFault s tokens fault = (answer : Answer) × IsValueOn (given_in s None None) [] tokens answer × (fault ≡ pol_fault answer)

-- the fault of tokens that are to make a contradiction
abbrev pub IsTokensFault : StateValue → ConstraintValue → ConstraintValue → List PolToken → Why → Option Why → Type 0
IsTokensFault s negated denied tokens otherwise fault = (answer : Answer)
    × IsValueOn (given_in s (Some negated) (Some denied)) [] tokens answer
    × (fault ≡ contradiction_fault otherwise answer)

-- coefficients 1 and degree 1
abbrev pub is_clause : ConstraintValue → Bool
is_clause c = list_all (λ t. t.1 == 1) c.terms && c.degree == 1

-- ---- definitions

abbrev pub def_fault : StateValue → ℕ → ConstraintValue → Option Why
def_fault s var sum = first_fault (fault_unless (var == s.vars + 1) (NotFresh var)) (first_fault (range_fault s.vars (term_variables sum.terms))
    (first_fault (size_fault (size (reached_if var sum))) (size_fault (size (reached_only_if var sum)))))

-- ---- substitutions

-- whether two goals are of one kind and number
abbrev pub same_goal : Goal → Goal → Bool
same_goal g h = goal_kind g == goal_kind h && goal_number g == goal_number h

-- the proof of a goal, if it has one
abbrev pub proof_of : Goal → List (Goal × GoalProof) → Option GoalProof
proof_of goal proofs = option_map (λ q. q.1) (find (λ q. same_goal goal q.0) proofs)

-- the fault of a proof that the goal g, of this name, follows: from the live lines, the negation of g and that of the line's constraint a conflict is derived
abbrev pub IsProofFault : StateValue → ConstraintValue → Goal → ConstraintValue → GoalProof → Option Why → Type 0
IsProofFault s c name g (ByRup hints) fault = IsHintsFault s (negation g) (Some (negation c)) hints (GoalOpen name) fault
IsProofFault s c name g (ByPol tokens) fault = IsTokensFault s (negation g) (negation c) tokens (GoalOpen name) fault

-- the fault of a goal g whose degree isn't 0
abbrev pub IsOpenGoalFault : StateValue → ConstraintValue → List (Goal × GoalProof) → Goal → ConstraintValue → Option Why → Type 0
IsOpenGoalFault s c proofs name g fault = MatchOption (proof_of name proofs) (fault ≡ Some (GoalMissing name))
    (λ proof. FirstOf (size_fault (size (negation g))) (IsProofFault s c name g proof) fault)

-- the fault of a requirement: its goal overflows; or has a degree above 0, and no proof or one that fails
abbrev pub IsGoalFault : StateValue → ConstraintValue → List (Goal × GoalProof) → Requirement → Option Why → Type 0
IsGoalFault s c proofs q fault = FirstOf (size_fault (2 * q.size))
    (λ f. (g : ConstraintValue) × IsGoalOf g q
    × (((g.degree ≡ 0) × (f ≡ None)) ⊎ ((0 < g.degree) × IsOpenGoalFault s c proofs q.goal g f))) fault

-- the first fault of the requirements
abbrev pub IsFirstGoalFault : StateValue → ConstraintValue → List (Goal × GoalProof) → List Requirement → Option Why → Type 0
IsFirstGoalFault s c proofs [] fault = fault ≡ None
IsFirstGoalFault s c proofs (q ∷ qs) fault = (first : Option Why) × IsGoalFault s c proofs q first × FirstOf first (IsFirstGoalFault s c proofs qs) fault

abbrev pub IsSubstitutionFault : StateValue → ConstraintValue → List (Goal × GoalProof) → List Requirement → Option Why → Type 0
IsSubstitutionFault s c proofs requirements fault = FirstOf (size_fault (size (negation c))) (IsFirstGoalFault s c proofs requirements) fault

-- ---- solutions

-- the assignment that these literals, of the variables in order, make true
abbrev pub assignment_of : List Literal → List Bool
assignment_of model = map (λ l. not l.neg) model

-- the literals that are true at these values, of the variables from var on
abbrev pub literals_at : ℕ → List Bool → List Literal
literals_at var [] = []
literals_at var (b ∷ bs) = record { var = var; neg = not b } ∷ literals_at (var + 1) bs

-- the first place, from k on, at which the literals aren't those of the variables up to n in order
abbrev pub misplaced : ℕ → ℕ → List Literal → Option ℕ
misplaced k n [] = if nat_lt n k then None else Some k
misplaced k n (l ∷ ls) = if nat_lt n k then Some k else if l.var == k then misplaced (k + 1) n ls else Some k

-- the id of the first row that doesn't hold
abbrev pub broken_row : List Bool → List ConstraintValue → Option ℕ
broken_row a rows = position_from (λ c. nat_lt (value a c.terms) c.degree) 1 rows

-- the line of an id, where 0 names "0 >= 0"
abbrev pub line_or_none : LineMap → ℕ → Option ConstraintValue
line_or_none live id = if id == 0 then Some (record { terms = []; degree = 0 }) else get live id

-- where the cut's literals are false, the line bounds the row from below by its value at the model
abbrev pub Bounds : List Literal → List Bool → ConstraintValue → CostRowValue → Type 0
Bounds cut a c r = Covers (restriction c (map opposite cut)) (restriction (record { terms = r.terms; degree = value a r.terms }) (map opposite cut))

-- the first fault of the ids that stand for the objectives from the i-th on
abbrev pub IsCutFault : LineMap → List Literal → List Bool → ℕ → List CostRowValue → List ℕ → Option Why → Type 0
IsCutFault live cut a i [] [] fault = fault ≡ None
IsCutFault live cut a i [] (id ∷ ids) fault = fault ≡ Some (CutOpen i)
IsCutFault live cut a i (r ∷ rs) [] fault = fault ≡ Some (CutOpen i)
IsCutFault live cut a i (r ∷ rs) (id ∷ ids) fault = MatchOption (line_or_none live id) (fault ≡ Some (NoSuchId id))
    (λ c. (Bounds cut a c r × IsCutFault live cut a (i + 1) rs ids fault) ⊎ ((Bounds cut a c r → ⊥) × (fault ≡ Some (CutOpen i))))

abbrev pub IsSolFault : ProblemValue → StateValue → List Literal → List Literal → List ℕ → Option Why → Type 0
IsSolFault p s model cut ids fault =
    FirstOf (option_map VarRange (misplaced 1 p.vars model)) (FirstOf (option_map SolRow (broken_row (assignment_of model) p.rows))
    (FirstOf (range_fault s.vars (map (λ l. l.var) cut)) (IsCutFault s.live cut (assignment_of model) 1 p.costs ids))) fault

-- ---- deletions and the end

-- whether an id names a live line that is no row of the problem
abbrev pub is_deletable : ProblemValue → StateValue → ℕ → Bool
is_deletable p s id = nat_lt (length p.rows) id && contains_key s.live id

abbrev pub deletion_fault : ProblemValue → StateValue → List ℕ → Option Why
deletion_fault p s ids = option_map NoSuchId (find (λ id. not (is_deletable p s id)) ids)

-- the line is there, and a contradiction
abbrev pub end_fault : Option ConstraintValue → ℕ → Option Why
end_fault None id = Some (NoSuchId id)
end_fault (Some c) id = fault_unless (length c.terms == 0 && nat_lt 0 c.degree) (NotContradiction id)

-- ---- all kinds of lines

abbrev pub IsRuleFault : ProblemValue → StateValue → Line → Option Why → Type 0
IsRuleFault p s (Pol tokens) fault = IsPolFault s tokens fault
IsRuleFault p s (Rup goal hints) fault = IsRupFault s goal hints fault
IsRuleFault p s (Learn goal hints) fault = FirstOf (fault_unless (is_clause goal) NotClause) (IsRupFault s goal hints) fault
IsRuleFault p s (Def var sum) fault = fault ≡ def_fault s var sum
IsRuleFault p s (Red goal w proofs) fault = IsSubstitutionFault s goal proofs (redundance p s w goal) fault
IsRuleFault p s (Dom goal w proofs) fault = IsSubstitutionFault s goal proofs (dominance p w) fault
IsRuleFault p s (Sol model cut ids) fault = IsSolFault p s model cut ids fault
IsRuleFault p s (Del ids) fault = fault ≡ deletion_fault p s ids
IsRuleFault p s (Reduce ids) fault = fault ≡ deletion_fault p s ids
IsRuleFault p s (End id) fault = fault ≡ end_fault (get s.live id) id

-- The first fault of a line, or none: the proof has ended, it has too many lines, a variable that is written isn't one of the state's; then the conditions of its rule.
abbrev pub IsFault : ProblemValue → StateValue → Line → Option Why → Type 0
IsFault p s line fault = FirstOf (fault_unless (not s.ended) AfterEnd) (FirstOf (fault_unless (nat_lt s.lines (2 ^ 61)) LogLong)
    (FirstOf (range_fault s.vars (written line)) (IsRuleFault p s line))) fault
