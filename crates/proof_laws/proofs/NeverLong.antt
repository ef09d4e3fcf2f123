-- Where there is room for a line more, none is refused for the number of lines.
use Rattle.std.proofs.Common.{◌≡◌, ◌⊎◌, ⊎_elim, ℕ, ◌+◌, ◌*◌, ◌^◌, ◌==◌, Bool, true, false, not, Option, None, Some, List, [], ◌∷◌, map, sym, subst, Result, Ok, Err}
use Rattle.std.specs.Prelude.{MatchOption, option_map, nat_lt}
use Rattle.std.specs.List.{find}
use Rattle.std.specs.FinMap.{get}
use Rattle.scut_base.specs.Literal.{Literal}
use Rattle.pb_lin.specs.Constraint.{ConstraintValue, negation, size}
use Rattle.pb_lin.specs.CostRow.{CostRowValue}
use Rattle.pb_lin.specs.LineMap.{LineMap}
use Rattle.pb_lin.specs.Problem.{ProblemValue}
use Rattle.cutting_planes.specs.Stack.{Answer}
use Rattle.cutting_planes.specs.declared.fault.PolFault.{PolFault}
use Rattle.cutting_planes.specs.declared.fault.PolFault.TheVariants.{NoSuchId as PolNoSuchId, Stack as PolStack, BadFactor as PolBadFactor, Overflow as PolOverflow, NoMemory as PolNoMemory}
use Rattle.hint_rup.specs.declared.hint.Hint.{Hint}
use Rattle.hint_rup.specs.declared.hint.RupFault.{RupFault}
use Rattle.hint_rup.specs.declared.hint.RupFault.TheVariants.{NoSuchId as RupNoSuchId, Open}
use Rattle.proof_laws.specs.State.{StateValue}
use Rattle.proof_laws.specs.Steps.{reached_if, reached_only_if}
use Rattle.proof_laws.specs.Substituted.{Requirement, redundance, dominance}
use Rattle.proof_laws.specs.Refusal.{FirstOf, fault_unless, first_fault, range_fault, size_fault, written, term_variables, pol_why, pol_fault, contradiction_fault, rup_fault, IsHintsFault, IsRupFault, IsProofFault, IsGoalFault, IsFirstGoalFault, IsSubstitutionFault, proof_of, is_clause, def_fault, assignment_of, misplaced, broken_row, line_or_none, Bounds, IsCutFault, end_fault, IsRuleFault}
use Rattle.proof_laws.specs.Legal.{IsRefused}
use Rattle.proof_laws.specs.declared.goal.Goal.{Goal}
use Rattle.proof_laws.specs.declared.goal.GoalProof.{GoalProof}
use Rattle.proof_laws.specs.declared.goal.GoalProof.TheVariants.{Rup as ByRup, Pol as ByPol}
use Rattle.proof_laws.specs.declared.line.Line.{Line}
use Rattle.proof_laws.specs.declared.line.Line.TheVariants.{Pol, Rup, Learn, Def, Red, Dom, Sol, Del, Reduce, End}
use Rattle.proof_laws.specs.declared.why.Why.{Why}
use Rattle.proof_laws.specs.declared.why.Why.TheVariants.{NoSuchId, VarRange, NotFresh, Overflow, RupOpen, GoalOpen, GoalMissing, SolRow, CutOpen, NotClause, NotContradiction, AfterEnd, LogLong}

abbrev Never : (Option Why → Type 0) → Type 0
Never J = J (Some LogLong) → ⊥

first_never : (o : Option Why) (Rest : Option Why → Type 0) → (o ≡ Some LogLong → ⊥) → Never Rest → Never (FirstOf o Rest)
first_never None Rest first rest is = rest is
first_never (Some why) Rest first rest is = first (sym is)

both_never : (o p : Option Why) → (o ≡ Some LogLong → ⊥) → (p ≡ Some LogLong → ⊥) → first_fault o p ≡ Some LogLong → ⊥
both_never None p first second is = second is
both_never (Some why) p first second is = first is

unless_never : (b : Bool) (why : Why) → (why ≡ LogLong → ⊥) → fault_unless b why ≡ Some LogLong → ⊥
unless_never true why other is = cc
unless_never false why other is = other cc

map_never : (f : ℕ → Why) → ((n : ℕ) → f n ≡ LogLong → ⊥) → (o : Option ℕ) → option_map f o ≡ Some LogLong → ⊥
map_never f other None is = cc
map_never f other (Some n) is = other n cc

range_never : (n : ℕ) (vars : List ℕ) → range_fault n vars ≡ Some LogLong → ⊥
range_never n vars = map_never VarRange (λ v e. cc) (find (λ v. nat_lt n v) vars)

size_never : (n : ℕ) → size_fault n ≡ Some LogLong → ⊥
size_never n = unless_never (not (nat_lt (2 ^ 100) n)) Overflow (λ e. cc)

pol_never : (f : PolFault) → pol_why f ≡ LogLong → ⊥
pol_never (PolNoSuchId id) is = cc
pol_never PolStack is = cc
pol_never PolBadFactor is = cc
pol_never PolOverflow is = cc
pol_never PolNoMemory is = cc

answer_never : (answer : Answer) → pol_fault answer ≡ Some LogLong → ⊥
answer_never (Ok c) is = cc
answer_never (Err f) is = pol_never f cc

contradiction_never : (why : Why) → (why ≡ LogLong → ⊥) → (answer : Answer) → contradiction_fault why answer ≡ Some LogLong → ⊥
contradiction_never why other (Ok c) is = unless_never _ why other is
contradiction_never why other (Err f) is = pol_never f cc

rup_never : (why : Why) → (why ≡ LogLong → ⊥) → (answer : Result (Unit {0}) RupFault) → rup_fault why answer ≡ Some LogLong → ⊥
rup_never why other (Ok done) is = cc
rup_never why other (Err (RupNoSuchId id)) is = cc
rup_never why other (Err Open) is = other cc

hints_never : (s : StateValue) (negated : ConstraintValue) (denied : Option ConstraintValue) (hints : List Hint) (why : Why) → (why ≡ LogLong → ⊥) → Never (IsHintsFault s negated denied hints why)
hints_never s negated denied hints why other is = rup_never why other is.0 (sym is.2)

following_never : (s : StateValue) (goal : ConstraintValue) (hints : List Hint) → Never (IsRupFault s goal hints)
following_never s goal hints = first_never (size_fault (size (negation goal))) (IsHintsFault s (negation goal) None hints RupOpen) (size_never (size (negation goal))) (hints_never s (negation goal) None hints RupOpen (λ e. cc))

module _ (s : StateValue) (c : ConstraintValue) (proofs : List (Goal × GoalProof)) where
  proof_never : (name : Goal) (g : ConstraintValue) (proof : GoalProof) → Never (IsProofFault s c name g proof)
  proof_never name g (ByRup hints) is = hints_never s (negation g) (Some (negation c)) hints (GoalOpen name) (λ e. cc) is
  proof_never name g (ByPol tokens) is = contradiction_never (GoalOpen name) (λ e. cc) is.0 (sym is.2)

  found_never : (name : Goal) (g : ConstraintValue) (proof : Option GoalProof) → Never (λ f. MatchOption proof (f ≡ Some (GoalMissing name)) (λ q. FirstOf (size_fault (size (negation g))) (IsProofFault s c name g q) f))
  found_never name g None is = cc
  found_never name g (Some proof) is = first_never (size_fault (size (negation g))) (IsProofFault s c name g proof) (size_never (size (negation g))) (proof_never name g proof) is

  goal_never : (q : Requirement) → Never (IsGoalFault s c proofs q)
  goal_never q = first_never (size_fault (2 * q.size)) _ (size_never (2 * q.size)) (λ is. ⊎_elim (λ none. cc) (λ open'. found_never q.goal is.0 (proof_of q.goal proofs) open'.1) is.2)

  goals_never : (qs : List Requirement) → Never (IsFirstGoalFault s c proofs qs)
  goals_never [] is = cc
  goals_never (q ∷ qs) is = first_never is.0 (IsFirstGoalFault s c proofs qs) (λ e. goal_never q (subst (λ (o : Option Why). IsGoalFault s c proofs q o) e is.1)) (goals_never qs) is.2

  substitution_never : (qs : List Requirement) → Never (IsSubstitutionFault s c proofs qs)
  substitution_never qs = first_never (size_fault (size (negation c))) (IsFirstGoalFault s c proofs qs) (size_never (size (negation c))) (goals_never qs)

cut_never : (live : LineMap) (cut : List Literal) (a : List Bool) (i : ℕ) (rs : List CostRowValue) (ids : List ℕ) → Never (IsCutFault live cut a i rs ids)
cut_never live cut a i [] [] is = cc
cut_never live cut a i [] (id ∷ ids) is = cc
cut_never live cut a i (r ∷ rs) [] is = cc
cut_never live cut a i (r ∷ rs) (id ∷ ids) is = named (line_or_none live id) (cut_never live cut a (i + 1) rs ids) is
  where
    named : (o : Option ConstraintValue) → Never (IsCutFault live cut a (i + 1) rs ids) → Never (λ f. MatchOption o (f ≡ Some (NoSuchId id)) (λ c. (Bounds cut a c r × IsCutFault live cut a (i + 1) rs ids f) ⊎ ((Bounds cut a c r → ⊥) × (f ≡ Some (CutOpen i)))))
    named None rest is = cc
    named (Some c) rest is = ⊎_elim (λ bounds. rest bounds.1) (λ open'. absurd (apart open'.1)) is
      where
        apart : Some LogLong ≡ Some (CutOpen i) → ⊥
        apart e = cc

end_never : (o : Option ConstraintValue) (id : ℕ) → end_fault o id ≡ Some LogLong → ⊥
end_never None id is = cc
end_never (Some c) id is = unless_never _ (NotContradiction id) (λ e. cc) is

def_never : (s : StateValue) (var : ℕ) (sum : ConstraintValue) → def_fault s var sum ≡ Some LogLong → ⊥
def_never s var sum =
    both_never (fault_unless (var == s.vars + 1) (NotFresh var)) _ (unless_never (var == s.vars + 1) (NotFresh var) (λ e. cc))
    (both_never (range_fault s.vars (term_variables sum.terms)) _ (range_never s.vars (term_variables sum.terms))
    (both_never (size_fault (size (reached_if var sum))) (size_fault (size (reached_only_if var sum))) (size_never (size (reached_if var sum))) (size_never (size (reached_only_if var sum)))))

rule_never : (p : ProblemValue) (s : StateValue) (line : Line) → Never (IsRuleFault p s line)
rule_never p s (Pol tokens) is = answer_never is.0 (sym is.2)
rule_never p s (Rup goal hints) is = following_never s goal hints is
rule_never p s (Learn goal hints) is = first_never (fault_unless (is_clause goal) NotClause) (IsRupFault s goal hints) (unless_never (is_clause goal) NotClause (λ e. cc)) (following_never s goal hints) is
rule_never p s (Def var sum) is = def_never s var sum (sym is)
rule_never p s (Red goal w proofs) is = substitution_never s goal proofs (redundance p s w goal) is
rule_never p s (Dom goal w proofs) is = substitution_never s goal proofs (dominance p w) is
rule_never p s (Sol model cut ids) is =
    first_never (option_map VarRange (misplaced 1 p.vars model)) _ (map_never VarRange (λ n e. cc) (misplaced 1 p.vars model))
    (first_never (option_map SolRow (broken_row (assignment_of model) p.rows)) _ (map_never SolRow (λ n e. cc) (broken_row (assignment_of model) p.rows))
    (first_never (range_fault s.vars (map (λ l. l.var) cut)) _ (range_never s.vars (map (λ l. l.var) cut)) (cut_never s.live cut (assignment_of model) 1 p.costs ids))) is
rule_never p s (Del ids) is = map_never NoSuchId (λ n e. cc) _ (sym is)
rule_never p s (Reduce ids) is = map_never NoSuchId (λ n e. cc) _ (sym is)
rule_never p s (End id) is = end_never (get s.live id) id (sym is)

short_never : (b : Bool) → b ≡ true → fault_unless b LogLong ≡ Some LogLong → ⊥
short_never true e is = cc
short_never false e is = cc

-- where there is room for a line more, none is refused for want of it
pub never_long : (p : ProblemValue) (s : StateValue) (line : Line) → nat_lt s.lines (2 ^ 61) ≡ true → IsRefused p s line LogLong → ⊥
never_long p s line room is =
    first_never (fault_unless (not s.ended) AfterEnd) _ (unless_never (not s.ended) AfterEnd (λ e. cc))
    (first_never (fault_unless (nat_lt s.lines (2 ^ 61)) LogLong) _ (short_never (nat_lt s.lines (2 ^ 61)) room)
    (first_never (range_fault s.vars (written line)) (IsRuleFault p s line) (range_never s.vars (written line)) (rule_never p s line))) is
