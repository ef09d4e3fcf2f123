-- The rule book refuses a line for no reason that only whole logs have.
use Rattle.std.proofs.Common.{◌≡◌, ◌⊎◌, ℕ, ◌+◌, ◌*◌, ◌<◌, Bool, true, false, not, Option, Some, None, List, [], ◌∷◌, refl, subst, ⊎_elim, Ok, Err, Result}
use Rattle.std.specs.Prelude.{MatchOption, option_map, nat_lt, ◌^◌}
use Rattle.std.specs.List.{find}
use Rattle.std.proofs.lemmas.Bool.{false≢true}
use Rattle.scut_base.specs.Literal.{Literal}
use Rattle.pb_lin.specs.Constraint.{ConstraintValue, negation, size, total}
use Rattle.pb_lin.specs.LineMap.{LineMap}
use Rattle.pb_lin.specs.CostRow.{CostRowValue}
use Rattle.pb_lin.specs.Problem.{ProblemValue}
use Rattle.std.specs.FinMap.{get}
use Rattle.cutting_planes.specs.Stack.{Answer}
use Rattle.cutting_planes.specs.declared.token.PolToken.{PolToken}
use Rattle.cutting_planes.specs.declared.fault.PolFault.{PolFault}
use Rattle.cutting_planes.specs.declared.fault.PolFault.TheVariants.{NoSuchId as PolNoSuchId, Stack as PolStack, BadFactor as PolBadFactor, Overflow as PolOverflow, NoMemory as PolNoMemory}
use Rattle.hint_rup.specs.declared.hint.Hint.{Hint}
use Rattle.hint_rup.specs.declared.hint.RupFault.{RupFault}
use Rattle.hint_rup.specs.declared.hint.RupFault.TheVariants.{NoSuchId as RupNoSuchId, Open}
use Rattle.proof_laws.specs.State.{StateValue}
use Rattle.proof_laws.specs.Steps.{reached_if, reached_only_if}
use Rattle.proof_laws.specs.Substituted.{Requirement, IsGoalOf, redundance, dominance}
use Rattle.proof_laws.specs.Refusal.{FirstOf, fault_unless, first_fault, size_fault, rup_fault, pol_why, pol_fault, contradiction_fault, proof_of, is_clause, range_fault, written, term_variables, IsHintsFault, IsPolFault, IsRupFault, IsTokensFault, IsProofFault, IsOpenGoalFault, IsGoalFault, IsFirstGoalFault, IsSubstitutionFault, Bounds, IsCutFault, line_or_none, misplaced, broken_row, assignment_of, deletion_fault, is_deletable, end_fault, def_fault, IsRuleFault, IsFault}
use Rattle.proof_laws.specs.Legal.{IsRefused}
use Rattle.proof_laws.specs.declared.goal.Goal.{Goal}
use Rattle.proof_laws.specs.declared.goal.GoalProof.{GoalProof}
use Rattle.proof_laws.specs.declared.goal.GoalProof.TheVariants.{Rup as ByRup, Pol as ByPol}
use Rattle.proof_laws.specs.declared.line.Line.{Line}
use Rattle.proof_laws.specs.declared.line.Line.TheVariants.{Pol, Rup, Learn, Def, Red, Dom, Sol, Del, Reduce, End}
use Rattle.proof_laws.specs.declared.why.Why.{Why}
use Rattle.proof_laws.specs.declared.why.Why.TheVariants.{Syntax, NoEnd, Uncovered, NoSuchId, CutOpen, GoalOpen, GoalMissing, RupOpen, AfterEnd, LogLong, NotClause, NotFresh, NotContradiction, Overflow, VarRange, SolRow}

-- whether a line may be refused so
abbrev is_of_line : Why → Bool
is_of_line Syntax = false
is_of_line NoEnd = false
is_of_line (Uncovered n) = false
is_of_line why = true

-- each fault that has J may be that of a line
abbrev AreOfLines : (Option Why → Type 0) → Type 0
AreOfLines J = (why : Why) → J (Some why) → is_of_line why ≡ true

abbrev IsOfLine : Option Why → Type 0
IsOfLine None = Unit {0}
IsOfLine (Some why) = is_of_line why ≡ true

equal_of_line : (o : Option Why) → IsOfLine o → AreOfLines (λ f. f ≡ o)
equal_of_line None is why e = cc
equal_of_line (Some w) is why e = let same : w ≡ why = cc in subst (λ (v : Why). is_of_line v ≡ true) same is

first_of_line : (o : Option Why) (Rest : Option Why → Type 0) → IsOfLine o → AreOfLines Rest → AreOfLines (FirstOf o Rest)
first_of_line None Rest is rest = rest
first_of_line (Some w) Rest is rest = equal_of_line (Some w) is

unless_of_line : (b : Bool) (w : Why) → is_of_line w ≡ true → IsOfLine (fault_unless b w)
unless_of_line true w is = tt
unless_of_line false w is = is

map_of_line : {A : Type 0} (f : A → Why) → ((a : A) → is_of_line (f a) ≡ true) → (o : Option A) → IsOfLine (option_map f o)
map_of_line f is None = tt
map_of_line f is (Some a) = is a

both_of_line : (o q : Option Why) → IsOfLine o → IsOfLine q → IsOfLine (first_fault o q)
both_of_line None q a b = b
both_of_line (Some w) q a b = a

range_of_line : (n : ℕ) (vars : List ℕ) → IsOfLine (range_fault n vars)
range_of_line n vars = map_of_line VarRange (λ v. refl) (find (λ v. nat_lt n v) vars)

size_of_line : (n : ℕ) → IsOfLine (size_fault n)
size_of_line n = unless_of_line (not (nat_lt (2 ^ 100) n)) Overflow refl

pol_why_of_line : (f : PolFault) → is_of_line (pol_why f) ≡ true
pol_why_of_line (PolNoSuchId id) = refl
pol_why_of_line PolStack = refl
pol_why_of_line PolBadFactor = refl
pol_why_of_line PolOverflow = refl
pol_why_of_line PolNoMemory = refl

pol_answer : (a : Answer) → IsOfLine (pol_fault a)
pol_answer (Ok c) = tt
pol_answer (Err f) = pol_why_of_line f

contradiction_answer : (w : Why) → is_of_line w ≡ true → (a : Answer) → IsOfLine (contradiction_fault w a)
contradiction_answer w is (Ok c) = unless_of_line (nat_lt (total c.terms) c.degree) w is
contradiction_answer w is (Err f) = pol_why_of_line f

rup_answer : (w : Why) → is_of_line w ≡ true → (a : Result (Unit {0}) RupFault) → IsOfLine (rup_fault w a)
rup_answer w is (Ok done) = tt
rup_answer w is (Err (RupNoSuchId id)) = refl
rup_answer w is (Err Open) = is

hints_of_line : (s : StateValue) (negated : ConstraintValue) (denied : Option ConstraintValue) (hints : List Hint) (w : Why) → is_of_line w ≡ true → AreOfLines (IsHintsFault s negated denied hints w)
hints_of_line s negated denied hints w is why h = equal_of_line (rup_fault w h.0) (rup_answer w is h.0) why h.2

tokens_of_line : (s : StateValue) (negated denied : ConstraintValue) (tokens : List PolToken) (w : Why) → is_of_line w ≡ true → AreOfLines (IsTokensFault s negated denied tokens w)
tokens_of_line s negated denied tokens w is why h = equal_of_line (contradiction_fault w h.0) (contradiction_answer w is h.0) why h.2

pol_of_line : (s : StateValue) (tokens : List PolToken) → AreOfLines (IsPolFault s tokens)
pol_of_line s tokens why h = equal_of_line (pol_fault h.0) (pol_answer h.0) why h.2

rup_of_line : (s : StateValue) (goal : ConstraintValue) (hints : List Hint) → AreOfLines (IsRupFault s goal hints)
rup_of_line s goal hints = first_of_line (size_fault (size (negation goal))) (IsHintsFault s (negation goal) None hints RupOpen) (size_of_line (size (negation goal))) (hints_of_line s (negation goal) None hints RupOpen refl)

module _ (s : StateValue) (c : ConstraintValue) (proofs : List (Goal × GoalProof)) where
  proof_of_line : (name : Goal) (g : ConstraintValue) (proof : GoalProof) → AreOfLines (IsProofFault s c name g proof)
  proof_of_line name g (ByRup hints) why h = hints_of_line s (negation g) (Some (negation c)) hints (GoalOpen name) refl why h
  proof_of_line name g (ByPol tokens) why h = tokens_of_line s (negation g) (negation c) tokens (GoalOpen name) refl why h

  found_of_line : (name : Goal) (g : ConstraintValue) (proof : Option GoalProof) → AreOfLines (λ f. MatchOption proof (f ≡ Some (GoalMissing name)) (λ q. FirstOf (size_fault (size (negation g))) (IsProofFault s c name g q) f))
  found_of_line name g None = equal_of_line (Some (GoalMissing name)) refl
  found_of_line name g (Some proof) = first_of_line (size_fault (size (negation g))) (IsProofFault s c name g proof) (size_of_line (size (negation g))) (proof_of_line name g proof)

  abbrev Judged : Requirement → ConstraintValue → Option Why → Type 0
  Judged q g f = ((g.degree ≡ 0) × (f ≡ None)) ⊎ ((0 < g.degree) × IsOpenGoalFault s c proofs q.goal g f)

  judged_of_line : (q : Requirement) (g : ConstraintValue) → AreOfLines (Judged q g)
  judged_of_line q g why h = ⊎_elim
      (λ (a : (g.degree ≡ 0) × (Some why ≡ None)). equal_of_line None tt why a.1)
      (λ (a : (0 < g.degree) × IsOpenGoalFault s c proofs q.goal g (Some why)). found_of_line q.goal g (proof_of q.goal proofs) why a.1)
      h

  goal_of_line : (q : Requirement) → AreOfLines (IsGoalFault s c proofs q)
  goal_of_line q = first_of_line (size_fault (2 * q.size)) (λ f. (g : ConstraintValue) × IsGoalOf g q × Judged q g f) (size_of_line (2 * q.size)) (λ why h. judged_of_line q h.0 why h.2)

  of_line_if : (o : Option Why) → ((why : Why) → o ≡ Some why → is_of_line why ≡ true) → IsOfLine o
  of_line_if None h = tt
  of_line_if (Some w) h = h w refl

  goals_of_line : (qs : List Requirement) → AreOfLines (IsFirstGoalFault s c proofs qs)
  goals_of_line [] why h = equal_of_line None tt why h
  goals_of_line (q ∷ qs) why h = first_of_line h.0 (IsFirstGoalFault s c proofs qs)
      (of_line_if h.0 (λ w e. goal_of_line q w (subst (λ (o : Option Why). IsGoalFault s c proofs q o) e h.1)))
      (goals_of_line qs) why h.2

  substitution_of_line : (qs : List Requirement) → AreOfLines (IsSubstitutionFault s c proofs qs)
  substitution_of_line qs = first_of_line (size_fault (size (negation c))) (IsFirstGoalFault s c proofs qs) (size_of_line (size (negation c))) (goals_of_line qs)

module _ (live : LineMap) (cut : List Literal) (a : List Bool) where
  named_of_line : (i : ℕ) (r : CostRowValue) (id : ℕ) (named : Option ConstraintValue) (Rest : Option Why → Type 0) → AreOfLines Rest →
      AreOfLines (λ f. MatchOption named (f ≡ Some (NoSuchId id)) (λ c. (Bounds cut a c r × Rest f) ⊎ ((Bounds cut a c r → ⊥) × (f ≡ Some (CutOpen i)))))
  named_of_line i r id None Rest rest why h = equal_of_line (Some (NoSuchId id)) refl why h
  named_of_line i r id (Some c) Rest rest why h = ⊎_elim
      (λ (u : Bounds cut a c r × Rest (Some why)). rest why u.1)
      (λ (u : (Bounds cut a c r → ⊥) × (Some why ≡ Some (CutOpen i))). equal_of_line (Some (CutOpen i)) refl why u.1)
      h

  cut_of_line : (i : ℕ) (rs : List CostRowValue) (ids : List ℕ) → AreOfLines (IsCutFault live cut a i rs ids)
  cut_of_line i [] [] why h = equal_of_line None tt why h
  cut_of_line i [] (id ∷ ids) why h = equal_of_line (Some (CutOpen i)) refl why h
  cut_of_line i (r ∷ rs) [] why h = equal_of_line (Some (CutOpen i)) refl why h
  cut_of_line i (r ∷ rs) (id ∷ ids) why h = named_of_line i r id (line_or_none live id) (IsCutFault live cut a (i + 1) rs ids) (cut_of_line (i + 1) rs ids) why h

def_of_line : (s : StateValue) (var : ℕ) (sum : ConstraintValue) → IsOfLine (def_fault s var sum)
def_of_line s var sum = both_of_line _ _ (unless_of_line _ (NotFresh var) refl) (both_of_line _ _ (range_of_line s.vars (term_variables sum.terms))
    (both_of_line _ _ (size_of_line (size (reached_if var sum))) (size_of_line (size (reached_only_if var sum)))))

end_of_line : (o : Option ConstraintValue) (id : ℕ) → IsOfLine (end_fault o id)
end_of_line None id = refl
end_of_line (Some c) id = unless_of_line _ (NotContradiction id) refl

deletion_of_line : (p : ProblemValue) (s : StateValue) (ids : List ℕ) → IsOfLine (deletion_fault p s ids)
deletion_of_line p s ids = map_of_line NoSuchId (λ id. refl) (find (λ id. not (is_deletable p s id)) ids)

rule_of_line : (p : ProblemValue) (s : StateValue) (line : Line) → AreOfLines (IsRuleFault p s line)
rule_of_line p s (Pol tokens) = pol_of_line s tokens
rule_of_line p s (Rup goal hints) = rup_of_line s goal hints
rule_of_line p s (Learn goal hints) = first_of_line (fault_unless (is_clause goal) NotClause) (IsRupFault s goal hints) (unless_of_line (is_clause goal) NotClause refl) (rup_of_line s goal hints)
rule_of_line p s (Def var sum) = equal_of_line (def_fault s var sum) (def_of_line s var sum)
rule_of_line p s (Red goal w proofs) = substitution_of_line s goal proofs (redundance p s w goal)
rule_of_line p s (Dom goal w proofs) = substitution_of_line s goal proofs (dominance p w)
rule_of_line p s (Sol model cut ids) =
    first_of_line (option_map VarRange (misplaced 1 p.vars model)) _ (map_of_line VarRange (λ v. refl) (misplaced 1 p.vars model))
    (first_of_line (option_map SolRow (broken_row (assignment_of model) p.rows)) _ (map_of_line SolRow (λ v. refl) (broken_row (assignment_of model) p.rows))
    (first_of_line (range_fault s.vars _) (IsCutFault s.live cut (assignment_of model) 1 p.costs ids) (range_of_line s.vars _) (cut_of_line s.live cut (assignment_of model) 1 p.costs ids)))
rule_of_line p s (Del ids) = equal_of_line (deletion_fault p s ids) (deletion_of_line p s ids)
rule_of_line p s (Reduce ids) = equal_of_line (deletion_fault p s ids) (deletion_of_line p s ids)
rule_of_line p s (End id) = equal_of_line (end_fault (get s.live id) id) (end_of_line (get s.live id) id)

refused_of_line : (p : ProblemValue) (s : StateValue) (line : Line) → AreOfLines (IsFault p s line)
refused_of_line p s line = first_of_line (fault_unless (not s.ended) AfterEnd) _ (unless_of_line (not s.ended) AfterEnd refl) (first_of_line (fault_unless (nat_lt s.lines (2 ^ 61)) LogLong) _ (unless_of_line (nat_lt s.lines (2 ^ 61)) LogLong refl)
    (first_of_line (range_fault s.vars (written line)) (IsRuleFault p s line) (range_of_line s.vars (written line)) (rule_of_line p s line)))

pub not_syntax : (p : ProblemValue) (s : StateValue) (line : Line) → IsRefused p s line Syntax → ⊥
not_syntax p s line h = false≢true (refused_of_line p s line Syntax h)

pub not_uncovered : (p : ProblemValue) (s : StateValue) (line : Line) (n : ℕ) → IsRefused p s line (Uncovered n) → ⊥
not_uncovered p s line n h = false≢true (refused_of_line p s line (Uncovered n) h)
