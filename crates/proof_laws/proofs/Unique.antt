-- A line is refused for one reason at most, or has one next state at most.
use Rattle.std.proofs.Common.{◌≡◌, ◌⊎◌, ℕ, ◌+◌, ◌*◌, ◌<◌, Bool, not, Option, Some, None, List, [], ◌∷◌, replicate, refl, arith, sym, subst, ap, ◌∙◌, ⊎_elim, Ok, Err, Result}
use Rattle.std.specs.Prelude.{MatchOption, option_map, nat_lt, ◌^◌}
use Rattle.pb_lin.specs.Constraint.{ConstraintValue, negation, size}
use Rattle.pb_lin.specs.LineMap.{LineMap}
use Rattle.pb_lin.specs.CostRow.{CostRowValue}
use Rattle.pb_lin.specs.Problem.{ProblemValue}
use Rattle.scut_base.specs.Literal.{Literal}
use Rattle.pb_lin.specs.Given.{Given}
use Rattle.cutting_planes.specs.declared.token.PolToken.{PolToken}
use Rattle.cutting_planes.proofs.OneValue.{at_most_one}
use Rattle.pb_lin.proofs.Unique.{equal_excess}
use Rattle.hint_rup.specs.Propagation.{Conflicts}
use Rattle.hint_rup.specs.Hints.{named, unnamed, IsAnswer}
use Rattle.hint_rup.specs.declared.hint.Hint.{Hint}
use Rattle.hint_rup.specs.declared.hint.RupFault.{RupFault}
use Rattle.hint_rup.specs.declared.hint.RupFault.TheVariants.{NoSuchId as RupNoSuchId, Open}
use Rattle.proof_laws.specs.State.{StateValue}
use Rattle.proof_laws.specs.Steps.{with_line}
use Rattle.proof_laws.specs.Substituted.{Requirement, IsGoalOf, redundance, dominance}
use Rattle.proof_laws.specs.Refusal.{FirstOf, fault_unless, size_fault, rup_fault, pol_fault, contradiction_fault, proof_of, is_clause, range_fault, written, given_in, IsHintsFault, IsPolFault, IsRupFault, IsProofFault, IsOpenGoalFault, IsGoalFault, IsFirstGoalFault, IsSubstitutionFault, Bounds, IsCutFault, line_or_none, misplaced, broken_row, assignment_of, IsRuleFault, IsFault}
use Rattle.proof_laws.specs.Legal.{Makes}
use Rattle.proof_laws.specs.Laws.{LinesAreJudgedOnce}
use Rattle.proof_laws.specs.declared.goal.Goal.{Goal}
use Rattle.proof_laws.specs.declared.goal.GoalProof.{GoalProof}
use Rattle.proof_laws.specs.declared.goal.GoalProof.TheVariants.{Rup as ByRup, Pol as ByPol}
use Rattle.proof_laws.specs.declared.line.Line.{Line}
use Rattle.proof_laws.specs.declared.line.Line.TheVariants.{Pol, Rup, Learn, Def, Red, Dom, Sol, Del, Reduce, End}
use Rattle.proof_laws.specs.declared.why.Why.{Why}
use Rattle.proof_laws.specs.declared.why.Why.TheVariants.{NoSuchId, CutOpen, GoalOpen, GoalMissing, RupOpen, AfterEnd, LogLong, NotClause, VarRange, SolRow}

-- at most one fault has J
abbrev Once : (Option Why → Type 0) → Type 0
Once J = (f g : Option Why) → J f → J g → f ≡ g

equal_once : (why : Option Why) → Once (λ f. f ≡ why)
equal_once why f g a b = a ∙ sym b

first_once : (o : Option Why) (Rest : Option Why → Type 0) → Once Rest → Once (FirstOf o Rest)
first_once None Rest once = once
first_once (Some why) Rest once = equal_once (Some why)

-- what is answered to hints is one answer
answers_once : (Conflict : Type 0) (first : Option ℕ) (x y : Result (Unit {0}) RupFault) → IsAnswer x Conflict first → IsAnswer y Conflict first → x ≡ y
answers_once Conflict first (Ok u) (Ok v) a b = refl
answers_once Conflict first (Ok u) (Err (RupNoSuchId id)) a b = absurd (b.0 a)
answers_once Conflict first (Ok u) (Err Open) a b = absurd (b.0 a)
answers_once Conflict first (Err (RupNoSuchId id)) (Ok v) a b = absurd (a.0 b)
answers_once Conflict first (Err (RupNoSuchId id)) (Err (RupNoSuchId i)) a b = let one = a.1 in let two = b.1 in cc
answers_once Conflict first (Err (RupNoSuchId id)) (Err Open) a b = let one = a.1 in let two = b.1 in cc
answers_once Conflict first (Err Open) (Ok v) a b = absurd (a.0 b)
answers_once Conflict first (Err Open) (Err (RupNoSuchId i)) a b = let one = a.1 in let two = b.1 in cc
answers_once Conflict first (Err Open) (Err Open) a b = refl

hints_once : (s : StateValue) (negated : ConstraintValue) (denied : Option ConstraintValue) (hints : List Hint) (why : Why) → Once (IsHintsFault s negated denied hints why)
hints_once s negated denied hints why f g a b =
    let given : Given = given_in s (Some negated) denied in
    a.2 ∙ ap (rup_fault why) (answers_once (Conflicts (replicate s.vars None) (negated ∷ named given hints)) (unnamed given hints) a.0 b.0 a.1 b.1) ∙ sym b.2

pol_once : (s : StateValue) (tokens : List PolToken) → Once (IsPolFault s tokens)
pol_once s tokens f g a b = a.2 ∙ ap pol_fault (at_most_one (given_in s None None) tokens a.0 b.0 a.1 b.1) ∙ sym b.2

rup_once : (s : StateValue) (goal : ConstraintValue) (hints : List Hint) → Once (IsRupFault s goal hints)
rup_once s goal hints = first_once (size_fault (size (negation goal))) (IsHintsFault s (negation goal) None hints RupOpen) (hints_once s (negation goal) None hints RupOpen)

module _ (s : StateValue) (c : ConstraintValue) (proofs : List (Goal × GoalProof)) where
  proof_once : (name : Goal) (g : ConstraintValue) (proof : GoalProof) → Once (IsProofFault s c name g proof)
  proof_once name g (ByRup hints) f h a b = hints_once s (negation g) (Some (negation c)) hints (GoalOpen name) f h a b
  proof_once name g (ByPol tokens) f h a b = a.2 ∙ ap (contradiction_fault (GoalOpen name)) (at_most_one (given_in s (Some (negation g)) (Some (negation c))) tokens a.0 b.0 a.1 b.1) ∙ sym b.2

  found_once : (name : Goal) (g : ConstraintValue) (proof : Option GoalProof) → Once (λ f. MatchOption proof (f ≡ Some (GoalMissing name)) (λ q. FirstOf (size_fault (size (negation g))) (IsProofFault s c name g q) f))
  found_once name g None = equal_once (Some (GoalMissing name))
  found_once name g (Some proof) = first_once (size_fault (size (negation g))) (IsProofFault s c name g proof) (proof_once name g proof)

  abbrev Judged : Requirement → ConstraintValue → Option Why → Type 0
  Judged q g f = ((g.degree ≡ 0) × (f ≡ None)) ⊎ ((0 < g.degree) × IsOpenGoalFault s c proofs q.goal g f)

  judged_once : (q : Requirement) (g : ConstraintValue) → Once (Judged q g)
  judged_once q g f h a b = ⊎_elim
      (λ (x : (g.degree ≡ 0) × (f ≡ None)). ⊎_elim
      (λ (y : (g.degree ≡ 0) × (h ≡ None)). x.1 ∙ sym y.1)
      (λ (y : (0 < g.degree) × IsOpenGoalFault s c proofs q.goal g h). absurd (let zero' = x.0 in let more = y.0 in omega arith)) b)
      (λ (x : (0 < g.degree) × IsOpenGoalFault s c proofs q.goal g f). ⊎_elim
      (λ (y : (g.degree ≡ 0) × (h ≡ None)). absurd (let more = x.0 in let zero' = y.0 in omega arith))
      (λ (y : (0 < g.degree) × IsOpenGoalFault s c proofs q.goal g h). found_once q.goal g (proof_of q.goal proofs) f h x.1 y.1) b)
      a

  goal_once : (q : Requirement) → Once (IsGoalFault s c proofs q)
  goal_once q = first_once (size_fault (2 * q.size)) (λ f. (g : ConstraintValue) × IsGoalOf g q × Judged q g f)
      (λ f h a b. let same : b.0 ≡ a.0 = equal_excess b.0 a.0 b.1.0 a.1.0 q.excess b.1.1 a.1.1 in
      judged_once q a.0 f h a.2 (subst (λ (g : ConstraintValue). Judged q g h) same b.2))

  goals_once : (qs : List Requirement) → Once (IsFirstGoalFault s c proofs qs)
  goals_once [] f h a b = equal_once None f h a b
  goals_once (q ∷ qs) f h a b =
      let first : b.0 ≡ a.0 = goal_once q b.0 a.0 b.1 a.1 in
      first_once a.0 (IsFirstGoalFault s c proofs qs) (goals_once qs) f h a.2 (subst (λ (o : Option Why). FirstOf o (IsFirstGoalFault s c proofs qs) h) first b.2)

  substitution_once : (qs : List Requirement) → Once (IsSubstitutionFault s c proofs qs)
  substitution_once qs = first_once (size_fault (size (negation c))) (IsFirstGoalFault s c proofs qs) (goals_once qs)

module _ (live : LineMap) (cut : List Literal) (a : List Bool) where
  named_once : (i : ℕ) (r : CostRowValue) (id : ℕ) (named : Option ConstraintValue) (Rest : Option Why → Type 0) → Once Rest →
      Once (λ f. MatchOption named (f ≡ Some (NoSuchId id)) (λ c. (Bounds cut a c r × Rest f) ⊎ ((Bounds cut a c r → ⊥) × (f ≡ Some (CutOpen i)))))
  named_once i r id None Rest once f g x y = equal_once (Some (NoSuchId id)) f g x y
  named_once i r id (Some c) Rest once f g x y = ⊎_elim
      (λ (u : Bounds cut a c r × Rest f). ⊎_elim
      (λ (v : Bounds cut a c r × Rest g). once f g u.1 v.1)
      (λ (v : (Bounds cut a c r → ⊥) × (g ≡ Some (CutOpen i))). absurd (v.0 u.0)) y)
      (λ (u : (Bounds cut a c r → ⊥) × (f ≡ Some (CutOpen i))). ⊎_elim
      (λ (v : Bounds cut a c r × Rest g). absurd (u.0 v.0))
      (λ (v : (Bounds cut a c r → ⊥) × (g ≡ Some (CutOpen i))). u.1 ∙ sym v.1) y)
      x

  cut_once : (i : ℕ) (rs : List CostRowValue) (ids : List ℕ) → Once (IsCutFault live cut a i rs ids)
  cut_once i [] [] f g x y = equal_once None f g x y
  cut_once i [] (id ∷ ids) f g x y = equal_once (Some (CutOpen i)) f g x y
  cut_once i (r ∷ rs) [] f g x y = equal_once (Some (CutOpen i)) f g x y
  cut_once i (r ∷ rs) (id ∷ ids) f g x y = named_once i r id (line_or_none live id) (IsCutFault live cut a (i + 1) rs ids) (cut_once (i + 1) rs ids) f g x y

rule_once : (p : ProblemValue) (s : StateValue) (line : Line) → Once (IsRuleFault p s line)
rule_once p s (Pol tokens) = pol_once s tokens
rule_once p s (Rup goal hints) = rup_once s goal hints
rule_once p s (Learn goal hints) = first_once (fault_unless (is_clause goal) NotClause) (IsRupFault s goal hints) (rup_once s goal hints)
rule_once p s (Def var sum) = equal_once _
rule_once p s (Red goal w proofs) = substitution_once s goal proofs (redundance p s w goal)
rule_once p s (Dom goal w proofs) = substitution_once s goal proofs (dominance p w)
rule_once p s (Sol model cut ids) =
    first_once (option_map VarRange (misplaced 1 p.vars model)) _ (first_once (option_map SolRow (broken_row (assignment_of model) p.rows)) _
    (first_once (range_fault s.vars _) (IsCutFault s.live cut (assignment_of model) 1 p.costs ids) (cut_once s.live cut (assignment_of model) 1 p.costs ids)))
rule_once p s (Del ids) = equal_once _
rule_once p s (Reduce ids) = equal_once _
rule_once p s (End id) = equal_once _

fault_once : (p : ProblemValue) (s : StateValue) (line : Line) → Once (IsFault p s line)
fault_once p s line = first_once (fault_unless (not s.ended) AfterEnd) _ (first_once (fault_unless (nat_lt s.lines (2 ^ 61)) LogLong) _
    (first_once (range_fault s.vars (written line)) (IsRuleFault p s line) (rule_once p s line)))

makes_once : (p : ProblemValue) (s : StateValue) (line : Line) (t u : StateValue) → Makes p s line t → Makes p s line u → t ≡ u
makes_once p s (Pol tokens) t u a b =
    let values : Ok a.0 ≡ Ok b.0 = at_most_one (given_in s None None) tokens (Ok a.0) (Ok b.0) a.1 b.1 in
    let same : a.0 ≡ b.0 = cc in
    a.2 ∙ ap (with_line s) same ∙ sym b.2
makes_once p s (Rup goal hints) t u a b = a ∙ sym b
makes_once p s (Learn goal hints) t u a b = a ∙ sym b
makes_once p s (Def var sum) t u a b = a ∙ sym b
makes_once p s (Red goal w proofs) t u a b = a ∙ sym b
makes_once p s (Dom goal w proofs) t u a b = a ∙ sym b
makes_once p s (Sol model cut ids) t u a b = a ∙ sym b
makes_once p s (Del ids) t u a b = a ∙ sym b
makes_once p s (Reduce ids) t u a b = a ∙ sym b
makes_once p s (End id) t u a b = a ∙ sym b

pub judged_once_law : LinesAreJudgedOnce
judged_once_law p s line = record {
  one_reason = λ why other a b. let same = fault_once p s line (Some why) (Some other) a b in cc;
  one_next = λ t u a b. makes_once p s line t u a.makes b.makes;
  not_both = λ why t a b. let same = fault_once p s line (Some why) None a b.legal in cc;
}
