-- A line is refused, or has a next state: it has a first fault or none, and where it has none there is a state after it.
use Rattle.std.proofs.Common.{◌≡◌, ◌⊎◌, inl, inr, ℕ, ◌+◌, ◌*◌, ◌<◌, ◌==◌, Bool, true, false, not, cond, if◌then◌else◌, Option, Some, None, List, [], ◌∷◌, ◌++◌, map, filter, get_or, refl, arith, subst, ⊎_elim, Ok, Err}
use Rattle.std.specs.Prelude.{MatchOption, option_map, nat_lt, ◌^◌}
use Rattle.std.specs.List.{All, find}
use Rattle.std.specs.FinMap.{get, entries}
use Rattle.std.proofs.lemmas.List.Elements.{All-nil, All-cons, All-head, All-tail, All-append, All-map, All-filter, All-weaker, Contains-get_or}
use Rattle.scut_base.specs.Literal.{Literal}
use Rattle.pb_lin.specs.Constraint.{ConstraintValue, negation, opposite, size}
use Rattle.pb_lin.specs.CostRow.{CostRowValue}
use Rattle.pb_lin.specs.Problem.{ProblemValue, IsProblem, problem_costs}
use Rattle.pb_lin.specs.Substitution.{Images, touches}
use Rattle.cutting_planes.specs.Stack.{IsValueOn, Answer}
use Rattle.cutting_planes.specs.declared.token.PolToken.{PolToken}
use Rattle.cutting_planes.proofs.Terms.{Terms, normal-nil}
use Rattle.cutting_planes.proofs.Rising.{Above, above_from_normal, normal_from_above}
use Rattle.hint_rup.specs.declared.hint.Hint.{Hint}
use Rattle.proof_laws.specs.WellFormed.{AreTokens, IsSubstitution, IsGoalProof}
use Rattle.proof_laws.specs.State.{StateValue, IsState, numbered}
use Rattle.proof_laws.specs.Steps.{with_line, with_learned, with_definition, with_solution, without_lines, with_end}
use Rattle.proof_laws.specs.Substituted.{Requirement, IsGoalOf, holds_after, none_risen, has_fallen, touched_hold, redundance, dominance}
use Rattle.proof_laws.specs.Refusal.{FirstOf, fault_unless, size_fault, pol_fault, contradiction_fault, proof_of, same_goal, is_clause, range_fault, written, def_fault, deletion_fault, end_fault, given_in, IsHintsFault, IsPolFault, IsRupFault, IsProofFault, IsOpenGoalFault, IsGoalFault, IsFirstGoalFault, IsSubstitutionFault, Bounds, IsCutFault, IsSolFault, line_or_none, misplaced, broken_row, assignment_of, IsRuleFault, IsFault}
use Rattle.proof_laws.specs.Legal.{IsRefused, IsNext, Makes}
use Rattle.proof_laws.specs.Laws.{StandsBefore, LinesAreJudged}
use Rattle.proof_laws.specs.declared.goal.Goal.{Goal}
use Rattle.proof_laws.specs.declared.goal.Goal.TheVariants.{Row, Itself}
use Rattle.proof_laws.specs.declared.goal.GoalProof.{GoalProof}
use Rattle.proof_laws.specs.declared.goal.GoalProof.TheVariants.{Rup as ByRup, Pol as ByPol}
use Rattle.proof_laws.specs.declared.line.Line.{Line}
use Rattle.proof_laws.specs.declared.line.Line.TheVariants.{Pol, Rup, Learn, Def, Red, Dom, Sol, Del, Reduce, End}
use Rattle.proof_laws.specs.declared.why.Why.{Why}
use Rattle.proof_laws.specs.declared.why.Why.TheVariants.{NoSuchId, VarRange, RupOpen, GoalOpen, GoalMissing, SolRow, CutOpen, NotClause, AfterEnd, LogLong}
use Rattle.proof_laws.proofs.Definitions.{zero_or_more}
use Rattle.proof_laws.proofs.NextStates.{size_within}
use Rattle.proof_laws.proofs.NextCovers.{legal_parts}
use Rattle.proof_laws.proofs.NormalForms.{AreTerms, terms_of_normal}
use Rattle.proof_laws.proofs.GoalForms.{IsForm, IsSmallRow, holds_form, none_risen_forms, fallen_form, small_rows}
use Rattle.proof_laws.proofs.Values.{IsInNormalForm, AreNormal, value_exists, hints_exist}
use Rattle.proof_laws.proofs.Entries.{entries_hold}
use Rattle.proof_laws.proofs.Bounds.{bounds_decided}

-- some fault, or none, has J: a judgement has an outcome
abbrev HasOutcome : (Option Why → Type 0) → Type 0
HasOutcome J = (f : Option Why) × J f

-- where the first fault is none, the rest has to have one or none
first_exists : (first : Option Why) (Rest : Option Why → Type 0) → (first ≡ None → HasOutcome Rest) → HasOutcome (FirstOf first Rest)
first_exists None Rest rest = rest refl
first_exists (Some why) Rest rest = (Some why, refl)

above_opposites : (n : ℕ) (terms : Terms) → Above n terms → Above n (map (λ t. (opposite t.0, t.1)) terms)
above_opposites n [] above = tt
above_opposites n (t ∷ ts) above = (above.0, above.1, above_opposites t.0.var ts above.2)

-- a negation that isn't too large is in normal form
negation_normal : (c : ConstraintValue) → IsInNormalForm c → size_fault (size (negation c)) ≡ None → IsInNormalForm (negation c)
negation_normal c normal fine = normal_from_above (negation c).terms (negation c).degree (above_opposites 0 c.terms (above_from_normal c.terms c.degree normal)) (size_within (size (negation c)) fine)

module _ (s : StateValue) (state : IsState s) where
  -- ---- derivations

  named_normal : (c d : ConstraintValue) → IsInNormalForm c → Some c ≡ Some d → IsInNormalForm d
  named_normal c d normal e = let same : c ≡ d = cc in subst IsInNormalForm same normal

  none_normal : (c : ConstraintValue) → ◌≡◌ {A = Option ConstraintValue} None (Some c) → IsInNormalForm c
  none_normal c e = cc

  pol_fault_of : (tokens : List PolToken) (answer : Answer) → IsValueOn (given_in s None None) [] tokens answer → HasOutcome (IsPolFault s tokens)
  pol_fault_of tokens answer is = (pol_fault answer, (answer, is, refl))

  pol_exists : (tokens : List PolToken) → AreTokens tokens → HasOutcome (IsPolFault s tokens)
  pol_exists tokens formed =
      let value = value_exists (given_in s None None) (record { lines = state.normal; negated = none_normal; denied = none_normal }) tokens formed.1 in
      pol_fault_of tokens value.0 value.1

  rup_exists : (goal : ConstraintValue) (hints : List Hint) → HasOutcome (IsRupFault s goal hints)
  rup_exists goal hints = first_exists (size_fault (size (negation goal))) (IsHintsFault s (negation goal) None hints RupOpen) (λ fine. hints_exist s (negation goal) None hints RupOpen)

  -- ---- substitutions

  module _ (c : ConstraintValue) (proofs : List (Goal × GoalProof)) (denied : IsInNormalForm (negation c)) where
    proof_exists : (name : Goal) (g : ConstraintValue) → IsInNormalForm (negation g) → (proof : GoalProof) → IsGoalProof proof → HasOutcome (IsProofFault s c name g proof)
    proof_exists name g negated (ByRup hints) formed =
        hints_exist s (negation g) (Some (negation c)) hints (GoalOpen name)
    proof_exists name g negated (ByPol tokens) formed =
        let normal : AreNormal (given_in s (Some (negation g)) (Some (negation c))) = record {
          lines = state.normal;
          negated = λ d e. named_normal (negation g) d negated e;
          denied = λ d e. named_normal (negation c) d denied e;
        } in
        let value = value_exists (given_in s (Some (negation g)) (Some (negation c))) normal tokens formed.1 in
        (contradiction_fault (GoalOpen name) value.0, (value.0, value.1, refl))

    abbrev IsFormedIf : Option GoalProof → Type 0
    IsFormedIf None = Unit {0}
    IsFormedIf (Some proof) = IsGoalProof proof

    formed_by_test : (b : Bool) (q : Goal × GoalProof) (rest : Option (Goal × GoalProof)) → IsGoalProof q.1 → IsFormedIf (option_map (λ r. r.1) rest) → IsFormedIf (option_map (λ r. r.1) (cond b (Some q) rest))
    formed_by_test true q rest own later = own
    formed_by_test false q rest own later = later

    -- the proof of a goal is one that a log can spell
    found_formed : (name : Goal) (given : List (Goal × GoalProof)) → All (λ q. IsGoalProof q.1) given → IsFormedIf (proof_of name given)
    found_formed name [] formed = tt
    found_formed name (q ∷ given) formed =
        formed_by_test (same_goal name q.0) q (find (λ r. same_goal name r.0) given) (All-head (λ r. IsGoalProof r.1) q given formed) (found_formed name given (All-tail (λ r. IsGoalProof r.1) q given formed))

    open_exists : (name : Goal) (g : ConstraintValue) → IsInNormalForm g → (proof : Option GoalProof) → IsFormedIf proof →
        HasOutcome (λ f. MatchOption proof (f ≡ Some (GoalMissing name)) (λ q. FirstOf (size_fault (size (negation g))) (IsProofFault s c name g q) f))
    open_exists name g normal None formed = (Some (GoalMissing name), refl)
    open_exists name g normal (Some proof) formed = first_exists (size_fault (size (negation g))) (IsProofFault s c name g proof) (λ fine. proof_exists name g (negation_normal g normal fine) proof formed)

    module _ (formed : All (λ q. IsGoalProof q.1) proofs) where
      abbrev IsJudged : Requirement → Option Why → Type 0
      IsJudged q f = (g : ConstraintValue) × IsGoalOf g q × (((g.degree ≡ 0) × (f ≡ None)) ⊎ ((0 < g.degree) × IsOpenGoalFault s c proofs q.goal g f))

      goal_exists : (q : Requirement) → IsForm q → HasOutcome (IsGoalFault s c proofs q)
      goal_exists q form = first_exists (size_fault (2 * q.size)) (IsJudged q) (λ fine.
          let goal = form (size_within (2 * q.size) fine) in
          ⊎_elim
          (λ (closed : goal.0.degree ≡ 0). (None, (goal.0, goal.1, inl (closed, refl))))
          (λ (opened : 0 < goal.0.degree).
          let fault = open_exists q.goal goal.0 goal.1.0 (proof_of q.goal proofs) (found_formed q.goal proofs formed) in
          (fault.0, (goal.0, goal.1, inr (opened, fault.1))))
          (zero_or_more goal.0.degree))

      goals_exist : (qs : List Requirement) → All IsForm qs → HasOutcome (IsFirstGoalFault s c proofs qs)
      goals_exist [] forms = (None, refl)
      goals_exist (q ∷ qs) forms =
          let first = goal_exists q (All-head IsForm q qs forms) in
          let whole = first_exists first.0 (IsFirstGoalFault s c proofs qs) (λ _. goals_exist qs (All-tail IsForm q qs forms)) in
          (whole.0, (first.0, first.1, whole.1))

  substitution_exists : (c : ConstraintValue) → IsInNormalForm c → (proofs : List (Goal × GoalProof)) → All (λ q. IsGoalProof q.1) proofs → (qs : List Requirement) → All IsForm qs → HasOutcome (IsSubstitutionFault s c proofs qs)
  substitution_exists c normal proofs formed qs forms =
      first_exists (size_fault (size (negation c))) (IsFirstGoalFault s c proofs qs) (λ fine. goals_exist c proofs (negation_normal c normal fine) formed qs forms)

  -- ---- requirements

  abbrev HasTerms : ℕ × ConstraintValue → Type 0
  HasTerms e = AreTerms e.1.terms

  touched_forms : (w : Images) → IsSubstitution w → (lines : List (ℕ × ConstraintValue)) → All HasTerms lines → All IsForm (touched_hold w lines)
  touched_forms w formed lines terms =
      let touched = filter (λ e. touches w e.1) lines in
      All-map IsForm (λ e. holds_after w (Row e.0) e.1) touched
      (All-weaker HasTerms (λ e. IsForm (holds_after w (Row e.0) e.1)) (λ e own. holds_form w formed (Row e.0) e.1 own) touched (All-filter (λ e. touches w e.1) HasTerms lines terms))

  numbered_terms : (n : ℕ) (cs : List ConstraintValue) → All IsInNormalForm cs → All HasTerms (numbered n cs)
  numbered_terms n [] normal = All-nil HasTerms
  numbered_terms n (c ∷ cs) normal = All-cons HasTerms (n, c) (numbered (n + 1) cs) (terms_of_normal c (All-head IsInNormalForm c cs normal)) (numbered_terms (n + 1) cs (All-tail IsInNormalForm c cs normal))

  live_terms : All HasTerms (entries s.live)
  live_terms k d short = entries_hold (λ c. AreTerms c.terms) s.live (λ id c is. terms_of_normal c (state.normal id c is)) (get_or (entries s.live) k d) (Contains-get_or (entries s.live) k d short)

  module _ (p : ProblemValue) (problem : IsProblem p) where
    redundance_forms : (w : Images) → IsSubstitution w → (c : ConstraintValue) → IsInNormalForm c → All IsForm (redundance p s w c)
    redundance_forms w formed c normal =
        All-append IsForm (touched_hold w (entries s.live)) (holds_after w Itself c ∷ none_risen w 1 p.costs) (touched_forms w formed (entries s.live) live_terms)
        (All-cons IsForm (holds_after w Itself c) (none_risen w 1 p.costs) (holds_form w formed Itself c (terms_of_normal c normal)) (none_risen_forms w formed 1 p.costs (small_rows p problem)))

    dominance_forms : (w : Images) → IsSubstitution w → All IsForm (dominance p w)
    dominance_forms w formed =
        All-append IsForm (touched_hold w (numbered 1 p.rows)) (none_risen w 1 p.costs ++ (has_fallen w p ∷ [])) (touched_forms w formed (numbered 1 p.rows) (numbered_terms 1 p.rows problem.normal_rows))
        (All-append IsForm (none_risen w 1 p.costs) (has_fallen w p ∷ []) (none_risen_forms w formed 1 p.costs (small_rows p problem))
        (All-cons IsForm (has_fallen w p) [] (fallen_form w formed p problem.objectives (small_rows p problem)) (All-nil IsForm)))

  -- ---- solutions

  -- the line that stands for an objective is in normal form
  chosen_normal : (b : Bool) (o : Option ConstraintValue) → ((c : ConstraintValue) → o ≡ Some c → IsInNormalForm c) → (c : ConstraintValue) → (if b then Some (record { terms = []; degree = 0 }) else o) ≡ Some c → IsInNormalForm c
  chosen_normal true o normal c e = named_normal (record { terms = []; degree = 0 }) c (normal-nil 0 (omega arith)) e
  chosen_normal false o normal c e = normal c e

  module _ (cut : List Literal) (a : List Bool) where
    named_exists : (i : ℕ) (r : CostRowValue) → IsSmallRow r → (id : ℕ) (named : Option ConstraintValue) → ((c : ConstraintValue) → named ≡ Some c → IsInNormalForm c) → (Rest : Option Why → Type 0) → HasOutcome Rest →
        HasOutcome (λ f. MatchOption named (f ≡ Some (NoSuchId id)) (λ c. (Bounds cut a c r × Rest f) ⊎ ((Bounds cut a c r → ⊥) × (f ≡ Some (CutOpen i)))))
    named_exists i r row id None normal Rest rest = (Some (NoSuchId id), refl)
    named_exists i r row id (Some c) normal Rest rest = ⊎_elim
        (λ (bounds : Bounds cut a c r). (rest.0, inl (bounds, rest.1)))
        (λ (not' : Bounds cut a c r → ⊥). (Some (CutOpen i), inr (not', refl)))
        (bounds_decided cut a c r (normal c refl) row)

    cut_exists : (i : ℕ) (rs : List CostRowValue) → All IsSmallRow rs → (ids : List ℕ) → HasOutcome (IsCutFault s.live cut a i rs ids)
    cut_exists i [] rows [] = (None, refl)
    cut_exists i [] rows (id ∷ ids) = (Some (CutOpen i), refl)
    cut_exists i (r ∷ rs) rows [] = (Some (CutOpen i), refl)
    cut_exists i (r ∷ rs) rows (id ∷ ids) =
        named_exists i r (All-head IsSmallRow r rs rows) id (line_or_none s.live id) (λ c e. chosen_normal (id == 0) (get s.live id) (state.normal id) c e)
        (IsCutFault s.live cut a (i + 1) rs ids) (cut_exists (i + 1) rs (All-tail IsSmallRow r rs rows) ids)

  solution_exists : (p : ProblemValue) → IsProblem p → (model cut : List Literal) (ids : List ℕ) → HasOutcome (IsSolFault p s model cut ids)
  solution_exists p problem model cut ids =
      let last = IsCutFault s.live cut (assignment_of model) 1 p.costs ids in
      let third = FirstOf (range_fault s.vars (map (λ l. l.var) cut)) last in
      first_exists (option_map VarRange (misplaced 1 p.vars model)) (FirstOf (option_map SolRow (broken_row (assignment_of model) p.rows)) third)
      (λ _. first_exists (option_map SolRow (broken_row (assignment_of model) p.rows)) third
      (λ _. first_exists (range_fault s.vars (map (λ l. l.var) cut)) last
      (λ _. cut_exists cut (assignment_of model) 1 p.costs (small_rows p problem) ids)))

-- ---- all kinds of lines

rule_exists : (p : ProblemValue) (s : StateValue) (line : Line) → StandsBefore p s line → HasOutcome (IsRuleFault p s line)
rule_exists p s (Pol tokens) before = pol_exists s before.state tokens before.formed
rule_exists p s (Rup goal hints) before = rup_exists s before.state goal hints
rule_exists p s (Learn goal hints) before = first_exists (fault_unless (is_clause goal) NotClause) (IsRupFault s goal hints) (λ _. rup_exists s before.state goal hints)
rule_exists p s (Def var sum) before = (def_fault s var sum, refl)
rule_exists p s (Red goal w proofs) before =
    let formed = before.formed in
    substitution_exists s before.state goal formed.0.normal proofs formed.2.proofs (redundance p s w goal) (redundance_forms s before.state p before.problem w formed.1 goal formed.0.normal)
rule_exists p s (Dom goal w proofs) before =
    let formed = before.formed in
    substitution_exists s before.state goal formed.0.normal proofs formed.2.proofs (dominance p w) (dominance_forms s before.state p before.problem w formed.1)
rule_exists p s (Sol model cut ids) before = solution_exists s before.state p before.problem model cut ids
rule_exists p s (Del ids) before = (deletion_fault p s ids, refl)
rule_exists p s (Reduce ids) before = (deletion_fault p s ids, refl)
rule_exists p s (End id) before = (end_fault (get s.live id) id, refl)

outcome_exists : (p : ProblemValue) (s : StateValue) (line : Line) → StandsBefore p s line → HasOutcome (IsFault p s line)
outcome_exists p s line before =
    let third = FirstOf (range_fault s.vars (written line)) (IsRuleFault p s line) in
    first_exists (fault_unless (not s.ended) AfterEnd) (FirstOf (fault_unless (nat_lt s.lines (2 ^ 61)) LogLong) third)
    (λ _. first_exists (fault_unless (nat_lt s.lines (2 ^ 61)) LogLong) third
    (λ _. first_exists (range_fault s.vars (written line)) (IsRuleFault p s line) (λ _. rule_exists p s line before)))

-- tokens without a fault make a constraint
value_makes : (s : StateValue) (tokens : List PolToken) (answer : Answer) → IsValueOn (given_in s None None) [] tokens answer → None ≡ pol_fault answer →
    (c : ConstraintValue) × IsValueOn (given_in s None None) [] tokens (Ok c)
value_makes s tokens (Ok c) is e = (c, is)
value_makes s tokens (Err f) is e = cc

-- a line without a fault makes a state
makes_exists : (p : ProblemValue) (s : StateValue) (line : Line) → IsRuleFault p s line None → (t : StateValue) × Makes p s line t
makes_exists p s (Pol tokens) rule = let made = value_makes s tokens rule.0 rule.1 rule.2 in (with_line s made.0, (made.0, made.1, refl))
makes_exists p s (Rup goal hints) rule = (with_line s goal, refl)
makes_exists p s (Learn goal hints) rule = (with_learned s goal, refl)
makes_exists p s (Def var sum) rule = (with_definition s sum, refl)
makes_exists p s (Red goal w proofs) rule = (with_line s goal, refl)
makes_exists p s (Dom goal w proofs) rule = (with_line s goal, refl)
makes_exists p s (Sol model cut ids) rule = (with_solution s cut (problem_costs p (assignment_of model)), refl)
makes_exists p s (Del ids) rule = (without_lines s ids, refl)
makes_exists p s (Reduce ids) rule = (without_lines s ids, refl)
makes_exists p s (End id) rule = (with_end s, refl)

judged_by : (p : ProblemValue) (s : StateValue) (line : Line) (fault : Option Why) → IsFault p s line fault → ((why : Why) × IsRefused p s line why) ⊎ ((t : StateValue) × IsNext p s line t)
judged_by p s line None is = let made = makes_exists p s line (legal_parts p s line is).rule in inr (made.0, record { legal = is; makes = made.1 })
judged_by p s line (Some why) is = inl (why, is)

pub judged_law : LinesAreJudged
judged_law p s line before = let fault = outcome_exists p s line before in judged_by p s line fault.0 fault.1
