-- Each legal line keeps every model covered.
use Rattle.std.proofs.Common.{◌≡◌, ℕ, ◌+◌, ◌≤◌, not, Some, None, List, [], ◌∷◌, ◌++◌, fold, refl, sym, subst}
use Rattle.std.specs.Prelude.{nat_lt, ◌^◌}
use Rattle.std.specs.List.{flat_map}
use Rattle.std.specs.FinMap.{get, remove}
use Rattle.pb_lin.specs.Constraint.{ConstraintValue, negation, size}
use Rattle.pb_lin.specs.LineMap.{LineMap}
use Rattle.pb_lin.specs.Problem.{ProblemValue, problem_costs}
use Rattle.pb_lin.specs.Substitution.{Images}
use Rattle.proof_laws.specs.WellFormed.{IsWellFormed, IsConstraint}
use Rattle.proof_laws.specs.State.{StateValue, Fits, CoversAll}
use Rattle.proof_laws.specs.Steps.{with_live, with_line, with_learned, with_definition, with_solution, without_lines, with_end, clause, reached_if, reached_only_if}
use Rattle.proof_laws.specs.Substituted.{redundance, dominance}
use Rattle.proof_laws.specs.Refusal.{FirstOf, given_in, fault_unless, size_fault, is_clause, range_fault, written, term_variables, image_variables, proof_variables, IsRuleFault, IsRupFault, IsFirstGoalFault, assignment_of}
use Rattle.proof_laws.specs.Legal.{IsNext, IsLegal}
use Rattle.proof_laws.specs.declared.goal.Goal.{Goal}
use Rattle.proof_laws.specs.declared.goal.GoalProof.{GoalProof}
use Rattle.proof_laws.specs.declared.line.Line.{Line}
use Rattle.proof_laws.specs.declared.line.Line.TheVariants.{Pol, Rup, Learn, Def, Red, Dom, Sol, Del, Reduce, End}
use Rattle.proof_laws.specs.declared.why.Why.TheVariants.{AfterEnd, LogLong, NotClause}
use Rattle.proof_laws.proofs.Semantics.{AreWithin, IsWithin, with_defined, with_logged}
use Rattle.proof_laws.proofs.Live.{live_remove}
use Rattle.proof_laws.proofs.CoverSteps.{line_keeps, fewer_keep, sum_defined_keeps, model_logged_keeps, same_keeps}
use Rattle.proof_laws.proofs.WitnessGoals.{witness_redundant, witness_dominated}
use Rattle.proof_laws.proofs.Derivations.{first_of_none, rup_implies, pol_implies}
use Rattle.proof_laws.proofs.ClosedGoals.{requirements_met, redundance_is, dominance_is}
use Rattle.proof_laws.proofs.Solutions.{solution_bounds}
use Rattle.proof_laws.proofs.Ranges.{range_bounds, all_prefix, terms_within, def_parts}

-- the conditions that every line has, and those of its rule
pub record LegalParts (p : ProblemValue) (s : StateValue) (line : Line) : Type 0 where
  pub open' : fault_unless (not s.ended) AfterEnd ≡ None
  pub short : fault_unless (nat_lt s.lines (2 ^ 61)) LogLong ≡ None
  pub range : range_fault s.vars (written line) ≡ None
  pub rule : IsRuleFault p s line None

pub legal_parts : (p : ProblemValue) (s : StateValue) (line : Line) → IsLegal p s line → LegalParts p s line
legal_parts p s line is =
    let rest = FirstOf (range_fault s.vars (written line)) (IsRuleFault p s line) in
    let one = first_of_none (fault_unless (not s.ended) AfterEnd) (FirstOf (fault_unless (nat_lt s.lines (2 ^ 61)) LogLong) rest) is in
    let two = first_of_none (fault_unless (nat_lt s.lines (2 ^ 61)) LogLong) rest one.1 in
    let three = first_of_none (range_fault s.vars (written line)) (IsRuleFault p s line) two.1 in
    record { open' = one.0; short = two.0; range = three.0; rule = three.1 }

-- a constraint whose variables are written first
pub goal_within : (s : StateValue) (goal : ConstraintValue) (more : List ℕ) → IsConstraint goal → range_fault s.vars (term_variables goal.terms ++ more) ≡ None → AreWithin s.vars goal.terms
goal_within s goal more formed range = terms_within s.vars goal.terms formed.normal.merged.from_one (all_prefix (λ v. v ≤ s.vars) (term_variables goal.terms) more (range_bounds s.vars (term_variables goal.terms ++ more) range))

pub goal_alone_within : (s : StateValue) (goal : ConstraintValue) → IsConstraint goal → range_fault s.vars (term_variables goal.terms) ≡ None → AreWithin s.vars goal.terms
goal_alone_within s goal formed range = terms_within s.vars goal.terms formed.normal.merged.from_one (range_bounds s.vars (term_variables goal.terms) range)

-- what is left was there
pub fewer_left : (ids : List ℕ) (live : LineMap) (id : ℕ) (c : ConstraintValue) → get (fold remove live ids) id ≡ Some c → get live id ≡ Some c
fewer_left [] live id c is = is
fewer_left (i ∷ ids) live id c is = live_remove live i id c (fewer_left ids (remove live i) id c is)

module _ (p : ProblemValue) (s : StateValue) (within : IsWithin p s) (fits : Fits p s) (covers : CoversAll p s) where
  substitution_parts : (goal : ConstraintValue) (w : Images) (proofs : List (Goal × GoalProof)) (t : StateValue) → IsConstraint goal → IsNext p s (Red goal w proofs) t → CoversAll p (with_live s s.next_id goal)
  substitution_parts goal w proofs t formed next =
      let parts = legal_parts p s (Red goal w proofs) next.legal in
      let own = goal_within s goal (flat_map image_variables w ++ flat_map (λ q. proof_variables q.1) proofs) formed parts.range in
      let met = requirements_met p s goal proofs (redundance p s w goal) (first_of_none (size_fault (size (negation goal))) (IsFirstGoalFault s goal proofs (redundance p s w goal)) parts.rule).1 in
      witness_redundant p s s.next_id goal w within (redundance_is p s goal proofs w within fits.rows own met) covers

  dominance_parts : (goal : ConstraintValue) (w : Images) (proofs : List (Goal × GoalProof)) (t : StateValue) → IsNext p s (Dom goal w proofs) t → CoversAll p (with_live s s.next_id goal)
  dominance_parts goal w proofs t next =
      let parts = legal_parts p s (Dom goal w proofs) next.legal in
      let met = requirements_met p s goal proofs (dominance p w) (first_of_none (size_fault (size (negation goal))) (IsFirstGoalFault s goal proofs (dominance p w)) parts.rule).1 in
      witness_dominated p s s.next_id goal w within (dominance_is p s goal proofs w within met) covers

  abbrev Covered : StateValue → Type 0
  Covered t = CoversAll p t

  -- the state after the line, whose counts differ from those of one that covers
  counted_covers : (u t next : StateValue) → next ≡ t → u.vars ≡ t.vars → u.live ≡ t.live → u.sols ≡ t.sols → CoversAll p u → CoversAll p next
  counted_covers u t next is vars live sols covered = subst Covered (sym is) (same_keeps p u t vars live sols covered)

  line_covers : (c : ConstraintValue) (t : StateValue) → t ≡ with_line s c → CoversAll p (with_live s s.next_id c) → CoversAll p t
  line_covers c t is covered = counted_covers (with_live s s.next_id c) (with_line s c) t is refl refl refl covered

  fewer_covers : (ids : List ℕ) (t : StateValue) → t ≡ without_lines s ids → CoversAll p t
  fewer_covers ids t is = counted_covers (record s { live = fold remove s.live ids }) (without_lines s ids) t is refl refl refl (fewer_keep p s (fold remove s.live ids) (fewer_left ids s.live) covers)

  pub next_keeps : (line : Line) (t : StateValue) → IsWellFormed line → IsNext p s line t → CoversAll p t
  next_keeps (Pol tokens) t formed next =
      let made = next.makes in
      line_covers made.0 t made.2 (line_keeps p s s.next_id made.0 (λ x sat. pol_implies (given_in s None None) tokens made.0 made.1 x (record { lines = sat.live; negated = tt; denied = tt })) covers)
  next_keeps (Rup goal hints) t formed next =
      line_covers goal t next.makes (line_keeps p s s.next_id goal (rup_implies p s goal hints (legal_parts p s (Rup goal hints) next.legal).rule) covers)
  next_keeps (Learn goal hints) t formed next =
      let rule = (legal_parts p s (Learn goal hints) next.legal).rule in
      let implied = rup_implies p s goal hints (first_of_none (fault_unless (is_clause goal) NotClause) (IsRupFault s goal hints) rule).1 in
      counted_covers (with_live s s.next_id goal) (with_learned s goal) t next.makes refl refl refl (line_keeps p s s.next_id goal implied covers)
  next_keeps (Def var sum) t formed next =
      let defines = def_parts s var sum (sym (legal_parts p s (Def var sum) next.legal).rule) in
      let covered = sum_defined_keeps p s s.next_id sum within (terms_within s.vars sum.terms formed.1.normal.merged.from_one defines.range) covers in
      counted_covers (with_defined s s.next_id (reached_if (s.vars + 1) sum) (reached_only_if (s.vars + 1) sum)) (with_definition s sum) t next.makes refl refl refl covered
  next_keeps (Red goal w proofs) t formed next = line_covers goal t next.makes (substitution_parts goal w proofs t formed.0 next)
  next_keeps (Dom goal w proofs) t formed next = line_covers goal t next.makes (dominance_parts goal w proofs t next)
  next_keeps (Sol model cut ids) t formed next =
      let costs = problem_costs p (assignment_of model) in
      let covered = model_logged_keeps p s s.next_id cut (assignment_of model) (solution_bounds p s model cut ids (legal_parts p s (Sol model cut ids) next.legal).rule) covers in
      counted_covers (with_logged s s.next_id (clause cut) costs) (with_solution s cut costs) t next.makes refl refl refl covered
  next_keeps (Del ids) t formed next = fewer_covers ids t next.makes
  next_keeps (Reduce ids) t formed next = fewer_covers ids t next.makes
  next_keeps (End id) t formed next = counted_covers s (with_end s) t next.makes refl refl refl covers
