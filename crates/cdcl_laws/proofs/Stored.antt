-- What a line does to the lines that a search stores.
use Rattle.std.proofs.Common.{◌≡◌, ◌≢◌, ◌⊎◌, inl, inr, ⊎_elim, ℕ, ◌+◌, ◌<◌, ◌≤◌, Option, Some, None, List, [], ◌∷◌, length, fold, true, refl, arith, ap, sym, subst, ◌∙◌, ℤ}
use Rattle.std.specs.FinMap.{empty, get, insert, remove, get-empty, get-remove}
use Rattle.std.specs.Ordering.{nat_cmp, eq_by_cmp}
use Rattle.std.specs.Cmp.{nat_cmp_total, unsigned_tied}
use Rattle.std.proofs.lemmas.Bool.{cases_eq, cond-true, eq-eqb}
use Rattle.std.proofs.lemmas.Option.{none-some}
use Rattle.scut_base.specs.Literal.{Literal}
use Rattle.pb_lin.specs.Constraint.{ConstraintValue}
use Rattle.pb_lin.specs.Problem.{ProblemValue, problem_costs}
use Rattle.pb_lin.specs.LineMap.{LineMap}
use Rattle.proof_laws.specs.State.{StateValue, IsState, Fits}
use Rattle.proof_laws.specs.Refusal.{is_clause, fault_unless, assignment_of, IsRupFault}
use Rattle.hint_rup.specs.declared.hint.Hint.{Hint}
use Rattle.proof_laws.specs.Steps.{with_line, with_learned, with_definition, with_solution, without_lines, clause, reached_if, reached_only_if}
use Rattle.proof_laws.specs.Legal.{IsLegal, IsNext, Makes}
use Rattle.proof_laws.specs.declared.line.Line.{Line}
use Rattle.proof_laws.specs.declared.line.Line.TheVariants.{Pol, Rup, Learn, Def, Red, Dom, Sol, Del, Reduce, End}
use Rattle.proof_laws.specs.declared.why.Why.TheVariants.{NotClause}
use Rattle.proof_laws.proofs.Derivations.{first_of_none, unless_none}
use Rattle.proof_laws.proofs.NextCovers.{legal_parts}
use Rattle.proof_laws.specs.Earned.{IsRowOrClause}
use Rattle.proof_laws.proofs.NextFits.{live_insert_at}
use Rattle.cdcl_trail.specs.SearchTrail.{AreLines}
use Rattle.cdcl_trail.proofs.Stores.{get_other, get_new, get_left}
use Rattle.cdcl_laws.specs.StoredLines.{IsStored, deleted}

-- ---- nothing, and one line more

pub nothing_law : (p : ProblemValue) (s : StateValue) → IsStored p s 0 empty
nothing_law p s = record {
  within = omega arith;
  live = λ id c there. absurd (none-some c (sym (get-empty {X = ConstraintValue} nat_cmp id) ∙ there));
  all = λ id c less. absurd (omega (arith, less));
}

none_at_zero : (s : StateValue) → IsState s → (o : Option ConstraintValue) → ((c : ConstraintValue) → o ≡ Some c → get s.live 0 ≡ Some c) → o ≡ None
none_at_zero s state None there = refl
none_at_zero s state (Some c) there = absurd (let ids = state.ids 0 c (there c refl) in omega (arith, ids.0))

pub normal_law : (p : ProblemValue) (s : StateValue) (next : ℕ) (store : LineMap) → IsState s → IsStored p s next store → AreLines s.vars store
normal_law p s next store state stored = record {
  no_zero = none_at_zero s state (get store 0) (λ c there. (stored.live 0 c there).1);
  normal = λ id c there. state.normal id c (stored.live id c there).1;
  variables = λ id c there. state.variables id c (stored.live id c there).1;
}

-- the id of a row, or of a clause that is live under it
row_or_clause : (p : ProblemValue) (s : StateValue) (id : ℕ) (c : ConstraintValue) → get s.live id ≡ Some c → 0 < id → (id ≤ length p.rows) ⊎ (is_clause c ≡ true) → IsRowOrClause p s id
row_or_clause p s id c there positive (inl row) = inl (positive, row)
row_or_clause p s id c there positive (inr clause) = inr (c, there, clause)

pub taken_law : (p : ProblemValue) (s : StateValue) (next : ℕ) (store : LineMap) (c : ConstraintValue) → IsStored p s next store → get s.live next ≡ Some c → next < s.next_id → 0 < next → (next ≤ length p.rows) ⊎ (is_clause c ≡ true) → IsStored p s (next + 1) (insert store next c)
taken_law p s next store c stored there less positive kind = record {
  within = omega (arith, less);
  live = live_insert_at (λ id d. (id < next + 1) × (get s.live id ≡ Some d) × IsRowOrClause p s id) store next c
      (omega arith, there, row_or_clause p s next c there positive kind)
      (λ id d old. let was = stored.live id d old in (omega (arith, was.0), was.1, was.2));
  all = λ id d below live kept. ⊎_elim
      (λ (same : id ≡ next). ap (get (insert store next c)) same ∙ get_new store next c ∙ sym there ∙ ap (get s.live) (sym same) ∙ live)
      (λ (other : id ≢ next). get_other store next id c other ∙ stored.all id d (omega (arith, below, other)) live kept)
      (cases_eq id next);
}

-- ---- lines that are dropped

get_dropped : (lines : LineMap) (id : ℕ) → get (remove lines id) id ≡ None
get_dropped lines id = get-remove nat_cmp_total lines id id ∙ cond-true (eq_by_cmp nat_cmp id id) None (get lines id) (unsigned_tied id id ∙ eq-eqb id id refl)

-- a line that is left was there, under another id
left_from : (lines : LineMap) (id q : ℕ) (c : ConstraintValue) → get (remove lines id) q ≡ Some c → (q ≢ id) × (get lines q ≡ Some c)
left_from lines id q c there = ⊎_elim
    (λ (same : q ≡ id). absurd (none-some c (sym (get_dropped lines id) ∙ ap (get (remove lines id)) (sym same) ∙ there)))
    (λ (other : q ≢ id). (other, sym (get_left lines id q other) ∙ there))
    (cases_eq q id)

-- the state without one line
abbrev without : StateValue → ℕ → StateValue
without s id = record s { live = remove s.live id }

without_clause : (p : ProblemValue) (s : StateValue) (id q : ℕ) → q ≢ id → IsRowOrClause p s q → IsRowOrClause p (without s id) q
without_clause p s id q other (inl row) = inl row
without_clause p s id q other (inr clause) = inr (clause.0, get_left s.live id q other ∙ clause.1, clause.2)

with_clause : (p : ProblemValue) (s : StateValue) (id q : ℕ) → q ≢ id → IsRowOrClause p (without s id) q → IsRowOrClause p s q
with_clause p s id q other (inl row) = inl row
with_clause p s id q other (inr clause) = inr (clause.0, sym (get_left s.live id q other) ∙ clause.1, clause.2)

dropped_one : (p : ProblemValue) (s : StateValue) (next : ℕ) (store : LineMap) (id : ℕ) → IsStored p s next store → IsStored p (without s id) next (remove store id)
dropped_one p s next store id stored = record {
  within = stored.within;
  live = λ q c there.
      let old = left_from store id q c there in
      let was = stored.live q c old.1 in
      (was.0, get_left s.live id q old.0 ∙ was.1, without_clause p s id q old.0 was.2);
  all = λ q c less live kind.
      let old = left_from s.live id q c live in
      get_left store id q old.0 ∙ stored.all q c less old.1 (with_clause p s id q old.0 kind);
}

dropped : (p : ProblemValue) (s : StateValue) (next : ℕ) (ids : List ℕ) (store : LineMap) → IsStored p s next store → IsStored p (record s { live = fold remove s.live ids }) next (fold remove store ids)
dropped p s next [] store stored = stored
dropped p s next (id ∷ ids) store stored = dropped p (without s id) next ids (remove store id) (dropped_one p s next store id stored)

-- ---- lines that are kept

-- the state has the other's lines below its next id, and no lower next id
record Continues (s t : StateValue) : Type 0 where
  pub ids : s.next_id ≤ t.next_id
  pub live : (id : ℕ) → id < s.next_id → get t.live id ≡ get s.live id

same_kind : (p : ProblemValue) (s t : StateValue) (id : ℕ) → get t.live id ≡ get s.live id → IsRowOrClause p s id → IsRowOrClause p t id
same_kind p s t id same (inl row) = inl row
same_kind p s t id same (inr clause) = inr (clause.0, same ∙ clause.1, clause.2)

kept : (p : ProblemValue) (s t : StateValue) (next : ℕ) (store : LineMap) → Continues s t → IsStored p s next store → IsStored p t next store
kept p s t next store on stored = record {
  within = omega (arith, on.ids, stored.within);
  live = λ id c there.
      let was = stored.live id c there in
      let same = on.live id (omega (arith, was.0, stored.within)) in
      (was.0, same ∙ was.1, same_kind p s t id same was.2);
  all = λ id c less live kind.
      let same = on.live id (omega (arith, less, stored.within)) in
      stored.all id c less (sym same ∙ live) (same_kind p t s id (sym same) kind);
}

other_id : (id next : ℕ) → id < next → id ≢ next
other_id id next less same = omega (arith, less, same)

line_continues : (s : StateValue) (c : ConstraintValue) → Continues s (with_line s c)
line_continues s c = record { ids = omega arith; live = λ id less. get_other s.live s.next_id id c (other_id id s.next_id less) }

learned_continues : (s : StateValue) (c : ConstraintValue) → Continues s (with_learned s c)
learned_continues s c = let line = line_continues s c in record { ids = line.ids; live = line.live }

solution_continues : (s : StateValue) (cut : List Literal) (costs : List ℤ) → Continues s (with_solution s cut costs)
solution_continues s cut costs = let line = line_continues s (clause cut) in record { ids = line.ids; live = line.live }

definition_continues : (s : StateValue) (sum : ConstraintValue) → Continues s (with_definition s sum)
definition_continues s sum =
    let upper = reached_if (s.vars + 1) sum in
    let lower = reached_only_if (s.vars + 1) sum in
    record {
      ids = omega arith;
      live = λ id less.
          get_other (insert s.live s.next_id upper) (s.next_id + 1) id lower (other_id id (s.next_id + 1) (omega (arith, less)))
          ∙ get_other s.live s.next_id id upper (other_id id s.next_id less);
    }

fewer_continues : (s : StateValue) (ids : List ℕ) → ids ≡ [] → Continues s (without_lines s ids)
fewer_continues s ids none = subst (λ (gone : List ℕ). Continues s (without_lines s gone)) (sym none) (record { ids = omega arith; live = λ id less. refl })

plain_continues : (p : ProblemValue) (s : StateValue) (line : Line) (t : StateValue) → Makes p s line t → deleted line ≡ [] → Continues s t
plain_continues p s (Pol tokens) t made none = subst (Continues s) (sym made.2) (line_continues s made.0)
plain_continues p s (Rup goal hints) t made none = subst (Continues s) (sym made) (line_continues s goal)
plain_continues p s (Learn goal hints) t made none = subst (Continues s) (sym made) (learned_continues s goal)
plain_continues p s (Def var sum) t made none = subst (Continues s) (sym made) (definition_continues s sum)
plain_continues p s (Red goal w proofs) t made none = subst (Continues s) (sym made) (line_continues s goal)
plain_continues p s (Dom goal w proofs) t made none = subst (Continues s) (sym made) (line_continues s goal)
plain_continues p s (Sol model cut ids) t made none = subst (Continues s) (sym made) (solution_continues s cut (problem_costs p (assignment_of model)))
plain_continues p s (Del ids) t made none = subst (Continues s) (sym made) (fewer_continues s ids none)
plain_continues p s (Reduce ids) t made none = subst (Continues s) (sym made) (fewer_continues s ids none)
plain_continues p s (End id) t made none = subst (Continues s) (sym made) (record { ids = omega arith; live = λ q less. refl })

pub plain_law : (p : ProblemValue) (s t : StateValue) (line : Line) (next : ℕ) (store : LineMap) → IsState s → IsStored p s next store → IsNext p s line t → deleted line ≡ [] → IsStored p t next store
plain_law p s t line next store state stored step none = kept p s t next store (plain_continues p s line t step.makes none) stored

-- ---- lines that delete, and lines that learn

after_deletion : (p : ProblemValue) (s t : StateValue) (ids : List ℕ) (next : ℕ) (store : LineMap) → IsStored p s next store → t ≡ without_lines s ids → IsStored p t next (fold remove store ids)
after_deletion p s t ids next store stored made =
    let gone = record s { live = fold remove s.live ids } in
    subst (λ (u : StateValue). IsStored p u next (fold remove store ids)) (sym made)
    (kept p gone (without_lines s ids) next (fold remove store ids) (record { ids = omega arith; live = λ id less. refl }) (dropped p s next ids store stored))

pub deleting_law : (p : ProblemValue) (s t : StateValue) (line : Line) (next : ℕ) (store : LineMap) → IsState s → IsStored p s next store → IsNext p s line t → IsStored p t next (fold remove store (deleted line))
deleting_law p s t (Del ids) next store state stored step = after_deletion p s t ids next store stored step.makes
deleting_law p s t (Reduce ids) next store state stored step = after_deletion p s t ids next store stored step.makes
deleting_law p s t line next store state stored step = plain_law p s t line next store state stored step refl

is_learned_clause : (p : ProblemValue) (s : StateValue) (goal : ConstraintValue) (hints : List Hint) → IsLegal p s (Learn goal hints) → is_clause goal ≡ true
is_learned_clause p s goal hints legal = unless_none (is_clause goal) NotClause (first_of_none (fault_unless (is_clause goal) NotClause) (IsRupFault s goal hints) (legal_parts p s (Learn goal hints) legal).rule).0

pub learned_law : (p : ProblemValue) (s t : StateValue) (goal : ConstraintValue) (hints : List Hint) (store : LineMap) → IsState s → Fits p s → IsStored p s s.next_id store → IsNext p s (Learn goal hints) t → IsStored p t t.next_id (insert store s.next_id goal)
learned_law p s t goal hints store state fits stored step =
    subst (λ (u : StateValue). IsStored p u u.next_id (insert store s.next_id goal)) (sym step.makes)
    (taken_law p (with_learned s goal) s.next_id store goal (kept p s (with_learned s goal) s.next_id store (learned_continues s goal) stored)
    (get_new s.live s.next_id goal) (omega arith) state.first_id (inr (is_learned_clause p s goal hints step.legal)))
