-- What is taken up stays in step with the next state.
use Rattle.std.specs.Prelude.{◌≡◌, ℕ, ◌+◌, ◌^◌, ◌≤◌, not, nat_lt, Option, Some, None, List, [], ◌∷◌, fold, refl}
use Rattle.std.proofs.Common.{sym, ◌∙◌, subst, inl, inr, arith, ap}
use Rattle.std.specs.List.{find}
use Rattle.std.specs.FinMap.{get, insert, remove}
use Rattle.std.proofs.lemmas.Bool.{cases_eq}
use Rattle.std.proofs.lemmas.Option.{none-some}
use Rattle.pb_lin.specs.Constraint.{ConstraintValue, UpTo, negation, size}
use Rattle.pb_lin.specs.LineMap.{LineMap}
use Rattle.pb_lin.specs.Problem.{ProblemValue}
use Rattle.proof_laws.specs.State.{StateValue}
use Rattle.proof_laws.specs.Steps.{clause, reached_if, reached_only_if}
use Rattle.proof_laws.specs.Legal.{IsNext, IsRefused}
use Rattle.proof_laws.specs.Refusal.{FirstOf, fault_unless, size_fault, range_fault, term_variables, is_clause, IsRupFault, IsHintsFault}
use Rattle.proof_laws.specs.declared.line.Line.{Line}
use Rattle.proof_laws.specs.declared.line.Line.TheVariants.{Pol, Rup, Learn, Def, Red, Dom, Sol, Del, Reduce, End}
use Rattle.proof_laws.specs.declared.why.Why.{Why}
use Rattle.proof_laws.specs.declared.why.Why.TheVariants.{RupOpen, AfterEnd, LogLong, NotClause, Overflow}
use Rattle.proof_laws.proofs.Ranges.{range_bounds, terms_upto}
use Rattle.proof_laws.proofs.NextStates.{size_within}
use Rattle.command_elaborate.specs.Kept.{IsTaken}
use Rattle.command_elaborate.specs.Adding.{gone_with}
use Rattle.cdcl_trail.proofs.Stores.{get_other}
use Rattle.watch_prop.proofs.WatchHold.{get_removed, get_kept}
use Rattle.command_elaborate.proofs.Helped.{IsOther, unless_other, range_other}

-- ---- lines that come and go

-- a new line isn't taken up yet
pub taken_put : (live store : LineMap) (next id : ℕ) (c : ConstraintValue) → next ≤ id → IsTaken live next store → IsTaken (insert live id c) next store
taken_put live store next id c above taken = record {
  held = λ i d found. (let one = taken.held i d found in let low = one.0 in (low, get_other live id i c (λ e. omega arith) ∙ one.1));
  all = λ i d less found. taken.all i d less (sym (get_other live id i c (λ e. omega arith)) ∙ found);
}

-- a line is removed from both
pub taken_removed : (live store : LineMap) (next id : ℕ) → IsTaken live next store → IsTaken (remove live id) next (remove store id)
taken_removed live store next id taken = record {
  held = λ i d found. elim (cases_eq i id) [
    | inl same ↦ absurd (none-some d (sym (ap (get (remove store id)) same ∙ get_removed store id) ∙ found))
    | inr apart ↦ (let one = taken.held i d (sym (get_kept store id i apart) ∙ found) in (one.0, get_kept live id i apart ∙ one.1))
  ];
  all = λ i d less found. elim (cases_eq i id) [
    | inl same ↦ absurd (none-some d (sym (ap (get (remove live id)) same ∙ get_removed live id) ∙ found))
    | inr apart ↦ get_kept store id i apart ∙ taken.all i d less (sym (get_kept live id i apart) ∙ found)
  ];
}

pub taken_without : (ids : List ℕ) (live store : LineMap) (next : ℕ) → IsTaken live next store → IsTaken (fold remove live ids) next (fold remove store ids)
taken_without [] live store next taken = taken
taken_without (id ∷ ids) live store next taken = taken_without ids (remove live id) (remove store id) next (taken_removed live store next id taken)

-- what stays after a line
pub record IsStepped (s t : StateValue) (line : Line) (next : ℕ) (store : LineMap) : Type 0 where
  pub taken : IsTaken t.live next (fold remove store (gone_with line))
  pub vars : s.vars ≤ t.vars
  pub within : next ≤ t.next_id

module _ (s : StateValue) (next : ℕ) (store : LineMap) (below : next ≤ s.next_id) (taken : IsTaken s.live next store) where
  one_more : (c : ConstraintValue) → IsTaken (insert s.live s.next_id c) next store
  one_more c = taken_put s.live store next s.next_id c below taken

  two_more : (c d : ConstraintValue) → IsTaken (insert (insert s.live s.next_id c) (s.next_id + 1) d) next store
  two_more c d = taken_put (insert s.live s.next_id c) store next (s.next_id + 1) d (omega arith) (one_more c)

  to : (t u : StateValue) (line : Line) → t ≡ u → IsStepped s u line next store → IsStepped s t line next store
  to t u line is = subst (λ (v : StateValue). IsStepped s v line next store) (sym is)

  pub stepped : (p : ProblemValue) (line : Line) (t : StateValue) → IsNext p s line t → IsStepped s t line next store
  stepped p (Pol tokens) t is = let c = is.makes.0 in to t _ (Pol tokens) is.makes.2 (record { taken = one_more c; vars = omega arith; within = omega arith })
  stepped p (Rup goal hints) t is = to t _ (Rup goal hints) is.makes (record { taken = one_more goal; vars = omega arith; within = omega arith })
  stepped p (Learn goal hints) t is = to t _ (Learn goal hints) is.makes (record { taken = one_more goal; vars = omega arith; within = omega arith })
  stepped p (Def var sum) t is = to t _ (Def var sum) is.makes (record { taken = two_more (reached_if (s.vars + 1) sum) (reached_only_if (s.vars + 1) sum); vars = omega arith; within = omega arith })
  stepped p (Red goal w proofs) t is = to t _ (Red goal w proofs) is.makes (record { taken = one_more goal; vars = omega arith; within = omega arith })
  stepped p (Dom goal w proofs) t is = to t _ (Dom goal w proofs) is.makes (record { taken = one_more goal; vars = omega arith; within = omega arith })
  stepped p (Sol model cut ids) t is = to t _ (Sol model cut ids) is.makes (record { taken = one_more (clause cut); vars = omega arith; within = omega arith })
  stepped p (Del ids) t is = to t _ (Del ids) is.makes (record { taken = taken_without ids s.live store next taken; vars = omega arith; within = omega arith })
  stepped p (Reduce ids) t is = to t _ (Reduce ids) is.makes (record { taken = taken_without ids s.live store next taken; vars = omega arith; within = omega arith })
  stepped p (End id) t is = to t _ (End id) is.makes (record { taken = taken; vars = omega arith; within = omega arith })

-- ---- a line that is refused as open

-- what is known of its goal
pub record IsOpenGoal (s : StateValue) (goal : ConstraintValue) : Type 0 where
  pub variables : UpTo s.vars goal
  pub small : size (negation goal) ≤ 2 ^ 100

-- where the first fault isn't this one there is none, and the rest decides
rest_of : (o : Option Why) (R : Option Why → Type 0) (why : Why) → IsOther why o → FirstOf o R (Some why) → (o ≡ None) × R (Some why)
rest_of None R why other is = (refl, is)
rest_of (Some first) R why other is = absurd (other (sym is))

module _ (p : ProblemValue) (s : StateValue) (goal : ConstraintValue) where
  -- the conditions before those of the rule
  before : (R : Option Why → Type 0) → FirstOf (fault_unless (not s.ended) AfterEnd) (FirstOf (fault_unless (nat_lt s.lines (2 ^ 61)) LogLong) (FirstOf (range_fault s.vars (term_variables goal.terms)) R)) (Some RupOpen)
      → (range_fault s.vars (term_variables goal.terms) ≡ None) × R (Some RupOpen)
  before R is =
      let one = rest_of (fault_unless (not s.ended) AfterEnd) (FirstOf (fault_unless (nat_lt s.lines (2 ^ 61)) LogLong) (FirstOf (range_fault s.vars (term_variables goal.terms)) R)) RupOpen (unless_other (not s.ended) AfterEnd RupOpen (λ e. cc)) is in
      let two = rest_of (fault_unless (nat_lt s.lines (2 ^ 61)) LogLong) (FirstOf (range_fault s.vars (term_variables goal.terms)) R) RupOpen (unless_other (nat_lt s.lines (2 ^ 61)) LogLong RupOpen (λ e. cc)) one.1 in
      rest_of (range_fault s.vars (term_variables goal.terms)) R RupOpen (range_other (find (λ v. nat_lt s.vars v) (term_variables goal.terms))) two.1

  known : range_fault s.vars (term_variables goal.terms) ≡ None → IsRupFault s goal [] (Some RupOpen) → IsOpenGoal s goal
  known range is =
      let sized = rest_of (size_fault (size (negation goal))) (IsHintsFault s (negation goal) None [] RupOpen) RupOpen (unless_other (not (nat_lt (2 ^ 100) (size (negation goal)))) Overflow RupOpen (λ e. cc)) is in
      record {
        variables = terms_upto s.vars goal.terms (range_bounds s.vars (term_variables goal.terms) range);
        small = size_within (size (negation goal)) sized.0;
      }

  pub open_rup : IsRefused p s (Rup goal []) RupOpen → IsOpenGoal s goal
  open_rup is = let parts = before (IsRupFault s goal []) is in known parts.0 parts.1

  pub open_learn : IsRefused p s (Learn goal []) RupOpen → IsOpenGoal s goal
  open_learn is =
      let parts = before (FirstOf (fault_unless (is_clause goal) NotClause) (IsRupFault s goal [])) is in
      let clausal = rest_of (fault_unless (is_clause goal) NotClause) (IsRupFault s goal []) RupOpen (unless_other (is_clause goal) NotClause RupOpen (λ e. cc)) parts.1 in
      known parts.0 clausal.1
