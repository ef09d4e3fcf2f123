-- Lines that are legal with hints are loosely legal without them, and lead to the same states.
use Rattle.std.specs.Prelude.{◌≡◌, ◌^◌, not, nat_lt, List, [], ◌∷◌, Option, None, Some, refl}
use Rattle.std.proofs.Common.{inl, subst}
use Rattle.pb_lin.specs.Constraint.{ConstraintValue, negation, size}
use Rattle.pb_lin.specs.Problem.{ProblemValue}
use Rattle.hint_rup.specs.declared.hint.Hint.{Hint}
use Rattle.proof_laws.specs.State.{StateValue, start}
use Rattle.proof_laws.specs.Refusal.{FirstOf, fault_unless, size_fault, range_fault, written, is_clause, IsRupFault, IsHintsFault, IsRuleFault}
use Rattle.proof_laws.specs.Legal.{IsNext}
use Rattle.proof_laws.specs.Replay.{Leads}
use Rattle.proof_laws.specs.declared.line.Line.{Line}
use Rattle.proof_laws.specs.declared.line.Line.TheVariants.{Pol, Rup, Learn, Def, Red, Dom, Sol, Del, Reduce, End}
use Rattle.proof_laws.specs.declared.why.Why.{Why}
use Rattle.proof_laws.specs.declared.why.Why.TheVariants.{RupOpen, AfterEnd, LogLong, NotClause}
use Rattle.command_elaborate.specs.Loose.{IsLooseRupFault, IsOpenFault, IsLooseRuleFault, IsLooseNext, LeadsLoosely, IsElaborated, AreElaborated}
use Rattle.command_elaborate.specs.Laws.{ElaboratedReplayLoosely}
use Rattle.command_elaborate.proofs.Named.{hints_follow}

first_mapped : (o : Option Why) (R S : Option Why → Type 0) → (R None → S None) → FirstOf o R None → FirstOf o S None
first_mapped None R S more is = more is
first_mapped (Some why) R S more is = is

rup_loosely : (s : StateValue) (goal : ConstraintValue) (hints : List Hint) → IsRupFault s goal hints None → IsLooseRupFault s goal None
rup_loosely s goal hints is = first_mapped (size_fault (size (negation goal))) (IsHintsFault s (negation goal) None hints RupOpen) (IsOpenFault s goal) (λ fault. inl (hints_follow s goal hints fault, refl)) is

-- the conditions that all lines have, and another rule
ruled : (s : StateValue) (vars : Option Why) (R S : Option Why → Type 0) → (R None → S None)
    → FirstOf (fault_unless (not s.ended) AfterEnd) (FirstOf (fault_unless (nat_lt s.lines (2 ^ 61)) LogLong) (FirstOf vars R)) None
    → FirstOf (fault_unless (not s.ended) AfterEnd) (FirstOf (fault_unless (nat_lt s.lines (2 ^ 61)) LogLong) (FirstOf vars S)) None
ruled s vars R S more is =
    first_mapped (fault_unless (not s.ended) AfterEnd) (FirstOf (fault_unless (nat_lt s.lines (2 ^ 61)) LogLong) (FirstOf vars R)) (FirstOf (fault_unless (nat_lt s.lines (2 ^ 61)) LogLong) (FirstOf vars S))
    (first_mapped (fault_unless (nat_lt s.lines (2 ^ 61)) LogLong) (FirstOf vars R) (FirstOf vars S) (first_mapped vars R S more)) is

module _ (p : ProblemValue) (s t : StateValue) where
  rup_next : (goal : ConstraintValue) (hints : List Hint) → IsNext p s (Rup goal hints) t → IsLooseNext p s (Rup goal []) t
  rup_next goal hints next = record {
    legal = ruled s (range_fault s.vars (written (Rup goal hints))) (IsRupFault s goal hints) (IsLooseRupFault s goal) (rup_loosely s goal hints) next.legal;
    makes = next.makes;
  }

  learn_next : (goal : ConstraintValue) (hints : List Hint) → IsNext p s (Learn goal hints) t → IsLooseNext p s (Learn goal []) t
  learn_next goal hints next = record {
    legal = ruled s (range_fault s.vars (written (Learn goal hints))) (IsRuleFault p s (Learn goal hints)) (IsLooseRuleFault p s (Learn goal []))
        (first_mapped (fault_unless (is_clause goal) NotClause) (IsRupFault s goal hints) (IsLooseRupFault s goal) (rup_loosely s goal hints)) next.legal;
    makes = next.makes;
  }

  -- a line that isn't to be elaborated is judged as it stands
  pub plain_next : (line : Line) → IsNext p s line t → IsLooseNext p s line t
  plain_next (Pol tokens) next = record { legal = next.legal; makes = next.makes }
  plain_next (Rup goal []) next = rup_next goal [] next
  plain_next (Rup goal (h ∷ hints)) next = record { legal = next.legal; makes = next.makes }
  plain_next (Learn goal []) next = learn_next goal [] next
  plain_next (Learn goal (h ∷ hints)) next = record { legal = next.legal; makes = next.makes }
  plain_next (Def var sum) next = record { legal = next.legal; makes = next.makes }
  plain_next (Red goal w proofs) next = record { legal = next.legal; makes = next.makes }
  plain_next (Dom goal w proofs) next = record { legal = next.legal; makes = next.makes }
  plain_next (Sol model cut ids) next = record { legal = next.legal; makes = next.makes }
  plain_next (Del ids) next = record { legal = next.legal; makes = next.makes }
  plain_next (Reduce ids) next = record { legal = next.legal; makes = next.makes }
  plain_next (End id) next = record { legal = next.legal; makes = next.makes }

  same_next : (line new : Line) → new ≡ line → IsNext p s new t → IsLooseNext p s line t
  same_next line new is next = plain_next line (subst (λ (l : Line). IsNext p s l t) is next)

  -- where the line with hints is legal, the one without is loosely legal, and leads to the same state
  pub elaborated_next : (line new : Line) → IsElaborated line new → IsNext p s new t → IsLooseNext p s line t
  elaborated_next (Pol tokens) new is next = same_next (Pol tokens) new is next
  elaborated_next (Rup goal []) new is next = rup_next goal is.0 (subst (λ (l : Line). IsNext p s l t) is.1 next)
  elaborated_next (Rup goal (h ∷ hints)) new is next = same_next (Rup goal (h ∷ hints)) new is next
  elaborated_next (Learn goal []) new is next = learn_next goal is.0 (subst (λ (l : Line). IsNext p s l t) is.1 next)
  elaborated_next (Learn goal (h ∷ hints)) new is next = same_next (Learn goal (h ∷ hints)) new is next
  elaborated_next (Def var sum) new is next = same_next (Def var sum) new is next
  elaborated_next (Red goal w proofs) new is next = same_next (Red goal w proofs) new is next
  elaborated_next (Dom goal w proofs) new is next = same_next (Dom goal w proofs) new is next
  elaborated_next (Sol model cut ids) new is next = same_next (Sol model cut ids) new is next
  elaborated_next (Del ids) new is next = same_next (Del ids) new is next
  elaborated_next (Reduce ids) new is next = same_next (Reduce ids) new is next
  elaborated_next (End id) new is next = same_next (End id) new is next

pub leads : (p : ProblemValue) (lines news : List Line) (s t : StateValue) → AreElaborated lines news → Leads p s news t → LeadsLoosely p s lines t
leads p [] [] s t are led = led
leads p [] (new ∷ news) s t are led = absurd are
leads p (line ∷ lines) [] s t are led = absurd are
leads p (line ∷ lines) (new ∷ news) s t are led = (led.0, elaborated_next p s led.0 line new are.0 led.1, leads p lines news led.0 t are.1 led.2)

pub elaborated_law : ElaboratedReplayLoosely
elaborated_law p lines news s are replay = leads p lines news (start p) s are replay
