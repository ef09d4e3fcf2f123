-- What the rule book says of a line without hints, and what it says of the line with hints.
use Rattle.std.specs.Prelude.{◌≡◌, ◌≢◌, ℕ, ◌^◌, Bool, true, false, not, nat_lt, Option, Some, None, option_map, List, [], ◌∷◌, refl, Result, Ok, Err}
use Rattle.std.proofs.Common.{inl, inr, sym, ◌∙◌, arith}
use Rattle.std.specs.List.{find}
use Rattle.std.proofs.lemmas.Int.{ints}
use Rattle.pb_lin.specs.Constraint.{ConstraintValue, negation, size}
use Rattle.pb_lin.specs.Problem.{ProblemValue}
use Rattle.hint_rup.specs.Propagation.{forced, Conflicts}
use Rattle.hint_rup.specs.declared.hint.Hint.{Hint}
use Rattle.hint_rup.specs.Hints.{unnamed, IsReplayed}
use Rattle.hint_rup.specs.declared.hint.RupFault.{RupFault}
use Rattle.hint_rup.specs.declared.hint.RupFault.TheVariants.{NoSuchId, Open}
use Rattle.pb_lin.specs.Given.{Given}
use Rattle.hint_rup.proofs.Conflict.{conflicts_cases}
use Rattle.proof_laws.specs.State.{StateValue}
use Rattle.proof_laws.specs.Steps.{clause}
use Rattle.proof_laws.specs.Refusal.{FirstOf, fault_unless, size_fault, range_fault, term_variables, is_clause, given_in, rup_fault, IsRupFault, IsHintsFault}
use Rattle.proof_laws.specs.Legal.{IsRefused, IsLegal}
use Rattle.proof_laws.specs.declared.line.Line.TheVariants.{Rup, Learn}
use Rattle.proof_laws.specs.declared.why.Why.{Why}
use Rattle.proof_laws.specs.declared.why.Why.TheVariants.{RupOpen, AfterEnd, LogLong, NotClause, Overflow, VarRange}
use Rattle.command_elaborate.specs.Loose.{FollowsLoosely, IsLooseRupFault, IsOpenFault, IsLooselyRefused}

-- a line without hints that is refused as open is legal with hints that prove its goal
pub record HintsHelp (p : ProblemValue) (s : StateValue) (goal : ConstraintValue) (hints : List Hint) : Type 0 where
  pub rup : IsRefused p s (Rup goal []) RupOpen → IsHintsFault s (negation goal) None hints RupOpen None → IsLegal p s (Rup goal hints)
  pub learn : IsRefused p s (Learn goal []) RupOpen → IsHintsFault s (negation goal) None hints RupOpen None → IsLegal p s (Learn goal hints)

-- a line without hints is refused for the same reason loosely, but for one that is open; and where it is open it is loosely so unless its goal follows
pub record RefusedAlike (p : ProblemValue) (s : StateValue) (goal : ConstraintValue) (why : Why) : Type 0 where
  pub rup : why ≢ RupOpen → IsRefused p s (Rup goal []) why → IsLooselyRefused p s (Rup goal []) why
  pub learn : why ≢ RupOpen → IsRefused p s (Learn goal []) why → IsLooselyRefused p s (Learn goal []) why
  pub open_rup : IsRefused p s (Rup goal []) RupOpen → (FollowsLoosely s goal → ⊥) → IsLooselyRefused p s (Rup goal []) RupOpen
  pub open_learn : IsRefused p s (Learn goal []) RupOpen → (FollowsLoosely s goal → ⊥) → IsLooselyRefused p s (Learn goal []) RupOpen

-- a first fault that isn't this one
abbrev pub IsOther : Why → Option Why → Type 0
IsOther why o = o ≡ Some why → ⊥

-- where the first fault isn't the one that decides, it is none, and the rest decides
rest_mapped : (o : Option Why) (R S : Option Why → Type 0) (why : Why) (f : Option Why) → IsOther why o → (R (Some why) → S f) → FirstOf o R (Some why) → FirstOf o S f
rest_mapped None R S why f other more is = more is
rest_mapped (Some first) R S why f other more is = absurd (other (sym is))

pub unless_other : (b : Bool) (first why : Why) → first ≢ why → IsOther why (fault_unless b first)
unless_other true first why differ is = cc
unless_other false first why differ is = differ (let same : first ≡ why = cc in same)

pub range_other : (o : Option ℕ) → IsOther RupOpen (option_map VarRange o)
range_other None is = cc
range_other (Some v) is = cc

ended_other : AfterEnd ≢ RupOpen
ended_other is = cc

long_other : LogLong ≢ RupOpen
long_other is = cc

clause_other : NotClause ≢ RupOpen
clause_other is = cc

size_other : Overflow ≢ RupOpen
size_other is = cc

module _ (s : StateValue) (vars : List ℕ) where
  -- the conditions of all lines before an open goal
  ruled : (R S : Option Why → Type 0) (f : Option Why) → (R (Some RupOpen) → S f)
      → FirstOf (fault_unless (not s.ended) AfterEnd) (FirstOf (fault_unless (nat_lt s.lines (2 ^ 61)) LogLong) (FirstOf (range_fault s.vars vars) R)) (Some RupOpen)
      → FirstOf (fault_unless (not s.ended) AfterEnd) (FirstOf (fault_unless (nat_lt s.lines (2 ^ 61)) LogLong) (FirstOf (range_fault s.vars vars) S)) f
  ruled R S f more =
      rest_mapped (fault_unless (not s.ended) AfterEnd) (FirstOf (fault_unless (nat_lt s.lines (2 ^ 61)) LogLong) (FirstOf (range_fault s.vars vars) R)) (FirstOf (fault_unless (nat_lt s.lines (2 ^ 61)) LogLong) (FirstOf (range_fault s.vars vars) S)) RupOpen f (unless_other (not s.ended) AfterEnd RupOpen ended_other)
      (rest_mapped (fault_unless (nat_lt s.lines (2 ^ 61)) LogLong) (FirstOf (range_fault s.vars vars) R) (FirstOf (range_fault s.vars vars) S) RupOpen f (unless_other (nat_lt s.lines (2 ^ 61)) LogLong RupOpen long_other)
      (rest_mapped (range_fault s.vars vars) R S RupOpen f (range_other (find (λ v. nat_lt s.vars v) vars)) more))

  -- and before any other fault: those conditions are the same
  alike : (o : Option Why) (R S : Option Why → Type 0) (f : Option Why) → (R f → S f) → FirstOf o R f → FirstOf o S f
  alike None R S f more is = more is
  alike (Some first) R S f more is = is

  ruled_alike : (R S : Option Why → Type 0) (f : Option Why) → (R f → S f)
      → FirstOf (fault_unless (not s.ended) AfterEnd) (FirstOf (fault_unless (nat_lt s.lines (2 ^ 61)) LogLong) (FirstOf (range_fault s.vars vars) R)) f
      → FirstOf (fault_unless (not s.ended) AfterEnd) (FirstOf (fault_unless (nat_lt s.lines (2 ^ 61)) LogLong) (FirstOf (range_fault s.vars vars) S)) f
  ruled_alike R S f more =
      alike (fault_unless (not s.ended) AfterEnd) (FirstOf (fault_unless (nat_lt s.lines (2 ^ 61)) LogLong) (FirstOf (range_fault s.vars vars) R)) (FirstOf (fault_unless (nat_lt s.lines (2 ^ 61)) LogLong) (FirstOf (range_fault s.vars vars) S)) f
      (alike (fault_unless (nat_lt s.lines (2 ^ 61)) LogLong) (FirstOf (range_fault s.vars vars) R) (FirstOf (range_fault s.vars vars) S) f
      (alike (range_fault s.vars vars) R S f more))

module _ (p : ProblemValue) (s : StateValue) (goal : ConstraintValue) where
  abbrev Hinted : List Hint → Option Why → Type 0
  Hinted hints = IsHintsFault s (negation goal) None hints RupOpen

  rup_helped : (hints : List Hint) → Hinted hints None → IsRupFault s goal [] (Some RupOpen) → IsRupFault s goal hints None
  rup_helped hints legal = rest_mapped (size_fault (size (negation goal))) (Hinted []) (Hinted hints) RupOpen None (unless_other (not (nat_lt (2 ^ 100) (size (negation goal)))) Overflow RupOpen size_other) (λ is. legal)

  pub helped : (hints : List Hint) → HintsHelp p s goal hints
  helped hints = record {
    rup = λ refused legal. ruled s (term_variables goal.terms) (IsRupFault s goal []) (IsRupFault s goal hints) None (rup_helped hints legal) refused;
    learn = λ refused legal. ruled s (term_variables goal.terms) (FirstOf (fault_unless (is_clause goal) NotClause) (IsRupFault s goal [])) (FirstOf (fault_unless (is_clause goal) NotClause) (IsRupFault s goal hints)) None
        (rest_mapped (fault_unless (is_clause goal) NotClause) (IsRupFault s goal []) (IsRupFault s goal hints) RupOpen None (unless_other (is_clause goal) NotClause RupOpen clause_other) (rup_helped hints legal)) refused;
  }

  rup_open : (FollowsLoosely s goal → ⊥) → IsRupFault s goal [] (Some RupOpen) → IsLooseRupFault s goal (Some RupOpen)
  rup_open open' = rest_mapped (size_fault (size (negation goal))) (Hinted []) (IsOpenFault s goal) RupOpen (Some RupOpen) (unless_other (not (nat_lt (2 ^ 100) (size (negation goal)))) Overflow RupOpen size_other) (λ is. inr (open', refl))

-- without hints there is no fault but an open goal
none_unnamed : (given : Given) → unnamed given [] ≡ None
unfolding unnamed
none_unnamed given = refl

no_hint : (s : StateValue) (negated : ConstraintValue) (why : Why) → why ≢ RupOpen → IsHintsFault s negated None [] RupOpen (Some why) → ⊥
no_hint s negated why other fault = by_answer fault.0 fault.1 fault.2
  where
    by_answer : (answer : Result (Unit {0}) RupFault) → IsReplayed s.vars negated (given_in s (Some negated) None) [] answer → Some why ≡ rup_fault RupOpen answer → ⊥
    by_answer (Ok done) is e = cc
    by_answer (Err (NoSuchId id)) is e = let never : None ≡ Some id = sym (none_unnamed (given_in s (Some negated) None)) ∙ is.1 in cc
    by_answer (Err Open) is e = other (let same : why ≡ RupOpen = cc in same)

module _ (p : ProblemValue) (s : StateValue) (goal : ConstraintValue) (why : Why) where
  rup_alike : why ≢ RupOpen → IsRupFault s goal [] (Some why) → IsLooseRupFault s goal (Some why)
  rup_alike other = alike s [] (size_fault (size (negation goal))) (IsHintsFault s (negation goal) None [] RupOpen) (IsOpenFault s goal) (Some why) (λ is. absurd (no_hint s (negation goal) why other is))

  pub refused_alike : RefusedAlike p s goal why
  refused_alike = record {
    rup = λ other is. ruled_alike s (term_variables goal.terms) (IsRupFault s goal []) (IsLooseRupFault s goal) (Some why) (rup_alike other) is;
    learn = λ other is. ruled_alike s (term_variables goal.terms) (FirstOf (fault_unless (is_clause goal) NotClause) (IsRupFault s goal [])) (FirstOf (fault_unless (is_clause goal) NotClause) (IsLooseRupFault s goal)) (Some why)
        (alike s [] (fault_unless (is_clause goal) NotClause) (IsRupFault s goal []) (IsLooseRupFault s goal) (Some why) (rup_alike other)) is;
    open_rup = λ is open'. ruled s (term_variables goal.terms) (IsRupFault s goal []) (IsLooseRupFault s goal) (Some RupOpen) (rup_open p s goal open') is;
    open_learn = λ is open'. ruled s (term_variables goal.terms) (FirstOf (fault_unless (is_clause goal) NotClause) (IsRupFault s goal [])) (FirstOf (fault_unless (is_clause goal) NotClause) (IsLooseRupFault s goal)) (Some RupOpen)
        (rest_mapped (fault_unless (is_clause goal) NotClause) (IsRupFault s goal []) (IsLooseRupFault s goal) RupOpen (Some RupOpen) (unless_other (is_clause goal) NotClause RupOpen clause_other) (rup_open p s goal open')) is;
  }

-- "0 >= 0" in front of lines does nothing
pub trivial_law : (p : List (Option Bool)) (cs : List ConstraintValue) → Conflicts p (negation (clause []) ∷ cs) → Conflicts p cs
unfolding forced
trivial_law p cs found = elim (conflicts_cases p (negation (clause [])) cs found) [
  | inl violated ↦ absurd (omega (arith, ints))
  | inr later ↦ later
]
