-- A line is loosely refused for one reason at most, or has one next state at most.
use Rattle.std.specs.Prelude.{◌≡◌, ◌^◌, not, nat_lt, [], ◌∷◌, Option, None, Some}
use Rattle.std.proofs.Common.{sym, ◌∙◌, ⊎_elim}
use Rattle.pb_lin.specs.Constraint.{ConstraintValue, negation, size}
use Rattle.pb_lin.specs.Problem.{ProblemValue}
use Rattle.proof_laws.specs.State.{StateValue}
use Rattle.proof_laws.specs.Refusal.{FirstOf, fault_unless, size_fault, range_fault, is_clause, term_variables, IsFault}
use Rattle.proof_laws.specs.Legal.{Makes}
use Rattle.proof_laws.specs.declared.line.Line.{Line}
use Rattle.proof_laws.specs.declared.line.Line.TheVariants.{Pol, Rup, Learn, Def, Red, Dom, Sol, Del, Reduce, End}
use Rattle.proof_laws.specs.declared.why.Why.{Why}
use Rattle.proof_laws.specs.declared.why.Why.TheVariants.{RupOpen, AfterEnd, LogLong, NotClause}
use Rattle.proof_laws.proofs.Unique.{judged_once_law}
use Rattle.command_elaborate.specs.Loose.{IsLooseRupFault, IsOpenFault, IsLooseRuleFault, IsLooseFault, FollowsLoosely}
use Rattle.command_elaborate.specs.Laws.{JudgedLooselyOnce, LooselyJudgedOnce}

abbrev Once : (Option Why → Type 0) → Type 0
Once J = (f g : Option Why) → J f → J g → f ≡ g

first_once : (o : Option Why) (Rest : Option Why → Type 0) → Once Rest → Once (FirstOf o Rest)
first_once None Rest once = once
first_once (Some why) Rest once = λ f g a b. a ∙ sym b

open_once : (s : StateValue) (goal : ConstraintValue) → Once (IsOpenFault s goal)
open_once s goal f g a b = ⊎_elim
    (λ (x : FollowsLoosely s goal × (f ≡ None)). ⊎_elim
    (λ (y : FollowsLoosely s goal × (g ≡ None)). x.1 ∙ sym y.1)
    (λ (y : (FollowsLoosely s goal → ⊥) × (g ≡ Some RupOpen)). absurd (y.0 x.0)) b)
    (λ (x : (FollowsLoosely s goal → ⊥) × (f ≡ Some RupOpen)). ⊎_elim
    (λ (y : FollowsLoosely s goal × (g ≡ None)). absurd (x.0 y.0))
    (λ (y : (FollowsLoosely s goal → ⊥) × (g ≡ Some RupOpen)). x.1 ∙ sym y.1) b)
    a

rup_once : (s : StateValue) (goal : ConstraintValue) → Once (IsLooseRupFault s goal)
rup_once s goal = first_once (size_fault (size (negation goal))) (IsOpenFault s goal) (open_once s goal)

ruled_once : (s : StateValue) (vars : Option Why) (R : Option Why → Type 0) → Once R → Once (FirstOf (fault_unless (not s.ended) AfterEnd) (FirstOf (fault_unless (nat_lt s.lines (2 ^ 61)) LogLong) (FirstOf vars R)))
ruled_once s vars R once = first_once (fault_unless (not s.ended) AfterEnd) _ (first_once (fault_unless (nat_lt s.lines (2 ^ 61)) LogLong) _ (first_once vars R once))

some_same : (x y : Why) → Some x ≡ Some y → x ≡ y
some_same x y is = cc

some_none : (x : Why) → Some x ≡ None → ⊥
some_none x is = cc

module _ (p : ProblemValue) (s : StateValue) where
  -- by the faults, where the next states are one
  by_once : (line : Line) → Once (IsLooseFault p s line) → ((t u : StateValue) → Makes p s line t → Makes p s line u → t ≡ u) → JudgedLooselyOnce p s line
  by_once line once makes = record {
    one_reason = λ why other a b. some_same why other (once (Some why) (Some other) a b);
    one_next = λ t u a b. makes t u a.makes b.makes;
    not_both = λ why t a b. some_none why (once (Some why) None a b.legal);
  }

  -- a line with hints, or of another kind, is judged by the rule book
  strictly : (line : Line) → ((f : Option Why) → IsLooseFault p s line f → IsFault p s line f) → JudgedLooselyOnce p s line
  strictly line is =
      let once = judged_once_law p s line in
      record {
        one_reason = λ why other a b. once.one_reason why other (is (Some why) a) (is (Some other) b);
        one_next = λ t u a b. once.one_next t u (record { legal = is None a.legal; makes = a.makes }) (record { legal = is None b.legal; makes = b.makes });
        not_both = λ why t a b. once.not_both why t (is (Some why) a) (record { legal = is None b.legal; makes = b.makes });
      }

  judged : (line : Line) → JudgedLooselyOnce p s line
  judged (Pol tokens) = strictly (Pol tokens) (λ f a. a)
  judged (Rup goal []) = by_once (Rup goal []) (ruled_once s (range_fault s.vars (term_variables goal.terms)) (IsLooseRupFault s goal) (rup_once s goal)) (λ t u a b. a ∙ sym b)
  judged (Rup goal (h ∷ hints)) = strictly (Rup goal (h ∷ hints)) (λ f a. a)
  judged (Learn goal []) = by_once (Learn goal []) (ruled_once s (range_fault s.vars (term_variables goal.terms)) (IsLooseRuleFault p s (Learn goal []))
      (first_once (fault_unless (is_clause goal) NotClause) (IsLooseRupFault s goal) (rup_once s goal))) (λ t u a b. a ∙ sym b)
  judged (Learn goal (h ∷ hints)) = strictly (Learn goal (h ∷ hints)) (λ f a. a)
  judged (Def var sum) = strictly (Def var sum) (λ f a. a)
  judged (Red goal w proofs) = strictly (Red goal w proofs) (λ f a. a)
  judged (Dom goal w proofs) = strictly (Dom goal w proofs) (λ f a. a)
  judged (Sol model cut ids) = strictly (Sol model cut ids) (λ f a. a)
  judged (Del ids) = strictly (Del ids) (λ f a. a)
  judged (Reduce ids) = strictly (Reduce ids) (λ f a. a)
  judged (End id) = strictly (End id) (λ f a. a)

pub judged_loosely_law : LooselyJudgedOnce
judged_loosely_law p s line = judged p s line
