-- Hints without those that come again at once.
use Rattle.std.specs.Prelude.{◌≡◌, ℕ, ◌≤◌, Bool, true, false, if◌then◌else◌, Option, Some, None, List, [], ◌∷◌, length, replicate, Result, Ok, Err, refl}
use Rattle.std.proofs.Common.{sym, ◌∙◌, ap, subst, inl, inr, arith}
use Rattle.std.specs.FinMap.{get}
use Rattle.std.proofs.lemmas.Bool.{eqb-true}
use Rattle.std.proofs.lemmas.List.{length-replicate}
use Rattle.pb_lin.specs.Constraint.{ConstraintValue, IsNormal, UpTo, negation}
use Rattle.pb_lin.specs.Given.{Given}
use Rattle.hint_rup.specs.Propagation.{forced, Conflicts}
use Rattle.hint_rup.specs.Hints.{line_of, before, named, IsReplayed}
use Rattle.hint_rup.specs.declared.hint.Hint.{Hint}
use Rattle.hint_rup.specs.declared.hint.Hint.TheVariants.{Id as IdHint, Negated, Denied}
use Rattle.hint_rup.specs.declared.hint.RupFault.{RupFault}
use Rattle.hint_rup.specs.declared.hint.RupFault.TheVariants.{NoSuchId, Open}
use Rattle.hint_rup.proofs.Conflict.{conflicts_here, conflicts_later, conflicts_cases}
use Rattle.proof_laws.specs.State.{StateValue, IsState}
use Rattle.proof_laws.specs.Refusal.{given_in, rup_fault, IsHintsFault}
use Rattle.proof_laws.specs.declared.why.Why.TheVariants.{RupOpen}
use Rattle.command_elaborate.specs.Spelling.{same_hint, squeezed}
use Rattle.command_elaborate.proofs.Grown.{IsPlain, length_forced}
use Rattle.command_elaborate.proofs.Idle.{conflicts_once}
use Rattle.command_elaborate.proofs.Respelled.{line_fine}
use Rattle.command_elaborate.proofs.Named.{named_all}

module _ (given : Given) where
  -- equal hints name one line
  pub one_line : (g h : Hint) → same_hint g h ≡ true → line_of given g ≡ line_of given h
  one_line (IdHint i) (IdHint j) same = ap (get given.lines) (eqb-true i j same)
  one_line (IdHint i) Negated same = cc
  one_line (IdHint i) Denied same = cc
  one_line Negated (IdHint j) same = cc
  one_line Negated Negated same = refl
  one_line Negated Denied same = cc
  one_line Denied (IdHint j) same = cc
  one_line Denied Negated same = cc
  one_line Denied Denied same = refl

  pub named_more : (h : Hint) (hints : List Hint) (o : Option ConstraintValue) → line_of given h ≡ o → named given (h ∷ hints) ≡ before o (named given hints)
  unfolding named
  named_more h hints o is = ap (λ (x : Option ConstraintValue). before x (named given hints)) is

  module _ (n : ℕ) (fine : (h : Hint) (c : ConstraintValue) → line_of given h ≡ Some c → IsPlain n c) where
    squeezed_conflicts : (hints : List Hint) (p : List (Option Bool)) (last : Hint) (c : ConstraintValue) → n ≤ length p → line_of given last ≡ Some c → Conflicts p (c ∷ named given hints) → Conflicts p (c ∷ named given (squeezed last hints))
    squeezed_conflicts [] p last c long line found = found
    squeezed_conflicts (h ∷ hints) p last c long line found =
        by_test (same_hint last h) refl
        (λ rest. squeezed_conflicts hints p last c long line rest)
        (λ d there rest. squeezed_conflicts hints (forced p c) h d (omega (arith, length_forced p c)) there rest)
      where
        by_line : (o : Option ConstraintValue) → line_of given h ≡ o
            → ((d : ConstraintValue) → line_of given h ≡ Some d → Conflicts (forced p c) (d ∷ named given hints) → Conflicts (forced p c) (d ∷ named given (squeezed h hints)))
            → Conflicts p (c ∷ named given (h ∷ squeezed h hints))
        by_line None is other =
            subst (λ (cs : List ConstraintValue). Conflicts p (c ∷ cs)) (sym (named_more h (squeezed h hints) None is)) (subst (λ (cs : List ConstraintValue). Conflicts p (c ∷ cs)) (named_more h hints None is) found)
        by_line (Some d) is other =
            subst (λ (cs : List ConstraintValue). Conflicts p (c ∷ cs)) (sym (named_more h (squeezed h hints) (Some d) is))
            (elim (conflicts_cases p c (d ∷ named given hints) (subst (λ (cs : List ConstraintValue). Conflicts p (c ∷ cs)) (named_more h hints (Some d) is) found)) [
              | inl violated ↦ conflicts_here p c (d ∷ named given (squeezed h hints)) violated
              | inr later ↦ conflicts_later p c (d ∷ named given (squeezed h hints)) (other d is later)
            ])

        by_test : (b : Bool) → same_hint last h ≡ b → (Conflicts p (c ∷ named given hints) → Conflicts p (c ∷ named given (squeezed last hints)))
            → ((d : ConstraintValue) → line_of given h ≡ Some d → Conflicts (forced p c) (d ∷ named given hints) → Conflicts (forced p c) (d ∷ named given (squeezed h hints)))
            → Conflicts p (c ∷ named given (if b then squeezed last hints else h ∷ squeezed h hints))
        by_test true test same other =
            let is : line_of given h ≡ Some c = sym (one_line last h test) ∙ line in
            same (conflicts_once n p c (named given hints) (fine last c line) (named_all (IsPlain n) given hints fine) long (subst (λ (cs : List ConstraintValue). Conflicts p (c ∷ cs)) (named_more h hints (Some c) is) found))
        by_test false test same other = by_line (line_of given h) refl other

-- hints that come again at once aren't wanted, nor is the negation at the front
pub squeezed_law : (s : StateValue) (goal : ConstraintValue) (hints : List Hint) → IsState s → IsNormal goal.terms goal.degree → UpTo s.vars goal
    → IsHintsFault s (negation goal) None hints RupOpen None → IsHintsFault s (negation goal) None (squeezed Negated hints) RupOpen None
squeezed_law s goal hints state normal upto fault = by_answer fault.0 fault.1 fault.2
  where
    by_answer : (answer : Result (Unit {0}) RupFault) → IsReplayed s.vars (negation goal) (given_in s (Some (negation goal)) None) hints answer → None ≡ rup_fault RupOpen answer → IsHintsFault s (negation goal) None (squeezed Negated hints) RupOpen None
    by_answer (Ok done) found none =
        (Ok tt, squeezed_conflicts (given_in s (Some (negation goal)) None) s.vars (line_fine s goal 0 state normal upto) hints (replicate s.vars None) Negated (negation goal) (omega (arith, length-replicate {A = Option Bool} s.vars None)) refl found, refl)
    by_answer (Err (NoSuchId id)) found none = cc
    by_answer (Err Open) found none = cc
