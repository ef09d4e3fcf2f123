-- A line whose literals are all true does nothing.
use Rattle.std.specs.Prelude.{◌≡◌, ℕ, ◌-◌, ◌<◌, ◌≤◌, Bool, true, false, not, ◌||◌, if◌then◌else◌, Option, Some, None, option_map, List, [], ◌∷◌, length, replicate, sum_by, All, Result, Ok, Err, ℤ, pos, ◌-ℤ◌, ◌<ℤ◌, refl}
use Rattle.std.proofs.Common.{sym, ◌∙◌, ap, subst, get_or, inl, inr, arith}
use Rattle.std.specs.Option.{is_none}
use Rattle.std.proofs.lemmas.Int.{ints}
use Rattle.std.proofs.lemmas.Bool.{and_from}
use Rattle.std.proofs.lemmas.List.{length-replicate, get_or_default}
use Rattle.std.proofs.lemmas.List.Elements.{All-nil, All-cons, All-head, All-tail}
use Rattle.scut_base.specs.Literal.{Literal}
use Rattle.scut_base.specs.Assignment.{partial_truth}
use Rattle.scut_base.proofs.Lists.{sum_by_same_in}
use Rattle.pb_lin.specs.Constraint.{ConstraintValue, IsNormal, UpTo, negation, total, unless_false, possible_value, slack}
use Rattle.pb_lin.specs.Given.{Given}
use Rattle.pb_lin.specs.Propagation.{is_forced}
use Rattle.pb_lin.proofs.OppositeTerms.{total-opposite}
use Rattle.hint_rup.specs.Propagation.{forced, Conflicts}
use Rattle.hint_rup.specs.Hints.{line_of, named, IsReplayed}
use Rattle.hint_rup.specs.declared.hint.Hint.{Hint}
use Rattle.hint_rup.specs.declared.hint.Hint.TheVariants.{Negated}
use Rattle.hint_rup.specs.declared.hint.RupFault.{RupFault}
use Rattle.hint_rup.specs.declared.hint.RupFault.TheVariants.{NoSuchId, Open}
use Rattle.hint_rup.proofs.Agreement.{all_open}
use Rattle.hint_rup.proofs.Conflict.{conflicts_here, conflicts_later, conflicts_cases}
use Rattle.proof_laws.specs.State.{StateValue, IsState}
use Rattle.proof_laws.specs.WellFormed.{IsHint}
use Rattle.proof_laws.specs.Refusal.{given_in, rup_fault, IsHintsFault}
use Rattle.proof_laws.specs.declared.why.Why.TheVariants.{RupOpen}
use Rattle.cdcl_state.proofs.Rows.{forced_true}
use Rattle.command_elaborate.specs.Spelling.{same_hint, told}
use Rattle.command_elaborate.proofs.Inside.{Values, IsInside, truth_inside, lt_test, forced_inside}
use Rattle.command_elaborate.proofs.Grown.{IsPlain, more_forced, length_forced, conflicts_grown}
use Rattle.command_elaborate.proofs.Idle.{slack_same}
use Rattle.command_elaborate.proofs.Named.{named_all}
use Rattle.command_elaborate.proofs.Respelled.{line_fine, negation_plain}
use Rattle.command_elaborate.proofs.Squeezed.{one_line, named_more}

-- all literals of the line are true, and it isn't violated
record IsSettled (p : Values) (c : ConstraintValue) : Type 0 where
  literals : (k : ℕ) (d : Literal × ℕ) → k < length c.terms → partial_truth p (get_or c.terms k d).0 ≡ Some true
  possible : slack p c <ℤ pos 0 → ⊥

-- so it stays where more is known
settled_more : (p q : Values) (c : ConstraintValue) → IsInside p q → IsSettled p c → IsSettled q c
settled_more p q c inside settled = record {
  literals = literals;
  possible = λ violated. settled.possible (subst (λ (z : ℤ). z <ℤ pos 0) (ap (λ (n : ℕ). pos n -ℤ pos c.degree) (sum_by_same_in (possible_value q) (possible_value p) c.terms worth)) violated);
}
  where
    literals : (k : ℕ) (d : Literal × ℕ) → k < length c.terms → partial_truth q (get_or c.terms k d).0 ≡ Some true
    literals k d short = truth_inside p q inside (get_or c.terms k d).0 true (settled.literals k d short)

    worth : (k : ℕ) (d : Literal × ℕ) → k < length c.terms → possible_value q (get_or c.terms k d) ≡ possible_value p (get_or c.terms k d)
    worth k d short = ap (λ (o : Option Bool). unless_false o (get_or c.terms k d).1) (literals k d short ∙ sym (settled.literals k d short))

-- and it does nothing
settled_idle : (n : ℕ) (p : Values) (c : ConstraintValue) (cs : List ConstraintValue) → All (IsPlain n) cs → n ≤ length p → IsSettled p c → Conflicts p (c ∷ cs) → Conflicts p cs
settled_idle n p c cs each long settled found = elim (conflicts_cases p c cs found) [
  | inl violated ↦ absurd (settled.possible violated)
  | inr later ↦ conflicts_grown n (forced p c) p cs each long (forced_inside p p c (record { at = λ k b is. is }) (λ k d short is. settled.literals k d short)) later
]

module _ (given : Given) (n : ℕ) (fine : (h : Hint) (c : ConstraintValue) → line_of given h ≡ Some c → IsPlain n c) (c : ConstraintValue) (negated : line_of given Negated ≡ Some c) where
  -- so its hints aren't wanted
  told_conflicts : (hints : List Hint) (p : Values) → n ≤ length p → IsSettled p c → Conflicts p (named given hints) → Conflicts p (named given (told false hints))
  told_conflicts [] p long settled found = found
  told_conflicts (h ∷ hints) p long settled found =
      by_same (same_hint Negated h) refl (told_conflicts hints p long settled)
      (λ d later. told_conflicts hints (forced p d) (omega (arith, length_forced p d)) (settled_more p (forced p d) c (more_forced p d) settled) later)
    where
      by_line : (o : Option ConstraintValue) → line_of given h ≡ o
          → ((d : ConstraintValue) → Conflicts (forced p d) (named given hints) → Conflicts (forced p d) (named given (told false hints)))
          → Conflicts p (named given (h ∷ told false hints))
      by_line None is other =
          subst (Conflicts p) (sym (named_more given h (told false hints) None is)) (subst (Conflicts p) (named_more given h hints None is) found)
      by_line (Some d) is other =
          subst (Conflicts p) (sym (named_more given h (told false hints) (Some d) is))
          (elim (conflicts_cases p d (named given hints) (subst (Conflicts p) (named_more given h hints (Some d) is) found)) [
            | inl violated ↦ conflicts_here p d (named given (told false hints)) violated
            | inr later ↦ conflicts_later p d (named given (told false hints)) (other d later)
          ])

      by_same : (b : Bool) → same_hint Negated h ≡ b → (Conflicts p (named given hints) → Conflicts p (named given (told false hints)))
          → ((d : ConstraintValue) → Conflicts (forced p d) (named given hints) → Conflicts (forced p d) (named given (told false hints)))
          → Conflicts p (named given (if false || not b then h ∷ told false hints else told false hints))
      by_same true test same other =
          let is : line_of given h ≡ Some c = sym (one_line given Negated h test) ∙ negated in
          same (settled_idle n p c (named given hints) (named_all (IsPlain n) given hints fine) long settled (subst (Conflicts p) (named_more given h hints (Some c) is) found))
      by_same false test same other = by_line (line_of given h) refl other

-- ---- the negation of a constraint of degree 1

module _ (n : ℕ) (goal : ConstraintValue) (normal : IsNormal goal.terms goal.degree) (upto : UpTo n goal) (one : goal.degree ≡ 1) where
  abbrev begun : Values
  begun = replicate n None

  plain : IsPlain n (negation goal)
  plain = negation_plain n goal normal.merged upto

  unset : (k : ℕ) (d : Literal × ℕ) → partial_truth (replicate n None) (get_or (negation goal).terms k d).0 ≡ None
  unset k d = let l = (get_or (negation goal).terms k d).0 in ap (option_map (λ v. if l.neg then not v else v)) (all_open n (l.var - 1))

  no_slack : slack (replicate n None) (negation goal) ≡ pos 0
  no_slack =
      let whole : sum_by (possible_value (replicate n None)) (negation goal).terms ≡ total (negation goal).terms
      = sum_by_same_in (possible_value (replicate n None)) (λ t. t.1) (negation goal).terms (λ k d short. ap (λ (o : Option Bool). unless_false o (get_or (negation goal).terms k d).1) (unset k d)) in
      let same : total (negation goal).terms ≡ total goal.terms = total-opposite goal.terms in
      omega (arith, ints)

  forced_literal : (k : ℕ) (d : Literal × ℕ) → k < length (negation goal).terms → partial_truth (forced (replicate n None) (negation goal)) (get_or (negation goal).terms k d).0 ≡ Some true
  forced_literal k d short =
      let t = get_or (negation goal).terms k d in
      let positive : 0 < t.1 = plain.merged.positive k d short in
      let from_one : 0 < t.0.var = plain.merged.from_one k d short in
      let within : t.0.var ≤ n = plain.upto k d short in
      let passes : is_forced (replicate n None) (negation goal) t ≡ true = and_from _ _ (ap is_none (unset k d)) (lt_test (slack (replicate n None) (negation goal)) (pos t.1) (omega (arith, ints, no_slack))) in
      forced_true (replicate n None) (negation goal) k t plain.merged short (get_or_default (negation goal).terms k d t short) (omega (arith, length-replicate {A = Option Bool} n None)) passes

  settled_first : IsSettled (forced (replicate n None) (negation goal)) (negation goal)
  settled_first = record {
    literals = forced_literal;
    possible = λ violated. (let same = slack_same (replicate n None) (negation goal) plain.merged in omega (arith, ints, no_slack));
  }

pub told_law : (s : StateValue) (goal : ConstraintValue) (hints : List Hint) → IsState s → IsNormal goal.terms goal.degree → UpTo s.vars goal → goal.degree ≡ 1
    → IsHintsFault s (negation goal) None hints RupOpen None → IsHintsFault s (negation goal) None (told false hints) RupOpen None
told_law s goal hints state normal upto one fault = by_answer fault.0 fault.1 fault.2
  where
    given : Given
    given = given_in s (Some (negation goal)) None

    first : Values
    first = replicate s.vars None

    by_answer : (answer : Result (Unit {0}) RupFault) → IsReplayed s.vars (negation goal) (given_in s (Some (negation goal)) None) hints answer → None ≡ rup_fault RupOpen answer → IsHintsFault s (negation goal) None (told false hints) RupOpen None
    by_answer (Ok done) found none = (
      Ok tt,
      elim (conflicts_cases first (negation goal) (named given hints) found) [
        | inl violated ↦ conflicts_here first (negation goal) (named given (told false hints)) violated
        | inr later ↦ conflicts_later first (negation goal) (named given (told false hints))
            (told_conflicts given s.vars (line_fine s goal 0 state normal upto) (negation goal) refl hints (forced first (negation goal))
            (omega (arith, length_forced first (negation goal), length-replicate {A = Option Bool} s.vars None)) (settled_first s.vars goal normal upto one) later)
      ],
      refl,
    )
    by_answer (Err (NoSuchId id)) found none = cc
    by_answer (Err Open) found none = cc

told_all : (hints : List Hint) → told true hints ≡ hints
told_all [] = refl
told_all (h ∷ hints) = ap (λ (hs : List Hint). h ∷ hs) (told_all hints)

-- so they aren't told unless the degree is another one
pub told_where : (s : StateValue) (goal : ConstraintValue) (again : Bool) (hints : List Hint) → IsState s → IsNormal goal.terms goal.degree → UpTo s.vars goal → (again ≡ false → goal.degree ≡ 1)
    → IsHintsFault s (negation goal) None hints RupOpen None → IsHintsFault s (negation goal) None (told again hints) RupOpen None
told_where s goal true hints state normal upto one fault = subst (λ (hs : List Hint). IsHintsFault s (negation goal) None hs RupOpen None) (sym (told_all hints)) fault
told_where s goal false hints state normal upto one fault = told_law s goal hints state normal upto (one refl) fault

pub told_small : (again : Bool) (hints : List Hint) → All IsHint hints → All IsHint (told again hints)
told_small again [] all = All-nil IsHint
told_small again (h ∷ hints) all =
    by (again || not (same_hint Negated h)) (told_small again hints (All-tail IsHint h hints all))
  where
    by : (b : Bool) → All IsHint (told again hints) → All IsHint (if b then h ∷ told again hints else told again hints)
    by true rest = All-cons IsHint h (told again hints) (All-head IsHint h hints all) rest
    by false rest = rest
