-- A line that was propagated is closed, and does nothing when it comes again.
use Rattle.std.specs.Prelude.{◌≡◌, ◌⊎◌, ℕ, ◌-◌, ◌<◌, ◌≤◌, Bool, true, false, not, ◌&&◌, if◌then◌else◌, Option, Some, None, option_map, List, [], ◌∷◌, length, All, ℤ, pos, ◌-ℤ◌, ◌<ℤ◌, int_lt, refl}
use Rattle.std.proofs.Common.{sym, ◌∙◌, ap, subst, get_or, inl, inr, arith}
use Rattle.std.specs.Option.{is_none}
use Rattle.std.specs.List.{filter}
use Rattle.std.proofs.lemmas.Bool.{cases_eq, cases_lt, and_parts}
use Rattle.std.proofs.lemmas.List.{get_or-set_same, get_or-set_other, get_or_past, get_or_default, length-set}
use Rattle.std.proofs.lemmas.List.Elements.{All-head, All-tail, All-filter}
use Rattle.scut_base.specs.Literal.{Literal}
use Rattle.scut_base.specs.Assignment.{partial_truth}
use Rattle.scut_base.proofs.Lists.{sum_by_same_in}
use Rattle.pb_lin.specs.Constraint.{ConstraintValue, IsMerged, unless_false, possible_value, slack}
use Rattle.pb_lin.specs.Propagation.{is_forced}
use Rattle.hint_rup.specs.Propagation.{with_true, forced, Conflicts}
use Rattle.hint_rup.proofs.ForcedLiterals.{with_all}
use Rattle.hint_rup.proofs.Conflict.{conflicts_here, conflicts_later, conflicts_cases}
use Rattle.command_elaborate.proofs.Inside.{Values, truth_inside, forced_inside}
use Rattle.cdcl_state.proofs.Rows.{forced_true}
use Rattle.command_elaborate.proofs.Grown.{IsPlain, Agrees, agrees_all, more_forced, length_forced, conflicts_grown}

-- a place that was open is open, or has the value that every term sets there
set_so : (k : ℕ) (b : Bool) (p : Values) (terms : List (Literal × ℕ)) → All (Agrees k b) terms → (get_or p k None ≡ None) ⊎ (get_or p k None ≡ Some b) → (get_or (with_all p terms) k None ≡ None) ⊎ (get_or (with_all p terms) k None ≡ Some b)
set_so k b p [] each was = was
set_so k b p (t ∷ terms) each was =
    set_so k b (with_true p t.0) terms (All-tail (Agrees k b) t terms each) (elim (cases_eq k (t.0.var - 1)) [
      | inl here ↦ elim (cases_lt k (length p)) [
        | inl within ↦ inr (ap (λ (n : ℕ). get_or (with_true p t.0) n None) here ∙ get_or-set_same p (t.0.var - 1) (Some (not t.0.neg)) None (omega arith) ∙ ap Some (All-head (Agrees k b) t terms each (sym here)))
        | inr past ↦ inl (get_or_past (with_true p t.0) k None (omega (arith, length-set p (t.0.var - 1) (Some (not t.0.neg)))))
      ]
      | inr apart ↦ elim was [
        | inl none ↦ inl (get_or-set_other p (t.0.var - 1) k (Some (not t.0.neg)) None apart ∙ none)
        | inr some ↦ inr (get_or-set_other p (t.0.var - 1) k (Some (not t.0.neg)) None apart ∙ some)
      ]
    ])

none_value : (l : Literal) (o : Option Bool) → option_map (λ v. if l.neg then not v else v) o ≡ None → o ≡ None
none_value l None is = refl
none_value l (Some v) is = cc

signed_true : (b : Bool) → (if b then not (not b) else not b) ≡ true
signed_true true = refl
signed_true false = refl

module _ (p : Values) (c : ConstraintValue) (merged : IsMerged c.terms) where
  -- an open literal of the line isn't made false by it
  open_stays : (k : ℕ) (d : Literal × ℕ) → k < length c.terms → partial_truth p (get_or c.terms k d).0 ≡ None → (partial_truth (forced p c) (get_or c.terms k d).0 ≡ None) ⊎ (partial_truth (forced p c) (get_or c.terms k d).0 ≡ Some true)
  unfolding forced
  open_stays k d within open' =
      let t = get_or c.terms k d in
      let was : get_or p (t.0.var - 1) None ≡ None = none_value t.0 (get_or p (t.0.var - 1) None) open' in
      let each : All (Agrees (t.0.var - 1) (not t.0.neg)) (filter (is_forced p c) c.terms) = All-filter (is_forced p c) (Agrees (t.0.var - 1) (not t.0.neg)) c.terms (agrees_all c.terms k t merged within (get_or_default c.terms k d t within)) in
      elim (set_so (t.0.var - 1) (not t.0.neg) p (filter (is_forced p c) c.terms) each (inl was)) [
        | inl none ↦ inl (ap (option_map (λ v. if t.0.neg then not v else v)) none)
        | inr some ↦ inr (ap (option_map (λ v. if t.0.neg then not v else v)) some ∙ ap Some (signed_true t.0.neg))
      ]

  worth_same : (k : ℕ) (d : Literal × ℕ) → k < length c.terms → possible_value (forced p c) (get_or c.terms k d) ≡ possible_value p (get_or c.terms k d)
  worth_same k d within = by_truth (partial_truth p (get_or c.terms k d).0) refl
    where
      by_truth : (o : Option Bool) → partial_truth p (get_or c.terms k d).0 ≡ o → possible_value (forced p c) (get_or c.terms k d) ≡ possible_value p (get_or c.terms k d)
      by_truth (Some b) is =
          ap (λ (o : Option Bool). unless_false o (get_or c.terms k d).1) (truth_inside p (forced p c) (more_forced p c) (get_or c.terms k d).0 b is ∙ sym is)
      by_truth None is = elim (open_stays k d within is) [
        | inl none ↦ ap (λ (o : Option Bool). unless_false o (get_or c.terms k d).1) (none ∙ sym is)
        | inr some ↦ ap (λ (o : Option Bool). unless_false o (get_or c.terms k d).1) some ∙ sym (ap (λ (o : Option Bool). unless_false o (get_or c.terms k d).1) is)
      ]

  pub slack_same : slack (forced p c) c ≡ slack p c
  slack_same = ap (λ (n : ℕ). pos n -ℤ pos c.degree) (sum_by_same_in (possible_value (forced p c)) (possible_value p) c.terms worth_same)

  -- what is forced then was forced before, and is true
  pub nothing_forced : ((k : ℕ) (d : Literal × ℕ) → k < length c.terms → (get_or c.terms k d).0.var - 1 < length p) → (k : ℕ) (d : Literal × ℕ) → k < length c.terms → is_forced (forced p c) c (get_or c.terms k d) ≡ true → ⊥
  nothing_forced room k d within is = by_truth (partial_truth p t.0) refl
    where
      t : Literal × ℕ
      t = get_or c.terms k d

      parts : (is_none (partial_truth (forced p c) t.0) ≡ true) × (int_lt (slack (forced p c) c) (pos t.1) ≡ true)
      parts = and_parts _ _ is

      some_open : (b : Bool) → partial_truth (forced p c) t.0 ≡ Some b → ⊥
      some_open b now = let both : false ≡ true = sym (ap is_none now) ∙ parts.0 in cc

      by_truth : (o : Option Bool) → partial_truth p t.0 ≡ o → ⊥
      by_truth (Some b) was = some_open b (truth_inside p (forced p c) (more_forced p c) t.0 b was)
      by_truth None was =
          let before : is_forced p c t ≡ true = ap (λ (o : Option Bool). is_none o && int_lt (slack p c) (pos t.1)) was ∙ ap (λ (z : ℤ). int_lt z (pos t.1)) (sym slack_same) ∙ parts.1 in
          some_open true (forced_true p c k t merged within (get_or_default c.terms k d t within) (room k d within) before)

-- a line that comes again at once does nothing
pub conflicts_once : (n : ℕ) (p : Values) (c : ConstraintValue) (cs : List ConstraintValue) → IsPlain n c → All (IsPlain n) cs → n ≤ length p → Conflicts p (c ∷ c ∷ cs) → Conflicts p (c ∷ cs)
conflicts_once n p c cs plain each long found = elim (conflicts_cases p c (c ∷ cs) found) [
  | inl violated ↦ conflicts_here p c cs violated
  | inr later ↦ elim (conflicts_cases (forced p c) c cs later) [
    | inl violated ↦ conflicts_here p c cs (subst (λ (z : ℤ). z <ℤ pos 0) (slack_same p c plain.merged) violated)
    | inr rest ↦ conflicts_later p c cs (conflicts_grown n (forced (forced p c) c) (forced p c) cs each (omega (arith, length_forced p c))
        (forced_inside (forced p c) (forced p c) c (record { at = λ k b is. is }) (λ k d within is. absurd (nothing_forced p c plain.merged
        (λ i e inside. let upto : (get_or c.terms i e).0.var ≤ n = plain.upto i e inside in let one : 0 < (get_or c.terms i e).0.var = plain.merged.from_one i e inside in omega arith) k d within is))) rest)
  ]
]
