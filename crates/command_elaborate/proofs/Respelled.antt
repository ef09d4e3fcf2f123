-- Hints over a store in which the negation has an id of its own.
use Rattle.std.specs.Prelude.{◌≡◌, ℕ, ◌<◌, ◌==◌, Bool, true, false, cond, if◌then◌else◌, Option, Some, None, List, [], ◌∷◌, map, replicate, All, refl, Ok}
use Rattle.std.proofs.Common.{sym, ◌∙◌, ap, subst, arith}
use Rattle.std.specs.Cmp.{nat_cmp_total, unsigned_tied}
use Rattle.std.specs.FinMap.{get, insert, get-insert}
use Rattle.std.proofs.lemmas.List.{length-replicate}
use Rattle.std.proofs.lemmas.List.Elements.{All-head, All-tail, All-map}
use Rattle.scut_base.specs.Literal.{Literal}
use Rattle.pb_lin.specs.Constraint.{ConstraintValue, IsMerged, IsNormal, UpTo, negation, opposite, opposite_terms}
use Rattle.pb_lin.proofs.Ones.{AllPairs-map}
use Rattle.pb_lin.specs.Given.{Given}
use Rattle.pb_lin.specs.LineMap.{LineMap}
use Rattle.hint_rup.specs.Propagation.{Conflicts}
use Rattle.hint_rup.specs.Hints.{line_of, before, named}
use Rattle.hint_rup.specs.declared.hint.Hint.{Hint}
use Rattle.hint_rup.specs.declared.hint.Hint.TheVariants.{Id as IdHint, Negated, Denied}
use Rattle.proof_laws.specs.State.{StateValue, IsState}
use Rattle.proof_laws.specs.Refusal.{given_in, IsHintsFault}
use Rattle.proof_laws.specs.declared.why.Why.TheVariants.{RupOpen}
use Rattle.cdcl_trail.specs.Learning.{stored}
use Rattle.command_elaborate.specs.Spelling.{respelled}
use Rattle.command_elaborate.proofs.Closed.{negation_upto}
use Rattle.command_elaborate.proofs.Named.{named_all}
use Rattle.command_elaborate.proofs.Grown.{IsPlain, conflicts_after}

abbrev IsIdHint : Hint → Type 0
IsIdHint h = (i : ℕ) × (h ≡ IdHint i)

module _ (s : StateValue) (negated : ConstraintValue) (id : ℕ) where
  abbrev store : LineMap
  store = insert s.live id negated

  abbrev given : Given
  given = given_in s (Some negated) None

  by_test : (b : Bool) (i : ℕ) → cond b (Some negated) (get s.live i) ≡ line_of given (if b then Negated else IdHint i)
  by_test true i = refl
  by_test false i = refl

  -- each hint names the same line under its new spelling
  same_id : (i : ℕ) → line_of (stored store) (IdHint i) ≡ line_of given (respelled id (IdHint i))
  same_id i =
      get-insert nat_cmp_total s.live id negated i
      ∙ ap (λ (b : Bool). cond b (Some negated) (get s.live i)) (unsigned_tied i id)
      ∙ by_test (i == id) i

  same_line : (h : Hint) → IsIdHint h → line_of (stored store) h ≡ line_of given (respelled id h)
  same_line h is = subst (λ (g : Hint). line_of (stored store) g ≡ line_of given (respelled id g)) (sym is.1) (same_id is.0)

  pub same_named : (hints : List Hint) → All IsIdHint hints → named (stored store) hints ≡ named given (map (respelled id) hints)
  unfolding named
  same_named [] each = refl
  same_named (h ∷ hints) each =
      ap (λ (o : Option ConstraintValue). before o (named (stored store) hints)) (same_line h (All-head IsIdHint h hints each))
      ∙ ap (before (line_of given (respelled id h))) (same_named hints (All-tail IsIdHint h hints each))

opposites_merged : (terms : List (Literal × ℕ)) → IsMerged terms → IsMerged (opposite_terms terms)
opposites_merged terms merged = record {
  positive = All-map (λ t. 0 < t.1) (λ (t : Literal × ℕ). (opposite t.0, t.1)) terms merged.positive;
  from_one = All-map (λ t. 0 < t.0.var) (λ (t : Literal × ℕ). (opposite t.0, t.1)) terms merged.from_one;
  rising = AllPairs-map (λ s t. s.0.var < t.0.var) (λ (t : Literal × ℕ). (opposite t.0, t.1)) (λ t. t) terms merged.rising;
}

pub negation_plain : (n : ℕ) (c : ConstraintValue) → IsMerged c.terms → UpTo n c → IsPlain n (negation c)
negation_plain n c merged upto = record {
  merged = opposites_merged c.terms merged;
  upto = negation_upto n c upto;
}

module _ (s : StateValue) (goal : ConstraintValue) (id : ℕ) (state : IsState s) (normal : IsNormal goal.terms goal.degree) (upto : UpTo s.vars goal) where
  abbrev Fine : ConstraintValue → Type 0
  Fine = IsPlain s.vars

  pub line_fine : (h : Hint) (c : ConstraintValue) → line_of (given s (negation goal) id) h ≡ Some c → Fine c
  line_fine (IdHint i) c is = record { merged = (state.normal i c is).merged; upto = state.variables i c is }
  line_fine Negated c is =
      let same : negation goal ≡ c = cc in
      subst Fine same (negation_plain s.vars goal normal.merged upto)
  line_fine Denied c is = cc

  pub legal_respelled : (hints : List Hint) → Conflicts (replicate s.vars None) (named (stored (store s (negation goal) id)) hints) → All IsIdHint hints → IsHintsFault s (negation goal) None (map (respelled id) hints) RupOpen None
  legal_respelled hints found ids =
      let here : Conflicts (replicate s.vars None) (named (given s (negation goal) id) (map (respelled id) hints)) = subst (Conflicts (replicate s.vars None)) (same_named s (negation goal) id hints ids) found in
      let fine = named_all Fine (given s (negation goal) id) (map (respelled id) hints) line_fine in
      (Ok tt, conflicts_after s.vars (replicate s.vars None) (negation goal) (named (given s (negation goal) id) (map (respelled id) hints)) fine (omega (arith, length-replicate {A = Option Bool} s.vars None)) here, refl)

-- hints over the live lines and the negation of the goal, which is stored under an id that isn't live, prove the goal
pub stored_hints_law : (s : StateValue) (goal : ConstraintValue) (id : ℕ) (hints : List Hint) → IsState s → IsNormal goal.terms goal.degree → UpTo s.vars goal → get s.live id ≡ None
    → Conflicts (replicate s.vars None) (named (stored (insert s.live id (negation goal))) hints)
    → All (λ h. (i : ℕ) × (h ≡ IdHint i)) hints
    → IsHintsFault s (negation goal) None (map (respelled id) hints) RupOpen None
stored_hints_law s goal id hints state normal upto fresh found ids = legal_respelled s goal id state normal upto hints found ids
