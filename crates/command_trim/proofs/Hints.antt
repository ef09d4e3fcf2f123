-- Hints under new ids lead to the same conflict.
use Rattle.std.specs.Prelude.{◌≡◌, ℕ, Bool, Option, Some, None, List, [], ◌∷◌, ◌++◌, replicate, Result, Ok, Err, refl}
use Rattle.std.proofs.Common.{inl, inr, sym, ◌∙◌, ap, subst}
use Rattle.std.specs.List.{flat_map}
use Rattle.std.specs.FinMap.{get}
use Rattle.std.proofs.lemmas.List.Elements.{All-head, All-tail}
use Rattle.pb_lin.specs.Constraint.{ConstraintValue}
use Rattle.pb_lin.specs.Given.{Given}
use Rattle.hint_rup.specs.Propagation.{forced, Conflicts}
use Rattle.hint_rup.specs.Hints.{line_of, before, named, IsReplayed}
use Rattle.hint_rup.specs.declared.hint.Hint.{Hint}
use Rattle.hint_rup.specs.declared.hint.Hint.TheVariants.{Id as IdHint, Negated, Denied}
use Rattle.hint_rup.specs.declared.hint.RupFault.{RupFault}
use Rattle.hint_rup.specs.declared.hint.RupFault.TheVariants.{NoSuchId as RupNoSuchId, Open}
use Rattle.hint_rup.proofs.Conflict.{conflicts_none, conflicts_here, conflicts_later, conflicts_cases}
use Rattle.proof_laws.specs.State.{StateValue}
use Rattle.proof_laws.specs.Refusal.{given_in, rup_fault, IsHintsFault}
use Rattle.proof_laws.specs.declared.why.Why.{Why}
use Rattle.command_trim.specs.Trimmed.{Renaming, new_id, hint_in_front, new_hints, hint_ids}
use Rattle.command_trim.specs.Simulation.{IsCarried, AreCarried}

-- more lines after those that conflict
pub conflicts_longer : (p : List (Option Bool)) (cs more : List ConstraintValue) → Conflicts p cs → Conflicts p (cs ++ more)
conflicts_longer p [] more found = absurd (conflicts_none p found)
conflicts_longer p (c ∷ cs) more found = elim (conflicts_cases p c cs found) [
  | inl violated ↦ conflicts_here p c (cs ++ more) violated
  | inr later ↦ conflicts_later p c (cs ++ more) (conflicts_longer (forced p c) cs more later)
]

named_none : (given : Given) → named given [] ≡ []
unfolding named
named_none given = refl

module _ (r : Renaming) (s t : StateValue) (negated denied : Option ConstraintValue) where
  abbrev old : Given
  old = given_in s negated denied

  abbrev new : Given
  new = given_in t negated denied

  -- the lines that the new hints name begin with those of the old ones
  abbrev Longer : List ConstraintValue → List ConstraintValue → Type 0
  Longer cs ds = (more : List ConstraintValue) × (ds ≡ cs ++ more)

  named_more : (h : Hint) (hints : List Hint) (c : ConstraintValue) (given : Given) → line_of given h ≡ Some c → named given (h ∷ hints) ≡ c ∷ named given hints
  unfolding named
  named_more h hints c given is = ap (λ (o : Option ConstraintValue). before o (named given hints)) is

  named_stop : (h : Hint) (hints : List Hint) (given : Given) → line_of given h ≡ None → named given (h ∷ hints) ≡ []
  unfolding named
  named_stop h hints given is = ap (λ (o : Option ConstraintValue). before o (named given hints)) is

  -- a hint that isn't renamed
  plain : (h : Hint) (hints : List Hint) (o : Option ConstraintValue) → line_of old h ≡ o → line_of new h ≡ o → Longer (named old hints) (named new (new_hints r hints)) → Longer (named old (h ∷ hints)) (named new (h ∷ new_hints r hints))
  plain h hints None was is rest = (named new (h ∷ new_hints r hints), ap (λ (cs : List ConstraintValue). cs ++ named new (h ∷ new_hints r hints)) (sym (named_stop h hints old was)))
  plain h hints (Some c) was is rest =
      (rest.0, named_more h (new_hints r hints) c new is ∙ ap (λ (cs : List ConstraintValue). c ∷ cs) rest.1 ∙ ap (λ (cs : List ConstraintValue). cs ++ rest.0) (sym (named_more h hints c old was)))

  by_line : (id : ℕ) (hints : List Hint) (o : Option ConstraintValue) → get s.live id ≡ o → ((c : ConstraintValue) → get s.live id ≡ Some c → IsCarried r s t id c) → Longer (named old hints) (named new (new_hints r hints)) → Longer (named old (IdHint id ∷ hints)) (named new (hint_in_front (new_id r id) (new_hints r hints)))
  by_line id hints None was carried rest = (named new (hint_in_front (new_id r id) (new_hints r hints)), ap (λ (cs : List ConstraintValue). cs ++ named new (hint_in_front (new_id r id) (new_hints r hints))) (sym (named_stop (IdHint id) hints old was)))
  by_line id hints (Some c) was carried rest =
      let there = carried c was in (
        rest.0,
        ap (λ (o : Option ℕ). named new (hint_in_front o (new_hints r hints))) there.is
            ∙ named_more (IdHint there.new) (new_hints r hints) c new there.there
            ∙ ap (λ (cs : List ConstraintValue). c ∷ cs) rest.1
            ∙ ap (λ (cs : List ConstraintValue). cs ++ rest.0) (sym (named_more (IdHint id) hints c old was)),
      )

  named_longer : (hints : List Hint) → AreCarried r s t (flat_map hint_ids hints) → Longer (named old hints) (named new (new_hints r hints))
  named_longer [] carried = (named new [], ap (λ (cs : List ConstraintValue). cs ++ named new []) (sym (named_none old)))
  named_longer (IdHint id ∷ hints) carried =
      by_line id hints (get s.live id) refl (All-head (λ i. (c : ConstraintValue) → get s.live i ≡ Some c → IsCarried r s t i c) id (flat_map hint_ids hints) carried)
      (named_longer hints (All-tail (λ i. (c : ConstraintValue) → get s.live i ≡ Some c → IsCarried r s t i c) id (flat_map hint_ids hints) carried))
  named_longer (Negated ∷ hints) carried = plain Negated hints negated refl refl (named_longer hints carried)
  named_longer (Denied ∷ hints) carried = plain Denied hints denied refl refl (named_longer hints carried)

-- hints that lead to a conflict do so under new ids
pub hints_simulated : (r : Renaming) (s t : StateValue) (negated : ConstraintValue) (denied : Option ConstraintValue) (hints : List Hint) (why other : Why) → t.vars ≡ s.vars → AreCarried r s t (flat_map hint_ids hints) → IsHintsFault s negated denied hints why None → IsHintsFault t negated denied (new_hints r hints) other None
hints_simulated r s t negated denied hints why other vars carried fault = by_answer fault.0 fault.1 fault.2
  where
    by_answer : (answer : Result (Unit {0}) RupFault) → IsReplayed s.vars negated (given_in s (Some negated) denied) hints answer → None ≡ rup_fault why answer → IsHintsFault t negated denied (new_hints r hints) other None
    by_answer (Ok done) found none =
        let longer = named_longer r s t (Some negated) denied hints carried in
        let all : Conflicts (replicate s.vars None) (negated ∷ (named (given_in s (Some negated) denied) hints ++ longer.0)) = conflicts_longer (replicate s.vars None) (negated ∷ named (given_in s (Some negated) denied) hints) longer.0 found in (
          Ok tt,
          subst (λ (n : ℕ). Conflicts (replicate n None) (negated ∷ named (given_in t (Some negated) denied) (new_hints r hints))) (sym vars)
              (subst (λ (cs : List ConstraintValue). Conflicts (replicate s.vars None) (negated ∷ cs)) (sym longer.1) all),
          refl,
        )
    by_answer (Err (RupNoSuchId id)) found none = cc
    by_answer (Err Open) found none = cc
