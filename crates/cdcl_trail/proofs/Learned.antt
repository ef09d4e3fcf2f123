-- A learned clause is stored, and forces its literal where the jump ends.
use Rattle.std.proofs.Common.{◌≡◌, ◌≢◌, ℕ, ◌+◌, ◌<◌, ◌≤◌, None, List, length, take, arith, ap, sym, ◌∙◌, subst, inl, inr, ⊎_elim}
use Rattle.std.specs.List.{Contains}
use Rattle.std.specs.FinMap.{get, insert}
use Rattle.std.proofs.lemmas.Bool.{cases_lt}
use Rattle.std.proofs.lemmas.List.{length-take}
use Rattle.scut_base.specs.Literal.{Literal}
use Rattle.pb_lin.specs.LineMap.{LineMap}
use Rattle.pb_lin.specs.Propagation.{IsClosedUnder}
use Rattle.proof_laws.specs.Steps.{clause}
use Rattle.clause_prop.specs.Steps.{TrailValue, partial, cut, with_step}
use Rattle.clause_prop.specs.Propagating.{Forces}
use Rattle.clause_prop.specs.declared.step.Step.{Step}
use Rattle.cdcl_trail.specs.SearchTrail.{AreLines, IsStepAt, IsSearchTrail, IsLevelBefore, IsUpTo}
use Rattle.cdcl_trail.specs.Learning.{IsFalseAt, IsAsserting, asserted}
use Rattle.cdcl_trail.proofs.Places.{slice_get-take, at_front, pair_places}
use Rattle.cdcl_trail.proofs.Moves.{cut_of_cut}
use Rattle.cdcl_trail.proofs.Truths.{var_within}
use Rattle.cdcl_trail.proofs.Stores.{get_new, cut_law, added_line}
use Rattle.cdcl_trail.proofs.Pushes.{pushed, cut_whole}
use Rattle.cdcl_trail.proofs.Clauses.{two_left, left_forced}
use Rattle.cdcl_trail.proofs.Jumps.{stays, top_gone, shorter_law, open_at, left_after}

module _ (store : LineMap) (t : TrailValue) (top level keep : ℕ) (lits : List Literal) (l : Literal) (search : IsSearchTrail store t) (asserting : IsAsserting t top level lits l) (up_to : IsUpTo t level keep) where
  -- before a decision that stays two of the clause's literals are open: the one that will be forced, and one of the level
  wide_at : (p : ℕ) (s : Step) → p < keep → IsStepAt t p s → s.reason ≡ 0 → IsClosedUnder (partial (cut t p)) (clause lits)
  wide_at p s before at none =
      let decision = search.decided p s at none in
      let low = up_to.low p s before at in
      elim asserting.reached [
        | inl bottom ↦ absurd (let some_level = decision.positive in omega (arith, low, bottom, some_level))
        | inr reached ↦ two_open p s before decision.above low reached.0 reached.1 reached.2
      ]
    where
      two_open : (p : ℕ) (s : Step) → p < keep → ((q : ℕ) (r : Step) → q < p → IsStepAt t q r → r.level < s.level) → s.level ≤ level → (m : Literal) → Contains lits m → IsFalseAt t level m → IsClosedUnder (partial (cut t p)) (clause lits)
      two_open p s before above low m there g =
          let f = asserting.at_top in
          let past : keep ≤ f.place = top_gone t top level keep lits l asserting up_to in
          let kept : g.place < keep = stays t level keep g.place g.step up_to g.there (omega (arith, g.has)) in
          let after : p ≤ g.place = ⊎_elim
          (λ (less : g.place < p). absurd (let less_level = above g.place g.step less g.there in omega (arith, less_level, low, g.has)))
          (λ (more : p ≤ g.place). more)
          (cases_lt g.place p) in
          let apart = pair_places (λ (a b : Step). a.lit.var ≢ b.lit.var) t.steps g.place f.place g.step f.step search.steps.apart (omega (arith, kept, past)) g.there f.there in
          two_left (partial (cut t p)) lits m l there asserting.among
          (λ same. apart (ap (λ (x : Literal). x.var) g.is ∙ same ∙ ap (λ (x : Literal). x.var) (sym f.is)))
          (open_at t p (λ s. s.level ≡ level) m search.steps g after)
          (open_at t p (λ s. s.level ≡ top) l search.steps f (omega (arith, before, past)))

  wide_cut : (p : ℕ) (s : Step) → IsStepAt (cut t keep) p s → s.reason ≡ 0 → IsClosedUnder (partial (cut (cut t keep) p)) (clause lits)
  wide_cut p s at none =
      let old = at_front t.steps keep p s at in
      subst (λ (u : TrailValue). IsClosedUnder (partial u) (clause lits)) (cut_of_cut t keep p (omega (arith, old.0))) (wide_at p s old.0 old.1 none)

  cut_length : length (take keep t.steps) ≡ keep
  cut_length = let shorter = shorter_law t top level keep lits l asserting up_to in omega (arith, length-take keep t.steps, shorter)

  reached_before : IsLevelBefore (cut t keep) (length (take keep t.steps)) level
  reached_before = elim asserting.reached [
    | inl bottom ↦ inl bottom
    | inr reached ↦ inr (let g = reached.2 in
        let kept : g.place < keep = stays t level keep g.place g.step up_to g.there (omega (arith, g.has)) in
        (g.place, g.step, omega (arith, kept, cut_length), slice_get-take t.steps keep g.place kept ∙ g.there, g.has))
  ]

  level_low : level ≤ length (take keep t.steps) + 1
  level_low = elim reached_before [
    | inl bottom ↦ omega (arith, bottom)
    | inr b ↦ (let low = search.low b.0 b.1 (at_front t.steps keep b.0 b.1 b.3).1 in omega (arith, low, b.2, b.4))
  ]

  -- the literal's variable is within range
  lit_within : (0 < l.var) × (l.var ≤ t.vars)
  lit_within =
      let f = asserting.at_top in
      let range = var_within t.vars t.steps f.place f.step search.steps f.there in
      let same : f.step.lit.var ≡ l.var = ap (λ (m : Literal). m.var) f.is in
      (omega (arith, range.0, same), omega (arith, range.1, same))

  pub learned : (id : ℕ) → get store id ≡ None → id ≢ 0 → IsSearchTrail (insert store id (clause lits)) (with_step (cut t keep) (asserted l level id))
  learned id free positive =
      let left = left_after t top level keep lits l search.steps asserting up_to in
      pushed (insert store id (clause lits)) (cut t keep) (asserted l level id)
      (added_line store (cut t keep) id (clause lits) wide_cut free (cut_law store t keep search))
      lit_within.0 lit_within.1 left.is_open
      (λ zero_reason. absurd (positive zero_reason))
      (λ some_reason. record {
        line = clause lits;
        there = get_new store id (clause lits);
        forces = subst (λ (u : TrailValue). Forces (partial u) (clause lits) l) (sym (cut_whole (cut t keep))) (left_forced (partial (cut t keep)) lits l left);
        level = reached_before;
      })
      (λ p r at. let old = at_front t.steps keep p r at in up_to.low p r old.0 old.1)
      level_low

pub learning_law : (store : LineMap) (t : TrailValue) (top level keep id : ℕ) (lits : List Literal) (l : Literal) → AreLines t.vars store → IsSearchTrail store t → IsAsserting t top level lits l → IsUpTo t level keep → get store id ≡ None → id ≢ 0
    → IsSearchTrail (insert store id (clause lits)) (with_step (cut t keep) (asserted l level id))
learning_law store t top level keep id lits l lines search asserting up_to free positive = learned store t top level keep lits l search asserting up_to id free positive
