-- The step that a learned clause forces, after the jump back.
use Rattle.std.proofs.Common.{◌≡◌, ◌≢◌, ℕ, ◌<◌, true, Some, List, [], ◌∷◌, take, All, arith, sym, ap, ◌∙◌, subst, inl, inr}
use Rattle.scut_base.specs.Literal.{Literal}
use Rattle.scut_base.specs.Assignment.{partial_truth}
use Rattle.pb_lin.specs.LineMap.{LineMap}
use Rattle.clause_prop.specs.Steps.{TrailValue, cut, partial, with_step}
use Rattle.clause_prop.specs.declared.step.Step.{Step}
use Rattle.cdcl_trail.specs.SearchTrail.{IsSearchTrail}
use Rattle.cdcl_trail.specs.Learning.{IsAsserting, asserted}
use Rattle.cdcl_trail.specs.Rank.{rank}
use Rattle.cdcl_trail.proofs.Moves.{cut_of_cut, cut_of_longer}
use Rattle.cdcl_trail.proofs.Places.{at_front, at_push}
use Rattle.cdcl_trail.proofs.Ranks.{learning_raises}
use Rattle.cdcl_state.specs.Searching.{IsBackTo}
use Rattle.cdcl_core.specs.Work.{IsLed}
use Rattle.cdcl_core.specs.Learnable.{IsForcedBySome}

pub rises : (store : LineMap) (old back new : TrailValue) (top level : ℕ) (lits : List Literal) (l : Literal) → IsSearchTrail store old → IsAsserting old top level lits l
    → IsBackTo level old back → IsForcedBySome back new l level → rank old < rank new
rises store old back new top level lits l search asserting jump forced =
    subst (λ (t : TrailValue). rank old < rank t) (sym (forced.2 ∙ ap (λ (t : TrailValue). with_step t (asserted l level forced.0)) jump.is))
    (learning_raises store old top level jump.keep forced.0 lits l search asserting jump.up_to)

-- what was true before a decision still is
led_before : (assumptions : List Literal) (old : TrailValue) (keep : ℕ) (l : Literal) (level id : ℕ) → id ≢ 0 → IsLed assumptions old
    → IsLed assumptions (with_step (cut old keep) (asserted l level id))
led_before assumptions old keep l level id some_reason led q s at none = elim (at_push (take keep old.steps) (asserted l level id) q s at) [
  | inl front ↦ (let was = at_front old.steps keep q s front.1 in
      let same : cut old q ≡ cut (with_step (cut old keep) (asserted l level id)) q =
      cut_of_cut old keep q (omega (arith, was.0)) ∙ cut_of_longer (cut old keep) (asserted l level id ∷ []) q (omega (arith, front.0)) in
      elim (led q s was.1 none) [
        | inl among ↦ inl among
        | inr assumed ↦ inr (subst (λ (t : TrailValue). All (λ m. partial_truth (partial t) m ≡ Some true) assumptions) same assumed)
      ])
  | inr pushed ↦ absurd (some_reason (ap (λ (x : Step). x.reason) pushed.1 ∙ none))
]

pub led_after : (old back new : TrailValue) (level : ℕ) (l : Literal) (assumptions : List Literal) → IsBackTo level old back → IsForcedBySome back new l level
    → IsLed assumptions old → IsLed assumptions new
led_after old back new level l assumptions jump forced led =
    subst (λ (t : TrailValue). IsLed assumptions t) (sym (forced.2 ∙ ap (λ (t : TrailValue). with_step t (asserted l level forced.0)) jump.is))
    (led_before assumptions old jump.keep l level forced.0 forced.1 led)
