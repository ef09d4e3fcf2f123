use Rattle.std.proofs.Common.{arith, ap, ◌∙◌, refl}
use Rattle.clause_prop.specs.declared.step.Step.{Step}
use Rattle.cdcl_state.proofs.Marking.{place_within}
use Rattle.cdcl_state.proofs.TrailSteps.{step_same}
use Rattle.cdcl_state.proofs.ForcedBy.{open_other, place_other}
use Rattle.cdcl_state.proofs.steps.earlier.Goals as goal
use Rattle.cdcl_state.proofs.steps.earlier.Goals.{then-at-place-via-then-at-place, then-at-place-via-else-at-place+then-step_at-id}

pub returns-in_default-clause-other : goal.returns-in_default-clause-other
returns-in_default-clause-other c = open_other c.args.trail.now c.args.place c.args.id c.args.lit c.len-steps.ensures.steps c.in_default.ensures

pub step_at-requires : goal.step_at-requires
step_at-requires c = place_within c.args.trail.now c.args.lit.var c.in-Some.at c.in-Some.ensures

pub returns-then-at-place-clause-other : goal.returns-then-at-place-clause-other
returns-then-at-place-clause-other c =
    let t = c.args.trail.now in
    elim c.then-at-place.branch [
      | then-at-place-via-then-at-place w ↦ place_other t c.args.place c.args.id c.args.lit c.len-steps.ensures.steps c.in-Some.at c.in-Some.ensures (λ s there before. absurd (omega (arith, w.if-at-place.true, before)))
      | then-at-place-via-else-at-place+then-step_at-id w ↦ place_other t c.args.place c.args.id c.args.lit c.len-steps.ensures.steps c.in-Some.at c.in-Some.ensures (λ s there before same.
          w.if-step_at-id.true (ap (λ (r : Step). r.reason) (step_same t c.in-Some.at c.in-Some.at w.step_at.result s w.step_at.ensures.value there refl) ∙ same))
    ]

pub returns-clause-other : goal.returns-clause-other
returns-clause-other c = place_other c.args.trail.now c.in-Some.at c.args.id c.args.lit c.len-steps.ensures.steps c.in-Some.at c.in-Some.ensures (λ s there before. absurd (omega (arith, before)))
