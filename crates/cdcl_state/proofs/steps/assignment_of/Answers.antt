use Rattle.std.proofs.Common.{◌+◌, length, subst, sym, ap, ◌∙◌, arith}
use Rattle.std.proofs.lemmas.List.{length-set}
use Rattle.cdcl_state.proofs.StepsBefore.{AreTrueBefore, true_step, true_all}
use Rattle.cdcl_state.proofs.steps.assignment_of.Goals as goal

pub loop-place-preserved : goal.loop-place-preserved
loop-place-preserved c = record {
  variables = ap length c.set.ensures ∙ length-set _ _ _ ∙ c.loop-place.invariant.variables;
  true_so_far = subst (AreTrueBefore c.args.trail.now (c.loop-place.place + 1)) (sym c.set.ensures)
      (true_step c.args.trail.now c.loop-place.place c.step_at.result c.loop-place.a c.step_at.ensures.steps c.step_at.ensures.value c.loop-place.invariant.variables c.loop-place.invariant.true_so_far);
}

pub returns-clause-steps : goal.returns-clause-steps
returns-clause-steps c = true_all c.args.trail.now c.loop-place.a c.len-place-end.ensures.steps
    (record { each = λ q s less at. c.loop-place.invariant.true_so_far.each q s (omega (arith, less, c.loop-place-test.false, c.len-place-end.ensures.value)) at })
