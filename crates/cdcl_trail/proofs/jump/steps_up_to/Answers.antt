use Rattle.std.proofs.Common.{arith}
use Rattle.cdcl_trail.proofs.UpTo.{above_none, above_step, up_to_step, up_to_none}
use Rattle.cdcl_trail.proofs.jump.steps_up_to.Goals as goal

pub loop-keep-init : goal.loop-keep-init
loop-keep-init c = above_none _ _ _ c.len-keep.ensures.value

pub step_at-requires : goal.step_at-requires
step_at-requires c = omega (arith, c.loop-keep.invariant.within, c.loop-keep-test.true)

pub loop-keep-preserved : goal.loop-keep-preserved
loop-keep-preserved c = above_step _ _ _ _ c.loop-keep.invariant c.loop-keep-test.true c.step_at.ensures.value c.if-step_at-level.true

pub returns-else-step_at-level-clause-up_to : goal.returns-else-step_at-level-clause-up_to
returns-else-step_at-level-clause-up_to c = up_to_step _ _ _ _ c.requires c.loop-keep.invariant c.loop-keep-test.true c.step_at.ensures.value c.if-step_at-level.false

pub returns-else-step_at-level-clause-within : goal.returns-else-step_at-level-clause-within
returns-else-step_at-level-clause-within c = c.loop-keep.invariant.within

pub returns-after-loop-keep-clause-up_to : goal.returns-after-loop-keep-clause-up_to
returns-after-loop-keep-clause-up_to c = up_to_none _ _ _ c.loop-keep.invariant c.loop-keep-test.false
