use Rattle.std.specs.Prelude.{◌-◌}
use Rattle.std.proofs.Common.{◌∙◌, arith}
use Rattle.cdcl_state.proofs.marks.Marks.drop_steps.Goals as goal

pub drop_step-requires-clause-within : goal.drop_step-requires-clause-within
drop_step-requires-clause-within c =
    c.requires.within (c.down.left - 1) _ (omega (arith, c.down.invariant.within, c.down-test.true))

pub down-preserved : goal.down-preserved
down-preserved c =
    let done = c.in_ok-drop_step.ensures in
    let before = c.down.invariant in
    record {
      within = omega (arith, before.within);
      walk = done.walk;
      room = done.room ∙ before.room;
      least = done.least ∙ before.least;
      closing = λ end start. done.closing end (before.closing end start);
    }
