use Rattle.std.specs.Prelude.{length}
use Rattle.std.proofs.Common.{arith}
use Rattle.cdcl_state.proofs.Judging.{idle_busy}
use Rattle.cdcl_state.proofs.walk.Walk.learn.Goals as goal

pub lesson-lesson-requires-clause-busy : goal.lesson-lesson-requires-clause-busy
lesson-lesson-requires-clause-busy c =
    idle_busy (length c.args.trail.now.steps) c.self.inside.implied c.self.invariant.1 (omega (arith, c.requires.room, c.self.invariant.2, c.len-steps.ensures.within, c.self.view_is))

pub clear-requires : goal.clear-requires
clear-requires c = (length c.args.trail.now.steps, c.lesson-lesson.ensures.marks)

pub clear-requires-2 : goal.clear-requires-2
clear-requires-2 c = (length c.args.trail.now.steps, c.lesson-lesson.ensures.busy)
