use Rattle.std.proofs.Common.{◌<◌, sym, subst, refl}
use Rattle.cdcl_trail.specs.Rank.{rank}
use Rattle.cdcl_state.specs.Analysis.{IsLesson}
use Rattle.cdcl_core.specs.Work.{SolverValue, IsLed, KeepsLed}
use Rattle.cdcl_core.specs.Learnable.{IsForcedBySome}
use Rattle.cdcl_core.proofs.LearnedStep.{rises, led_after}
use Rattle.cdcl_core.proofs.LearnedLesson.{ok_then}
use Rattle.cdcl_core.proofs.Turns.{vars_back}
use Rattle.cdcl_core.proofs.Working.{learns_unchanged, steps_none, working_searched}
use Rattle.cdcl_core.proofs.solver.Solver.learn.Goals as goal

pub returns-in_err-distance-clause-steps : goal.returns-in_err-distance-clause-steps
returns-in_err-distance-clause-steps g c = steps_none g.R.Recorder.seen _ _ _ refl refl refl refl c.requires.working

pub returns-in_err-distance-clause-learns : goal.returns-in_err-distance-clause-learns
returns-in_err-distance-clause-learns g c = learns_unchanged g.R.Recorder.seen c.args.self.now _ _ refl refl

pub learn_line-requires-clause-working : goal.learn_line-requires-clause-working
learn_line-requires-clause-working g c =
    working_searched g.R.Recorder.seen _ _ _ c.self.view_is refl c.back_to.ensures.store (vars_back _ _ _ c.back_to.ensures.trail) c.requires.working

pub returns-clause-rises : goal.returns-clause-rises
returns-clause-rises g c =
    let lesson = subst (λ (s : SolverValue _). IsLesson s.search.store s.search.trail c.args.lesson) (sym c.self.view_is) c.requires.lesson in
    let new = c.learn_line.new.self.search.trail in
    ok_then (IsForcedBySome c.back_to.new.self.trail new c.args.lesson.lit c.args.lesson.level) (rank c.args.self.now.search.trail < rank new) c.learn_line.result
    (λ forced. subst (λ (s : SolverValue _). rank s.search.trail < rank new) c.self.view_is
    (rises _ _ _ _ _ _ _ _ c.level-level.ensures.search lesson.asserting c.back_to.ensures.trail forced))
    c.learn_line.ensures.forced

pub returns-clause-led : goal.returns-clause-led
returns-clause-led g c =
    let new = c.learn_line.new.self.search.trail in
    ok_then (IsForcedBySome c.back_to.new.self.trail new c.args.lesson.lit c.args.lesson.level) (KeepsLed c.args.self.now.search.trail new) c.learn_line.result
    (λ forced assumptions led. led_after _ _ _ _ _ assumptions c.back_to.ensures.trail forced
    (subst (λ (s : SolverValue _). IsLed assumptions s.search.trail) (sym c.self.view_is) led))
    c.learn_line.ensures.forced
