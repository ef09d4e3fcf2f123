use Rattle.std.proofs.Common.{◌≡◌, ◌≢◌, sym, subst, Some, refl, rules}
use Rattle.cdcl_core.specs.Work.{IsWorking, SolverValue}
use Rattle.cdcl_core.specs.Learnable.{IsLearnable, MayLearn}
use Rattle.cdcl_core.proofs.LearnedLesson.{spent_stops, may_learn}
use Rattle.cdcl_core.proofs.Working.{learns_unchanged, steps_none}
use Rattle.cdcl_core.proofs.solver.Solver.learn_line.Goals as goal

pub returns-then-eq-clause-ends : goal.returns-then-eq-clause-ends
returns-then-eq-clause-ends g c =
    let reached : c.self.inside.limit ≡ Some c.learned-learned.result = search rules in
    let working = subst (IsWorking g.R.Recorder.seen) (sym c.self.view_is) c.requires.working in
    let learnable = subst (λ (s : SolverValue _). IsLearnable s.search c.args.level c.args.lit c.args.line.now) (sym c.self.view_is)
    c.requires.learnable in
    rw (← c.self.view_is) (spent_stops g.R.Recorder.seen _ _ _ _ working learnable
    c.state-state.result.now c.spent.result c.learned-learned.result _ c.state-state.ensures.replays c.spent.ensures.full c.spent.ensures.spent reached c.learned-learned.ensures)

pub returns-then-eq-clause-steps : goal.returns-then-eq-clause-steps
returns-then-eq-clause-steps g c = steps_none g.R.Recorder.seen _ _ _ refl refl refl refl c.requires.working

pub returns-then-eq-clause-learns : goal.returns-then-eq-clause-learns
returns-then-eq-clause-learns g c = learns_unchanged g.R.Recorder.seen c.args.self.now _ _ refl refl

pub add_learned-requires-clause-more : goal.add_learned-requires-clause-more
add_learned-requires-clause-more g c =
    let other : c.self.inside.limit ≢ Some c.learned-learned.result = search rules in
    let seen = g.R.Recorder.seen in
    subst (λ (s : SolverValue _). MayLearn s.limit (seen s.recorder).problem (seen s.recorder).lines) c.self.view_is
    (may_learn _ _ _ c.state-state.result.now c.learned-learned.result c.state-state.ensures.replays c.learned-learned.ensures other)
