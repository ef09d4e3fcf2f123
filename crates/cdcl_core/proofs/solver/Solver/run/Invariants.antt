use Rattle.std.proofs.Common.{◌≡◌, ◌≤◌, ◌+◌, ◌-◌}
use Rattle.cdcl_trail.specs.Rank.{rest}
use Rattle.proof_rules.specs.Recording.{KeepsRecorder}
use Rattle.cdcl_core.specs.Ledgers.{left}
use Rattle.cdcl_core.specs.Work.{IsLed, IsWorking, LearnsAlone}
use Rattle.cdcl_core.proofs.solver.Solver.run.Given as goal

abbrev pub decreases-loop-since : goal.decreases-loop-since
decreases-loop-since g l = rest (50 - l.restarts + left l.self.ledger.reductions) l.self.search.trail

abbrev pub invariant-loop-since : goal.invariant-loop-since
invariant-loop-since g l =
    let seen = g.R.Recorder.seen in
    record {
      few : l.restarts ≤ 50;
      working : IsWorking seen l.self;
      led : IsLed l.assumptions l.self.search.trail;
      vars : l.self.search.trail.vars ≡ l.fn.self.search.trail.vars;
      learns : LearnsAlone seen l.fn.self l.self;
      limit : l.self.limit ≡ l.fn.self.limit;
      kept : KeepsRecorder (seen l.fn.self.recorder) (seen l.self.recorder);
    }
