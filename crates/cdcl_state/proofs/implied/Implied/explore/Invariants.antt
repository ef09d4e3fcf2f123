use Rattle.std.proofs.Common.{◌≡◌, length}
use Rattle.cdcl_state.specs.Minimising.{IsBusy, effort}
use Rattle.cdcl_state.proofs.implied.Implied.explore.Given as goal

abbrev pub invariant-loop-self : goal.invariant-loop-self
invariant-loop-self l = record {
  busy : IsBusy (length l.trail.steps) l.self;
  room : length l.self.memo.items ≡ length l.fn.self.memo.items;
}

abbrev pub decreases-loop-self : goal.decreases-loop-self
decreases-loop-self l = effort l.left l.self
