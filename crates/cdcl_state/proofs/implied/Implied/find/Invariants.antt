use Rattle.std.proofs.Common.{◌≡◌, length}
use Rattle.cdcl_state.specs.Minimising.{IsBusy}
use Rattle.cdcl_state.proofs.implied.Implied.find.Given as goal

abbrev pub invariant-loop-place : goal.invariant-loop-place
invariant-loop-place l = record {
  busy : IsBusy (length l.trail.steps) l.self;
  room : length l.self.memo.items ≡ length l.fn.self.memo.items;
}
