use Rattle.std.proofs.Common.{◌≡◌, length}
use Rattle.cdcl_state.specs.Order.{SameWait}
use Rattle.cdcl_state.proofs.waiting.bump_all.Given as goal

abbrev pub invariant-loop-lit : goal.invariant-loop-lit
invariant-loop-lit l = record {
  waiting : SameWait l.fn.order l.order;
  known : length l.order.activities ≡ length l.fn.order.activities;
}
