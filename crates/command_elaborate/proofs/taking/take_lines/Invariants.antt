use Rattle.std.proofs.Common.{◌≡◌, ◌-◌, ◌<◌, ◌≤◌}
use Rattle.command_elaborate.specs.Kept.{IsTaken}
use Rattle.command_elaborate.proofs.taking.take_lines.Given as goal

abbrev pub invariant-loop-next : goal.invariant-loop-next
invariant-loop-next g l = record {
  taken : IsTaken l.state.live l.next l.search.store;
  within : l.next ≤ l.state.next_id;
  positive : 0 < l.next;
  trail : l.search.trail ≡ l.fn.search.trail;
}

abbrev pub decreases-loop-next : goal.decreases-loop-next
decreases-loop-next g l = l.state.next_id - l.next
