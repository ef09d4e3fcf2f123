use Rattle.std.proofs.Common.{◌≡◌, ℕ, take, length}
use Rattle.watch_prop.specs.Counting.{line_at, listed, raised}
use Rattle.watch_prop.proofs.counter_lines.add.Given as goal

abbrev pub invariant-loop-entry : goal.invariant-loop-entry
invariant-loop-entry l = record {
  len : length l.lines.items ≡ length l.fn.lines.items;
  each : (j : ℕ) → line_at l.lines.items j ≡ raised (line_at l.fn.lines.items j) (listed j (take l.entry-index l.list));
}
