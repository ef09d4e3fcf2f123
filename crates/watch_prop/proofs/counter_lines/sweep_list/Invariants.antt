use Rattle.std.proofs.Common.{◌≡◌, ◌≤◌, ℕ, true, length}
use Rattle.watch_prop.specs.Counting.{AreOfSlots, line_at, listed}
use Rattle.watch_prop.proofs.counter_lines.sweep_list.Given as goal

abbrev pub invariant-loop-at : goal.invariant-loop-at
invariant-loop-at l = record {
  short : l.at ≤ length l.list;
  slots : (n : ℕ) → AreOfSlots n l.fn.list → AreOfSlots n l.list;
  same : (j : ℕ) → (line_at l.lines j).live ≡ true → listed j l.list ≡ listed j l.fn.list;
}

abbrev pub decreases-loop-at : goal.decreases-loop-at
decreases-loop-at l = l.at
