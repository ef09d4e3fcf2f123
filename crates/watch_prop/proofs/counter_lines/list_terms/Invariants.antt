use Rattle.std.proofs.Common.{◌≡◌, ℕ, ◌+◌, ◌<◌, take}
use Rattle.watch_prop.specs.Counting.{AreOfSlots, coefficient_at, list_at, listed}
use Rattle.watch_prop.proofs.counter_lines.list_terms.Given as goal

abbrev pub invariant-loop-at : goal.invariant-loop-at
invariant-loop-at l = record {
  slots : (code : ℕ) → AreOfSlots (l.slot + 1) (list_at l.lists code);
  others : (code j : ℕ) → j < l.slot → listed j (list_at l.lists code) ≡ listed j (list_at l.fn.lists code);
  listed : (code : ℕ) → listed l.slot (list_at l.lists code) ≡ coefficient_at (take l.at l.line.terms) code;
}
