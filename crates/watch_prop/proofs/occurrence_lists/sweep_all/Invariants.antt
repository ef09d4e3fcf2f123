use Rattle.std.proofs.Common.{◌≡◌, ℕ, true, length, get_or}
use Rattle.watch_prop.specs.Counting.{AreOfSlots, line_at, listed, no_list}
use Rattle.watch_prop.proofs.occurrence_lists.sweep_all.Given as goal

abbrev pub invariant-loop-place : goal.invariant-loop-place
invariant-loop-place l = record {
  len : length l.lists.items ≡ length l.fn.lists.items;
  code : (i : ℕ) → (get_or l.lists.items i no_list).code ≡ (get_or l.fn.lists.items i no_list).code;
  slots : (n i : ℕ) → AreOfSlots n (get_or l.fn.lists.items i no_list).items → AreOfSlots n (get_or l.lists.items i no_list).items;
  same : (i j : ℕ) → (line_at l.lines j).live ≡ true → listed j (get_or l.lists.items i no_list).items ≡ listed j (get_or l.fn.lists.items i no_list).items;
}
