use Rattle.std.proofs.Common.{length, ◌-◌, ◌≤◌, ℕ, take}
use Rattle.std.specs.List.{All}
use Rattle.recording.specs.Advice.{IsConservative}
use Rattle.recording.proofs.advice.conservative_run.Given as goal

abbrev pub invariant-loop-count : goal.invariant-loop-count
invariant-loop-count l = record {
  bound : l.count ≤ length l.lines;
  conservative : All IsConservative (take l.count l.lines);
}

abbrev pub decreases-loop-count : goal.decreases-loop-count
decreases-loop-count l = length l.lines - l.count
