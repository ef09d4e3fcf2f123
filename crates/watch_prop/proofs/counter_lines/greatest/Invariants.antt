use Rattle.std.proofs.Common.{◌≤◌, ◌^◌, take}
use Rattle.std.specs.List.{All}
use Rattle.watch_prop.proofs.counter_lines.greatest.Given as goal

abbrev pub invariant-loop-at : goal.invariant-loop-at
invariant-loop-at l = record {
  all : All (λ t. t.1 ≤ l.greatest) (take l.at l.line.terms);
  small : l.greatest ≤ 2 ^ 100;
}
