use Rattle.std.proofs.Common.{◌≡◌, ◌+◌, ◌++◌, All, take}
use Rattle.command_gen.specs.Printed.{IsPrintable, soft_lines}
use Rattle.command_gen.proofs.printing.append_objectives.Given as goal

abbrev pub invariant-loop-objective : goal.invariant-loop-objective
invariant-loop-objective l = record {
  number : l.number ≡ l.objective-index + 1;
  text : l.text.items ≡ l.fn.text.items ++ soft_lines 1 (take l.objective-index l.objectives);
  variables : All (λ o. All IsPrintable o.softs) (take l.objective-index l.objectives);
}
