use Rattle.std.proofs.Common.{◌≡◌, ◌++◌, All, take}
use Rattle.std.specs.List.{flat_map}
use Rattle.command_gen.specs.Printed.{AreVariables, hard_line}
use Rattle.command_gen.proofs.printing.append_clauses.Given as goal

abbrev pub invariant-loop-at : goal.invariant-loop-at
invariant-loop-at l = record {
  text : l.text.items ≡ l.fn.text.items ++ flat_map hard_line (take l.at l.clauses);
  variables : All AreVariables (take l.at l.clauses);
}
