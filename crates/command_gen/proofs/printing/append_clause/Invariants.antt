use Rattle.std.proofs.Common.{◌≡◌, ◌++◌, take}
use Rattle.std.specs.List.{flat_map}
use Rattle.command_gen.specs.Printed.{AreVariables, literal_text}
use Rattle.command_gen.proofs.printing.append_clause.Given as goal

abbrev pub invariant-loop-lit : goal.invariant-loop-lit
invariant-loop-lit l = record {
  text : l.text.items ≡ l.fn.text.items ++ flat_map literal_text (take l.lit-index l.lits);
  variables : AreVariables (take l.lit-index l.lits);
}
