use Rattle.std.proofs.Common.{◌≡◌, ◌++◌, All, take}
use Rattle.std.specs.List.{flat_map}
use Rattle.command_gen.specs.Printed.{IsPrintable, soft_line}
use Rattle.command_gen.proofs.printing.append_softs.Given as goal

abbrev pub invariant-loop-soft : goal.invariant-loop-soft
invariant-loop-soft l = record {
  text : l.text.items ≡ l.fn.text.items ++ flat_map (soft_line l.objective) (take l.soft-index l.softs);
  variables : All IsPrintable (take l.soft-index l.softs);
}
