use Rattle.std.proofs.Common.{◌≡◌, take}
use Rattle.mcnf_reader.specs.Grammar.{largest_of}
use Rattle.mcnf_reader.proofs.draft.largest_variable.Given as goal

abbrev pub invariant-loop-lit : goal.invariant-loop-lit
invariant-loop-lit l = l.largest ≡ largest_of (take l.lit-index l.fn.lits)
