use Rattle.std.proofs.Common.{◌≡◌, [], replicate}
use Rattle.mcnf_reader.specs.Grammar.{objective_at}
use Rattle.mcnf_reader.proofs.draft.empty_objectives.Given as goal

abbrev pub invariant-loop : goal.invariant-loop
invariant-loop l = l.objectives.items ≡ replicate l.counter (objective_at [] 1)
