use Rattle.std.proofs.Common.{◌≡◌, map}
use Rattle.std.specs.List.{range_with_len}
use Rattle.command_gen.specs.Draws.{state_after}
use Rattle.command_gen.specs.Generated.{drawn_soft}
use Rattle.command_gen.proofs.making.draw_objective.Given as goal

abbrev pub invariant-loop-before : goal.invariant-loop-before
invariant-loop-before l = record {
  softs : l.softs ≡ map (drawn_soft l.fn.draws) (range_with_len 1 l.before);
  state : l.draws ≡ state_after l.before l.fn.draws;
}
