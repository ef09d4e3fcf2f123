use Rattle.std.proofs.Common.{◌≡◌, ◌*◌, map}
use Rattle.std.specs.List.{range_with_len}
use Rattle.command_gen.specs.Draws.{state_after}
use Rattle.command_gen.specs.Generated.{nth_objective}
use Rattle.command_gen.proofs.making.draw_objectives.Given as goal

abbrev pub invariant-loop-objective : goal.invariant-loop-objective
invariant-loop-objective l = record {
  objectives : l.objectives ≡ map (nth_objective l.vars l.fn.draws) (range_with_len 0 l._objective);
  state : l.draws ≡ state_after (l.vars * l._objective) l.fn.draws;
}
