use Rattle.std.proofs.Common.{◌≡◌, map}
use Rattle.std.specs.List.{range_with_len}
use Rattle.command_gen.specs.Draws.{state_after}
use Rattle.command_gen.specs.Generated.{drawn_item}
use Rattle.command_gen.proofs.making.draw_clause.Given as goal

abbrev pub invariant-loop-item : goal.invariant-loop-item
invariant-loop-item l = record {
  clause : l.clause ≡ map (drawn_item l.vars l.fn.draws) (range_with_len 1 l._item);
  state : l.draws ≡ state_after l._item l.fn.draws;
}
