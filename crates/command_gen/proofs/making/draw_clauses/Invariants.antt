use Rattle.std.proofs.Common.{◌≡◌, ◌*◌, map}
use Rattle.std.specs.List.{range_with_len}
use Rattle.command_gen.specs.Draws.{state_after}
use Rattle.command_gen.specs.Generated.{nth_clause}
use Rattle.command_gen.proofs.making.draw_clauses.Given as goal

abbrev pub invariant-loop-clause : goal.invariant-loop-clause
invariant-loop-clause l = record {
  clauses : l.clauses ≡ map (nth_clause l.vars l.fn.draws) (range_with_len 0 l._clause);
  state : l.draws ≡ state_after (3 * l._clause) l.fn.draws;
}
