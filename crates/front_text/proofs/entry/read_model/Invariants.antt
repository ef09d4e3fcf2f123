use Rattle.std.proofs.Common.{length}
use Rattle.front_text.proofs.Models.{ValuesSoFar}
use Rattle.front_text.proofs.entry.read_model.Given as goal

abbrev pub invariant-loop-values : goal.invariant-loop-values
invariant-loop-values l = ValuesSoFar l.fn.cursor l.cursor l.values

abbrev pub decreases-loop-values : goal.decreases-loop-values
decreases-loop-values l = length l.cursor
