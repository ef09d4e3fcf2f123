use Rattle.std.proofs.Common.{◌≡◌, length}
use Rattle.engine_search.proofs.models.proposed.Given as goal

abbrev pub invariant-loop-var : goal.invariant-loop-var
invariant-loop-var l = length l.a ≡ l.vars
