use Rattle.std.proofs.Common.{take}
use Rattle.linear_search.proofs.Assuming.{AreRising}
use Rattle.linear_search.proofs.closing.may_be_assumed.Given as goal

abbrev pub invariant-loop-lit : goal.invariant-loop-lit
invariant-loop-lit l = AreRising l.vars l.last (take l.lit-index l.lits)
