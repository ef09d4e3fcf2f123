use Rattle.std.proofs.Common.{◌≡◌, take}
use Rattle.hint_rup.specs.Negation.{true_count}
use Rattle.hint_rup.proofs.negated.has_true.Given as goal

abbrev pub invariant-loop-lit : goal.invariant-loop-lit
invariant-loop-lit l = true_count l.scratch (take l.lit-index l.lits) ≡ 0
