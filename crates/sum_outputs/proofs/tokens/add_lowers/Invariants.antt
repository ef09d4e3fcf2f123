-- The lines of the outputs so far are summed.
use Rattle.std.proofs.Common.{◌≡◌, map, take}
use Rattle.sum_outputs.specs.ClauseTokens.{named, summed}
use Rattle.sum_outputs.proofs.tokens.add_lowers.Given as goal

abbrev pub invariant-loop-part : goal.invariant-loop-part
invariant-loop-part l = l.tokens ≡ summed (named (map (λ o. o.lower) (take l.part-index l.parts)))
