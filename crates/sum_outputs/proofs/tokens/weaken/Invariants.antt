-- The variables of the terms so far are weakened.
use Rattle.std.proofs.Common.{◌≡◌, ◌++◌, take}
use Rattle.sum_outputs.specs.ClauseTokens.{weakens}
use Rattle.sum_outputs.proofs.tokens.weaken.Given as goal

abbrev pub invariant-loop-term : goal.invariant-loop-term
invariant-loop-term l = l.tokens ≡ l.initial.tokens ++ weakens (take l.term-index l.weakened)
