use Rattle.std.proofs.Common.{length}
use Rattle.proof_laws.specs.WellFormed.{IsHint}
use Rattle.proof_lines.specs.LineText.{hint_word}
use Rattle.proof_lines.proofs.WordParts.{WordsSoFar}
use Rattle.proof_lines.proofs.hints.read_hints.Given as goal

abbrev pub invariant-loop-spelling : goal.invariant-loop-spelling
invariant-loop-spelling l = WordsSoFar (hint_word l.fn.spelling) IsHint l.fn.words l.words l.hints

abbrev pub decreases-loop-spelling : goal.decreases-loop-spelling
decreases-loop-spelling l = length l.words
