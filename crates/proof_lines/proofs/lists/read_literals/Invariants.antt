use Rattle.std.proofs.Common.{length}
use Rattle.proof_laws.specs.WellFormed.{IsVariable}
use Rattle.proof_lines.specs.LineText.{literal_word}
use Rattle.proof_lines.proofs.WordParts.{WordsSoFar}
use Rattle.proof_lines.proofs.lists.read_literals.Given as goal

abbrev pub invariant-loop-words : goal.invariant-loop-words
invariant-loop-words l = WordsSoFar literal_word (λ l. IsVariable l.var) l.fn.words l.words l.lits

abbrev pub decreases-loop-words : goal.decreases-loop-words
decreases-loop-words l = length l.words
