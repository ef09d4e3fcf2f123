use Rattle.std.proofs.Common.{length}
use Rattle.proof_laws.specs.WellFormed.{IsHint}
use Rattle.proof_lines.specs.declared.spelling.Spelling.TheVariants.{Plain}
use Rattle.proof_lines.specs.LineText.{hint_word}
use Rattle.proof_lines.specs.Reading.{words_from, words_of}
use Rattle.proof_lines.proofs.WordParts.{WordsSoFar}
use Rattle.proof_lines.proofs.short.hints_from_start.Given as goal

abbrev pub invariant-loop-at : goal.invariant-loop-at
invariant-loop-at l = WordsSoFar (hint_word Plain) IsHint (words_of l.text) (words_from l.text l.at) l.hints

abbrev pub decreases-loop-at : goal.decreases-loop-at
decreases-loop-at l = length (words_from l.text l.at)
