use Rattle.std.proofs.Common.{length}
use Rattle.proof_laws.specs.WellFormed.{IsId}
use Rattle.proof_lines.specs.Ids.{id_word}
use Rattle.proof_lines.proofs.WordParts.{WordsSoFar}
use Rattle.proof_lines.proofs.lists.read_ids.Given as goal

abbrev pub invariant-loop-spelling : goal.invariant-loop-spelling
invariant-loop-spelling l = WordsSoFar (id_word l.fn.spelling) IsId l.fn.words l.words l.ids

abbrev pub decreases-loop-spelling : goal.decreases-loop-spelling
decreases-loop-spelling l = length l.words
