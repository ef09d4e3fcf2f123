use Rattle.std.proofs.Common.{length}
use Rattle.proof_laws.specs.WellFormed.{IsToken}
use Rattle.proof_lines.specs.LineText.{token_words}
use Rattle.proof_lines.specs.Reading.{FollowsToken}
use Rattle.proof_lines.proofs.Items.{ItemsSoFar}
use Rattle.proof_lines.proofs.tokens.read_tokens.Given as goal

abbrev pub invariant-loop-word : goal.invariant-loop-word
invariant-loop-word l = ItemsSoFar (token_words l.fn.spelling) IsToken FollowsToken l.fn.words l.words l.tokens

abbrev pub decreases-loop-word : goal.decreases-loop-word
decreases-loop-word l = length l.words
