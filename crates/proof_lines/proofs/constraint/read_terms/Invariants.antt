use Rattle.std.proofs.Common.{length}
use Rattle.proof_lines.specs.Reading.{IsTerm, term_words}
use Rattle.proof_lines.proofs.Codes.{AnyFollows}
use Rattle.proof_lines.proofs.Items.{ItemsSoFar}
use Rattle.proof_lines.proofs.TermLists.{IsSum}
use Rattle.proof_lines.proofs.constraint.read_terms.Given as goal

abbrev pub invariant-loop-words : goal.invariant-loop-words
invariant-loop-words l = record {
  so_far : ItemsSoFar term_words IsTerm AnyFollows l.fn.words l.words l.terms;
  sum : IsSum l.terms l.last l.sum;
}

abbrev pub decreases-loop-words : goal.decreases-loop-words
decreases-loop-words l = length l.words
