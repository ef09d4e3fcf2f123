use Rattle.std.proofs.Common.{length}
use Rattle.pb_lin.specs.Constraint.{ones}
use Rattle.proof_lines.specs.Reading.{IsTerm, term_words, words_from, words_of}
use Rattle.proof_lines.proofs.Codes.{AnyFollows}
use Rattle.proof_lines.proofs.Items.{ItemsSoFar}
use Rattle.proof_lines.proofs.TermLists.{IsSum}
use Rattle.proof_lines.proofs.short.units_from_start.Given as goal

abbrev pub invariant-loop-at : goal.invariant-loop-at
invariant-loop-at l = record {
  so_far : ItemsSoFar term_words IsTerm AnyFollows (words_of l.text) (words_from l.text l.at) (ones l.lits);
  sum : IsSum (ones l.lits) l.last (length l.lits);
}

abbrev pub decreases-loop-at : goal.decreases-loop-at
decreases-loop-at l = length (words_from l.text l.at)
