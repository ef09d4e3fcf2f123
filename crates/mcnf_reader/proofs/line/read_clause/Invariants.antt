use Rattle.std.proofs.Common.{◌≡◌, length}
use Rattle.mcnf_reader.specs.FirstFault.{clause_fault}
use Rattle.mcnf_reader.specs.LineLimits.{IsClauseWithin}
use Rattle.mcnf_reader.proofs.Clauses.{GoesOn}
use Rattle.mcnf_reader.proofs.line.read_clause.Given as goal

abbrev pub invariant-loop-word : goal.invariant-loop-word
invariant-loop-word l = record {
  within : IsClauseWithin l.lits;
  spelled : GoesOn l.fn.words l.words l.lits;
  same : clause_fault l.fn.words ≡ clause_fault l.words;
}

abbrev pub decreases-loop-word : goal.decreases-loop-word
decreases-loop-word l = length l.words
