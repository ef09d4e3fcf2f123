use Rattle.std.proofs.Common.{◌≡◌, length}
use Rattle.mopb_reader.specs.Tokens.{plain, tokens_of}
use Rattle.mopb_reader.specs.FirstFault.{first_fault}
use Rattle.mopb_reader.specs.Drafts.{IsDraft, GoesOn, draft_fault}
use Rattle.mopb_reader.proofs.reader.read_statements.Given as goal

abbrev pub invariant-loop-first : goal.invariant-loop-first
invariant-loop-first l = record {
  draft : IsDraft l.draft;
  so_far : GoesOn (tokens_of l.bytes) (plain l.tokens.left) l.draft;
  fault : first_fault l.bytes ≡ draft_fault l.tokens l.draft;
}

abbrev pub decreases-loop-first : goal.decreases-loop-first
decreases-loop-first l = length (plain l.tokens.left)
