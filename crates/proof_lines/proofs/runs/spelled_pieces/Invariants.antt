use Rattle.std.proofs.Common.{◌≡◌, ◌≤◌, ◌++◌, drop}
use Rattle.proof_lines.specs.Ids.{spelled_pieces}
use Rattle.proof_lines.specs.Pieces.{pieces_after}
use Rattle.proof_lines.proofs.runs.spelled_pieces.Given as goal

abbrev pub invariant-loop-id : goal.invariant-loop-id
invariant-loop-id l = record {
  order : l.piece.0 ≤ l.piece.1;
  to_come : l.pieces ++ pieces_after l.piece (drop l.id-index l.rest) ≡ spelled_pieces l.fn.ids;
}
