use Rattle.std.proofs.Common.{◌≡◌, take}
use Rattle.std.specs.List.{flat_map}
use Rattle.proof_lines.specs.Ids.{piece_ids}
use Rattle.proof_lines.proofs.runs.ids_of.Given as goal

abbrev pub invariant-loop-piece : goal.invariant-loop-piece
invariant-loop-piece l = l.ids ≡ flat_map piece_ids (take l.piece-index l.pieces)
