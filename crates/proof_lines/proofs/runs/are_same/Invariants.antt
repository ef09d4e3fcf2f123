use Rattle.std.proofs.Common.{◌≡◌, take}
use Rattle.proof_lines.proofs.runs.are_same.Given as goal

abbrev pub invariant-loop-at : goal.invariant-loop-at
invariant-loop-at l = take l.at l.pieces ≡ take l.at l.others
