use Rattle.std.proofs.Common.{◌≡◌, map, take}
use Rattle.harden.specs.Hardened.{row_proof}
use Rattle.harden.proofs.fixing.row_proofs.Given as goal

abbrev pub invariant-loop-id : goal.invariant-loop-id
invariant-loop-id l = l.proofs ≡ map row_proof (take l.id-index l.rows)
