use Rattle.std.proofs.Common.{◌≡◌, ◌++◌, take}
use Rattle.std.specs.List.{flat_map}
use Rattle.command_trim.specs.Trimmed.{proof_ids}
use Rattle.command_trim.proofs.ids.push_proofs.Given as goal

abbrev pub invariant-loop-proof : goal.invariant-loop-proof
invariant-loop-proof l = l.ids ≡ l.fn.ids ++ flat_map (λ q. proof_ids q.1) (take l.proof-index l.proofs)
