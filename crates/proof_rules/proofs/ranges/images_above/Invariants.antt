use Rattle.std.proofs.Common.{◌≡◌, nat_lt, drop}
use Rattle.std.specs.List.{find, flat_map}
use Rattle.proof_laws.specs.Refusal.{image_variables}
use Rattle.proof_rules.proofs.ranges.images_above.Given as goal

abbrev pub invariant-loop-image : goal.invariant-loop-image
invariant-loop-image l = find (λ v. nat_lt l.n v) (flat_map image_variables l.images) ≡ find (λ v. nat_lt l.n v) (flat_map image_variables (drop l.image-index l.images))
