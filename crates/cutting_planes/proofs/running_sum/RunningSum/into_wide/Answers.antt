use Rattle.std.proofs.Common.{sym, subst}
use Rattle.pb_lin.specs.Constraint.{IsNormal}
use Rattle.cutting_planes.proofs.Terms.{Terms}
use Rattle.cutting_planes.proofs.SlotTerms.{normal_slots}
use Rattle.cutting_planes.proofs.running_sum.RunningSum.into_wide.Goals as goal

pub from_parts-requires : goal.from_parts-requires
from_parts-requires c = subst (λ (ts : Terms). IsNormal ts c.self.inside.degree) (sym c.nonzero_terms.ensures) (normal_slots c.self.inside.slots.items c.self.inside.total c.self.inside.degree c.self.invariant)
