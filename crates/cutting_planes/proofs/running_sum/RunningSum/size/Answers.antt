use Rattle.cutting_planes.proofs.SlotTerms.{slots_size}
use Rattle.cutting_planes.proofs.running_sum.RunningSum.size.Goals as goal

pub returns-clause-value : goal.returns-clause-value
returns-clause-value c = slots_size c.self.inside.slots.items c.self.inside.total c.self.inside.degree _ c.self.invariant c.self.view_is
