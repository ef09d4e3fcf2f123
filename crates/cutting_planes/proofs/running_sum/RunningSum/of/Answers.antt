use Rattle.cutting_planes.proofs.SlotTerms.{counted_empty, start_if_some, start_small}
use Rattle.cutting_planes.proofs.running_sum.RunningSum.of.Goals as goal

pub invariant_of-nothing : goal.invariant_of-nothing
invariant_of-nothing c = counted_empty c.in_ok-empty_slots.field-0.items c.in_ok-empty_slots.ensures.slots c.in_ok-empty_slots.ensures.empty

pub plus-requires : goal.plus-requires
plus-requires c = start_small c.in_ok-empty_slots.field-0.items c.args.c.now c.in_ok-empty_slots.ensures.empty c.len-len.ensures.normal

pub returns : goal.returns
returns c = start_if_some c.in_ok-empty_slots.field-0.items c.plus.result c.args.c.now c.in_ok-empty_slots.ensures.empty c.len-len.ensures.normal c.plus.ensures
