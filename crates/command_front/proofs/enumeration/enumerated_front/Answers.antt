use Rattle.command_front.proofs.Enumerated.{entries_are_bounded}
use Rattle.command_front.proofs.ListedFront.{listed_is_front}
use Rattle.command_front.proofs.enumeration.enumerated_front.Goals as goal

pub listed-requires : goal.listed-requires
listed-requires c = entries_are_bounded c.args.inst.now c.in_ok-front.front _ c.in_ok-front.ensures

pub returns : goal.returns
returns c = listed_is_front c.args.inst.now c.in_ok-front.front c.listed.result c.in_ok-front.ensures c.listed.ensures.same c.listed.ensures.rising
