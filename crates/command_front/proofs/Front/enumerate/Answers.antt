use Rattle.std.proofs.Common.{inl, refl}
use Rattle.command_base.proofs.Answered.{idle}
use Rattle.command_front.specs.Table.{FrontTable, front_calls}
use Rattle.command_front.specs.Words.{asked}
use Rattle.command_front.proofs.FrontEnds.{many_variables}
use Rattle.command_front.proofs.Front.enumerate.Goals as goal

pub returns-in-Err : goal.returns-in-Err
returns-in-Err g c =
    let a = asked c.args.self.now in
    rw c.from.ensures (idle (FrontTable a) (front_calls a) (g.H.Shelf.world c.args.shelf.now) (inl (refl, inl refl)))
