use Rattle.std.proofs.Common.{inl, refl}
use Rattle.command_base.proofs.Answered.{idle}
use Rattle.command_elaborate.specs.Table.{ElaborateTable, elaborate_calls}
use Rattle.command_elaborate.proofs.Elaborate.begin.Goals as goal

pub returns-in-Err : goal.returns-in-Err
returns-in-Err g c =
    let a = c.args.self.now in
    rw c.from.ensures (idle (ElaborateTable a) (elaborate_calls a) (g.H.Shelf.world c.args.shelf.now) (inl refl))
