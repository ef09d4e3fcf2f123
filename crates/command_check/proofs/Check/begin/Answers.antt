use Rattle.command_base.proofs.Answered.{idle}
use Rattle.std.proofs.Common.{inl, refl}
use Rattle.command_check.specs.Table.{CheckTable, check_calls}
use Rattle.command_check.specs.Words.{asked}
use Rattle.command_check.proofs.Check.begin.Goals as goal

pub returns-in-Err : goal.returns-in-Err
returns-in-Err g c =
    let a = asked c.args.self.now in
    rw c.from.ensures (idle (CheckTable a) (check_calls a) (g.H.Shelf.world c.args.shelf.now) (record { files = refl; said = inl refl }))
