use Rattle.std.proofs.Common.{inl, refl}
use Rattle.command_base.proofs.Answered.{idle}
use Rattle.command_gen.specs.Table.{GenTable, gen_calls}
use Rattle.command_gen.specs.Words.{asked}
use Rattle.command_gen.proofs.GenCommand.run.Goals as goal

pub returns-in-Err : goal.returns-in-Err
returns-in-Err g c =
    let a = asked c.args.self.now in
    rw c.from.ensures (idle (GenTable a) (gen_calls a) (g.H.Shelf.world c.args.shelf.now) (inl (record { files = inl refl; said = refl })))
