use Rattle.std.proofs.Common.{◌∙◌, inl, refl}
use Rattle.command_base.proofs.Answered.{idle}
use Rattle.command_trim.specs.Table.{TrimTable, trim_calls}
use Rattle.command_trim.specs.Words.{asked}
use Rattle.command_trim.proofs.TrimEnds.{trimmed_text}
use Rattle.command_trim.proofs.Trim.trim.Goals as goal

pub write-requires : goal.write-requires
write-requires g c =
    let l = c.args.listed.now in
    trimmed_text (asked c.args.self.now) (g.H.Shelf.world c.args.shelf.now).files l.input.inst l.entries l.input.problem c.args.lines.now c.as_slice.result.now c.requires (c.as_slice.ensures ∙ c.in-Ok.ensures)

pub returns-in-Err : goal.returns-in-Err
returns-in-Err g c =
    let a = asked c.args.self.now in
    rw c.from.ensures (idle (TrimTable a) (trim_calls a) (g.H.Shelf.world c.args.shelf.now) (inl refl))
