use Rattle.std.proofs.Common.{List, subst, sym}
use Rattle.std.specs.Prelude.{Option}
use Rattle.scut_base.specs.Files.{Files}
use Rattle.proof_laws.specs.declared.line.Line.{Line}
use Rattle.command_base.proofs.Answered.{earlier}
use Rattle.command_trim.specs.Keeping.{IsProved}
use Rattle.command_trim.specs.Table.{TrimTable, trim_calls}
use Rattle.command_trim.specs.Words.{asked}
use Rattle.command_trim.proofs.TrimEnds.{log_stopped}
use Rattle.command_trim.proofs.Trim.judge.Goals as goal

pub proved_lines-requires : goal.proved_lines-requires
proved_lines-requires g c = record { entries = rw c.as_slice-entries.ensures c.requires.vectors }

pub trim-requires : goal.trim-requires
trim-requires g c =
    let a = asked c.args.self.now in
    let before = (g.H.Shelf.world c.args.shelf.now).files in
    let l = c.args.listed.now in
    let e = rw c.as_slice-entries.ensures at c.in-Ok.ensures in
    subst (λ (files : Option Files). IsProved files a l.input.inst l.entries l.input.problem c.as_slice.result.now) (sym c.in-Ok.ensures.only_reads.files)
    (subst (λ (lines : List Line). IsProved before a l.input.inst l.entries l.input.problem lines) (sym c.as_slice.ensures)
    (record { listed = c.requires; proof = e.proof; few = e.few }))

pub returns-in-Err : goal.returns-in-Err
returns-in-Err g c =
    let w = g.H.Shelf.world in
    let l = c.args.listed.now in
    let e = rw c.as_slice-entries.ensures at c.in-Err.ensures in
    rw c.from.ensures
    (log_stopped (asked c.args.self.now) (w c.args.shelf.now) (w c.proved_lines.new.shelf) l.input.inst l.input.problem l.entries c.requires e.only_reads c.in-Err.stop e.stop)

pub returns-in-Ok : goal.returns-in-Ok
returns-in-Ok g c =
    let w = g.H.Shelf.world in
    let a = asked c.args.self.now in
    earlier (TrimTable a) (trim_calls a) _ (w c.args.shelf.now) (w c.proved_lines.new.shelf) _ c.in-Ok.ensures.only_reads c.trim.ensures
