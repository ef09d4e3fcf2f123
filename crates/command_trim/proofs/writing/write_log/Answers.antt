use Rattle.std.proofs.Common.{◌≡◌, ◌∙◌, ap, arith, subst, sym}
use Rattle.std.specs.Prelude.{IsSome}
use Rattle.scut_base.specs.Files.{content, with_appended, with_file}
use Rattle.scut_base.proofs.FileLaws.{appended_by, on_err_anyway, there_by}
use Rattle.proof_lines.specs.LineText.{printed}
use Rattle.proof_text.specs.Recorders.{IsPutPartly}
use Rattle.proof_text.specs.Writing.{WriterValue, writer_after}
use Rattle.command_trim.proofs.WrittenLines.{header_partly, next_partly, text_more}
use Rattle.command_trim.proofs.writing.write_log.Goals as goal

pub returns-in_err-writer-clause-partly : goal.returns-in_err-writer-clause-partly
returns-in_err-writer-clause-partly g c =
    on_err_anyway _ (header_partly _ _ c.args.output.now c.args.lines.now c.in_err-writer.ensures.refused)

pub write-requires-clause-there : goal.write-requires-clause-there
write-requires-clause-there g c = λ told.
    let i = c.loop-line.invariant in
    subst (λ (w : WriterValue). IsSome (content (g.H.Shelf.world c.loop-line.shelf).files w.name)) (sym i.writer) (there_by _ _ _ _ i.written told)

pub returns-in_err-write-clause-partly : goal.returns-in_err-write-clause-partly
returns-in_err-write-clause-partly g c =
    let i = c.loop-line.invariant in
    let line = c.line-item.result in
    on_err_anyway _ (next_partly _ _ _ c.args.output.now c.args.lines.now c.loop-line.line-index line c.loop-line-test.true c.line-item.is i.written
    (subst (λ (w : WriterValue). IsPutPartly (g.H.Shelf.world c.loop-line.shelf).files (g.H.Shelf.world c.write.new.shelf).files w.name (printed w.next line)) i.writer c.in_err-write.ensures.partly))

pub loop-line-preserved : goal.loop-line-preserved
loop-line-preserved g c =
    let i = c.loop-line.invariant in
    let line = c.line-item.result in
    record {
      written = appended_by _ _ _ _ _ _ i.written
          (subst (λ (w : WriterValue). (g.H.Shelf.world c.write.new.shelf).files ≡ with_appended (g.H.Shelf.world c.loop-line.shelf).files w.name (printed w.next line)) i.writer c.in_ok-write.ensures.written)
          ∙ ap (with_file _ _) (sym (text_more c.args.lines.now c.loop-line.line-index line c.loop-line-test.true c.line-item.is));
      writer = c.in_ok-write.ensures.writer ∙ ap (λ (w : WriterValue). writer_after w line) i.writer;
      said = c.in_ok-write.ensures.said ∙ i.said;
      warned = c.in_ok-write.ensures.warned ∙ i.warned;
      faults = λ call name. omega (arith, i.faults call name, c.in_ok-write.ensures.cause.later call name);
    }
