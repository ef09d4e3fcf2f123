use Rattle.std.proofs.Common.{Err, ap, subst, sym}
use Rattle.command_base.specs.RewrittenSoFar.{StopsAt}
use Rattle.command_base.specs.declared.stops.LogStop.{LogStop}
use Rattle.command_base.proofs.RewrittenLines.{fits, line_cut, line_written, not_answered}
use Rattle.command_base.proofs.rewriting.rewrite_line.Goals as goal

pub write-written-requires-clause-fits : goal.write-written-requires-clause-fits
write-written-requires-clause-fits g c =
    let by = g.T.AnswersLine in
    let some = c.requires.answering in
    fits (g.H.Shelf.world c.args.shelf.now).files (by.answers c.args.answerer.now) c.args.writer.now some.0 some.1 some.2 c.args.line some.3
    (by.answers c.answer.new.self) c.in-Ok.new (c.in-Ok.ensures.answered some.1 some.2 some.3.answered) c.in-Ok.ensures.made

pub returns-in-Err-clause-rewritten : goal.returns-in-Err-clause-rewritten
returns-in-Err-clause-rewritten g c = λ bytes lines news was.
    let by = g.T.AnswersLine in
    let files = (g.H.Shelf.world c.args.shelf.now).files in
    let e = c.in-Err.ensures in
    subst (λ (stop : LogStop). StopsAt (by.answers c.answer.new.self) (by.refuses c.answer.new.self) stop files c.args.writer.now bytes) (sym c.from.ensures)
    (not_answered files (by.answers c.args.answerer.now) c.args.writer.now bytes lines news c.args.line was (by.answers c.answer.new.self) (by.refuses c.answer.new.self) c.in-Err.fault (e.same lines news was.answered)
    (λ k why is. e.refused k why (ap Err is))
    (λ k why is. e.number k why (ap Err is) lines news was.answered))

pub returns-in-Ok-written-clause-rewritten : goal.returns-in-Ok-written-clause-rewritten
returns-in-Ok-written-clause-rewritten g c = λ bytes lines news was.
    let by = g.T.AnswersLine in
    let answered = c.in-Ok.ensures.answered lines news was.answered in (
      c.in-Ok.new,
      answered,
      line_written (g.H.Shelf.world c.args.shelf.now).files (by.answers c.args.answerer.now) c.args.writer.now bytes lines news c.args.line was (by.answers c.answer.new.self) c.in-Ok.new answered c.in-Ok.ensures.made
          (g.H.Shelf.world c.write-written.new.shelf).files c.in-Ok.ensures.formed c.write-written.new.self c.in-Ok-written.ensures.writer c.in-Ok-written.ensures.written,
    )

pub returns-in-Err-written-clause-rewritten : goal.returns-in-Err-written-clause-rewritten
returns-in-Err-written-clause-rewritten g c = λ bytes lines news was.
    let by = g.T.AnswersLine in
    let files = (g.H.Shelf.world c.write-written.new.shelf).files in
    let e = c.in-Err-written.ensures in
    subst (λ (stop : LogStop). StopsAt (by.answers c.answer.new.self) (by.refuses c.answer.new.self) stop files c.write-written.new.self bytes) (sym c.from-in-Err-written.ensures)
    (line_cut (g.H.Shelf.world c.args.shelf.now).files (by.answers c.args.answerer.now) c.args.writer.now bytes lines news c.args.line was (by.answers c.answer.new.self) c.in-Ok.new (c.in-Ok.ensures.answered lines news was.answered) c.in-Ok.ensures.made
    files (by.refuses c.answer.new.self) c.write-written.new.self c.in-Err-written.fault e.same e.partly)
