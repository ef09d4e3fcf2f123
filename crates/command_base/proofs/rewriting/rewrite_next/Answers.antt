use Rattle.std.proofs.Common.{◌≡◌, Err, None, ap, subst, sym}
use Rattle.log_checker.proofs.Answering.{gives_line, line_formed, not_wrong, smaller}
use Rattle.command_base.specs.RewrittenSoFar.{StopsAt}
use Rattle.command_base.specs.declared.stops.LogStop.{LogStop}
use Rattle.command_base.proofs.RewrittenLines.{line_given, line_rewritten, line_wrong, none_more}
use Rattle.command_base.proofs.rewriting.rewrite_next.Goals as goal

pub returns-in-Err-clause-rewritten : goal.returns-in-Err-clause-rewritten
returns-in-Err-clause-rewritten g c = λ bytes lines news was.
    let files = (g.H.Shelf.world c.args.shelf.now).files in
    let answers = g.T.AnswersLine.answers c.args.answerer.now in
    let refuses = g.T.AnswersLine.refuses c.args.answerer.now in
    subst (λ (stop : LogStop). StopsAt answers refuses stop files c.args.writer.now bytes) (sym c.stop_of.ensures)
    (line_wrong files c.args.reader.now answers c.args.writer.now bytes lines news was c.next_line.new.self refuses c.in-Err.fault
    (λ k is. c.in-Err.ensures.syntax k (ap (λ f. Err f) is) bytes lines was.read)
    (λ k is. c.in-Err.ensures.wrong k (ap (λ f. Err f) is)))

pub rewrite_line-requires-clause-answering : goal.rewrite_line-requires-clause-answering
rewrite_line-requires-clause-answering g c =
    let some = c.requires.rewriting in (
      some.0,
      some.1,
      some.2,
      line_given (g.H.Shelf.world c.args.shelf.now).files c.args.reader.now (g.T.AnswersLine.answers c.args.answerer.now) c.args.writer.now some.0 some.1 some.2 some.3 c.next_line.new.self c.in-Ok-Some.line
          (gives_line c.next_line.new.self some.0 some.1 c.in-Ok-Some.field-0 c.in-Ok-Some.line c.in-Ok-Some.field-0-is (c.in-Ok-Some.ensures.next some.0 some.1 some.3.read)),
    )

pub returns-in-Ok-Some-clause-rewritten : goal.returns-in-Ok-Some-clause-rewritten
returns-in-Ok-Some-clause-rewritten g c = λ bytes lines news was.
    let by = g.T.AnswersLine in
    let files = (g.H.Shelf.world c.args.shelf.now).files in
    let answers = by.answers c.args.answerer.now in
    let after = c.next_line.new.self in
    let stands = gives_line after bytes lines c.in-Ok-Some.field-0 c.in-Ok-Some.line c.in-Ok-Some.field-0-is (c.in-Ok-Some.ensures.next bytes lines was.read) in
    line_rewritten files c.args.reader.now answers c.args.writer.now bytes lines news was after (g.H.Shelf.world c.rewrite_line.new.shelf).files (by.answers c.rewrite_line.new.answerer) (by.refuses c.rewrite_line.new.answerer) c.rewrite_line.new.writer c.in-Ok-Some.line c.rewrite_line.result stands
    (c.rewrite_line.ensures.rewritten bytes lines news (line_given files c.args.reader.now answers c.args.writer.now bytes lines news was after c.in-Ok-Some.line stands))

pub returns-in-Ok-Some-clause-smaller : goal.returns-in-Ok-Some-clause-smaller
returns-in-Ok-Some-clause-smaller g c = λ taken.
    let some = c.requires.rewriting in
    let right : c.args.reader.now.wrong ≡ None = not_wrong c.args.reader.now.wrong (λ k e. let again = c.in-Ok-Some.ensures.again k e in cc) in
    smaller c.args.reader.now c.next_line.new.self some.0 some.1 c.in-Ok-Some.line right some.3.read
    (gives_line c.next_line.new.self some.0 some.1 c.in-Ok-Some.field-0 c.in-Ok-Some.line c.in-Ok-Some.field-0-is (c.in-Ok-Some.ensures.next some.0 some.1 some.3.read))

pub returns-in-Ok-None-clause-rewritten : goal.returns-in-Ok-None-clause-rewritten
returns-in-Ok-None-clause-rewritten g c = λ bytes lines news was.
    none_more (g.H.Shelf.world c.args.shelf.now).files c.args.reader.now (g.T.AnswersLine.answers c.args.answerer.now) c.args.writer.now bytes lines news was c.next_line.new.self c.in-Ok-None.field-0 c.in-Ok-None.field-0-is (c.in-Ok-None.ensures.next bytes lines was.read)
