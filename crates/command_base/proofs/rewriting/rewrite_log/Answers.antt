use Rattle.std.proofs.Common.{Err, ap, subst, sym}
use Rattle.proof_text.proofs.Readings.{ok_then}
use Rattle.command_base.specs.LogLines.{IsLogOf}
use Rattle.command_base.specs.Rewriting.{IsRewriteStop}
use Rattle.command_base.specs.RewrittenSoFar.{IsCopyStop}
use Rattle.command_base.specs.declared.stops.LogStop.{LogStop}
use Rattle.command_base.proofs.RewrittenLogs.{all_written, begun_underway, err_then, not_begun, writing_stops}
use Rattle.command_base.proofs.rewriting.rewrite_log.Goals as goal

pub rewrite_lines-requires-clause-begun : goal.rewrite_lines-requires-clause-begun
rewrite_lines-requires-clause-begun g c =
    begun_underway (g.H.Shelf.world c.args.shelf.now).files (g.H.Shelf.world c.begin.new.shelf).files c.new-reader.result (g.T.AnswersLine.answers c.args.answerer.now) c.in-Ok.writer c.args.output.now c.args.first
    c.in-Ok.ensures.writer c.requires.first c.new-reader.ensures c.requires.fresh c.in-Ok.ensures.begun

pub returns-in-Ok-clause-rewritten : goal.returns-in-Ok-clause-rewritten
returns-in-Ok-clause-rewritten g c =
    let by = g.T.AnswersLine in
    let w = g.H.Shelf.world in
    let answerer = c.rewrite_lines.new.answerer in
    ok_then c.rewrite_lines.result _ _ c.rewrite_lines.ensures.rewritten
    (all_written (by.answers answerer) (by.refuses answerer) (w c.args.shelf.now) (w c.begin.new.shelf) (w c.rewrite_lines.new.shelf) c.args.log.now c.args.output.now c.args.first c.in-Ok.writer c.rewrite_lines.new.writer
    c.in-Ok.ensures.writer c.in-Ok.ensures.begun c.in-Ok.ensures.later c.rewrite_lines.ensures.beside c.requires.other IsLogOf)

pub returns-in-Ok-clause-stop : goal.returns-in-Ok-clause-stop
returns-in-Ok-clause-stop g c =
    let by = g.T.AnswersLine in
    let w = g.H.Shelf.world in
    let answerer = c.rewrite_lines.new.answerer in
    err_then c.rewrite_lines.result (λ stop. IsCopyStop (by.answers answerer) (by.refuses answerer) stop (w c.rewrite_lines.new.shelf).files c.args.log.now c.rewrite_lines.new.writer (w c.begin.new.shelf).faults (w c.rewrite_lines.new.shelf).faults) (λ stop. IsRewriteStop (by.answers answerer) (by.refuses answerer) stop (w c.args.shelf.now) (w c.rewrite_lines.new.shelf) c.args.log.now c.args.output.now c.args.first) c.rewrite_lines.ensures.stop
    (writing_stops (by.answers answerer) (by.refuses answerer) (w c.args.shelf.now) (w c.begin.new.shelf) (w c.rewrite_lines.new.shelf) c.args.log.now c.args.output.now c.args.first c.in-Ok.writer c.rewrite_lines.new.writer
    c.in-Ok.ensures.writer c.in-Ok.ensures.begun c.in-Ok.ensures.later c.rewrite_lines.ensures.beside c.requires.other)

pub returns-clause-stop : goal.returns-clause-stop
returns-clause-stop g c =
    let by = g.T.AnswersLine in
    let before = g.H.Shelf.world c.args.shelf.now in
    let after = g.H.Shelf.world c.begin.new.shelf in
    let answers = by.answers c.args.answerer.now in
    let refuses = by.refuses c.args.answerer.now in
    subst (λ (stop : LogStop). IsRewriteStop answers refuses stop before after c.args.log.now c.args.output.now c.args.first) (sym c.from.ensures)
    (not_begun answers refuses before after c.args.log.now c.args.output.now c.args.first c.in-Err.fault c.requires.fresh c.in-Err.ensures.refused (λ is. c.in-Err.ensures.cause (ap Err is)))
