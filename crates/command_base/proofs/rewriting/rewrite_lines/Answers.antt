use Rattle.std.proofs.Common.{arith, subst, sym, ap, Err}
use Rattle.std.specs.Prelude.{IfErr, OnOk, Option}
use Rattle.std.proofs.lemmas.Result.{err_from_is_err_and}
use Rattle.scut_base.specs.Files.{Files}
use Rattle.scut_base.specs.declared.shelf.ShelfCall.TheVariants.{Read}
use Rattle.command_base.specs.LogLines.{IsLargeAfter, IsLogOf}
use Rattle.command_base.specs.RewrittenSoFar.{IsCopyStop, IsWith}
use Rattle.command_base.proofs.Answered.{rose_at_last}
use Rattle.command_base.proofs.RewrittenLogs.{copied_to_end, ended_badly, ended_well, reading_stops, too_large}
use Rattle.command_base.proofs.rewriting.rewrite_lines.Goals as goal

pub returns-then-n-eq0-clause-rewritten : goal.returns-then-n-eq0-clause-rewritten
returns-then-n-eq0-clause-rewritten g c =
    let by = g.T.AnswersLine in
    let answerer = c.rewrite_piece.new.answerer in
    ended_well (g.H.Shelf.world c.rewrite_piece.new.shelf).files c.args.log.now c.rewrite_piece.new.reader (by.answers answerer) c.rewrite_piece.new.writer (c.in_ok-n.ensures.whole c.if-n-eq0.true) c.end_of.result c.end_of.ensures

pub returns-then-n-eq0-clause-stop : goal.returns-then-n-eq0-clause-stop
returns-then-n-eq0-clause-stop g c =
    let by = g.T.AnswersLine in
    let answerer = c.rewrite_piece.new.answerer in
    ended_badly (g.H.Shelf.world c.rewrite_piece.new.shelf).files c.args.log.now c.rewrite_piece.new.reader (by.answers answerer) c.rewrite_piece.new.writer (c.in_ok-n.ensures.whole c.if-n-eq0.true) (by.refuses answerer) _ _ c.end_of.result c.end_of.ensures

pub returns-in_err-has_more-clause-stop : goal.returns-in_err-has_more-clause-stop
returns-in_err-has_more-clause-stop g c =
    let by = g.T.AnswersLine in
    let i = c.loop-at.invariant in
    let before = (g.H.Shelf.world c.args.shelf.now).faults in
    let after = g.H.Shelf.world c.has_more.new.shelf in
    let p = err_from_is_err_and c.from_residual-in_err-has_more.result c.from_residual-in_err-has_more.ensures.1 in
    rw (p.1, p.2)
    (reading_stops (g.H.Shelf.world c.loop-at.shelf).files after.files c.args.log.now c.loop-at.reader (by.answers c.loop-at.answerer) (by.refuses c.loop-at.answerer) c.loop-at.writer c.loop-at.at before after.faults _ i.copied c.in_err-has_more.ensures.only_reads.files
    (λ is. rose_at_last _ _ _ (i.beside.later Read c.args.log.now) (c.in_err-has_more.ensures.failed (ap Err is))))

pub returns-then-branch-clause-stop : goal.returns-then-branch-clause-stop
returns-then-branch-clause-stop g c =
    let by = g.T.AnswersLine in
    let i = c.loop-at.invariant in
    let answers = by.answers c.loop-at.answerer in
    let more = rw c.if-branch.true at c.in_ok-has_more.ensures.more in
    subst (λ (f : Option Files). IsWith f c.args.log.now answers c.loop-at.writer IsLargeAfter) (sym c.in_ok-has_more.ensures.only_reads.files)
    (too_large (g.H.Shelf.world c.loop-at.shelf).files c.args.log.now c.loop-at.reader answers c.loop-at.writer c.loop-at.at i.copied (omega (arith, i.within, c.loop-at-test.false)) more)

pub returns-clause-rewritten : goal.returns-clause-rewritten
returns-clause-rewritten g c =
    let by = g.T.AnswersLine in
    let files = (g.H.Shelf.world c.loop-at.shelf).files in
    let answers = by.answers c.loop-at.answerer in
    let no_more = rw c.if-branch.false at c.in_ok-has_more.ensures.more in
    let whole = copied_to_end files c.args.log.now c.loop-at.reader answers c.loop-at.writer c.loop-at.at c.loop-at.invariant.copied no_more in
    subst (λ (f : Option Files). OnOk c.end_of-2.result (IsWith f c.args.log.now answers c.loop-at.writer IsLogOf)) (sym c.in_ok-has_more.ensures.only_reads.files)
    (ended_well files c.args.log.now c.loop-at.reader answers c.loop-at.writer whole c.end_of-2.result c.end_of-2.ensures)

pub returns-clause-stop : goal.returns-clause-stop
returns-clause-stop g c =
    let by = g.T.AnswersLine in
    let files = (g.H.Shelf.world c.loop-at.shelf).files in
    let before = (g.H.Shelf.world c.args.shelf.now).faults in
    let after = (g.H.Shelf.world c.has_more.new.shelf).faults in
    let answers = by.answers c.loop-at.answerer in
    let refuses = by.refuses c.loop-at.answerer in
    let no_more = rw c.if-branch.false at c.in_ok-has_more.ensures.more in
    let whole = copied_to_end files c.args.log.now c.loop-at.reader answers c.loop-at.writer c.loop-at.at c.loop-at.invariant.copied no_more in
    subst (λ (f : Option Files). IfErr c.end_of-2.result (λ stop. IsCopyStop answers refuses stop f c.args.log.now c.loop-at.writer before after)) (sym c.in_ok-has_more.ensures.only_reads.files)
    (ended_badly files c.args.log.now c.loop-at.reader answers c.loop-at.writer whole refuses before after c.end_of-2.result c.end_of-2.ensures)
