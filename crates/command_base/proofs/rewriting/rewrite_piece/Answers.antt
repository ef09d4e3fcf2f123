use Rattle.std.proofs.Common.{rules, ◌+◌, ◌<◌, ◌≤◌, ◌^◌, ◌++◌, List, ℕ, length, take, Err, ap, arith, subst, sym, ◌∙◌}
use Rattle.std.specs.Prelude.{Option}
use Rattle.std.proofs.lemmas.Result.{err_from_is_err_and}
use Rattle.scut_base.specs.Faults.{Rose, count}
use Rattle.scut_base.specs.Files.{Files}
use Rattle.scut_base.specs.declared.shelf.ShelfCall.TheVariants.{Append}
use Rattle.proof_text.specs.Recorders.{without_file}
use Rattle.command_base.specs.RewrittenSoFar.{IsLeftOf}
use Rattle.command_base.proofs.Answered.{rose_at_last}
use Rattle.command_base.proofs.RewrittenLogs.{copied_all, copied_left, copied_more, fed_underway, piece_stops, reading_stops}
use Rattle.command_base.proofs.rewriting.rewrite_piece.Goals as goal

pub returns-in_err-n-clause-stop : goal.returns-in_err-n-clause-stop
returns-in_err-n-clause-stop g c =
    let by = g.T.AnswersLine in
    let before = g.H.Shelf.world c.args.shelf.now in
    let after = g.H.Shelf.world c.read_at.new.self in
    let p = err_from_is_err_and c.from_residual.result c.from_residual.ensures.1 in
    rw (p.1, p.2)
    (reading_stops before.files after.files c.args.log.now c.args.reader.now (by.answers c.args.answerer.now) (by.refuses c.args.answerer.now) c.args.writer.now c.args.at before.faults after.faults _ c.requires.copied c.in_err-n.ensures.files
    (λ is. c.in_err-n.ensures.cause.failed (ap Err is)))

pub returns-in_err-feed-clause-stop : goal.returns-in_err-feed-clause-stop
returns-in_err-feed-clause-stop g c =
    let answers = g.T.AnswersLine.answers c.args.answerer.now in
    let p = err_from_is_err_and c.from_residual-in_err-feed.result c.from_residual-in_err-feed.ensures.1 in
    rw (p.1, p.2)
    (subst (λ (f : Option Files). IsLeftOf f c.args.log.now answers c.args.writer.now) (sym c.in_ok-n.ensures.files)
    (copied_left (g.H.Shelf.world c.args.shelf.now).files c.args.log.now c.args.reader.now answers c.args.writer.now c.args.at c.requires.copied))

pub returns-in_err-rewrite_fed-clause-stop : goal.returns-in_err-rewrite_fed-clause-stop
returns-in_err-rewrite_fed-clause-stop g c =
    let by = g.T.AnswersLine in
    let copied = c.requires.copied in
    let files = (g.H.Shelf.world c.args.shelf.now).files in
    let mid = (g.H.Shelf.world c.read_at.new.self).files in
    let log = c.args.log.now in
    let w = c.args.writer.now in
    let into = c.read_at.new.into in
    let read = c.in_ok-n.ensures.bytes in
    let short : c.in_ok-n.n ≤ length into = omega (arith, c.in_ok-n.ensures.bound) in
    let within : c.args.at + c.in_ok-n.n < 2 ^ 62 = search rules in
    let answers = by.answers c.args.answerer.now in
    let underway = fed_underway files log c.args.reader.now answers w c.args.at c.in_ok-n.n into copied read short within mid c.feed.new.self c.in_ok-n.ensures.files (c.in_ok-feed.ensures.fed copied.bytes copied.lines copied.underway.read) in
    let e = c.in_err-rewrite_fed.ensures in
    let before = (g.H.Shelf.world c.args.shelf.now).faults in
    let after = g.H.Shelf.world c.rewrite_fed.new.shelf in
    let later = by.answers c.rewrite_fed.new.answerer in
    let p = err_from_is_err_and c.from_residual-in_err-rewrite_fed.result c.from_residual-in_err-rewrite_fed.ensures.1 in
    rw (p.1, p.2)
    (piece_stops files log c.args.reader.now answers w c.args.at c.in_ok-n.n into copied read short within after.files c.rewrite_fed.new.reader later c.rewrite_fed.new.writer
    (e.beside.others ∙ ap (λ (f : Option Files). without_file f w.name) c.in_ok-n.ensures.files) c.requires.other (by.refuses c.rewrite_fed.new.answerer) _ before after.faults
    (e.rewritten (copied.bytes ++ take c.in_ok-n.n into) copied.lines copied.news underway)
    (λ is. subst (λ (n : List ℕ). Rose (count before Append n) (count after.faults Append n)) (sym e.beside.name)
    (rose_at_last _ _ _ (c.in_ok-n.ensures.cause.later Append w.name) (e.failed (ap Err is)))))

pub returns-clause-more : goal.returns-clause-more
returns-clause-more g c =
    let by = g.T.AnswersLine in
    let copied = c.requires.copied in
    let files = (g.H.Shelf.world c.args.shelf.now).files in
    let mid = (g.H.Shelf.world c.read_at.new.self).files in
    let log = c.args.log.now in
    let w = c.args.writer.now in
    let into = c.read_at.new.into in
    let read = c.in_ok-n.ensures.bytes in
    let short : c.in_ok-n.n ≤ length into = omega (arith, c.in_ok-n.ensures.bound) in
    let within : c.args.at + c.in_ok-n.n < 2 ^ 62 = search rules in
    let answers = by.answers c.args.answerer.now in
    let underway = fed_underway files log c.args.reader.now answers w c.args.at c.in_ok-n.n into copied read short within mid c.feed.new.self c.in_ok-n.ensures.files (c.in_ok-feed.ensures.fed copied.bytes copied.lines copied.underway.read) in
    let e = c.in_ok-rewrite_fed.ensures in
    copied_more files log c.args.reader.now answers w c.args.at c.in_ok-n.n into copied read short within (g.H.Shelf.world c.rewrite_fed.new.shelf).files c.rewrite_fed.new.reader (by.answers c.rewrite_fed.new.answerer) c.rewrite_fed.new.writer
    (e.beside.others ∙ ap (λ (f : Option Files). without_file f w.name) c.in_ok-n.ensures.files) c.requires.other
    (e.rewritten (copied.bytes ++ take c.in_ok-n.n into) copied.lines copied.news underway)

pub returns-clause-whole : goal.returns-clause-whole
returns-clause-whole g c = λ none.
    let by = g.T.AnswersLine in
    let copied = c.requires.copied in
    let files = (g.H.Shelf.world c.args.shelf.now).files in
    let mid = (g.H.Shelf.world c.read_at.new.self).files in
    let log = c.args.log.now in
    let w = c.args.writer.now in
    let into = c.read_at.new.into in
    let read = c.in_ok-n.ensures.bytes in
    let short : c.in_ok-n.n ≤ length into = omega (arith, c.in_ok-n.ensures.bound) in
    let within : c.args.at + c.in_ok-n.n < 2 ^ 62 = search rules in
    let answers = by.answers c.args.answerer.now in
    let underway = fed_underway files log c.args.reader.now answers w c.args.at c.in_ok-n.n into copied read short within mid c.feed.new.self c.in_ok-n.ensures.files (c.in_ok-feed.ensures.fed copied.bytes copied.lines copied.underway.read) in
    let e = c.in_ok-rewrite_fed.ensures in
    copied_all files log c.args.reader.now answers w c.args.at c.in_ok-n.n into copied read short within (g.H.Shelf.world c.rewrite_fed.new.shelf).files c.rewrite_fed.new.reader (by.answers c.rewrite_fed.new.answerer) c.rewrite_fed.new.writer
    (e.beside.others ∙ ap (λ (f : Option Files). without_file f w.name) c.in_ok-n.ensures.files) c.requires.other
    (e.rewritten (copied.bytes ++ take c.in_ok-n.n into) copied.lines copied.news underway) none
