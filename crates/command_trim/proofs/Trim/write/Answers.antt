use Rattle.std.proofs.Common.{ap, length}
use Rattle.std.specs.Prelude.{Err}
use Rattle.proof_lines.specs.declared.spelling.Spelling.TheVariants.{Plain}
use Rattle.proof_text.specs.Versions.{log_text}
use Rattle.command_trim.specs.Words.{asked}
use Rattle.command_trim.proofs.TrimEnds.{all_trimmed, writing_stopped}
use Rattle.command_trim.proofs.Trim.write.Goals as goal

pub returns-in-Err : goal.returns-in-Err
returns-in-Err g c =
    let w = g.H.Shelf.world in
    let e = c.in-Err.ensures in
    rw c.from.ensures
    (record {
      answered = writing_stopped (asked c.args.self.now) (w c.args.shelf.now) (log_text Plain c.args.kept.now) (length c.args.kept.now) c.args.total c.requires c.in-Err.fault (w c.write_log.new.shelf) e.partly e.said (λ failed. e.failed (ap Err failed)) e.later;
      warned = e.warned;
    })

pub returns : goal.returns
returns g c =
    let w = g.H.Shelf.world in
    let e = c.in-Ok.ensures in
    all_trimmed (asked c.args.self.now) (w c.args.shelf.now) (log_text Plain c.args.kept.now) (length c.args.kept.now) c.args.total c.requires (w c.write_log.new.shelf) (w c.say.new.shelf) c.say.result
    e.written e.said e.warned e.later c.say.ensures
