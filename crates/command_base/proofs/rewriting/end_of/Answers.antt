use Rattle.std.proofs.Common.{Err, ap, refl, subst, sym}
use Rattle.proof_text.proofs.Logs.{spelled_whole}
use Rattle.command_base.specs.RewrittenSoFar.{EndsAt}
use Rattle.command_base.specs.declared.stops.LogStop.{LogStop}
use Rattle.command_base.proofs.LogLines.{ends_badly}
use Rattle.command_base.proofs.rewriting.end_of.Goals as goal

pub returns-in-Ok : goal.returns-in-Ok
returns-in-Ok c = λ bytes lines stands held. spelled_whole bytes lines held (c.in-Ok.ensures.whole refl bytes lines stands)

pub returns-in-Err : goal.returns-in-Err
returns-in-Err c = λ bytes lines stands held.
    subst (λ (stop : LogStop). EndsAt bytes lines (Err stop)) (sym c.stop_of.ensures)
    (ends_badly c.args.reader.now bytes lines c.in-Err.fault stands held (λ k is. c.in-Err.ensures.syntax k (ap (λ f. Err f) is) bytes lines stands))
