use Rattle.std.proofs.Common.{◌≡◌, Err, ap, refl, sym, ◌∙◌}
use Rattle.log_checker.proofs.Answering.{end_missing}
use Rattle.proof_laws.specs.declared.why.Why.TheVariants.{NoEnd}
use Rattle.command_base.specs.declared.log_file.LineFault.TheVariants.{Refused}
use Rattle.command_trim.specs.Keeping.{fault_of, kept_by}
use Rattle.command_trim.proofs.Keeps.{end_reason, proved, refused_every}
use Rattle.command_trim.proofs.keeping.KeeperTakesLog.finish.Goals as goal

pub returns-in-Err-clause-refused : goal.returns-in-Err-clause-refused
returns-in-Err-clause-refused c = λ n why is bytes stands.
    let k = c.args.self.now in
    let fault : c.fault_of.result ≡ Refused n why = cc in
    refused_every (kept_by k) bytes (fault_of c.in-Err.fault)
    (end_reason k bytes c.in-Err.fault stands (λ m same. c.in-Err.ensures.syntax m (ap (λ f. Err f) same) bytes k.lines stands.0.underway.read))
    n why (sym c.fault_of.ensures ∙ fault)

pub returns-then-not-ended-clause-refused : goal.returns-then-not-ended-clause-refused
returns-then-not-ended-clause-refused c = λ n why is bytes stands.
    let k = c.args.self.now in
    refused_every (kept_by k) bytes (Refused c.next_number.result NoEnd)
    (end_missing k.problem.now k.vectors.now k.reader k.state bytes k.lines c.next_number.result stands.0.underway stands.1
    (c.in-Ok.ensures.whole refl bytes k.lines stands.0.underway.read) (sym c.ended.ensures ∙ c.if-not-ended.true) c.next_number.ensures)
    n why cc

pub returns-clause-passes : goal.returns-clause-passes
returns-clause-passes c = λ bytes stands.
    let k = c.args.self.now in
    proved k bytes stands (c.in-Ok.ensures.whole refl bytes k.lines stands.0.underway.read) (sym c.ended.ensures ∙ c.if-not-ended.false)
