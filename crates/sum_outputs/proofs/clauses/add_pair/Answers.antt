-- Where there is no clause to add, nothing is added.
use Rattle.std.proofs.Common.{◌≤◌, arith}
use Rattle.std.proofs.lemmas.List.Elements.{All-contains}
use Rattle.sum_outputs.specs.declared.sum_output.SumOutput.{SumOutput}
use Rattle.sum_outputs.proofs.ClauseCalls.{adds_nothing}
use Rattle.sum_outputs.proofs.clauses.add_pair.Goals as goal

pub returns-in-None : goal.returns-in-None
returns-in-None g c =
    let R = g.R.Recorder in
    let a = R.seen c.args.rec.now in
    adds_nothing a tt _ c.requires.ready (λ o has reach low. absurd (
    let rest = c.saturating_sub-rest.ensures in
    let less = c.saturating_sub.ensures in
    let least = All-contains (λ (p : SumOutput). c.saturating_sub-rest.result ≤ p.sum → c.saturating_sub.result ≤ p.sum) c.args.others.now o c.in-None.ensures has (omega arith) in
    omega arith))
