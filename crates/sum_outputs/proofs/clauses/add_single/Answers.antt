-- Where there is no clause to add, nothing is added.
use Rattle.std.proofs.Common.{◌≤◌, arith}
use Rattle.std.proofs.lemmas.List.Elements.{All-contains}
use Rattle.sum_outputs.specs.declared.sum_output.SumOutput.{SumOutput}
use Rattle.sum_outputs.proofs.ClauseCalls.{adds_nothing}
use Rattle.sum_outputs.proofs.clauses.add_single.Goals as goal

pub returns-in-None : goal.returns-in-None
returns-in-None g c =
    let R = g.R.Recorder in
    let a = R.seen c.args.rec.now in
    adds_nothing a tt _ c.requires.ready (λ o has reach low. absurd (
    let least = All-contains (λ (p : SumOutput). c.args.target.now.sum ≤ p.sum → c.args.below ≤ p.sum) c.args.parts.now o c.in-None.ensures has reach in
    omega arith))
