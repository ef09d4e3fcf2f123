-- What the clauses say isn't asked for.
use Rattle.std.proofs.Common.{arith}
use Rattle.std.specs.Prelude.{⊤}
use Rattle.sum_outputs.proofs.LaterStates.{continues_again}
use Rattle.sum_outputs.proofs.ClauseCalls.{adds_after}
use Rattle.sum_outputs.proofs.root.tie_one.Goals as goal

pub returns : goal.returns
returns g c =
    let R = g.R.Recorder in
    let a = R.seen c.args.rec.now in
    adds_after a a (R.seen c.tie.new.rec) c.tie.result _ ⊤ (continues_again a) (omega arith) (λ says. tt) c.tie.ensures
