use Rattle.std.proofs.Common.{ap, ◌∙◌}
use Rattle.std.specs.FinMap.{remove}
use Rattle.pb_lin.specs.LineMap.{LineMap}
use Rattle.proof_rules.proofs.LiveLines.{remove_inserted}
use Rattle.proof_rules.proofs.reached.put_two.Goals as goal

pub returns-in-Err-clause-err : goal.returns-in-Err-clause-err
returns-in-Err-clause-err c =
    c.drop_id.ensures ∙ ap (λ (m : LineMap). remove m c.args.id) (c.in-Err.ensures.err ∙ c.in_ok-put.ensures.ok)
    ∙ remove_inserted c.args.lines.now c.args.id c.args.first c.requires.free
