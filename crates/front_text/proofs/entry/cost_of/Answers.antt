use Rattle.std.proofs.Common.{◌≡◌, ◌∙◌}
use Rattle.front_text.proofs.Numbers.{no_cost, same_cost, least_no_cost, printed_same}
use Rattle.front_text.proofs.entry.cost_of.Goals as goal
use Rattle.front_text.proofs.entry.cost_of.Goals.{then-cost-via-then-cost, then-cost-via-else-cost+then-ne}

pub returns-in_default : goal.returns-in_default
returns-in_default c = no_cost c.in_default.field-0 c.args.word.now c.in_default.ensures

pub returns-then-cost : goal.returns-then-cost
returns-then-cost c = λ x cost is.
    let same : c.in-Ok.cost ≡ x = same_cost c.in-Ok.cost c.args.word.now c.in-Ok.ensures x cost is in
    elim c.then-cost.branch [ then-cost-via-then-cost w ↦ least_no_cost _ x same cost w.if-cost.true | then-cost-via-else-cost+then-ne w ↦ printed_same c.in-Ok.cost x w.as_bytes.result.now c.args.word.now w.ne.result same cost (w.as_bytes.ensures.value ∙ w.format.ensures.text) is w.ne.ensures w.if-ne.true ]
