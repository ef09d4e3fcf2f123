use Rattle.front_text.proofs.Costs.{takes_cost}
use Rattle.front_text.proofs.entry.take_cost.Goals as goal

pub returns : goal.returns
returns c = takes_cost c.args.cursor.now c.take_word.new.self c.take_word.result.now c.cost_of.result c.take_word.ensures c.cost_of.ensures
