use Rattle.std.proofs.Common.{◌∙◌}
use Rattle.front_text.proofs.Costs.{no_cost_after_space, no_end_of_costs}
use Rattle.front_text.proofs.entry.read_costs.Goals as goal

pub returns-in-None : goal.returns-in-None
returns-in-None c = no_cost_after_space c.args.cursor.now c.loop-cursor.cursor c.skip-in-loop-cursor.new.self c.loop-cursor.costs c.loop-cursor.invariant c.loop-cursor-test.ensures c.in-None.ensures

pub returns-then-not-skip-2 : goal.returns-then-not-skip-2
returns-then-not-skip-2 c = no_end_of_costs c.args.cursor.now c.loop-cursor.cursor c.loop-cursor.costs c.loop-cursor.invariant c.loop-cursor-test.ensures.1 (λ rest is. c.if-not-skip-2.ensures.1 rest (c.loop-cursor-test.ensures.0 ∙ is))
