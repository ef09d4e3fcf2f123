use Rattle.std.proofs.Common.{arith}
use Rattle.std.proofs.lemmas.Grind.{common_steps}
use Rattle.command_gen.specs.Printed.{IsVariable}
use Rattle.command_gen.proofs.OneMore.{one_more}
use Rattle.command_gen.proofs.printing.append_clause.Goals as goal

pub loop-lit-preserved : goal.loop-lit-preserved
loop-lit-preserved c = record {
  text = grind (arith, common_steps);
  variables = one_more IsVariable c.args.lits.now c.loop-lit.lit-index c.lit-item.result c.loop-lit-test.true c.lit-item.is c.loop-lit.invariant.variables c.in_ok-append_literal.ensures.variable;
}
