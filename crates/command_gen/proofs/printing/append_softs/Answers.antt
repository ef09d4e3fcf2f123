use Rattle.std.proofs.Common.{arith, subst}
use Rattle.std.proofs.lemmas.Grind.{common_steps}
use Rattle.command_gen.specs.Printed.{AreVariables, IsPrintable}
use Rattle.command_gen.proofs.OneMore.{one_more}
use Rattle.command_gen.proofs.printing.append_softs.Goals as goal

pub loop-soft-preserved : goal.loop-soft-preserved
loop-soft-preserved c = record {
  text = grind (arith, common_steps);
  variables = one_more IsPrintable c.args.softs.now c.loop-soft.soft-index c.soft-item.result c.loop-soft-test.true c.soft-item.is c.loop-soft.invariant.variables (record { weight = c.append_weight.ensures.fits; lits = subst AreVariables c.as_slice.ensures c.in_ok-append_clause.ensures.variables });
}
