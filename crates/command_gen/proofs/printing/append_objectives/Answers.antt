use Rattle.std.proofs.Common.{◌≡◌, ◌++◌, arith, subst}
use Rattle.std.specs.Prelude.{All}
use Rattle.std.specs.List.{flat_map}
use Rattle.command_gen.specs.Printed.{IsPrintable, soft_line}
use Rattle.command_gen.proofs.OneMore.{one_more}
use Rattle.command_gen.proofs.Statements.{ArePrintable, objective_more}
use Rattle.command_gen.proofs.printing.append_objectives.Goals as goal

pub loop-objective-preserved : goal.loop-objective-preserved
loop-objective-preserved c =
    let old = c.loop-objective.invariant in
    record {
      number = omega arith;
      text = objective_more c.args.objectives.now c.loop-objective.objective-index c.loop-objective.number c.objective-item.result c.args.text.now.items c.loop-objective.text.items _
          c.loop-objective-test.true c.objective-item.is old.number old.text
          (subst (λ softs. c.append_softs.new.text.items ≡ c.loop-objective.text.items ++ flat_map (soft_line c.loop-objective.number) softs) c.as_slice.ensures c.in_ok-append_softs.ensures.text);
      variables = one_more ArePrintable c.args.objectives.now c.loop-objective.objective-index c.objective-item.result c.loop-objective-test.true c.objective-item.is old.variables
          (subst (All IsPrintable) c.as_slice.ensures c.in_ok-append_softs.ensures.variables);
    }
