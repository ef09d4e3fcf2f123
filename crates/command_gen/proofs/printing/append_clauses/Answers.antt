use Rattle.std.proofs.Common.{arith, sym}
use Rattle.std.proofs.lemmas.Grind.{common_steps}
use Rattle.std.proofs.lemmas.Option.{slice_get_within, get_or_from_slice_get}
use Rattle.command_gen.specs.Printed.{AreVariables}
use Rattle.command_gen.proofs.OneMore.{one_more}
use Rattle.command_gen.proofs.printing.append_clauses.Goals as goal

pub loop-at-preserved : goal.loop-at-preserved
loop-at-preserved c =
    let clauses = c.args.clauses.now in
    let clause = c.clause.result.now in
    let within = slice_get_within clauses c.loop-at.at clause c.clause.ensures in
    let is = get_or_from_slice_get clauses c.loop-at.at clause clause c.clause.ensures in
    record {
      text = grind (arith, common_steps, is);
      variables = one_more AreVariables clauses c.loop-at.at clause within (sym is) c.loop-at.invariant.variables c.in_ok-append_clause.ensures.variables;
    }
