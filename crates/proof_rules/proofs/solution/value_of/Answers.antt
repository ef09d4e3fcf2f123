use Rattle.std.proofs.Common.{◌<◌, arith}
use Rattle.std.specs.Prelude.{◌^◌}
use Rattle.std.proofs.lemmas.Int.{ints}
use Rattle.pb_lin.specs.Constraint.{value}
use Rattle.proof_rules.proofs.Cuts.{value_small}
use Rattle.proof_rules.proofs.solution.value_of.Goals as goal

pub overflow_sub-result : goal.overflow_sub-result
overflow_sub-result c =
    let small : value c.args.a.now c.args.row.now.terms < 2 ^ 63 = value_small c.args.a.now c.args.row.now c.terms-row.ensures.row in
    omega (arith, ints)

pub overflow_cast-result : goal.overflow_cast-result
overflow_cast-result c =
    let small : value c.args.a.now c.args.row.now.terms < 2 ^ 63 = value_small c.args.a.now c.args.row.now c.terms-row.ensures.row in
    omega (arith, ints)

pub returns-clause-value : goal.returns-clause-value
returns-clause-value c =
    let small : value c.args.a.now c.args.row.now.terms < 2 ^ 63 = value_small c.args.a.now c.args.row.now c.terms-row.ensures.row in
    omega (arith, ints)
