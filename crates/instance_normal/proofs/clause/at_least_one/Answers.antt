use Rattle.std.proofs.Common.{◌^◌, ◌<◌, length, arith}
use Rattle.instance_normal.proofs.Distinct.{clause_fits}
use Rattle.instance_normal.proofs.clause.at_least_one.Goals as goal

pub returns-clause-fits : goal.returns-clause-fits
returns-clause-fits c =
    let short : length c.clause-row.result.terms < 2 ^ 64 = omega (arith, c.len-normal.ensures.value) in
    λ n upto. clause_fits n c.args.distinct c.clause-row.result c.clause-row.ensures short upto
