use Rattle.instance_normal.proofs.Distinct.{members_upto}
use Rattle.instance_normal.proofs.clause.clause_row.Goals as goal

pub returns-in-Some-clause-fits : goal.returns-in-Some-clause-fits
returns-in-Some-clause-fits c =
    let found = rw c.in-Some.is at c.in_ok-distinct_literals.ensures in
    λ n upto. c.at_least_one.ensures.fits n (members_upto n c.args.lits.now c.in-Some.distinct found.1 upto)
