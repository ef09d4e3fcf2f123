use Rattle.std.proofs.Common.{refl}
use Rattle.proof_text.proofs.Openings.{rows_long, rows_missing, rows_there, rows_unlike, rows_wrong}
use Rattle.proof_text.proofs.opening.opening_of_rows.Goals as goal

pub returns-in-Some-rows_of : goal.returns-in-Some-rows_of
returns-in-Some-rows_of c =
    let rest = c.args.rest.now in
    let reads = c.in-Some-rows_of.ensures in
    ((reads.0, refl), rows_there rest c.in-Some.len c.in-Some.ensures c.in-Some-rows_of.rows reads.1, rows_long rest c.in-Some.len c.in-Some.ensures c.in-Some-rows_of.rows reads.1)

pub returns-in-None-rows_of : goal.returns-in-None-rows_of
returns-in-None-rows_of c = rows_wrong c.args.rest.now c.in-Some.len c.in-Some.ensures c.in-None-rows_of.ensures

pub returns-in-Some-rows_of-2 : goal.returns-in-Some-rows_of-2
returns-in-Some-rows_of-2 c = rows_missing c.args.rest.now c.in-Some-rows_of-2.field-0 c.in-Some-rows_of-2.ensures.0 c.in-Some-rows_of-2.ensures.1

pub returns-in-None-rows_of-2 : goal.returns-in-None-rows_of-2
returns-in-None-rows_of-2 c = rows_unlike c.args.rest.now c.requires c.in-None.ensures c.in-None-rows_of-2.ensures
