use Rattle.instance.specs.Shape.{TermsUpTo}
use Rattle.instance_normal.proofs.Sizes.{least_added, most_added, both_added, fits_added, fits_both}
use Rattle.instance_normal.proofs.rows.add_row.Goals as goal

pub returns-in_ok-least_row-in-AtLeast-clause-rows : goal.returns-in_ok-least_row-in-AtLeast-clause-rows
returns-in_ok-least_row-in-AtLeast-clause-rows c = least_added c.push.result c.args.row.now c.args.rows.now c.push.new.self c.in_ok-least_row-in-AtLeast.field-0 c.in-AtLeast.is c.in_ok-least_row-in-AtLeast.ensures.row c.push.ensures.ok

pub returns-in_ok-least_row-in-AtLeast-clause-fits : goal.returns-in_ok-least_row-in-AtLeast-clause-fits
returns-in_ok-least_row-in-AtLeast-clause-fits c = fits_added c.push.result (λ n. TermsUpTo n c.args.row.now.terms) c.args.rows.now c.push.new.self c.in_ok-least_row-in-AtLeast.field-0 c.in_ok-least_row-in-AtLeast.ensures.fits c.push.ensures.ok

pub returns-in_ok-most_row-in-AtMost-clause-rows : goal.returns-in_ok-most_row-in-AtMost-clause-rows
returns-in_ok-most_row-in-AtMost-clause-rows c = most_added c.push-in-AtMost.result c.args.row.now c.args.rows.now c.push-in-AtMost.new.self c.in_ok-most_row-in-AtMost.field-0 c.in-AtMost.is c.in_ok-most_row-in-AtMost.ensures.row c.push-in-AtMost.ensures.ok

pub returns-in_ok-most_row-in-AtMost-clause-fits : goal.returns-in_ok-most_row-in-AtMost-clause-fits
returns-in_ok-most_row-in-AtMost-clause-fits c = fits_added c.push-in-AtMost.result (λ n. TermsUpTo n c.args.row.now.terms) c.args.rows.now c.push-in-AtMost.new.self c.in_ok-most_row-in-AtMost.field-0 c.in_ok-most_row-in-AtMost.ensures.fits c.push-in-AtMost.ensures.ok

pub returns-in_ok-push-in-Equal-clause-rows : goal.returns-in_ok-push-in-Equal-clause-rows
returns-in_ok-push-in-Equal-clause-rows c = both_added c.push-in-Equal-2.result c.args.row.now c.args.rows.now c.push-in-Equal.new.self c.push-in-Equal-2.new.self c.in_ok-least-in-Equal.least c.in_ok-most-in-Equal.most c.in-Equal.is c.in_ok-least-in-Equal.ensures.row c.in_ok-most-in-Equal.ensures.row c.in_ok-push-in-Equal.ensures.ok c.push-in-Equal-2.ensures.ok

pub returns-in_ok-push-in-Equal-clause-fits : goal.returns-in_ok-push-in-Equal-clause-fits
returns-in_ok-push-in-Equal-clause-fits c = fits_both c.push-in-Equal-2.result (λ n. TermsUpTo n c.args.row.now.terms) c.args.rows.now c.push-in-Equal.new.self c.push-in-Equal-2.new.self c.in_ok-least-in-Equal.least c.in_ok-most-in-Equal.most c.in_ok-least-in-Equal.ensures.fits c.in_ok-most-in-Equal.ensures.fits c.in_ok-push-in-Equal.ensures.ok c.push-in-Equal-2.ensures.ok
