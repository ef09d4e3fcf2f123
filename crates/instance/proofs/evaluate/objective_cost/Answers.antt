use Rattle.std.proofs.Common.{◌≡◌, ◌≤◌, ◌<◌, ◌^◌, unsigned_abs, arith, rules}
use Rattle.std.proofs.lemmas.Int.{ints}
use Rattle.instance.specs.Shape.{terms_magnitude, weights_sum, objective_magnitude}
use Rattle.instance.specs.Meaning.{int_sum_by, soft_cost, terms_value}
use Rattle.instance.proofs.evaluate.objective_cost.Goals as goal

pub returns-clause-cost : goal.returns-clause-cost
returns-clause-cost c =
    let softs : c.softs_cost-softs.result ≡ int_sum_by (soft_cost c.args.a.now) c.args.objective.now.softs = search rules in
    let terms : c.terms_value-terms.result ≡ terms_value c.args.a.now c.args.objective.now.terms = search rules in
    let weights : unsigned_abs c.softs_cost-softs.result ≤ weights_sum c.args.objective.now.softs = search rules in
    let coefficients : unsigned_abs c.terms_value-terms.result ≤ terms_magnitude c.args.objective.now.terms = search rules in
    let small : objective_magnitude c.args.objective.now < 2 ^ 63 = c.requires.magnitude in
    omega (arith, ints)

pub returns-clause-small : goal.returns-clause-small
returns-clause-small c =
    let softs : c.softs_cost-softs.result ≡ int_sum_by (soft_cost c.args.a.now) c.args.objective.now.softs = search rules in
    let terms : c.terms_value-terms.result ≡ terms_value c.args.a.now c.args.objective.now.terms = search rules in
    let weights : unsigned_abs c.softs_cost-softs.result ≤ weights_sum c.args.objective.now.softs = search rules in
    let coefficients : unsigned_abs c.terms_value-terms.result ≤ terms_magnitude c.args.objective.now.terms = search rules in
    let small : objective_magnitude c.args.objective.now < 2 ^ 63 = c.requires.magnitude in
    omega (arith, ints)
