use Rattle.std.proofs.Common.{◌≡◌, ◌+◌, ◌<◌, arith}
use Rattle.std.proofs.Math.Nat.{lt_of_not-le}
use Rattle.pb_lin.specs.Constraint.{total, value, negation}
use Rattle.pb_lin.proofs.OppositeTerms.{value-opposite}
use Rattle.pb_lin.proofs.negation.negation_holds_elsewhere.Goals as goal

pub returns : goal.returns
returns c = λ d normal a.
    let sums : value a (negation d).terms + value a d.terms ≡ total d.terms = value-opposite a d.terms in
    ((λ holds other. omega arith), (λ not_holds. let below : value a d.terms < d.degree = lt_of_not-le not_holds in omega arith))
