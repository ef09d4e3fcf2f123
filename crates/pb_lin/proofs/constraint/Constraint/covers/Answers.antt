use Rattle.std.proofs.Common.{arith}
use Rattle.std.proofs.lemmas.Bool.{leb-true, le-leb}
use Rattle.pb_lin.proofs.Covers.{Covers-from_excess, excess_from_Covers}
use Rattle.pb_lin.proofs.constraint.Constraint.covers.Goals as goal

pub returns : goal.returns
returns c =
    let p = c.args.self.now in
    let q = c.args.other.now in
    let other = c.degree.ensures.value in
    let own = c.degree-2.ensures.value in (
      (λ yes. let le = leb-true _ _ yes in Covers-from_excess p q c.degree-2.ensures.normal (omega (arith, c.greatest_excess.ensures.value))),
      (λ covers. let le = excess_from_Covers p q c.degree-2.ensures.normal c.degree.ensures.normal covers in le-leb _ _ (omega (arith, c.greatest_excess.ensures.value))),
    )
