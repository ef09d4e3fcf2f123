use Rattle.std.proofs.Common.{◌≡◌, ℤ, ◌-ℤ◌, pos, neg_ℤ, to_z, of_z, ap, arith}
use Rattle.std.specs.Int.{w128}
use Rattle.std.proofs.lemmas.Int.{ints}
use Rattle.scut_base.specs.Literal.{Literal}
use Rattle.representatives.proofs.bounded.negated_term.Goals as goal

pub returns : goal.returns
returns c =
    let same : to_z w128 (of_z w128 (pos 0 -ℤ to_z w128 (of_z w128 c.from.result))) ≡ neg_ℤ (pos c.args.term.now.1) = omega (arith, ints, c.from.ensures) in
    ap (λ (z : ℤ). let t : ℤ × Literal = (z, c.args.term.now.0) in t) same
