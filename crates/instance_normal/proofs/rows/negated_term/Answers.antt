use Rattle.std.proofs.Common.{◌≡◌, ℤ, ◌-ℤ◌, pos, neg_ℤ, to_z, of_z, ap, arith}
use Rattle.std.specs.Int.{w128}
use Rattle.std.proofs.lemmas.Int.{ints}
use Rattle.scut_base.specs.Literal.{Literal}
use Rattle.instance_normal.proofs.rows.negated_term.Goals as goal

pub returns-clause-value : goal.returns-clause-value
returns-clause-value c =
    let same : to_z w128 (of_z w128 (pos 0 -ℤ to_z w128 (of_z w128 c.from.result))) ≡ neg_ℤ c.args.term.now.0 = omega (arith, ints, c.from.ensures) in
    ap (λ (z : ℤ). let t : ℤ × Literal = (z, c.args.term.now.1) in t) same
