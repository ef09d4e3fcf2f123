use Rattle.std.proofs.Common.{◌≡◌, ◌<◌, pos, neg_ℤ, to_z, of_z, arith}
use Rattle.std.specs.Int.{w128}
use Rattle.std.proofs.lemmas.Int.{ints}
use Rattle.pb_lin.specs.Constraint.{opposite}
use Rattle.instance_normal.specs.NormalForm.{positive}
use Rattle.instance_normal.proofs.Distinct.{literal, is_positive}
use Rattle.instance_normal.proofs.Merging.{positive_sum, negative_sum}
use Rattle.instance_normal.proofs.cost.add_signed.Goals as goal

pub returns-then-coefficient-gt0 : goal.returns-then-coefficient-gt0
returns-then-coefficient-gt0 c =
    let amount : c.args.sum.1 ≡ pos c.unsigned_abs.result = omega (arith, ints, c.unsigned_abs.ensures.value) in
    let some : 0 < c.unsigned_abs.result = omega (arith, ints, c.unsigned_abs.ensures.value) in
    record { added = positive_sum c.args.sum c.args.terms.now c.push.new.self c.new.result c.unsigned_abs.result (is_positive c.new.result c.args.sum.0 c.new.ensures.var c.new.ensures.neg) amount some c.in_ok-push.ensures.ok }

pub returns-then-coefficient-lt0 : goal.returns-then-coefficient-lt0
returns-then-coefficient-lt0 c =
    let lit : c.new-then-coefficient-lt0.result ≡ opposite (positive c.args.sum.0) = literal c.new-then-coefficient-lt0.result (opposite (positive c.args.sum.0)) c.new-then-coefficient-lt0.ensures.var c.new-then-coefficient-lt0.ensures.neg in
    let amount : c.args.sum.1 ≡ neg_ℤ (pos c.unsigned_abs-then-coefficient-lt0.result) = omega (arith, ints, c.unsigned_abs-then-coefficient-lt0.ensures.value) in
    let same : to_z w128 (of_z w128 c.from.result) ≡ c.args.sum.1 = omega (arith, ints, c.from.ensures) in
    let some : 0 < c.unsigned_abs-then-coefficient-lt0.result = omega (arith, ints, c.unsigned_abs-then-coefficient-lt0.ensures.value) in
    record { added = negative_sum c.args.sum c.args.terms.now c.push-then-coefficient-lt0.new.self c.new-then-coefficient-lt0.result c.unsigned_abs-then-coefficient-lt0.result (to_z w128 (of_z w128 c.from.result)) lit amount same some c.in_ok-push-2.ensures.ok }
