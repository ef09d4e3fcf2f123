-- Nothing rises.
use mir.Val.{SFits, of_z, to_z}
use mir.Syntax.{w64}
use Rattle.std.proofs.Common.{rules, ◌≡◌, arith}
use Rattle.std.proofs.lemmas.Int.{ints, to_z-of_z}
use Rattle.front_set.proofs.FrontLaws.{IsBelow-refl}
use Rattle.relaxations.proofs.LimitNumbers.{lowered}
use Rattle.relaxations.proofs.linear_boxes.lower.Goals as goal

pub returns-then-most-at : goal.returns-then-most-at
returns-then-most-at c =
    let less = c.if-most-at.true in
    let fits : SFits w64 c.args.most = search rules in
    let same : to_z w64 (of_z w64 c.args.most) ≡ c.args.most = to_z-of_z w64 c.args.most fits in
    lowered c.args.numbers.now c.set.new.self c.args.objective _ c.at.result.now c.set.ensures c.at.ensures
    (omega (arith, ints, less, same))

pub returns-else-objective-len : goal.returns-else-objective-len
returns-else-objective-len c = IsBelow-refl c.args.numbers.now
