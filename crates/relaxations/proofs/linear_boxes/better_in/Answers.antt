-- One number is less, and the others are those of the aim.
use Rattle.std.proofs.Common.{◌∙◌, arith}
use Rattle.std.proofs.lemmas.Int.{ints}
use Rattle.relaxations.proofs.LimitNumbers.{lessened}
use Rattle.relaxations.proofs.linear_boxes.better_in.Goals as goal

pub returns : goal.returns
returns c =
    let copied = rw c.new-limits.ensures at c.in_ok-extend_from_slice.ensures.ok in
    let number = c.if-number.false in
    lessened c.args.aim.now c.extend_from_slice.new.self c.from_items.result c.args.objective _ c.get-number.result
    (copied ∙ c.as_slice.ensures) (c.from_items.ensures ∙ c.set.ensures) c.get-number.ensures (omega (arith, ints, number))
