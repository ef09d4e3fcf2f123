use Rattle.std.proofs.Common.{◌≢◌, ◌∙◌, length, sym, arith}
use Rattle.std.proofs.lemmas.Bool.{ne_eqb}
use Rattle.front_set.proofs.FrontLaws.{is_below-lengths}
use Rattle.relaxations.proofs.box_parts.is_below.Goals as goal

pub returns-else-len : goal.returns-else-len
returns-else-len c =
    let differ : length c.args.costs.now ≢ length c.args.limits.now = λ same. absurd (omega arith) in
    ne_eqb c.len.result c.len-2.result (λ same. absurd (omega arith)) ∙ sym (is_below-lengths c.args.costs.now c.args.limits.now differ)
