use Rattle.std.proofs.Common.{ltb, ap, ◌∙◌}
use Rattle.instance_normal.proofs.Tightening.{needed}
use Rattle.instance_normal.proofs.soft.is_relaxed.Goals as goal

pub returns-in-Some : goal.returns-in-Some
returns-in-Some c =
    let found = rw c.in-Some.is at c.in_ok-paid_literals.ensures in
    ap (λ n. ltb 1 n) c.len.ensures ∙ needed c.args.soft.now c.in-Some.distinct found.0 found.1 found.2
