use Rattle.std.proofs.Common.{ap, ◌∙◌}
use Rattle.pb_lin.specs.Restriction.{restriction}
use Rattle.pb_lin.proofs.Truths.{restriction-IsPermutation}
use Rattle.pb_lin.proofs.constraint.Constraint.restricted.Goals as goal

pub returns-then-is_cardinality : goal.returns-then-is_cardinality
returns-then-is_cardinality c =
    c.in_ok-rest.ensures ∙ ap (restriction c.args.self.now) c.deref.ensures.value
    ∙ restriction-IsPermutation c.args.self.now c.args.truths.now c.in_ok-sorted.sorted.items c.in_ok-sorted.ensures.same

pub returns : goal.returns
returns c =
    c.in_ok-rest-2.ensures ∙ ap (restriction c.args.self.now) c.deref-2.ensures.value
    ∙ restriction-IsPermutation c.args.self.now c.args.truths.now c.in_ok-sorted.sorted.items c.in_ok-sorted.ensures.same
