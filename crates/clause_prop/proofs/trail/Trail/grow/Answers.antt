use Rattle.std.proofs.Common.{arith, length, ◌<◌}
use Rattle.clause_prop.proofs.Tables.{tables_up_to}
use Rattle.clause_prop.proofs.TruthTable.{tables_room, truths_longer, truths_up_to}
use Rattle.clause_prop.proofs.trail.Trail.grow.Goals as goal

pub invariant_of-self-in_err-lengthen-3 : goal.invariant_of-self-in_err-lengthen-3
invariant_of-self-in_err-lengthen-3 c =
    let i = c.self.inside in
    rw (c.in_err-lengthen-3.ensures.err, c.in_ok-lengthen-2.ensures.ok, c.in_ok-lengthen.ensures.ok)
    (tables_room i.values.items i.places.items i.steps.items i.count _ _ _ _ c.self.invariant.0, c.self.invariant.1)

pub invariant_of-self-in_err-lengthen-4 : goal.invariant_of-self-in_err-lengthen-4
invariant_of-self-in_err-lengthen-4 c =
    let i = c.self.inside in
    rw (c.in_err-lengthen-4.ensures.err, c.in_ok-lengthen-3.ensures.ok, c.in_ok-lengthen-2.ensures.ok, c.in_ok-lengthen.ensures.ok)
    (tables_room i.values.items i.places.items i.steps.items i.count _ _ _ _ c.self.invariant.0, truths_longer i.values.items i.truths.items _ c.self.invariant.1)

pub invariant_of-self-in-Continue-branch-5 : goal.invariant_of-self-in-Continue-branch-5
invariant_of-self-in-Continue-branch-5 c =
    let i = c.self.inside in
    let more : length i.values.items < c.args.vars = omega (arith, c.len.ensures, c.if-len-vars.true) in
    rw (c.in_ok-lengthen-4.ensures.ok, c.in_ok-lengthen-3.ensures.ok, c.in_ok-lengthen-2.ensures.ok, c.in_ok-lengthen.ensures.ok)
    (tables_up_to i.values.items i.places.items i.steps.items i.count c.args.vars _ _ c.self.invariant.0 more, truths_up_to i.values.items i.truths.items c.args.vars c.in_ok-codes.codes c.self.invariant.1 more c.in_ok-codes.ensures)
