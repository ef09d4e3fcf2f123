use Rattle.std.proofs.Common.{arith, ◌≤◌, ◌^◌, rules}
use Rattle.std.proofs.lemmas.Int.{ints}
use Rattle.pb_lin.specs.NormalForm.{magnitude}
use Rattle.pb_lin.proofs.Excess.{HasExcess-same}
use Rattle.pb_lin.proofs.constraint.Constraint.normal.Goals as goal

pub positive_terms-requires : goal.positive_terms-requires
positive_terms-requires c = let small = c.is_small.ensures.0 c.if-not-is_small.false in omega arith

pub returns-clause-overflow : goal.returns-clause-overflow
returns-clause-overflow c =
    let small = c.is_small.ensures.0 c.if-not-is_small.false in
    ((λ error. cc), (λ above. absurd (omega (arith, ints))))

pub overflow_cast-lowered : goal.overflow_cast-lowered
overflow_cast-lowered c =
    let small = c.is_small.ensures.0 c.if-not-is_small.false in
    let lowered = c.in_ok-positive.ensures.lowered in omega (arith, ints)

pub overflow_add-degree : goal.overflow_add-degree
overflow_add-degree c =
    let small = c.is_small.ensures.0 c.if-not-is_small.false in
    let lowered = c.in_ok-positive.ensures.lowered in omega (arith, ints)

pub normal_form_of_positive-requires-clause-small : goal.normal_form_of_positive-requires-clause-small
normal_form_of_positive-requires-clause-small c =
    let small = c.is_small.ensures.0 c.if-not-is_small.false in
    let total = c.in_ok-positive.ensures.total in omega arith

pub normal_form_of_positive-requires-clause-low : goal.normal_form_of_positive-requires-clause-low
normal_form_of_positive-requires-clause-low c =
    let small = c.is_small.ensures.0 c.if-not-is_small.false in
    let lowered = c.in_ok-positive.ensures.lowered in omega (arith, ints)

pub normal_form_of_positive-requires-clause-room : goal.normal_form_of_positive-requires-clause-room
normal_form_of_positive-requires-clause-room c =
    let small = c.is_small.ensures.0 c.if-not-is_small.false in
    let lowered = c.in_ok-positive.ensures.lowered in
    let total = c.in_ok-positive.ensures.total in omega (arith, ints)

pub returns-clause-normal_form : goal.returns-clause-normal_form
returns-clause-normal_form c =
    let small : magnitude c.args.terms.now c.args.degree ≤ 2 ^ 99 = search rules in
    HasExcess-same _ _ _ c.in_ok-constraint.ensures (λ a.
    let value = c.in_ok-positive.ensures.value a in
    let lowered = c.in_ok-positive.ensures.lowered in omega (arith, ints))
