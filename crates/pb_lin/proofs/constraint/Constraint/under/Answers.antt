use Rattle.std.proofs.Common.{arith, ap, ◌∙◌}
use Rattle.std.proofs.lemmas.Int.{ints}
use Rattle.pb_lin.specs.Constraint.{total}
use Rattle.pb_lin.specs.Substitution.{value_under}
use Rattle.pb_lin.proofs.Excess.{HasExcess-same}
use Rattle.pb_lin.proofs.constraint.Constraint.under.Goals as goal

pub replaced-requires-clause-small : goal.replaced-requires-clause-small
replaced-requires-clause-small c =
    let all = ap total (c.as_slice.ensures ∙ c.in_ok-terms.ensures.value) in
    let small = c.size.ensures.normal.small in
    omega arith

pub overflow_cast-least-2 : goal.overflow_cast-least-2
overflow_cast-least-2 c =
    let all = ap total (c.as_slice.ensures ∙ c.in_ok-terms.ensures.value) in
    let less = c.in_ok-terms-2.ensures.total in
    let small = c.degree.ensures.normal.small in
    omega (arith, ints)

pub normal_form_of_positive-requires-clause-low : goal.normal_form_of_positive-requires-clause-low
normal_form_of_positive-requires-clause-low c =
    let all = ap total (c.as_slice.ensures ∙ c.in_ok-terms.ensures.value) in
    let less = c.in_ok-terms-2.ensures.total in
    let degree = c.degree.ensures.value in
    let small = c.degree.ensures.normal.small in
    omega (arith, ints)

pub normal_form_of_positive-requires-clause-room : goal.normal_form_of_positive-requires-clause-room
normal_form_of_positive-requires-clause-room c =
    let all = ap total (c.as_slice.ensures ∙ c.in_ok-terms.ensures.value) in
    let less = c.in_ok-terms-2.ensures.total in
    let degree = c.degree.ensures.value in
    let size = c.size.ensures.value in
    omega (arith, ints)

pub returns-clause-under : goal.returns-clause-under
returns-clause-under c =
    let same = c.as_slice.ensures ∙ c.in_ok-terms.ensures.value in
    HasExcess-same _ _ _ c.in_ok-constraint.ensures (λ a.
    let value = c.in_ok-terms-2.ensures.value a in
    let terms = ap (value_under c.args.w.now a) same in
    let less = c.in_ok-terms-2.ensures.total in
    let all = ap total same in
    let size = c.size.ensures.value in
    let degree = c.degree.ensures.value in
    omega (arith, ints))
