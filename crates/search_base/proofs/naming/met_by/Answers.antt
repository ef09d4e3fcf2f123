use Rattle.std.proofs.Common.{◌≡◌, ◌<◌, ℕ, List, length, get_or, ap, ◌∙◌, arith}
use Rattle.std.proofs.lemmas.List.Sums.{sum_by_more_le_part}
use Rattle.scut_base.specs.Literal.{Literal}
use Rattle.pb_lin.specs.Restriction.{met_value}
use Rattle.pb_lin.proofs.Truths.{met_value-le}
use Rattle.search_base.specs.Cutting.{answered_literals}
use Rattle.search_base.proofs.naming.met_by.Goals as goal

pub overflow_add-met : goal.overflow_add-met
overflow_add-met c =
    let terms = c.args.row.now.terms in
    let lits = answered_literals c.args.answers.now in
    let i = c.loop-term.term-index in
    let items = c.terms-term-items in
    let sizes = ap (λ (ts : List (Literal × ℕ)). length ts) items.ensures.value in
    let short : i < length terms = omega (arith, sizes, c.loop-term-test.true) in
    let sum = sum_by_more_le_part (met_value lits) (λ (t : Literal × ℕ). t.1) terms i c.term-item.result short
    (met_value-le lits) in
    let here : c.term-item.result ≡ get_or terms i c.term-item.result = c.term-item.is
    ∙ ap (λ (ts : List (Literal × ℕ)). get_or ts i c.term-item.result) items.ensures.value in
    let weight = ap (λ (t : Literal × ℕ). t.1) here in
    let small = items.ensures.row.small in
    let so_far = c.loop-term.invariant in
    record { fits = omega arith }
