use Rattle.std.proofs.Common.{◌≡◌, ◌+◌, ◌<◌, suc, length, take, get_or, ap, ◌∙◌, arith, rules}
use Rattle.std.proofs.lemmas.List.{get_or_read}
use Rattle.proof_laws.specs.Steps.{made}
use Rattle.command_trim.specs.Marks.{made_by}
use Rattle.command_trim.proofs.Marking.{made_by_more, made_by_part, no_line}
use Rattle.command_trim.proofs.needing.ids_made.Goals as goal

pub overflow_add-count : goal.overflow_add-count
overflow_add-count c =
    let short : c.loop-line.line-index < length c.args.lines.now = search rules in
    let here : c.made-count.result ≡ made (get_or c.args.lines.now c.loop-line.line-index no_line) = c.made-count.ensures ∙ ap made (get_or_read c.args.lines.now _ _ short c.line-item.is no_line) in
    let more = made_by_more c.args.lines.now c.loop-line.line-index short in
    let at : suc c.loop-line.line-index ≡ c.loop-line.line-index + 1 = omega arith in
    let same = ap (λ k. made_by (take k c.args.lines.now)) at in
    let part = made_by_part c.args.lines.now (suc c.loop-line.line-index) in
    let most = c.requires in
    let inv = c.loop-line.invariant in
    omega (arith, here, more, part, most, inv)

pub loop-line-preserved : goal.loop-line-preserved
loop-line-preserved c =
    let short : c.loop-line.line-index < length c.args.lines.now = search rules in
    let here : c.made-count.result ≡ made (get_or c.args.lines.now c.loop-line.line-index no_line) = c.made-count.ensures ∙ ap made (get_or_read c.args.lines.now _ _ short c.line-item.is no_line) in
    let more = made_by_more c.args.lines.now c.loop-line.line-index short in
    let at : suc c.loop-line.line-index ≡ c.loop-line.line-index + 1 = omega arith in
    let same = ap (λ k. made_by (take k c.args.lines.now)) at in
    let inv = c.loop-line.invariant in
    omega (arith, here, more, same, inv)
