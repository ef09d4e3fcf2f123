use Rattle.std.proofs.Common.{◌-◌, length, take, drop, get_or, sym, ap, ◌∙◌, arith}
use Rattle.std.proofs.lemmas.List.{take_rest}
use Rattle.proof_lines.proofs.ShortWords.{number_ends, number_goes_on}
use Rattle.proof_lines.proofs.short.number_at.Goals as goal

pub returns-in-empty : goal.returns-in-empty
returns-in-empty c =
    let text = c.args.text.now in
    let rest = take (length text - c.args.at) (drop c.args.at text) in
    let read = c.leading_digits-number.ensures in
    let n = c.leading_digits-number.result.0 in
    let len = c.leading_digits-number.result.1 in
    let same = ap length (take_rest rest len) in
    (read.positive, read.leading.small, number_ends text rest c.args.at n len (take_rest text c.args.at) c.requires (omega arith, omega arith) read.some read.leading (omega (arith, c.in-empty.len_below, same)))

pub returns-in-32 : goal.returns-in-32
returns-in-32 c =
    let text = c.args.text.now in
    let rest = take (length text - c.args.at) (drop c.args.at text) in
    let read = c.leading_digits-number.ensures in
    let n = c.leading_digits-number.result.0 in
    let len = c.leading_digits-number.result.1 in
    let same = ap length (take_rest rest len) in
    (read.positive, read.leading.small, number_goes_on text rest c.args.at n len (take_rest text c.args.at) c.requires (omega arith, omega arith) read.some read.leading (omega (arith, c.in-32.len_at_least, same)) (ap (λ r. get_or r 0 0) (sym (take_rest rest len)) ∙ omega arith))
