use Rattle.std.proofs.Common.{◌-◌, length, take, drop, arith}
use Rattle.std.proofs.lemmas.List.{take_rest}
use Rattle.proof_lines.proofs.ShortWords.{unit_read}
use Rattle.proof_lines.proofs.short.unit_at.Goals as goal

pub returns-in-49 : goal.returns-in-49
returns-in-49 c =
    let text = c.args.text.now in
    let rest = take (length text - c.args.at) (drop c.args.at text) in
    unit_read text rest c.args.at c.literal_at.result (take_rest text c.args.at) c.requires (omega (arith, c.in-49.len_at_least)) (omega arith) (omega arith) c.literal_at.ensures
