use Rattle.std.proofs.Common.{◌∙◌, ◌<◌, ◌^◌, rules}
use Rattle.front_text.proofs.Models.{no_literal}
use Rattle.front_text.proofs.entry.take_literal.Goals as goal

pub returns : goal.returns
returns c =
    let small : c.args.var < 2 ^ 64 = search rules in
    no_literal c.args.cursor.now c.skip-negative.new.self c.as_bytes.result.now c.args.var c.skip-negative.result c.requires small (c.as_bytes.ensures.value ∙ c.format.ensures.text) c.skip-negative.ensures c.if-skip.ensures.1
