use Rattle.std.proofs.Common.{sym, ap, ◌∙◌}
use Rattle.std.proofs.lemmas.List.{take_rest}
use Rattle.proof_lines.specs.Reading.{words_of}
use Rattle.proof_lines.proofs.ShortWords.{from_within}
use Rattle.proof_lines.proofs.short.rest_from.Goals as goal

pub returns : goal.returns
returns c = ap words_of (take_rest c.args.text.now c.args.at) ∙ sym (from_within c.args.text.now c.args.at c.if-at-text.false)
