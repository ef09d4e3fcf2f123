use Rattle.proof_lines.proofs.ShortWords.{variable_read}
use Rattle.proof_lines.proofs.short.variable_at.Goals as goal

pub returns : goal.returns
returns c = variable_read c.args.text.now c.args.at c.number_at.result (c.begins_at.ensures.0 c.if-not-begins_at.false) c.number_at.ensures
