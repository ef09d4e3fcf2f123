use Rattle.proof_lines.proofs.ShortWords.{literal_read}
use Rattle.proof_lines.proofs.short.literal_at.Goals as goal

pub returns : goal.returns
returns c =
    let tilde = c.after_tilde-negated.result in
    literal_read c.args.text.now c.args.at tilde.1 c.in_ok-var.var c.in_ok-var.next c.new.result tilde.0 c.after_tilde-negated.ensures.place c.new.ensures.var c.new.ensures.neg c.in_ok-var.ensures
