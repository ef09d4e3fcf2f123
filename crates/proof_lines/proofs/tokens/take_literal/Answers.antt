use Rattle.std.proofs.Common.{sym, ◌∙◌}
use Rattle.proof_lines.proofs.TokenParts.{literal_wrong}
use Rattle.proof_lines.proofs.tokens.take_literal.Goals as goal

pub returns-then-is_neg : goal.returns-then-is_neg
returns-then-is_neg c = λ spelling. literal_wrong spelling c.args.lit c.args.words.now c.skip.new.self (sym c.is_neg.ensures ∙ c.if-is_neg.true) c.if-not-skip.ensures
