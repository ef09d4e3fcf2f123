use Rattle.proof_lines.specs.LineText.{token_words}
use Rattle.proof_lines.proofs.Appends.{all_put}
use Rattle.proof_lines.proofs.append.append_tokens.Goals as goal

pub returns : goal.returns
returns c = all_put (token_words c.args.spelling) c.args.tokens.now c.loop-token.token-index _ _ c.loop-token-test.false c.loop-token.invariant
