use Rattle.proof_lines.specs.LineText.{hint_word}
use Rattle.proof_lines.proofs.Appends.{each_put}
use Rattle.proof_lines.proofs.append.append_hints.Goals as goal

pub returns : goal.returns
returns c = each_put (hint_word c.args.spelling) c.args.hints.now c.loop-hint.hint-index _ _ c.loop-hint-test.false c.loop-hint.invariant
