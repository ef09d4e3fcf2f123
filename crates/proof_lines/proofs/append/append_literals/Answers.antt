use Rattle.proof_lines.specs.LineText.{literal_word}
use Rattle.proof_lines.proofs.Appends.{each_put}
use Rattle.proof_lines.proofs.append.append_literals.Goals as goal

pub returns : goal.returns
returns c = each_put literal_word c.args.lits.now c.loop-lit.lit-index _ _ c.loop-lit-test.false c.loop-lit.invariant
