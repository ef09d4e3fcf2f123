use Rattle.proof_lines.specs.LineText.{goal_words}
use Rattle.proof_lines.proofs.Appends.{all_put}
use Rattle.proof_lines.proofs.append.append_goals.Goals as goal

pub returns : goal.returns
returns c = all_put (goal_words c.args.spelling) c.args.proofs.now c.loop-proved.proved-index _ _ c.loop-proved-test.false c.loop-proved.invariant
