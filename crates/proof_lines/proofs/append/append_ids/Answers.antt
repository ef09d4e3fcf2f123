use Rattle.proof_lines.specs.Ids.{id_word}
use Rattle.proof_lines.proofs.Appends.{each_put}
use Rattle.proof_lines.proofs.append.append_ids.Goals as goal

pub returns : goal.returns
returns c = each_put (id_word c.args.spelling) c.args.ids.now c.loop-id.id-index _ _ c.loop-id-test.false c.loop-id.invariant
