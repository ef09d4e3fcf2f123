use Rattle.proof_lines.proofs.IdWords.{back_from, back_none}
use Rattle.proof_lines.proofs.ids.id_back.Goals as goal

pub returns-in_err-plain_id : goal.returns-in_err-plain_id
returns-in_err-plain_id c = rw c.from_residual.ensures (back_none c.args.rows c.args.next_id c.args.digits.now c.requires c.in_err-plain_id.ensures)

pub returns : goal.returns
returns c = back_from c.args.rows c.args.next_id c.in_ok-plain_id.field-0 c.args.digits.now c.id_before.result c.requires c.in_ok-plain_id.ensures.0 c.in_ok-plain_id.ensures.1 c.id_before.ensures
