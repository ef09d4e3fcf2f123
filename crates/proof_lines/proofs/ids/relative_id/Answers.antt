use Rattle.std.proofs.Common.{sym, ◌∙◌}
use Rattle.proof_lines.proofs.IdWords.{back_value, made_in_digits, no_digits, plain_digits}
use Rattle.proof_lines.proofs.ids.relative_id.Goals as goal

pub returns-in-Some : goal.returns-in-Some
returns-in-Some c = back_value c.args.rows c.args.next_id c.args.word.now c.in-Some.digits.now c.id_back.result c.requires c.in-Some.ensures c.id_back.ensures

pub returns-in_err-id : goal.returns-in_err-id
returns-in_err-id c = rw c.from_residual.ensures (no_digits c.args.rows c.args.next_id c.args.word.now c.in_default.ensures c.in_err-id.ensures)

pub returns-then-is_made : goal.returns-then-is_made
returns-then-is_made c = made_in_digits c.args.rows c.args.next_id c.in_ok-id.id c.args.word.now c.in_ok-id.ensures.0 c.in_ok-id.ensures.1 (sym c.is_made.ensures ∙ c.if-is_made.true)

pub returns : goal.returns
returns c = plain_digits c.args.rows c.args.next_id c.in_ok-id.id c.args.word.now c.in_ok-id.ensures.0 c.in_ok-id.ensures.1 (sym c.is_made.ensures ∙ c.if-is_made.false)
