use Rattle.std.proofs.Common.{sym, ◌∙◌}
use Rattle.proof_lines.proofs.IdWords.{none_before}
use Rattle.proof_lines.proofs.ids.id_before.Goals as goal

pub returns-then-not-is_made : goal.returns-then-not-is_made
returns-then-not-is_made c = none_before c.args.rows c.args.next_id c.args.distance c.if-distance-next_id.false (sym c.is_made.ensures ∙ c.if-not-is_made.true)
