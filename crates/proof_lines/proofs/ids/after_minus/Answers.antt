use Rattle.std.proofs.Common.{arith}
use Rattle.proof_lines.proofs.IdWords.{after_first}
use Rattle.proof_lines.proofs.ids.after_minus.Goals as goal

pub returns-in-45 : goal.returns-in-45
returns-in-45 c = after_first c.args.word.now 45 (omega arith) (omega arith)
