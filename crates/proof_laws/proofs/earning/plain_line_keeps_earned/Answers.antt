use Rattle.proof_laws.proofs.EarnedLines.{line_keeps_earned}
use Rattle.proof_laws.proofs.earning.plain_line_keeps_earned.Goals as goal

pub returns : goal.returns
returns c = λ p lines n s t line plain earned replay next. line_keeps_earned p lines n s t line earned replay next plain
