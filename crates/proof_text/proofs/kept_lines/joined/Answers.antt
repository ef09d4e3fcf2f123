use Rattle.std.proofs.Common.{ap₂, arith}
use Rattle.proof_text.specs.KeptLines.{token_by}
use Rattle.proof_text.proofs.kept_lines.joined.Goals as goal

pub returns : goal.returns
returns c = ap₂ token_by (omega (arith, c.requires)) (omega (arith, c.requires))
