use Rattle.std.proofs.Common.{refl}
use Rattle.proof_lines.proofs.Numbers.{zero_variable}
use Rattle.proof_lines.proofs.number.variable_of.Goals as goal

pub returns-then-var-eq0 : goal.returns-then-var-eq0
returns-then-var-eq0 c = λ x valid is. zero_variable c.args.word.now _ c.in_ok-var.var x refl c.if-var-eq0.true c.in_ok-var.ensures.1 valid is
