use Rattle.std.proofs.Common.{◌≡◌, take}
use Rattle.pb_lin.specs.Constraint.{ones}
use Rattle.proof_lines.proofs.terms.joined.Given as goal

abbrev pub invariant-loop-lit : goal.invariant-loop-lit
invariant-loop-lit l = l.terms ≡ ones (take l.lit-index l.lits)
