-- When a call has learned as many clauses as it may.
use Rattle.std.specs.Prelude.{ℕ, Bool, false, nat_lt, not, Result, Err}
use Rattle.oracle.specs.declared.answer.Answer.{Answer}
use Rattle.oracle.specs.declared.fault.OracleFault.{OracleFault}
use Rattle.oracle.specs.declared.fault.OracleFault.TheVariants.{Spent}

-- so many clauses were learned, and one more would have been
abbrev pub has_spent : ℕ → Result Answer OracleFault → Bool
has_spent most (Err (Spent learned)) = not (nat_lt learned most)
has_spent most told = false
