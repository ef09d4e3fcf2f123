use Rattle.std.proofs.Common.{ℕ, ◌<◌, get_or}
use Rattle.scut_base.specs.Literal.{Literal}
use Rattle.proof_laws.specs.WellFormed.{IsVariable}
use Rattle.search_base.proofs.RisingLiterals.{RiseUpTo}
use Rattle.search_base.proofs.logging.variables_rise.Given as goal

abbrev pub invariant-loop-at : goal.invariant-loop-at
invariant-loop-at l = RiseUpTo l.lits l.at × ((k : ℕ) (d : Literal) → k < l.at → IsVariable (get_or l.lits k d).var)
