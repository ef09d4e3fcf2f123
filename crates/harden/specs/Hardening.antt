-- Recorders that have the lines of hardening, and why they may not have them.
use Rattle.std.specs.Prelude.{◌≡◌, ℕ, ◌+◌, false, List, ◌++◌, map, All}
use Rattle.scut_base.specs.Faults.{Rose}
use Rattle.pb_lin.specs.Problem.{ProblemValue}
use Rattle.proof_laws.specs.State.{StateValue}
use Rattle.proof_laws.specs.Replay.{IsReplay}
use Rattle.proof_laws.specs.Earned.{is_sol}
use Rattle.proof_laws.specs.declared.line.Line.{Line}
use Rattle.proof_rules.specs.Recording.{Snapshot}
use Rattle.oracle.specs.Solving.{AreEarned, IsWithin}
use Rattle.oracle.specs.declared.fault.OracleFault.{OracleFault}
use Rattle.oracle.specs.declared.fault.OracleFault.TheVariants.{Spent, Failed, Full, NoMemory}
use Rattle.sum_outputs.specs.Adding.{IsReady}
use Rattle.harden.specs.Hardened.{fixed_upto, fixing_line, hardened}
use Rattle.harden.specs.Laws.{IsHardenedTo}

-- the recorder has the lines of the variables from 1 to n, and no others
pub record HardensTo (p : ProblemValue) (a : Snapshot) (n : ℕ) : Type 0 where
  pub problem : a.problem ≡ p
  pub whole : a.broken ≡ false
  pub lines : a.lines ≡ map (fixing_line p) (fixed_upto p n)
  pub state : StateValue
  pub reached : IsReplay p a.lines state
  pub hardened : IsHardenedTo p state (n + 1)

-- The lines may be followed by those of a search: they haven't ended, have earned what they learned, no more than may be,
-- and have logged no solution.
pub record MayBeSearched (a : Snapshot) : Type 0 where
  pub ready : IsReady a
  pub earned : AreEarned a.problem a.lines
  pub within : IsWithin a.limit a.problem a.lines
  pub no_solutions : All (λ line. is_sol line ≡ false) a.lines

-- some first ones of the lines of hardening
abbrev pub ArePartOf : List Line → ProblemValue → Type 0
ArePartOf lines p = (rest : List Line) × (hardened p ≡ lines ++ rest)

-- why there is no answer: nothing is learned, and there are fewer lines than variables
abbrev pub IsHardeningFault : Snapshot → Snapshot → OracleFault → Type 0
IsHardeningFault a b (Spent learned) = ⊥
IsHardeningFault a b Failed = Rose a.faults b.faults
IsHardeningFault a b Full = ⊥
IsHardeningFault a b NoMemory = Unit {0}
