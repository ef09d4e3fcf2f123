-- What a checker of a log stands for.
use Rattle.std.specs.Prelude.{◌≡◌, ℕ, Bool, true, false, List, All, Option, None, Some, ℤ, OnOk, Result, Ok, Err}
use Rattle.pb_lin.specs.Problem.{ProblemValue}
use Rattle.proof_laws.specs.State.{StateValue}
use Rattle.proof_laws.specs.Replay.{IsReplay}
use Rattle.proof_laws.specs.declared.line.Line.{Line}
use Rattle.proof_laws.specs.declared.why.Why.{Why}
use Rattle.proof_text.specs.LogText.{HoldsNoFurtherLine}
use Rattle.proof_text.specs.Reading.{ReaderValue, StandsFor as ReaderStandsFor}
use Rattle.log_checker.specs.Accepted.{IsCovered}
use Rattle.log_checker.specs.LogFaults.{IsWholeFault, IsLogFault}
use Rattle.log_checker.specs.declared.fault.CheckFault.{CheckFault}
use Rattle.log_checker.specs.declared.fault.CheckFault.TheVariants.{Refused, ListRefused, NoMemory}
use Rattle.log_checker.specs.declared.fault.ListWhy.{ListWhy}

-- what a checker keeps: the problem, the vectors that may cover, what the reader keeps, the state that the lines reach, the
-- refusal that was answered, whether memory was refused, and whether the log was finished
pub record CheckerValue : Type 0 where
  pub problem : ProblemValue
  pub vectors : List (List ℤ)
  pub reader : ReaderValue
  pub state : StateValue
  pub refused : Option (ℕ × Why)
  pub failed : Bool
  pub finished : Bool

-- every whole line of these bytes was taken up
pub record HasTaken (c : CheckerValue) (bytes : List ℕ) (lines : List Line) : Type 0 where
  pub read : ReaderStandsFor c.reader bytes lines
  pub all : HoldsNoFurtherLine bytes lines
  pub replay : IsReplay c.problem lines c.state
  pub covered : All (IsCovered c.vectors) c.state.sols

-- a fault of these bytes: by their whole lines alone, while the log isn't finished
abbrev pub IsFaultBy : Bool → ProblemValue → List (List ℤ) → List ℕ → ℕ → Why → Type 0
IsFaultBy false p vectors bytes k why = IsWholeFault p vectors bytes k why
IsFaultBy true p vectors bytes k why = IsLogFault p vectors bytes k why

-- the same by whether a line was refused
abbrev pub HasJudged : Option (ℕ × Why) → CheckerValue → List ℕ → Type 0
HasJudged None c bytes = (lines : List Line) × HasTaken c bytes lines
HasJudged (Some fault) c bytes = IsFaultBy c.finished c.problem c.vectors bytes fault.0 fault.1

-- the checker stands for these bytes, which were fed
abbrev pub StandsFor : CheckerValue → List ℕ → Type 0
StandsFor c bytes = HasJudged c.refused c bytes

-- An answer is kept and given again, and names no list.
pub record KeepsAnswer (old new : CheckerValue) (result : Result (Unit {0}) CheckFault) : Type 0 where
  pub again : (k : ℕ) (why : Why) → old.refused ≡ Some (k, why) → result ≡ Err (Refused k why)
  pub kept : (k : ℕ) (why : Why) → result ≡ Err (Refused k why) → new.refused ≡ Some (k, why)
  pub failed : result ≡ Err NoMemory → (new.failed ≡ true) × (new.refused ≡ None)
  pub fails : old.failed ≡ true → old.refused ≡ None → result ≡ Err NoMemory
  pub passed : OnOk result ((new.failed ≡ false) × (new.refused ≡ None))
  pub no_list : (k : ℕ) (why : ListWhy) → result ≡ Err (ListRefused k why) → ⊥
