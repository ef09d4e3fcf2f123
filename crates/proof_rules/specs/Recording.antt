-- What recorders keep.
use Rattle.std.specs.Prelude.{◌≡◌, ◌≤◌, ◌⊎◌, ℕ, Bool, List, Option, None, Some}
use Rattle.std.specs.Borrow.{GName}
use Rattle.scut_base.specs.Files.{Files}
use Rattle.scut_base.specs.Faults.{Faults, NoneFell}
use Rattle.pb_lin.specs.Problem.{ProblemValue}
use Rattle.proof_laws.specs.State.{StateValue}
use Rattle.proof_laws.specs.Legal.{IsLegal, IsRefused}
use Rattle.proof_laws.specs.Replay.{IsReplay}
use Rattle.proof_laws.specs.declared.line.Line.{Line}
use Rattle.proof_laws.specs.declared.why.Why.TheVariants.{LogLong}

-- What stands around a recorder: the shelf that it was lent, the name of the file that it writes and the version of the text in it,
-- the other files, what was said and warned, and the shelf's counts of faults.
pub record Surroundings : Type 0 where
  pub shelf : Option GName
  pub name : List ℕ
  pub version : Option ℕ
  pub others : Option Files
  pub said : Option (List ℕ)
  pub warned : Option (List ℕ)
  pub counts : Option Faults

-- no count fell, where there are counts
abbrev pub CountsLater : Option Faults → Option Faults → Type 0
CountsLater None now = now ≡ None
CountsLater (Some before) None = ⊥
CountsLater (Some before) (Some now) = NoneFell before now

-- all is as it was, but for counts that may have risen
pub record KeepsSurroundings (before now : Surroundings) : Type 0 where
  pub shelf : now.shelf ≡ before.shelf
  pub name : now.name ≡ before.name
  pub version : now.version ≡ before.version
  pub others : now.others ≡ before.others
  pub said : now.said ≡ before.said
  pub warned : now.warned ≡ before.warned
  pub counts : CountsLater before.counts now.counts

-- what can be seen of a recorder at one time
pub record Snapshot : Type 0 where
  pub problem : ProblemValue
  -- how many clauses may be learned, where that is limited
  pub limit : Option ℕ
  -- the lines so far
  pub lines : List Line
  -- how often what keeps the proof has failed
  pub faults : ℕ
  -- an answer has left it unusable
  pub broken : Bool
  -- what stands around it and stays as it is
  pub around : Surroundings

-- What no call changes: the problem, the limit and the surroundings; and no fault is forgotten.
pub record KeepsRecorder (before now : Snapshot) : Type 0 where
  pub problem : now.problem ≡ before.problem
  pub limit : now.limit ≡ before.limit
  pub around : KeepsSurroundings before.around now.around
  pub later : before.faults ≤ now.faults

-- the line is legal after these, or refused for their number alone
abbrev pub MayBeAdded : ProblemValue → List Line → Line → Type 0
MayBeAdded p lines line = (s : StateValue) → IsReplay p lines s → IsLegal p s line ⊎ IsRefused p s line LogLong

-- the id that the next constraint gets after these lines
abbrev pub IsNextId : ProblemValue → List Line → ℕ → Type 0
IsNextId p lines id = (s : StateValue) → IsReplay p lines s → id ≡ s.next_id
