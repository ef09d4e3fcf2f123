-- How a search for a front comes back, and what it never changes.
use Rattle.std.specs.Prelude.{◌≡◌, ◌⊎◌, ◌≤◌, ◌^◌, ◌∷◌, ◌++◌, [], ℕ, false, List, length, Result, IfOk, IfErr, OnOk}
use Rattle.scut_base.specs.Faults.{Rose}
use Rattle.instance.specs.Shape.{InstanceValue}
use Rattle.pb_lin.specs.Problem.{ProblemValue}
use Rattle.proof_laws.specs.declared.line.Line.{Line}
use Rattle.proof_laws.specs.declared.line.Line.TheVariants.{End}
use Rattle.proof_rules.specs.Recording.{Snapshot, KeepsSurroundings}
use Rattle.proof_rules.specs.declared.recorder.RecordFault.{RecordFault}
use Rattle.proof_rules.specs.declared.recorder.RecordFault.TheVariants.{Failed, Full, NoMemory}
use Rattle.search_base.specs.Logged.{AddsTurnLines}
use Rattle.search_base.specs.Turns.{IsEndLine}
use Rattle.certified_front.specs.Certified.{CoversLogged, IsEnding}
use Rattle.certified_front.specs.declared.ending.Found.{Found}

-- lines of turns follow the old ones, and then perhaps the line that ends a proof
pub record AddsSearch (p : ProblemValue) (old new : List Line) : Type 0 where
  pub before : List Line
  pub turns : AddsTurnLines p old before
  pub last : (new ≡ before) ⊎ ((id : ℕ) × (new ≡ before ++ End id ∷ []))

-- what no call changes, and the lines that it may add
pub record StaysWith (a b : Snapshot) : Type 0 where
  pub problem : b.problem ≡ a.problem
  pub limit : b.limit ≡ a.limit
  pub later : a.faults ≤ b.faults
  pub around : KeepsSurroundings a.around b.around
  pub lines : AddsSearch a.problem a.lines b.lines

-- why there is no front
abbrev pub IsStop : Snapshot → Snapshot → RecordFault → Type 0
IsStop a b Failed = Rose a.faults b.faults
IsStop a b Full = length b.lines ≡ 2 ^ 61
IsStop a b NoMemory = Unit {0}

-- the line ends the proof, by a live line `0 >= 1`
abbrev pub EndsBy : Snapshot → Line → Type 0
EndsBy a (End id) = IsEndLine a.problem a.lines id
EndsBy a line = ⊥

-- what is found covers what this problem's lines log, and why nothing was found
pub record SearchesFront (i : InstanceValue) (p : ProblemValue) (a b : Snapshot) (result : Result Found RecordFault)
    : Type 0 where
  pub covers : IfOk result (λ found. CoversLogged i p b.lines found.entries.items)
  pub ending : IfOk result (λ found. IsEnding a.limit p b.lines found.ending)
  pub whole : OnOk result (b.broken ≡ false)
  pub stop : IfErr result (IsStop a b)
  pub stays : StaysWith a b
