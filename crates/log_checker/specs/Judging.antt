-- How the lines of a log are judged; nothing of it has to be believed.
use Rattle.std.specs.Prelude.{◌≡◌, ℕ, ◌+◌, ◌<◌, Bool, true, false, List, [], ◌∷◌, ◌++◌, length, All, Option, None, Some, Result, Ok, Err, ℤ}
use Rattle.std.specs.List.{slice_index_or}
use Rattle.pb_lin.specs.Problem.{ProblemValue}
use Rattle.proof_laws.specs.State.{StateValue}
use Rattle.proof_laws.specs.Replay.{IsReplay}
use Rattle.proof_laws.specs.declared.line.Line.{Line}
use Rattle.proof_laws.specs.declared.why.Why.{Why}
use Rattle.proof_rules.specs.declared.fault.StepFault.{StepFault}
use Rattle.proof_rules.specs.declared.fault.StepFault.TheVariants.{Refused as Illegal, NoMemory as StepMemory}
use Rattle.proof_text.specs.LogText.{HoldsNoFurtherLine, IsWhole}
use Rattle.proof_text.specs.Reading.{ReaderValue, StandsFor as ReaderStandsFor}
use Rattle.log_checker.specs.Accepted.{IsCovered, IsEndedProof}
use Rattle.log_checker.specs.Checking.{CheckerValue}
use Rattle.log_checker.specs.LogFaults.{IsLineFault, IsWholeFault, IsLogFault}
use Rattle.log_checker.specs.declared.fault.CheckFault.{CheckFault}
use Rattle.log_checker.specs.declared.fault.CheckFault.TheVariants.{Refused, ListRefused, NoMemory}

-- the reader stands for some bytes
abbrev pub IsReading : ReaderValue → Type 0
IsReading r = (bytes : List ℕ) × (lines : List Line) × ReaderStandsFor r bytes lines

-- how much a reader may still give: nothing after a wrong line
abbrev pub left_by : Option ℕ → ℕ → ℕ
left_by None n = n + 1
left_by (Some k) n = 0

abbrev pub left : ReaderValue → ℕ
left r = left_by r.wrong (length r.rest)

-- These lines of the bytes were given, each is legal where it stands, and they lead to this state and log covered vectors alone.
pub record IsUnderway (p : ProblemValue) (vectors : List (List ℤ)) (r : ReaderValue) (s : StateValue) (bytes : List ℕ) (lines : List Line) : Type 0 where
  pub read : ReaderStandsFor r bytes lines
  pub replay : IsReplay p lines s
  pub covered : All (IsCovered vectors) s.sols

-- such a vector stands at a place
abbrev pub StandsAt : (List ℤ → Type 0) → List (List ℤ) → ℕ → Type 0
StandsAt IsSuch sols at = (sol : List ℤ) × (at < length sols) × (sol ≡ slice_index_or sols at sol) × IsSuch sol

-- the reason of a line's refusal; want of memory says nothing
abbrev pub IsLineReason : ProblemValue → List (List ℤ) → StateValue → Line → StepFault → Type 0
IsLineReason p vectors s line (Illegal why) = IsLineFault p vectors s line why
IsLineReason p vectors s line StepMemory = Unit {0}

-- the bytes' first whole line that is refused; want of memory says nothing
abbrev pub IsWholeReason : ProblemValue → List (List ℤ) → List ℕ → CheckFault → Type 0
IsWholeReason p vectors bytes (Refused k why) = IsWholeFault p vectors bytes k why
IsWholeReason p vectors bytes (ListRefused entry why) = ⊥
IsWholeReason p vectors bytes NoMemory = Unit {0}

-- the bytes' first fault; want of memory says nothing
abbrev pub IsLogReason : ProblemValue → List (List ℤ) → List ℕ → CheckFault → Type 0
IsLogReason p vectors bytes (Refused k why) = IsLogFault p vectors bytes k why
IsLogReason p vectors bytes (ListRefused entry why) = ⊥
IsLogReason p vectors bytes NoMemory = Unit {0}

-- what is so after the next line: it was taken up, or there is none, or it is refused
abbrev pub JudgesNext : ProblemValue → List (List ℤ) → ReaderValue → StateValue → List ℕ → List Line → Result Bool CheckFault → Type 0
JudgesNext p vectors r s bytes lines (Ok true) = (line : Line) × IsUnderway p vectors r s bytes (lines ++ line ∷ [])
JudgesNext p vectors r s bytes lines (Ok false) = IsUnderway p vectors r s bytes lines × HoldsNoFurtherLine bytes lines
JudgesNext p vectors r s bytes lines (Err fault) = IsWholeReason p vectors bytes fault

-- what is so after all whole lines: they were taken up, or one is refused
abbrev pub JudgesLines : ProblemValue → List (List ℤ) → ReaderValue → StateValue → List ℕ → Result (Unit {0}) CheckFault → Type 0
JudgesLines p vectors r s bytes (Ok done) = (lines : List Line) × IsUnderway p vectors r s bytes lines × HoldsNoFurtherLine bytes lines
JudgesLines p vectors r s bytes (Err fault) = IsWholeReason p vectors bytes fault

-- what is so at the end of the bytes: they are an ended proof, or have a fault
abbrev pub JudgesEnd : ProblemValue → List (List ℤ) → List ℕ → Result (Unit {0}) CheckFault → Type 0
JudgesEnd p vectors bytes (Ok done) = IsEndedProof p vectors bytes
JudgesEnd p vectors bytes (Err fault) = IsLogReason p vectors bytes fault

-- what is answered without a look at the bytes: an earlier refusal, or want of memory
abbrev pub earlier : Option (ℕ × Why) → Bool → Result (Unit {0}) CheckFault
earlier (Some fault) failed = Err (Refused fault.0 fault.1)
earlier None true = Err NoMemory
earlier None false = Ok tt

-- the checker after this answer
abbrev pub noted : CheckerValue → Result (Unit {0}) CheckFault → CheckerValue
noted c (Ok done) = c
noted c (Err (Refused k why)) = record c { refused = Some (k, why) }
noted c (Err (ListRefused entry why)) = c
noted c (Err NoMemory) = record c { failed = true }

-- an answer after one that goes before it: the same, where that one is an error
abbrev pub IsAfter : Result (Unit {0}) CheckFault → Result (Unit {0}) CheckFault → Type 0
IsAfter (Ok done) answer = Unit {0}
IsAfter (Err fault) answer = answer ≡ Err fault

-- the bytes that the reader stands for end where a log may end, and the proof has ended
pub record HasEnded (r : ReaderValue) (s : StateValue) : Type 0 where
  pub whole : (bytes : List ℕ) (lines : List Line) → ReaderStandsFor r bytes lines → IsWhole bytes
  pub ended : s.ended ≡ true

-- a finished log has ended, unless another answer is to be given again
abbrev pub IsSettled : Bool → Result (Unit {0}) CheckFault → ReaderValue → StateValue → Type 0
IsSettled finished answer r s = finished ≡ true → answer ≡ Ok tt → HasEnded r s
