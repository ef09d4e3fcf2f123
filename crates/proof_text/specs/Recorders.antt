-- What recorders keep.
use Rattle.std.specs.Prelude.{◌≡◌, ◌⊎◌, ℕ, ◌+◌, Bool, false, List, [], All, Option, None, Some, Result, Ok, Err, OnOk, OnErr, IsErrOf}
use Rattle.std.specs.FinMap.{remove}
use Rattle.scut_base.specs.Files.{Files, IsPartlyAppended, with_appended}
use Rattle.scut_base.specs.Faults.{Faults, NoneFell, Rose, count, one_more}
use Rattle.scut_base.specs.declared.shelf.ShelfCall.TheVariants.{Append}
use Rattle.scut_base.specs.declared.shelf.ShelfFault.{ShelfFault}
use Rattle.scut_base.specs.declared.shelf.ShelfFault.TheVariants.{Failed as ShelfFailed, NoMemory as ShelfNoMemory}
use Rattle.scut_base.specs.World.{World}
use Rattle.pb_lin.specs.Problem.{ProblemValue}
use Rattle.proof_laws.specs.WellFormed.{IsWellFormed}
use Rattle.proof_laws.specs.State.{StateValue, Fits, start}
use Rattle.proof_laws.specs.Replay.{IsReplay}
use Rattle.proof_laws.specs.declared.line.Line.{Line}
use Rattle.proof_lines.specs.LineText.{printed}
use Rattle.proof_rules.specs.Recording.{Surroundings, Snapshot}
use Rattle.proof_rules.specs.declared.recorder.RecordFault.{RecordFault}
use Rattle.proof_rules.specs.declared.recorder.RecordFault.TheVariants.{Failed, Full, NoMemory}
use Rattle.proof_text.specs.LogFile.{IsLogFile, Held}
use Rattle.proof_text.specs.Versions.{after_lines, first_of, version_number}
use Rattle.proof_text.specs.declared.version.LogVersion.{LogVersion}

-- lines that a log can spell, each legal where it stands, and the state that they reach
pub record IsKept (p : ProblemValue) (lines : List Line) (s : StateValue) : Type 0 where
  pub formed : All IsWellFormed lines
  pub replay : IsReplay p lines s
  pub fits : Fits p s

-- ---- in memory

-- A recorder in memory. It has answered so many calls, and is to fail at one of them, counted from 1.
pub record MemoryLog : Type 0 where
  pub problem : ProblemValue
  pub lines : List Line
  pub state : StateValue
  pub calls : ℕ
  pub fail_at : ℕ
  pub faults : ℕ
  pub broken : Bool

-- one with no lines
abbrev pub no_lines : ProblemValue → ℕ → MemoryLog
no_lines p fail_at = record { problem = p; lines = []; state = start p; calls = 0; fail_at = fail_at; faults = 0; broken = false }

-- nothing stands around it
abbrev pub apart : Surroundings
apart = record { shelf = None; name = []; version = None; others = None; said = None; warned = None; counts = None }

-- what can be seen of it
abbrev pub memory_seen : MemoryLog → Snapshot
memory_seen r = record { problem = r.problem; limit = None; lines = r.lines; faults = r.faults; broken = r.broken; around = apart }

-- the next call is to fail
abbrev pub IsPlanned : MemoryLog → Type 0
IsPlanned r = r.calls + 1 ≡ r.fail_at

-- What a call of it counts. Where it is full nothing has changed, and else it fails exactly where it is to.
abbrev pub Counts : MemoryLog → Result ℕ RecordFault → MemoryLog → Type 0
Counts old (Ok id) new = (IsPlanned old → ⊥) × (new.calls ≡ one_more old.calls) × (new.faults ≡ old.faults)
Counts old (Err Failed) new = IsPlanned old × (new.calls ≡ one_more old.calls) × (new.faults ≡ one_more old.faults)
Counts old (Err Full) new = new ≡ old
Counts old (Err NoMemory) new = (IsPlanned old → ⊥) × (new.calls ≡ one_more old.calls) × (new.faults ≡ old.faults)

-- ---- in a file

-- what is kept, and the file holds it
pub record IsHeld (files : Option Files) (name : List ℕ) (p : ProblemValue) (version : LogVersion) (lines : List Line) (s : StateValue) (broken : Bool) : Type 0 where
  pub kept : IsKept p lines s
  pub file : IsLogFile files name p version lines broken

-- the files but this one
unfoldable pub without_file : Option Files → List ℕ → Option Files
without_file None name = None
without_file (Some m) name = Some (remove m name)

-- what can be seen of a recorder in a file, of a shelf that tells this
abbrev pub file_seen : {H : Type 0} → (H → World) → Held H → Snapshot
file_seen world r = record {
  problem = r.problem;
  limit = None;
  lines = r.lines;
  faults = count (world r.shelf.now).faults Append r.name;
  broken = r.broken;
  around = record {
    shelf = Some r.shelf.ghost_name;
    name = r.name;
    version = Some (version_number r.version);
    others = without_file (world r.shelf.now).files r.name;
    said = (world r.shelf.now).said;
    warned = (world r.shelf.now).warned;
    counts = Some (world r.shelf.now).faults;
  };
}

-- the same fault, of a recorder
abbrev pub fault_of : ShelfFault → RecordFault
fault_of ShelfFailed = Failed
fault_of ShelfNoMemory = NoMemory

-- nothing of the piece was put after the file, or a part
abbrev pub IsPutPartly : Option Files → Option Files → List ℕ → List ℕ → Type 0
IsPutPartly old new name piece = (new ≡ old) ⊎ IsPartlyAppended old new name piece

-- the text of a line after those of a recorder
abbrev pub next_text : {H : Type 0} → Held H → Line → List ℕ
next_text r line = printed (after_lines (first_of r.version r.problem) r.lines) line

-- the text of a line was put after the bytes of the file, or after a fault none or a part of it
pub record PutsLine {H : Type 0} (world : H → World) (old new : Held H) (line : Line) (result : Result ℕ RecordFault) : Type 0 where
  pub written : OnOk result ((world new.shelf.now).files ≡ with_appended (world old.shelf.now).files old.name (next_text old line))
  pub partly : OnErr result (IsPutPartly (world old.shelf.now).files (world new.shelf.now).files old.name (next_text old line))
  pub version : new.version ≡ old.version

-- No count has fallen. Where a write of this file failed that of its appends rose; it answers nothing but this and want of memory.
pub record IsWrite {T : Type 0} (name : List ℕ) (before now : Faults) (result : Result T RecordFault) : Type 0 where
  pub later : NoneFell before now
  pub failed : IsErrOf result Failed → Rose (count before Append name) (count now Append name)
  pub never_full : IsErrOf result Full → ⊥
