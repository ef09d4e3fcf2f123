-- What is added to a recorder, and what stays as it was.
use Rattle.std.specs.Prelude.{◌≡◌, ℕ, ◌+◌, Result, OnOk}
use Rattle.proof_rules.specs.Recording.{Snapshot}
use Rattle.proof_rules.specs.declared.recorder.RecordFault.{RecordFault}
pub use Rattle.recording.specs.Recorded.{IsOwn, KeptHold, IsLater, IsReached, Always, IsReady, HasLater}
use Rattle.recording.specs.Adding.{Adds, IsAdded}
pub use Rattle.recording.specs.Adding.{IsFaultAt}
use Rattle.recording.specs.Advice.{IsConservative}
use Rattle.sum_outputs.specs.Totals.{definitions}

-- nothing but conservative lines was added
abbrev pub Continues : Snapshot → Snapshot → Type 0
Continues a b = Adds IsConservative a b

-- so many definitions were added
abbrev pub DefinesMore : Snapshot → Snapshot → ℕ → Type 0
DefinesMore a b n = definitions b.lines ≡ definitions a.lines + n

-- a call that adds conservative lines alone
abbrev pub IsRecorded : {T : Type 0} → Snapshot → Snapshot → Result T RecordFault → Type 0
IsRecorded {T} a b result = IsAdded IsConservative a b result

-- A call that adds lines by cutting planes alone, and no definition; where it is done P holds.
pub record AddsClauses {T : Type 0} (a b : Snapshot) (result : Result T RecordFault) (P : Type 0) : Type 0 where
  pub recorded : IsRecorded a b result
  pub says : OnOk result P
  pub defines_none : OnOk result (DefinesMore a b 0)
