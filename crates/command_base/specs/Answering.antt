-- What every command answers, whatever it is: a row of its own table, and a cause of a fault.
use Rattle.std.specs.Prelude.{◌≡◌, ◌≢◌, ◌⊎◌, ℕ, List, [], ◌∷◌, Option, Some, None}
use Rattle.scut_base.specs.Faults.{Faults, NoneFell, Rose, count}
use Rattle.scut_base.specs.Files.{Files}
use Rattle.scut_base.specs.World.{World}
use Rattle.scut_base.specs.declared.shelf.ShelfCall.{ShelfCall}
use Rattle.scut_base.specs.declared.shelf.ShelfCall.TheVariants.{Read, Begin, Append, Say}
use Rattle.command_base.specs.Views.{View, view}
use Rattle.command_base.specs.declared.status.Status.{Status}
use Rattle.command_base.specs.declared.status.Status.TheVariants.{NoMemory, ShelfFailed, Usage}

-- calls of a shelf
pub data Call : Type 1 where
  -- of this kind, for the file of this name; that of `say` is the empty text
  CallOf : (kind : ShelfCall) → (name : List ℕ) → Call
  -- of this kind, for each file of these names that has one of these numbers, which what the files held before gives
  EachOf : (kind : ShelfCall) → (names : ℕ → List ℕ) → (numbers : Option Files → ℕ → Type 0) → Call

abbrev pub reading : List ℕ → Call
reading name = CallOf Read name

abbrev pub reading_each : (ℕ → List ℕ) → (Option Files → ℕ → Type 0) → Call
reading_each names numbers = EachOf Read names numbers

abbrev pub beginning : List ℕ → Call
beginning name = CallOf Begin name

abbrev pub beginning_each : (ℕ → List ℕ) → (Option Files → ℕ → Type 0) → Call
beginning_each names numbers = EachOf Begin names numbers

abbrev pub appending : List ℕ → Call
appending name = CallOf Append name

abbrev pub appending_each : (ℕ → List ℕ) → (Option Files → ℕ → Type 0) → Call
appending_each names numbers = EachOf Append names numbers

abbrev pub saying : Call
saying = CallOf Say []

-- the count of the call rose, or that of one of them, where these were the files before
abbrev pub CallRose : Option Files → Faults → Faults → Call → Type 0
CallRose files before now (CallOf kind name) = Rose (count before kind name) (count now kind name)
CallRose files before now (EachOf kind names numbers) = (n : ℕ) × numbers files n × Rose (count before kind (names n)) (count now kind (names n))

-- so it is of one of these
abbrev pub AnyRose : Option Files → Faults → Faults → List Call → Type 0
AnyRose files before now [] = ⊥
AnyRose files before now (call ∷ calls) = CallRose files before now call ⊎ AnyRose files before now calls

-- the count of one of a command's own calls rose, where these were the files before
pub record OwnRose (own : List Call) (files : Option Files) (before now : Faults) : Type 0 where
  pub call : AnyRose files before now own

-- The status has its row in the table; ShelfFailed comes only where a count of the command's own calls rose; and no
-- count fell.
pub record Answered (Table : Status → View → View → Type 0) (own : List Call) (status : Status) (before after : World) : Type 0 where
  pub table : Table status (view before) (view after)
  pub cause : status ≡ ShelfFailed → OwnRose own before.files before.faults after.faults
  pub later : NoneFell before.faults after.faults

-- It answers so, and warns of nothing.
pub record Runs (Table : Status → View → View → Type 0) (own : List Call) (status : Status) (before after : World) : Type 0 where
  pub answered : Answered Table own status before after
  pub warned : after.warned ≡ before.warned

-- Where the files are as the command needs them and none of its own calls failed, the status is one of its ends, unless
-- memory was wanted.
abbrev pub Completes : (Needs : Option Files → Type 0) → ((files : Option Files) → Needs files → Status → Type 0) → List Call → Status → World → World → Type 0
Completes Needs IsEnd own status before after =
    (needs : Needs before.files) → ¬ (OwnRose own before.files before.faults after.faults) → status ≢ NoMemory → IsEnd before.files needs status

-- the answers to words that are none of a command
abbrev pub UsageTable : Status → View → View → Type 0
UsageTable Usage before after = after ≡ before
UsageTable NoMemory before after = after ≡ before
UsageTable status before after = ⊥

-- ---- what words ask of a command, or nothing

abbrev pub table_of : {A : Type 0} → (A → Status → View → View → Type 0) → Option A → Status → View → View → Type 0
table_of Table None = UsageTable
table_of Table (Some a) = Table a

abbrev pub calls_of : {A : Type 0} → (A → List Call) → Option A → List Call
calls_of own None = []
calls_of own (Some a) = own a
