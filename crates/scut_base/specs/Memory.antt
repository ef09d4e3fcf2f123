-- Shelves in memory, whose calls fail where they are told to.
use Rattle.std.specs.Prelude.{◌≡◌, ◌≢◌, ℕ, ◌==◌, ◌⊎◌, Bool, if◌then◌else◌, ◌&&◌, ◌∷◌, ◌++◌, [], List, take, replicate, slice_index, slice_set, Option, Some, None, IsSome, Result, Ok, Err}
use Rattle.std.specs.FinMap.{insert, empty}
use Rattle.scut_base.specs.Files.{Files, content, bytes_or_none}
use Rattle.scut_base.specs.Faults.{call_number, one_more}
use Rattle.scut_base.specs.declared.shelf.ShelfCall.{ShelfCall}
use Rattle.scut_base.specs.declared.shelf.ShelfCall.TheVariants.{Read, Begin}
use Rattle.scut_base.specs.declared.shelf.ShelfFault.{ShelfFault}
use Rattle.scut_base.specs.declared.shelf.ShelfFault.TheVariants.{Failed, NoMemory}
use Rattle.scut_base.specs.declared.mem_shelf.PlannedFault.{PlannedFault}

-- What a shelf in memory holds. The calls are counted for each kind, in the order of the kinds' numbers.
pub record Memory : Type 0 where
  pub files : Files
  pub said : List ℕ
  pub warned : List ℕ
  pub plan : List PlannedFault
  pub calls : List ℕ
  pub faults : ℕ

-- an empty shelf with this plan
abbrev pub fresh : List PlannedFault → Memory
fresh plan = record { files = empty; said = []; warned = []; plan = plan; calls = replicate 5 0; faults = 0 }

-- the fault of a call that is to put nothing
abbrev pub fault_at_start : ShelfCall × ℕ → PlannedFault
fault_at_start f = record { call = f.0; number = f.1; bytes = 0 }

-- how many calls of a kind there were, with one more
abbrev pub next_number : List ℕ → ShelfCall → ℕ
next_number calls call = one_more (slice_index calls (call_number call))

-- whether a fault is that of the call of this kind and number
abbrev pub is_planned : PlannedFault → ShelfCall → ℕ → Bool
is_planned fault call number = call_number fault.call == call_number call && fault.number == number

-- how many bytes are put where the call of this number is to fail, by the first fault that is its
abbrev pub planned_bytes : List PlannedFault → ShelfCall → ℕ → Option ℕ
planned_bytes [] call number = None
planned_bytes (fault ∷ plan) call number = if is_planned fault call number then Some fault.bytes else planned_bytes plan call number

-- the same of the next call of a kind
abbrev pub next_fault : Memory → ShelfCall → Option ℕ
next_fault s call = planned_bytes s.plan call (next_number s.calls call)

-- the shelf after a call that went well, or that wanted memory: it counts as a call
abbrev pub passed : Memory → ShelfCall → Memory
passed s call = record s { calls = slice_set s.calls (call_number call) (next_number s.calls call) }

-- the shelf with one fault more
abbrev pub faulted : Memory → Memory
faulted s = record s { faults = one_more s.faults }

-- the shelf after a call that failed: it counts as a call and as a fault
abbrev pub failed : Memory → ShelfCall → Memory
failed s call = faulted (passed s call)

-- the bytes of a file, if it is there
abbrev pub file_of : Memory → List ℕ → Option (List ℕ)
file_of s name = content (Some s.files) name

-- the shelf with this file holding these bytes
abbrev pub put_file : Memory → List ℕ → List ℕ → Memory
put_file s name bytes = record s { files = insert s.files name bytes }

-- the shelf with a piece after the bytes of a file
abbrev pub append_file : Memory → List ℕ → List ℕ → Memory
append_file s name piece = put_file s name (bytes_or_none (file_of s name) ++ piece)

-- the shelf with a piece after what was said
abbrev pub say_more : Memory → List ℕ → Memory
say_more s piece = record s { said = s.said ++ piece }

-- the shelf with a piece after what was warned
abbrev pub warn_more : Memory → List ℕ → Memory
warn_more s piece = record s { warned = s.warned ++ piece }

-- the part of a piece that a failed call puts
abbrev pub part_of : Option ℕ → List ℕ → List ℕ
part_of None piece = []
part_of (Some m) piece = take m piece

-- what a read of a name answers, and what it leaves: it fails where it is to, or the name isn't there
abbrev pub Reads : Memory → List ℕ → Result ℕ ShelfFault → Memory → Type 0
Reads old name (Ok n) new = (next_fault old Read ≡ None) × IsSome (file_of old name) × (new ≡ passed old Read)
Reads old name (Err Failed) new = (IsSome (next_fault old Read) ⊎ (file_of old name ≡ None)) × (new ≡ failed old Read)
Reads old name (Err NoMemory) new = ⊥

-- the same of a begin: it fails where it is to, and then puts nothing
abbrev pub Begins : Memory → List ℕ → Result (Unit {0}) ShelfFault → Memory → Type 0
Begins old name (Ok done) new = (next_fault old Begin ≡ None) × (new ≡ put_file (passed old Begin) name [])
Begins old name (Err Failed) new = IsSome (next_fault old Begin) × (new ≡ failed old Begin)
Begins old name (Err NoMemory) new = (next_fault old Begin ≡ None) × (new ≡ passed old Begin)

-- The same of a call that puts a piece: it fails where it is to, and then has put the planned part. One that is to
-- put nothing needs no memory.
abbrev pub Puts : ShelfCall → (Memory → List ℕ → Memory) → Memory → List ℕ → Result (Unit {0}) ShelfFault → Memory → Type 0
Puts call put old piece (Ok done) new = (next_fault old call ≡ None) × (new ≡ put (passed old call) piece)
Puts call put old piece (Err Failed) new = IsSome (next_fault old call) × (new ≡ put (failed old call) (part_of (next_fault old call) piece))
Puts call put old piece (Err NoMemory) new = (next_fault old call ≢ Some 0) × (new ≡ passed old call)
