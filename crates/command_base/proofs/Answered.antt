-- What is answered by a part of a run, as an answer of the whole.
use Rattle.std.proofs.Common.{◌≡◌, ◌⊎◌, ℕ, suc, zero, ◌<◌, ◌≤◌, ◌^◌, List, [], ◌∷◌, length, get_or, refl, sym, ap₂, subst, inl, inr, arith, ◌∙◌}
use Rattle.std.specs.Prelude.{Option, None, Some}
use Rattle.scut_base.specs.Files.{Files, followed, IsPartlyFollowed}
use Rattle.scut_base.specs.Faults.{Faults, NoneFell, Rose}
use Rattle.scut_base.specs.World.{World}
use Rattle.scut_base.specs.declared.shelf.ShelfFault.{ShelfFault}
use Rattle.scut_base.specs.declared.shelf.ShelfFault.TheVariants.{Failed, NoMemory as ShelfNoMemory}
use Rattle.instance.specs.declared.fault.BadKind.{BadKind}
use Rattle.instance.specs.declared.fault.InstanceLimit.{InstanceLimit}
use Rattle.instance.specs.declared.fault.InstanceLimit.TheVariants.{Bytes}
use Rattle.instance.specs.declared.fault.ReadFault.TheVariants.{Bad, Limit}
use Rattle.log_checker.specs.ListFaults.{IsListFault}
use Rattle.log_checker.specs.declared.fault.CheckFault.TheVariants.{ListRefused}
use Rattle.log_checker.specs.declared.fault.ListWhy.{ListWhy}
use Rattle.command_base.specs.Answering.{Answered, AnyRose, Call, CallRose, CallOf, EachOf, OwnRose, Runs, UsageTable, calls_of, reading, saying, table_of}
use Rattle.command_base.specs.Causes.{HasCauseIn, HasText, IsRefused}
use Rattle.command_base.specs.Inputs.{OfInstance, OfList}
use Rattle.command_base.specs.Messages.{said_of}
use Rattle.command_base.specs.Saying.{IsPartlySaid, IsSaid, Says}
use Rattle.command_base.specs.InstanceFile.{HasFault}
use Rattle.command_base.specs.Statuses.{status_of_shelf}
use Rattle.command_base.specs.Stops.{IsInputStop, IsListedStop, status_of_input, status_of_list}
use Rattle.command_base.specs.Views.{OnlyReads, View, view}
use Rattle.command_base.specs.declared.instance_file.Format.{Format}
use Rattle.command_base.specs.declared.status.Status.{Status}
use Rattle.command_base.specs.declared.status.Status.TheVariants.{BadInput, Refused, TooLarge, NoMemory, ShelfFailed}
use Rattle.command_base.specs.declared.stops.InputStop.{InputStop}
use Rattle.command_base.specs.declared.stops.ListStop.{ListStop}
use Rattle.command_base.specs.declared.stops.ListStop.TheVariants.{Input as InputStopped, Refused as ListWrong, Large as ListLarge, NoMemory as ListMemory, ShelfFailed as ListFailed}
use Rattle.command_base.specs.declared.stops.InputStop.TheVariants.{Bad as BadText, Limit as LimitReached, Large as InputLarge, NoMemory as InputMemory, ShelfFailed as InputFailed}

-- ---- own calls

-- the call is one of them
abbrev pub IsOwn : List Call → Call → Type 1
IsOwn own call = (k : ℕ) × (k < length own) × (get_or own k call ≡ call)

pub rose_at_last : (a b c : ℕ) → a ≤ b → Rose b c → Rose a c
rose_at_last a b c earlier rose = omega arith

rose_within : (a b c d : ℕ) → a ≤ b → c ≤ d → Rose b c → Rose a d
rose_within a b c d first later rose = omega arith

module _ (files : Option Files) where
  any_rose : (own : List Call) (call : Call) (before now : Faults) → IsOwn own call → CallRose files before now call → AnyRose files before now own
  any_rose [] call before now (k, short, is) rose = absurd (omega (arith, short))
  any_rose (first ∷ own) call before now (zero, short, is) rose = inl (subst (λ (c : Call). CallRose files before now c) (sym is) rose)
  any_rose (first ∷ own) call before now (suc k, short, is) rose = inr (any_rose own call before now (k, omega (arith, short), is) rose)

  -- what rose between two times rose between an earlier and a later one
  call_rose_within : (call : Call) (a b c d : Faults) → NoneFell a b → NoneFell c d → CallRose files b c call → CallRose files a d call
  call_rose_within (CallOf kind name) a b c d first later rose = rose_within _ _ _ _ (first kind name) (later kind name) rose
  call_rose_within (EachOf kind names numbers) a b c d first later rose = (rose.0, rose.1, rose_within _ _ _ _ (first kind (names rose.0)) (later kind (names rose.0)) rose.2)

  any_rose_within : (own : List Call) (a b c d : Faults) → NoneFell a b → NoneFell c d → AnyRose files b c own → AnyRose files a d own
  any_rose_within [] a b c d first later rose = rose
  any_rose_within (call ∷ own) a b c d first later (inl rose) = inl (call_rose_within call a b c d first later rose)
  any_rose_within (call ∷ own) a b c d first later (inr rose) = inr (any_rose_within own a b c d first later rose)

none_fell : (f : Faults) → NoneFell f f
none_fell f call name = omega arith

-- a call of the list rose
pub own_rose : (own : List Call) (call : Call) {files : Option Files} (before now : Faults) → IsOwn own call → CallRose files before now call → OwnRose own files before now
own_rose own call {files} before now there rose = record { call = any_rose files own call before now there rose }

-- what rose later rose since before
pub own_rose_at_last : (own : List Call) {files : Option Files} (before mid now : Faults) → NoneFell before mid → OwnRose own files mid now → OwnRose own files before now
own_rose_at_last own {files} before mid now first rose = record { call = any_rose_within files own before mid now now first (none_fell now) rose.call }

-- what rose before has risen now
pub own_still_rose : (own : List Call) {files : Option Files} (before mid now : Faults) → NoneFell mid now → OwnRose own files before mid → OwnRose own files before now
own_still_rose own {files} before mid now later rose = record { call = any_rose_within files own before before mid now (none_fell before) later rose.call }

-- ---- a part of a run that reads comes first

pub view_is : (v w : View) → w.files ≡ v.files → w.said ≡ v.said → w ≡ v
view_is v w files said = ap₂ (λ (f : Option Files) (t : Option (List ℕ)). let r : View = record { files = f; said = t } in r) files said

pub view_kept : (before after : World) → OnlyReads before after → view after ≡ view before
view_kept before after reads = view_is (view before) (view after) reads.files reads.said

pub reads_then : (a b c : World) → OnlyReads a b → OnlyReads b c → OnlyReads a c
reads_then a b c first second = record {
  files = second.files ∙ first.files;
  said = second.said ∙ first.said;
  warned = second.warned ∙ first.warned;
  later = λ call name. omega (arith, first.later call name, second.later call name);
}

pub earlier : (Table : Status → View → View → Type 0) (own : List Call) (status : Status) (before mid after : World) → OnlyReads before mid → Runs Table own status mid after → Runs Table own status before after
earlier Table own status before mid after reads runs = record {
  answered = record {
    table = subst (λ (v : View). Table status v (view after)) (view_kept before mid reads) was.table;
    cause = λ failed. own_rose_at_last own before.faults mid.faults after.faults reads.later (subst (λ (files : Option Files). OwnRose own files mid.faults after.faults) reads.files (was.cause failed));
    later = λ call name. omega (arith, reads.later call name, was.later call name);
  };
  warned = runs.warned ∙ reads.warned;
}
  where
    was : Answered Table own status mid after
    was = runs.answered

-- what follows changes nothing but counts of faults
pub later_too : (Table : Status → View → View → Type 0) (own : List Call) (status : Status) (before mid after : World) → Answered Table own status before mid → after.files ≡ mid.files → after.said ≡ mid.said → NoneFell mid.faults after.faults → Answered Table own status before after
later_too Table own status before mid after was files said later = record {
  table = subst (λ (v : View). Table status (view before) v) (sym (view_is (view mid) (view after) files said)) was.table;
  cause = λ failed. own_still_rose own before.faults mid.faults after.faults later (was.cause failed);
  later = λ call name. omega (arith, was.later call name, later call name);
}

-- ---- ends

-- an end of a part of a run that reads
pub read_ended : (Table : Status → View → View → Type 0) (own : List Call) (status : Status) (before after : World) → OnlyReads before after → Table status (view before) (view after) → (status ≡ ShelfFailed → OwnRose own before.files before.faults after.faults) → Runs Table own status before after
read_ended Table own status before after reads row cause = record { answered = record { table = row; cause = cause; later = reads.later }; warned = reads.warned }

-- an end of which no fault is the cause
pub ended : (Table : Status → View → View → Type 0) (own : List Call) (status : Status) (before after : World) → Table status (view before) (view after) → (status ≡ ShelfFailed → ⊥) → NoneFell before.faults after.faults → Answered Table own status before after
ended Table own status before after row other later = record { table = row; cause = λ failed. absurd (other failed); later = later }

-- a fault of the shelf, in one of the command's own calls
pub shelf_fault : (Table : Status → View → View → Type 0) (own : List Call) (fault : ShelfFault) (before after : World) → Table NoMemory (view before) (view after) → Table ShelfFailed (view before) (view after)
    → (fault ≡ Failed → OwnRose own before.files before.faults after.faults) → NoneFell before.faults after.faults → Answered Table own (status_of_shelf fault) before after
shelf_fault Table own Failed before after memory failed rose later = record { table = failed; cause = λ is. rose refl; later = later }
shelf_fault Table own ShelfNoMemory before after memory failed rose later = record { table = memory; cause = λ is. absurd cc; later = later }

-- ---- reading the instance file

-- what a table says where the instance file isn't read and nothing has changed
pub record TakesInput (Table : Status → View → View → Type 0) (format : Format) (input : List ℕ) (before after : View) : Type 0 where
  pub bad : (line : ℕ) (kind : BadKind) → IsRefused before after input (HasFault format (Bad line kind)) → Table (BadInput line kind) before after
  pub limit : (line : ℕ) (which : InstanceLimit) → IsRefused before after input (HasFault format (Limit (suc line) which)) → Table (TooLarge (suc line) which) before after
  pub large : IsRefused before after input (λ text. 2 ^ 32 ≤ length text) → Table (TooLarge 0 Bytes) before after
  pub memory : after ≡ before → Table NoMemory before after
  pub failed : after ≡ before → Table ShelfFailed before after

pub input_stopped : (Table : Status → View → View → Type 0) (own : List Call) (format : Format) (input : List ℕ) (stop : InputStop) (before after : World) → TakesInput Table format input (view before) (view after) → IsOwn own (reading input)
    → IsInputStop format input stop before.files before.faults after.faults → OnlyReads before after → Runs Table own (status_of_input stop) before after
input_stopped Table own format input (BadText line kind) before after rows there stop reads =
    read_ended Table own (BadInput line kind) before after reads (rows.bad line kind (record { cause = stop; same = view_kept before after reads })) (λ is. absurd cc)
input_stopped Table own format input (LimitReached zero which) before after rows there stop reads = absurd (omega (arith, stop.0))
input_stopped Table own format input (LimitReached (suc line) which) before after rows there stop reads =
    read_ended Table own (TooLarge (suc line) which) before after reads (rows.limit line which (record { cause = stop.1; same = view_kept before after reads })) (λ is. absurd cc)
input_stopped Table own format input InputLarge before after rows there stop reads =
    read_ended Table own (TooLarge 0 Bytes) before after reads (rows.large (record { cause = stop; same = view_kept before after reads })) (λ is. absurd cc)
input_stopped Table own format input InputMemory before after rows there stop reads = read_ended Table own NoMemory before after reads (rows.memory (view_kept before after reads)) (λ is. absurd cc)
input_stopped Table own format input InputFailed before after rows there stop reads =
    read_ended Table own ShelfFailed before after reads (rows.failed (view_kept before after reads)) (λ is. own_rose own (reading input) before.faults after.faults there stop)

-- the same where a list is read too
pub record TakesListed (Table : Status → View → View → Type 0) (format : Format) (input list : List ℕ) (before after : View) : Type 0 where
  pub first : TakesInput Table format input before after
  pub refused : (k : ℕ) (why : ListWhy) → HasCauseIn before after (OfList before.files format input list (λ i listed. IsListFault i listed k why)) → Table (Refused (ListRefused k why)) before after
  pub large : HasCauseIn before after (OfInstance before.files format input (λ i. HasText before.files list (λ listed. 2 ^ 32 ≤ length listed))) → Table (TooLarge 0 Bytes) before after

pub listed_stopped : (Table : Status → View → View → Type 0) (own : List Call) (format : Format) (input list : List ℕ) (stop : ListStop) (before after : World) → TakesListed Table format input list (view before) (view after) → IsOwn own (reading input) → IsOwn own (reading list)
    → IsListedStop format input list stop before.files before.faults after.faults → OnlyReads before after → Runs Table own (status_of_list stop) before after
listed_stopped Table own format input list (InputStopped stop) before after rows there list_there why reads = input_stopped Table own format input stop before after rows.first there why reads
listed_stopped Table own format input list (ListWrong k why) before after rows there list_there is reads =
    read_ended Table own (Refused (ListRefused k why)) before after reads (rows.refused k why (record { cause = is; same = view_kept before after reads })) (λ failed. absurd cc)
listed_stopped Table own format input list ListLarge before after rows there list_there is reads =
    read_ended Table own (TooLarge 0 Bytes) before after reads (rows.large (record { cause = is; same = view_kept before after reads })) (λ failed. absurd cc)
listed_stopped Table own format input list ListMemory before after rows there list_there is reads =
    read_ended Table own NoMemory before after reads (rows.first.memory (view_kept before after reads)) (λ failed. absurd cc)
listed_stopped Table own format input list ListFailed before after rows there list_there is reads =
    read_ended Table own ShelfFailed before after reads (rows.first.failed (view_kept before after reads)) (λ failed. own_rose own (reading list) before.faults after.faults list_there is)

-- ---- the last call says something

module _ (Table : Status → View → View → Type 0) (own : List Call) (status : Status) (before mid after : World) (there : IsOwn own saying) (other : status ≡ ShelfFailed → ⊥) (first : NoneFell before.faults mid.faults) (quiet : mid.warned ≡ before.warned)
    (whole : after.said ≡ followed mid.said (said_of status) → Table status (view before) (view after))
    (partly : IsPartlyFollowed mid.said after.said (said_of status) → Table NoMemory (view before) (view after) × Table ShelfFailed (view before) (view after)) where
  answered_last : (result : Status) → NoneFell mid.faults after.faults → IsSaid status result mid after ⊎ IsPartlySaid status result mid after → Answered Table own result before after
  answered_last result later (inl said) = subst (λ (s : Status). Answered Table own s before after) (sym said.same) (ended Table own status before after (whole said.said) other (λ call name. omega (arith, first call name, later call name)))
  answered_last result later (inr part) =
      subst (λ (s : Status). Answered Table own s before after) (sym part.same)
      (shelf_fault Table own part.fault before after (partly part.said).0 (partly part.said).1
      (λ failed. own_rose_at_last own before.faults mid.faults after.faults first (own_rose own saying mid.faults after.faults there (part.failed failed)))
      (λ call name. omega (arith, first call name, later call name)))

  pub said_last : (result : Status) → Says status result mid after → Runs Table own result before after
  said_last result says = record { answered = answered_last result says.later says.said; warned = says.warned ∙ quiet }

-- memory was wanted, and nothing has changed
pub idle : (Table : Status → View → View → Type 0) (own : List Call) (w : World) → Table NoMemory (view w) (view w) → Runs Table own NoMemory w w
idle Table own w row = record { answered = ended Table own NoMemory w w row (λ is. cc) (none_fell w.faults); warned = refl }

-- the same of whatever words ask of a command
pub wanted : {A : Type 0} (Table : A → Status → View → View → Type 0) (own : A → List Call) → ((a : A) (v : View) → Table a NoMemory v v) → (asked : Option A) (w : World) → Runs (table_of Table asked) (calls_of own asked) NoMemory w w
wanted Table own undone None w = idle UsageTable [] w refl
wanted Table own undone (Some a) w = idle (Table a) (own a) w (undone a (view w))
