-- Where the command `solve` completes.
use Rattle.std.proofs.Common.{◌≡◌, ◌≢◌, ℕ, false, subst, length, refl}
use Rattle.std.specs.Prelude.{Option, Some, None}
use Rattle.scut_base.specs.Files.{Files}
use Rattle.scut_base.specs.World.{World}
use Rattle.instance.specs.Shape.{InstanceValue}
use Rattle.command_base.specs.Answering.{Answered, OwnRose}
use Rattle.command_base.specs.Causes.{HasText}
use Rattle.command_base.specs.InstanceFile.{IsTextOf}
use Rattle.command_base.specs.Views.{view}
use Rattle.command_base.specs.declared.status.Status.{Status}
use Rattle.command_base.specs.declared.status.Status.TheVariants.{Done, Complete, Incomplete, Trimmed, Models, LogFull, Accepted, Refused, ModelsRefused, Usage, BadInput, TooLarge, NoMemory, ShelfFailed}
use Rattle.command_base.proofs.InstanceFiles.{one_in}
use Rattle.command_base.proofs.Readable.{of_text, readable}
use Rattle.command_solve.specs.Table.{HasOtherObjectives, HasSearch, IsSearchEnd, IsSolveEnd, IsSpelled, SolveCompletes, SolveTable, solve_calls}
use Rattle.command_solve.specs.TurnDigits.{takes}
use Rattle.command_solve.specs.Words.{SolveAsked}

-- the search takes the instance of the text, where it takes one that the file spells
same_search : (a : SolveAsked) (files : Option Files) (spelled : IsSpelled a files) (i : InstanceValue) → HasText files a.input (IsTextOf a.format i) → HasSearch a i → HasSearch a spelled.instance
same_search a files spelled i text search =
    let other : IsTextOf a.format i spelled.text = of_text files a.input spelled.text (IsTextOf a.format i) spelled.there text in
    subst (HasSearch a) (one_in a.format spelled.text i spelled.instance other.spelled spelled.spelled.spelled) search

searched : (a : SolveAsked) (i : InstanceValue) (status : Status) → HasSearch a i → IsSearchEnd a.limit status → IsSolveEnd a i status
searched a i status search end = record { searched = λ taken. end; usage = λ refused. absurd (refused search) }

refused : (a : SolveAsked) (files : Option Files) (spelled : IsSpelled a files) → HasText files a.input (HasOtherObjectives a) → IsSolveEnd a spelled.instance Usage
refused a files spelled other =
    let has = of_text files a.input spelled.text (HasOtherObjectives a) spelled.there other in
    let is = one_in a.format spelled.text has.0 spelled.instance has.1.spelled spelled.spelled.spelled in
    let not_taken : takes a.search a.turns (length spelled.instance.objectives) ≡ false =
    subst (λ (i : InstanceValue). takes a.search a.turns (length i.objectives) ≡ false) is has.2 in
    record {
      searched = λ taken. cc;
      usage = λ wrong. refl;
    }

incomplete_end : (limit : Option ℕ) (n size learned : ℕ) → limit ≡ Some n → IsSearchEnd limit (Incomplete size learned)
incomplete_end (Some m) n size learned is = tt
incomplete_end None n size learned is = absurd cc

none_left : (a : SolveAsked) (i : InstanceValue) (status : Status) → ⊥ → IsSolveEnd a i status
none_left a i status never = absurd never

pub solve_completes : (a : SolveAsked) (status : Status) (before after : World) → Answered (SolveTable a) (solve_calls a) status before after → SolveCompletes a status before after
solve_completes a status before after answered spelled quiet memory = by status answered.table answered.cause memory
  where
    by : (s : Status) → SolveTable a s (view before) (view after) → (s ≡ ShelfFailed → OwnRose (solve_calls a) before.files before.faults after.faults) → s ≢ NoMemory → IsSolveEnd a spelled.instance s
    by (Complete size) was cause other = searched a spelled.instance (Complete size) (same_search a before.files spelled was.instance was.text was.search) tt
    by (Incomplete size learned) was cause other =
        let of_file = was.found.of_file in
        searched a spelled.instance (Incomplete size learned) (same_search a before.files spelled was.instance of_file.text of_file.search) (incomplete_end a.limit learned size learned was.found.ending.limit)
    by (LogFull lines) was cause other =
        let of_file = was.1.of_file in
        searched a spelled.instance (LogFull lines) (same_search a before.files spelled was.1.instance of_file.text of_file.search) tt
    by Usage was cause other = refused a before.files spelled was.cause
    by NoMemory was cause other = absurd (other refl)
    by ShelfFailed was cause other = absurd (quiet (cause refl))
    by (BadInput line kind) was cause other = none_left a spelled.instance (BadInput line kind) (readable a.format a.input spelled.text spelled.instance (BadInput line kind) (view before) (view after) spelled.there spelled.spelled was)
    by (TooLarge line which) was cause other = none_left a spelled.instance (TooLarge line which) (readable a.format a.input spelled.text spelled.instance (TooLarge line which) (view before) (view after) spelled.there spelled.spelled was)
    by Done was cause other = absurd was
    by (Trimmed kept total) was cause other = absurd was
    by (Models count) was cause other = absurd was
    by Accepted was cause other = absurd was
    by (Refused fault) was cause other = absurd was
    by (ModelsRefused entry why) was cause other = absurd was
