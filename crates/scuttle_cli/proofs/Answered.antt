-- What is answered where a command was run, where none was, and what that says of Usage and of completing.
use Rattle.std.proofs.Common.{◌≡◌, ◌≢◌, List, [], ℕ, refl, sym, subst}
use Rattle.std.specs.Prelude.{Option, Some, None, Result, Ok, Err}
use Rattle.std.specs.Option.{option_map}
use Rattle.std.proofs.lemmas.List.{append-nil}
use Rattle.std.proofs.lemmas.Option.{none-some}
use Rattle.scut_base.specs.declared.shelf.ShelfFault.{ShelfFault}
use Rattle.scut_base.specs.Files.{IsPartlyFollowed}
use Rattle.scut_base.specs.Faults.{NoneFell}
use Rattle.scut_base.specs.World.{World}
use Rattle.command_base.specs.Answering.{Answered, UsageTable, calls_of, table_of}
use Rattle.command_base.specs.Messages.{IsWarned}
use Rattle.command_base.specs.Views.{view}
use Rattle.command_base.specs.declared.status.Status.{Status}
use Rattle.command_base.specs.declared.status.Status.TheVariants.{Usage, NoMemory}
use Rattle.command_base.proofs.Answered.{ended}
use Rattle.command_front.proofs.Completing.{front_completes}
use Rattle.command_solve.proofs.Completing.{solve_completes}
use Rattle.command_check.proofs.Completing.{check_completes}
use Rattle.command_upgrade.proofs.Completing.{upgrade_completes}
use Rattle.command_elaborate.proofs.Completing.{elaborate_completes}
use Rattle.command_trim.proofs.Completing.{trim_completes}
use Rattle.command_models.proofs.Completing.{models_completes}
use Rattle.command_check_models.proofs.Completing.{check_models_completes}
use Rattle.command_gen.proofs.Completing.{gen_completes}
use Rattle.command_trial.proofs.Completing.{trial_completes}
use Rattle.scuttle_cli.specs.Answers.{CompletesOf, HasUsage, TableOf, own_calls}
use Rattle.scuttle_cli.specs.Requests.{CheckModelsOf, CheckOf, ElaborateOf, FrontOf, GenOf, ModelsOf, Request, SolveOf, TrialOf, TrimOf, UpgradeOf, command_in, request_by, request_of}
use Rattle.scuttle_cli.specs.declared.names.CommandName.{CommandName}

-- what is answered by what was asked for
abbrev pub AnsweredFor : Option Request → Status → World → World → Type 0
AnsweredFor request status before after = Answered (TableOf request) (own_calls request) status before after

-- ---- no command was run

-- words that ask for nothing
pub no_request : (status : Status) (before after : World) → status ≡ Usage → view after ≡ view before → NoneFell before.faults after.faults → AnsweredFor None status before after
no_request status before after is same later =
    subst (λ (s : Status). AnsweredFor None s before after) (sym is) (ended UsageTable [] Usage before after same (λ is'. cc) later)

-- ---- by what the words ask for

-- what they ask of a command, as what they ask for
pub was_asked : {A : Type 0} (request : A → Request) (found : Option A) (status : Status) (before after : World) → Answered (table_of (λ a. TableOf (Some (request a))) found) (calls_of (λ a. own_calls (Some (request a))) found) status before after
    → AnsweredFor (option_map request found) status before after
was_asked request None status before after was = was
was_asked request (Some asked) status before after was = was

-- what the first word names is what the words ask for
pub was_named : (name : Option CommandName) (words : List (List ℕ)) (status : Status) (before after : World) → name ≡ command_in words → AnsweredFor (request_by name words) status before after → AnsweredFor (request_of words) status before after
was_named name words status before after is was = subst (λ (n : Option CommandName). AnsweredFor (request_by n words) status before after) is was

-- ---- where it completes

pub completes : (request : Option Request) (status : Status) (before after : World) → AnsweredFor request status before after → CompletesOf request status before after
completes None status before after was = tt
completes (Some (FrontOf a)) status before after was = front_completes a status before after was
completes (Some (SolveOf a)) status before after was = solve_completes a status before after was
completes (Some (CheckOf a)) status before after was = check_completes a status before after was
completes (Some (UpgradeOf a)) status before after was = upgrade_completes a status before after was
completes (Some (ElaborateOf a)) status before after was = elaborate_completes a status before after was
completes (Some (TrimOf a)) status before after was = trim_completes a status before after was
completes (Some (ModelsOf a)) status before after was = models_completes a status before after was
completes (Some (CheckModelsOf a)) status before after was = check_models_completes a status before after was
completes (Some (GenOf a)) status before after was = gen_completes a status before after was
completes (Some (TrialOf a)) status before after was = trial_completes a status before after was

-- ---- Usage

-- words that ask for nothing have no other answer than Usage and want of memory
other_status : (status : Status) (before after : World) → UsageTable status (view before) (view after) → status ≢ NoMemory → status ≡ Usage
other_status Usage before after was memory = refl
other_status NoMemory before after was memory = absurd (memory refl)
other_status status before after was memory = absurd was

pub usage : (request : Option Request) (status : Status) (before after : World) → AnsweredFor request status before after → request ≡ None → status ≢ NoMemory → status ≡ Usage
usage None status before after was is memory = other_status status before after was.table memory
usage (Some request) status before after was is memory = absurd (none-some request (sym is))

has_usage : (request : Option Request) (before after : World) → TableOf request Usage (view before) (view after) → HasUsage request before.files
has_usage None before after row = tt
has_usage (Some (FrontOf a)) before after row = row
has_usage (Some (SolveOf a)) before after row = row.cause
has_usage (Some (CheckOf a)) before after row = row
has_usage (Some (UpgradeOf a)) before after row = row
has_usage (Some (ElaborateOf a)) before after row = row
has_usage (Some (TrimOf a)) before after row = row
has_usage (Some (ModelsOf a)) before after row = row
has_usage (Some (CheckModelsOf a)) before after row = row
has_usage (Some (GenOf a)) before after row = row
has_usage (Some (TrialOf a)) before after row = row

pub only_usage : (request : Option Request) (status : Status) (before after : World) → AnsweredFor request status before after → status ≡ Usage → HasUsage request before.files
only_usage request status before after was is =
    has_usage request before after (subst (λ (s : Status). TableOf request s (view before) (view after)) is was.table)

-- ---- warnings

-- a line that was put out whole is a prefix of itself
pub warned_partly : (warning : Result (Unit {0}) ShelfFault) (line : List ℕ) (before after : World) → IsWarned line before after warning → IsPartlyFollowed before.warned after.warned line
warned_partly (Ok done) line before after was = (line, ([], append-nil line), was.whole)
warned_partly (Err fault) line before after was = was.cut
