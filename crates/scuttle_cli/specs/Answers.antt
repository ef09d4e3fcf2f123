-- What a run answers, by what the words ask for: the table of the command, and the calls that are its own.
use Rattle.std.specs.Prelude.{List, [], Option, Some, None}
use Rattle.scut_base.specs.Files.{Files}
use Rattle.scut_base.specs.World.{World}
use Rattle.command_base.specs.Answering.{Call, UsageTable}
use Rattle.command_base.specs.Causes.{HasText}
use Rattle.command_base.specs.Views.{View}
use Rattle.command_base.specs.declared.status.Status.{Status}
use Rattle.command_front.specs.Table.{FrontCompletes, FrontTable, front_calls}
use Rattle.command_solve.specs.Table.{HasOtherObjectives, SolveCompletes, SolveTable, solve_calls}
use Rattle.command_check.specs.Table.{CheckCompletes, CheckTable, check_calls}
use Rattle.command_upgrade.specs.Table.{UpgradeCompletes, UpgradeTable, upgrade_calls}
use Rattle.command_elaborate.specs.Table.{ElaborateCompletes, ElaborateTable, elaborate_calls}
use Rattle.command_trim.specs.Table.{TrimCompletes, TrimTable, trim_calls}
use Rattle.command_models.specs.Table.{ModelsCompletes, ModelsTable, models_calls}
use Rattle.command_check_models.specs.Table.{CheckModelsCompletes, CheckModelsTable, check_models_calls}
use Rattle.command_gen.specs.Table.{GenCompletes, GenTable, gen_calls}
use Rattle.command_trial.specs.Table.{IsUntold, TrialCompletes, TrialTable, trial_calls}
use Rattle.scuttle_cli.specs.Requests.{Request, FrontOf, SolveOf, CheckOf, UpgradeOf, ElaborateOf, TrimOf, ModelsOf, CheckModelsOf, GenOf, TrialOf}

-- an equation for each command

abbrev pub TableOf : Option Request → Status → View → View → Type 0
TableOf None = UsageTable
TableOf (Some (FrontOf a)) = FrontTable a
TableOf (Some (SolveOf a)) = SolveTable a
TableOf (Some (CheckOf a)) = CheckTable a
TableOf (Some (UpgradeOf a)) = UpgradeTable a
TableOf (Some (ElaborateOf a)) = ElaborateTable a
TableOf (Some (TrimOf a)) = TrimTable a
TableOf (Some (ModelsOf a)) = ModelsTable a
TableOf (Some (CheckModelsOf a)) = CheckModelsTable a
TableOf (Some (GenOf a)) = GenTable a
TableOf (Some (TrialOf a)) = TrialTable a

abbrev pub own_calls : Option Request → List Call
own_calls None = []
own_calls (Some (FrontOf a)) = front_calls a
own_calls (Some (SolveOf a)) = solve_calls a
own_calls (Some (CheckOf a)) = check_calls a
own_calls (Some (UpgradeOf a)) = upgrade_calls a
own_calls (Some (ElaborateOf a)) = elaborate_calls a
own_calls (Some (TrimOf a)) = trim_calls a
own_calls (Some (ModelsOf a)) = models_calls a
own_calls (Some (CheckModelsOf a)) = check_models_calls a
own_calls (Some (GenOf a)) = gen_calls a
own_calls (Some (TrialOf a)) = trial_calls a

abbrev pub CompletesOf : Option Request → Status → World → World → Type 0
CompletesOf None status before after = Unit {0}
CompletesOf (Some (FrontOf a)) status before after = FrontCompletes a status before after
CompletesOf (Some (SolveOf a)) status before after = SolveCompletes a status before after
CompletesOf (Some (CheckOf a)) status before after = CheckCompletes a status before after
CompletesOf (Some (UpgradeOf a)) status before after = UpgradeCompletes a status before after
CompletesOf (Some (ElaborateOf a)) status before after = ElaborateCompletes a status before after
CompletesOf (Some (TrimOf a)) status before after = TrimCompletes a status before after
CompletesOf (Some (ModelsOf a)) status before after = ModelsCompletes a status before after
CompletesOf (Some (CheckModelsOf a)) status before after = CheckModelsCompletes a status before after
CompletesOf (Some (GenOf a)) status before after = GenCompletes a status before after
CompletesOf (Some (TrialOf a)) status before after = TrialCompletes a status before after

-- Usage: the words ask for nothing, or for a search that doesn't take the instance of the file. What a trial reads back is told
-- by a shelf that tells its files alone.
abbrev pub HasUsage : Option Request → Option Files → Type 0
HasUsage None files = Unit {0}
HasUsage (Some (SolveOf a)) files = HasText files a.input (HasOtherObjectives a)
HasUsage (Some (TrialOf a)) files = IsUntold files
HasUsage (Some request) files = ⊥
