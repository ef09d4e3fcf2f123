use Rattle.std.proofs.Common.{map, refl, string_bytes}
use Rattle.std.specs.Prelude.{None, Some}
use Rattle.command_front.specs.Words.{front_asked}
use Rattle.command_solve.specs.Words.{solve_asked}
use Rattle.command_check.specs.Words.{check_asked}
use Rattle.command_upgrade.specs.Words.{upgrade_asked}
use Rattle.command_elaborate.specs.Words.{elaborate_asked}
use Rattle.command_trim.specs.Words.{trim_asked}
use Rattle.command_models.specs.Words.{models_asked}
use Rattle.command_check_models.specs.Words.{check_models_asked}
use Rattle.command_gen.specs.Words.{gen_asked}
use Rattle.command_trial.specs.Words.{trial_asked}
use Rattle.command_base.proofs.Answered.{view_is}
use Rattle.scuttle_cli.specs.Requests.{CheckModelsOf, CheckOf, ElaborateOf, FrontOf, GenOf, ModelsOf, SolveOf, TrialOf, TrimOf, UpgradeOf}
use Rattle.scuttle_cli.specs.declared.names.CommandName.TheVariants.{Front, Solve, Check, Upgrade, Elaborate, Trim, Models, CheckModels, Gen, Trial}
use Rattle.scuttle_cli.proofs.Answered.{no_request, was_asked, was_named}
use Rattle.scuttle_cli.proofs.running.run_named.Goals as goal

pub returns-in-Some-Front-clause-answered : goal.returns-in-Some-Front-clause-answered
returns-in-Some-Front-clause-answered g c =
    let words = map string_bytes c.args.words.now in
    was_named (Some Front) words _ _ _ (rw c.in-Some-Front.field-0-is at c.in-Some-Front.ensures) (was_asked FrontOf (front_asked words) _ _ _ c.run_asked.ensures.answered)

pub returns-in-Some-Solve-clause-answered : goal.returns-in-Some-Solve-clause-answered
returns-in-Some-Solve-clause-answered g c =
    let words = map string_bytes c.args.words.now in
    was_named (Some Solve) words _ _ _ (rw c.in-Some-Solve.field-0-is at c.in-Some-Solve.ensures) (was_asked SolveOf (solve_asked words) _ _ _ c.run_asked-in-Some-Solve.ensures.answered)

pub returns-in-Some-Check-clause-answered : goal.returns-in-Some-Check-clause-answered
returns-in-Some-Check-clause-answered g c =
    let words = map string_bytes c.args.words.now in
    was_named (Some Check) words _ _ _ (rw c.in-Some-Check.field-0-is at c.in-Some-Check.ensures) (was_asked CheckOf (check_asked words) _ _ _ c.run_asked-in-Some-Check.ensures.answered)

pub returns-in-Some-Upgrade-clause-answered : goal.returns-in-Some-Upgrade-clause-answered
returns-in-Some-Upgrade-clause-answered g c =
    let words = map string_bytes c.args.words.now in
    was_named (Some Upgrade) words _ _ _ (rw c.in-Some-Upgrade.field-0-is at c.in-Some-Upgrade.ensures) (was_asked UpgradeOf (upgrade_asked words) _ _ _ c.run_asked-in-Some-Upgrade.ensures.answered)

pub returns-in-Some-Elaborate-clause-answered : goal.returns-in-Some-Elaborate-clause-answered
returns-in-Some-Elaborate-clause-answered g c =
    let words = map string_bytes c.args.words.now in
    was_named (Some Elaborate) words _ _ _ (rw c.in-Some-Elaborate.field-0-is at c.in-Some-Elaborate.ensures) (was_asked ElaborateOf (elaborate_asked words) _ _ _ c.run_asked-in-Some-Elaborate.ensures.answered)

pub returns-in-Some-Trim-clause-answered : goal.returns-in-Some-Trim-clause-answered
returns-in-Some-Trim-clause-answered g c =
    let words = map string_bytes c.args.words.now in
    was_named (Some Trim) words _ _ _ (rw c.in-Some-Trim.field-0-is at c.in-Some-Trim.ensures) (was_asked TrimOf (trim_asked words) _ _ _ c.run_asked-in-Some-Trim.ensures.answered)

pub returns-in-Some-Models-clause-answered : goal.returns-in-Some-Models-clause-answered
returns-in-Some-Models-clause-answered g c =
    let words = map string_bytes c.args.words.now in
    was_named (Some Models) words _ _ _ (rw c.in-Some-Models.field-0-is at c.in-Some-Models.ensures) (was_asked ModelsOf (models_asked words) _ _ _ c.run_asked-in-Some-Models.ensures.answered)

pub returns-in-Some-CheckModels-clause-answered : goal.returns-in-Some-CheckModels-clause-answered
returns-in-Some-CheckModels-clause-answered g c =
    let words = map string_bytes c.args.words.now in
    was_named (Some CheckModels) words _ _ _ (rw c.in-Some-CheckModels.field-0-is at c.in-Some-CheckModels.ensures) (was_asked CheckModelsOf (check_models_asked words) _ _ _ c.run_asked-in-Some-CheckModels.ensures.answered)

pub returns-in-Some-Gen-clause-answered : goal.returns-in-Some-Gen-clause-answered
returns-in-Some-Gen-clause-answered g c =
    let words = map string_bytes c.args.words.now in
    was_named (Some Gen) words _ _ _ (rw c.in-Some-Gen.field-0-is at c.in-Some-Gen.ensures) (was_asked GenOf (gen_asked words) _ _ _ c.run_asked-in-Some-Gen.ensures.answered)

pub returns-in-Some-Trial-clause-answered : goal.returns-in-Some-Trial-clause-answered
returns-in-Some-Trial-clause-answered g c =
    let words = map string_bytes c.args.words.now in
    was_named (Some Trial) words _ _ _ (rw c.in-Some-Trial.field-0-is at c.in-Some-Trial.ensures) (was_asked TrialOf (trial_asked words) _ _ _ c.run_asked-in-Some-Trial.ensures.answered)

pub returns-in-None-clause-answered : goal.returns-in-None-clause-answered
returns-in-None-clause-answered g c =
    let e = c.warn_of-warning.ensures in
    was_named None (map string_bytes c.args.words.now) _ _ _ c.in-None.ensures (no_request _ _ _ refl (view_is _ _ e.files e.said) e.cause.later)
