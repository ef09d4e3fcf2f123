-- Where the command `upgrade` completes.
use Rattle.std.proofs.Common.{ℕ, zero, ◌-◌, ◌^◌, List, refl, inl, inr, subst, arith}
use Rattle.std.specs.Prelude.{Option}
use Rattle.std.proofs.lemmas.List.{take_all}
use Rattle.scut_base.specs.Files.{Files}
use Rattle.scut_base.specs.World.{World}
use Rattle.instance.specs.declared.fault.InstanceLimit.TheVariants.{Bytes}
use Rattle.proof_laws.specs.declared.line.Line.{Line}
use Rattle.proof_laws.specs.declared.why.Why.TheVariants.{Syntax}
use Rattle.proof_text.specs.LogText.{IsSyntaxAt}
use Rattle.proof_text.proofs.Logs.{never_unfinished, never_wrong}
use Rattle.log_checker.specs.declared.fault.CheckFault.TheVariants.{Refused as LineRefused}
use Rattle.command_base.specs.Answering.{Answered}
use Rattle.command_base.specs.LogLines.{IsFirstWrong, IsLargeAfter, IsLogOf, IsWrongAfter}
use Rattle.command_base.specs.Views.{view}
use Rattle.command_base.specs.declared.status.Status.{Status}
use Rattle.command_base.specs.declared.status.Status.TheVariants.{Done, Refused, TooLarge, NoMemory, ShelfFailed}
use Rattle.command_base.proofs.Readable.{not_larger, of_text, readable}
use Rattle.command_upgrade.specs.Table.{AreUpgradable, IsWritten, UpgradeCompletes, UpgradeTable, upgrade_calls}
use Rattle.command_upgrade.specs.Words.{UpgradeAsked}

-- a log that spells lines goes wrong nowhere
none_is_wrong : (lines : List Line) (log : List ℕ) (k : ℕ) → IsLogOf lines log → IsFirstWrong log k → ⊥
none_is_wrong lines log k is (inl wrong) =
    let short = is.taken in
    never_wrong log lines is.spelled k (subst (λ (bytes : List ℕ). IsSyntaxAt bytes k) (take_all (2 ^ 62 - 1) log (omega (arith, short))) wrong)
none_is_wrong lines log k is (inr ends) = never_unfinished log lines is.spelled k ends.2

module _ (a : UpgradeAsked) (files : Option Files) (are : AreUpgradable a files) where
  none_wrong : (after : Option Files) (k : ℕ) → IsWritten files after a (λ lines. IsWrongAfter lines k) → ⊥
  none_wrong after k written = none_is_wrong are.lines are.logged k are.log_spelled (of_text files a.log are.logged (IsWrongAfter written.lines k) are.log_there written.log).wrong

  none_large : (after : Option Files) → IsWritten files after a IsLargeAfter → ⊥
  none_large after written =
      let large = (of_text files a.log are.logged (IsLargeAfter written.lines) are.log_there written.log).large in
      let short = are.log_spelled.taken in
      omega (arith, large, short)

pub upgrade_completes : (a : UpgradeAsked) (status : Status) (before after : World) → Answered (UpgradeTable a) (upgrade_calls a) status before after → UpgradeCompletes a status before after
upgrade_completes a Done before after was are quiet other = refl
upgrade_completes a (Refused (LineRefused k Syntax)) before after was are quiet other = absurd (none_wrong a before.files are after.files k was.table.written)
upgrade_completes a (TooLarge zero Bytes) before after was are quiet other = absurd (large was.table)
  where
    large : UpgradeTable a (TooLarge zero Bytes) (view before) (view after) → ⊥
    large (inl input) = not_larger before.files a.input are.text (2 ^ 32) are.there are.spelled.taken input.cause
    large (inr log) = none_large a before.files are after.files log.written
upgrade_completes a NoMemory before after was are quiet other = absurd (other refl)
upgrade_completes a ShelfFailed before after was are quiet other = absurd (quiet (was.cause refl))
upgrade_completes a status before after was are quiet other =
    absurd (readable a.format a.input are.text are.instance status (view before) (view after) are.there are.spelled was.table)
