-- How each end of the command `upgrade` is answered.
use Rattle.std.proofs.Common.{◌≡◌, inl, inr, ℕ, List, refl, sym, ◌∙◌, ap, subst, arith}
use Rattle.std.specs.Prelude.{Option}
use Rattle.scut_base.specs.Files.{Files, followed, with_file, IsPartlyFollowed, IsPrefixOf, IsTouched}
use Rattle.scut_base.specs.Faults.{NoneFell}
use Rattle.scut_base.specs.World.{World}
use Rattle.instance.specs.Shape.{InstanceValue}
use Rattle.pb_lin.specs.Problem.{ProblemValue}
use Rattle.proof_laws.specs.declared.line.Line.{Line}
use Rattle.proof_laws.specs.declared.why.Why.{Why}
use Rattle.proof_laws.specs.declared.why.Why.TheVariants.{Syntax}
use Rattle.proof_text.specs.LogText.{SpellsLog}
use Rattle.proof_text.specs.Versions.{first_of}
use Rattle.proof_text.specs.declared.version.LogVersion.TheVariants.{Two}
use Rattle.log_checker.specs.declared.fault.CheckFault.TheVariants.{Refused as LineRefused}
use Rattle.command_base.specs.Answering.{Answered, appending, beginning, reading}
use Rattle.command_base.specs.Inputs.{IsInput}
use Rattle.command_base.specs.LogLines.{IsLargeAfter, IsLogOf, IsWrongAfter}
use Rattle.command_base.specs.Messages.{said_of}
use Rattle.command_base.specs.Rewriting.{IsRewriteStop, IsRewritten, IsRewrittenPart}
use Rattle.command_base.specs.Saying.{Says}
use Rattle.command_base.specs.Stops.{status_of_log}
use Rattle.command_base.specs.Views.{View, view}
use Rattle.command_base.specs.declared.stops.LogStop.{LogStop}
use Rattle.command_base.specs.declared.stops.LogStop.TheVariants.{Refused as LineWrong, Large, NoMemory as LogMemory, ShelfFailed as LogFailed}
use Rattle.command_base.specs.declared.status.Status.{Status}
use Rattle.command_base.specs.declared.status.Status.TheVariants.{Done, Refused}
use Rattle.command_base.proofs.Answered.{IsOwn, TakesInput, ended, own_rose, said_last}
use Rattle.command_upgrade.specs.Table.{IsNewTouched, IsUpgradedPartly, IsWritten, UpgradeRuns, UpgradeTable, upgrade_calls, upgraded}
use Rattle.command_upgrade.specs.Words.{UpgradeAsked}

-- each line is answered by itself
abbrev pub Same : List Line → List Line → Type 0
Same lines news = news ≡ lines

module _ (a : UpgradeAsked) where
  pub reads_input : IsOwn (upgrade_calls a) (reading a.input)
  reads_input = (0, omega arith, refl)

  pub takes_input : (before after : View) → TakesInput (UpgradeTable a) a.format a.input before after
  takes_input before after = record {
    bad = λ line kind was. was;
    limit = λ line which was. was;
    large = inl;
    memory = inl;
    failed = inl;
  }

  module _ (i : InstanceValue) (p : ProblemValue) (before : World) (of_file : IsInput before.files a.format a.input i p) where
    written : (after : Option Files) (P : List Line → List ℕ → Type 0) → IsRewritten Same before.files after a.log a.output (first_of Two p) P → IsWritten before.files after a P
    written after P new = record {
      instance = i;
      problem = p;
      of_file = of_file;
      lines = new.lines;
      log = new.text;
      files = subst (λ (ls : List Line). after ≡ with_file before.files a.output (upgraded p ls)) new.answered new.files;
      same = subst (λ (ls : List Line). SpellsLog (upgraded p ls) ls) new.answered new.spelled;
    }

    touched : (after : World) → IsRewrittenPart Same before.files after.files a.log a.output (first_of Two p) → after.said ≡ before.said → IsNewTouched (view before) (view after) a
    touched after part said = record {
      instance = i;
      problem = p;
      of_file = of_file;
      lines = part.lines;
      read = part.read;
      files = subst (λ (ls : List Line). IsTouched before.files after.files a.output (λ bytes. IsPrefixOf bytes (upgraded p ls))) part.answered part.files;
      said = said;
    }

    -- the new file wasn't written to its end
    pub writing_stopped : (stop : LogStop) (after : World) → IsRewriteStop Same (λ line why. ⊥) stop before after a.log a.output (first_of Two p) → after.said ≡ before.said → NoneFell before.faults after.faults → Answered (UpgradeTable a) (upgrade_calls a) (status_of_log stop) before after
    writing_stopped (LineWrong k why) after (inr stop) said later = absurd stop.1
    writing_stopped (LineWrong k why) after (inl stop) said later = subst (λ (w : Why). Answered (UpgradeTable a) (upgrade_calls a) (Refused (LineRefused k w)) before after) (sym stop.0)
        (ended (UpgradeTable a) (upgrade_calls a) (Refused (LineRefused k Syntax)) before after (record { written = written after.files (λ lines. IsWrongAfter lines k) stop.1; said = said }) (λ is. cc) later)
    writing_stopped Large after stop said later =
        record { table = inr (record { written = written after.files IsLargeAfter stop; said = said }); cause = λ is. absurd cc; later = later }
    writing_stopped LogMemory after stop said later =
        record { table = inr (inl (touched after stop said)); cause = λ is. absurd cc; later = later }
    writing_stopped LogFailed after stop said later = record {
      table = inr (inl (touched after stop.0 said));
      cause = λ is. elim stop.1 [
        | inl reads ↦ own_rose (upgrade_calls a) (reading a.log) before.faults after.faults (1, omega arith, refl) reads
        | inr writes ↦ elim writes [
          | inl begins ↦ own_rose (upgrade_calls a) (beginning a.output) before.faults after.faults (2, omega arith, refl) begins
          | inr appends ↦ own_rose (upgrade_calls a) (appending a.output) before.faults after.faults (3, omega arith, refl) appends
        ]
      ];
      later = later;
    }

    -- the new log was written, and that was said
    pub all_done : (mid after : World) (result : Status) → IsRewritten Same before.files mid.files a.log a.output (first_of Two p) IsLogOf → mid.said ≡ before.said → mid.warned ≡ before.warned → NoneFell before.faults mid.faults → Says Done result mid after → UpgradeRuns a result before after
    all_done mid after result new kept quiet later says =
        said_last (UpgradeTable a) (upgrade_calls a) Done before mid after (4, omega arith, refl) (λ is. cc) later quiet
        (λ said. record { written = all_written; said = said ∙ ap (λ (text : Option (List ℕ)). followed text (said_of Done)) kept })
        (λ partly. let row = cut_off partly in (row, row))
        result says
      where
        all_written : IsWritten before.files after.files a IsLogOf
        all_written = written after.files IsLogOf (subst (λ (f : Option Files). IsRewritten Same before.files f a.log a.output (first_of Two p) IsLogOf) (sym says.files) new)

        cut_off : IsPartlyFollowed mid.said after.said (said_of Done) → IsUpgradedPartly (view before) (view after) a
        cut_off partly = inr (inr (record { written = all_written; said = subst (λ (text : Option (List ℕ)). IsPartlyFollowed text after.said (said_of Done)) kept partly }))
