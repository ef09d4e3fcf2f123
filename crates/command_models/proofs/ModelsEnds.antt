-- How each end of the command `models` is answered.
use Rattle.std.proofs.Common.{◌≡◌, ℕ, ◌<◌, ◌≤◌, ◌^◌, List, length, refl, sym, ◌∙◌, ap, subst, inl, inr, ◌⊎◌, arith}
use Rattle.std.specs.Prelude.{Option}
use Rattle.scut_base.specs.Files.{Files, followed, IsPartlyFollowed}
use Rattle.scut_base.specs.Faults.{Faults, NoneFell, WritingFailed}
use Rattle.scut_base.specs.World.{World}
use Rattle.front_set.specs.declared.entry.Entry.{Entry}
use Rattle.instance.specs.Shape.{InstanceValue}
use Rattle.pb_lin.specs.Problem.{ProblemValue}
use Rattle.proof_rules.specs.declared.recorder.RecordFault.{RecordFault}
use Rattle.proof_rules.specs.declared.recorder.RecordFault.TheVariants.{Failed as RecordFailed, Full, NoMemory as RecordNoMemory}
use Rattle.command_base.specs.Answering.{Answered, OwnRose, appending, appending_each, beginning, beginning_each, reading}
use Rattle.command_base.specs.Messages.{said_of}
use Rattle.command_base.specs.Saying.{Says}
use Rattle.command_base.specs.Statuses.{status_of_recording}
use Rattle.command_base.specs.Views.{View, view}
use Rattle.command_base.specs.declared.status.Status.{Status}
use Rattle.command_base.specs.declared.status.Status.TheVariants.{Models}
use Rattle.command_base.proofs.Answered.{IsOwn, TakesListed, own_rose, said_last}
use Rattle.command_check_models.specs.Entries.{IsPosed}
use Rattle.command_check_models.specs.Words.{ModelsAsked, log_name, models_name}
use Rattle.command_models.specs.Gathering.{IsWritingStop, LogFailed}
use Rattle.command_models.specs.Table.{AreListedPartly, AreTouched, AreWritten, IsLogWritten, ModelsRuns, ModelsTable, OfEntries, models_calls}

module _ (a : ModelsAsked) where
  pub reads_input : IsOwn (models_calls a) (reading a.input)
  reads_input = (0, omega arith, refl)

  pub reads_list : IsOwn (models_calls a) (reading a.list)
  reads_list = (1, omega arith, refl)

  pub takes_listed : (before after : View) → TakesListed (ModelsTable a) a.format a.input a.list before after
  takes_listed before after = record {
    first = record {
      bad = λ line kind was. was;
      limit = λ line which was. was;
      large = λ was. record { cause = inl was.cause; same = was.same };
      memory = inl;
      failed = inl;
    };
    refused = λ k why was. was;
    large = λ was. record { cause = inr was.cause; same = was.same };
  }

  module _ (before mid : World) (i : InstanceValue) (entries : List Entry) (p : ProblemValue) (posed : IsPosed before.files a i entries p) (said : mid.said ≡ before.said) (first : NoneFell before.faults mid.faults) where
    touched_row : AreTouched before.files mid.files a i p entries → AreListedPartly (view before) (view mid) a
    touched_row touched = inr (inl record { touched = record { instance = i; entries = entries; problem = p; posed = posed; holds = touched }; said = said })

    -- the models aren't written
    pub writing_stopped : (fault : RecordFault) → IsWritingStop fault before.files mid.files a i p entries before.faults mid.faults → Answered (ModelsTable a) (models_calls a) (status_of_recording fault) before mid
    writing_stopped RecordFailed stop = record { table = touched_row stop.touched; cause = λ is. by stop.cause; later = first }
      where
        written : (n : ℕ) → 0 < n → n ≤ length entries → IsLogWritten a before.files n
        written n some few = record { instance = i; entries = entries; problem = p; posed = posed; holds = (some, few) }

        by_log : LogFailed a (length entries) before.faults mid.faults → OwnRose (models_calls a) before.files before.faults mid.faults
        by_log (n, some, few, inl rose) = own_rose (models_calls a) (beginning_each (log_name a.base) (IsLogWritten a)) before.faults mid.faults (2, omega arith, refl) (n, written n some few, rose)
        by_log (n, some, few, inr rose) = own_rose (models_calls a) (appending_each (log_name a.base) (IsLogWritten a)) before.faults mid.faults (3, omega arith, refl) (n, written n some few, rose)

        by_text : WritingFailed before.faults mid.faults (models_name a.base) → OwnRose (models_calls a) before.files before.faults mid.faults
        by_text (inl rose) = own_rose (models_calls a) (beginning (models_name a.base)) before.faults mid.faults (4, omega arith, refl) rose
        by_text (inr rose) = own_rose (models_calls a) (appending (models_name a.base)) before.faults mid.faults (5, omega arith, refl) rose

        by : LogFailed a (length entries) before.faults mid.faults ⊎ WritingFailed before.faults mid.faults (models_name a.base) → OwnRose (models_calls a) before.files before.faults mid.faults
        by (inl failed) = by_log failed
        by (inr failed) = by_text failed
    writing_stopped Full stop = record {
      table = (refl, record { touched = record { instance = i; entries = entries; problem = p; posed = posed; holds = (stop.touched, stop.cause) }; said = said });
      cause = λ is. absurd cc;
      later = first;
    }
    writing_stopped RecordNoMemory stop = record { table = touched_row stop.touched; cause = λ is. absurd cc; later = first }

    -- the models are written, and that is said
    pub all_listed : (after : World) (result : Status) → AreWritten before.files mid.files a i p entries → mid.warned ≡ before.warned → Says (Models (length entries)) result mid after → ModelsRuns a result before after
    all_listed after result written quiet says =
        said_last (ModelsTable a) (models_calls a) (Models (length entries)) before mid after (6, omega arith, refl) (λ is. cc) first quiet
        (λ now. record { written = listed; said = now ∙ ap (λ (old : Option (List ℕ)). followed old (said_of (Models (length entries)))) said })
        (λ partly. let row = cut_off partly in (row, row))
        result says
      where
        here : AreWritten before.files after.files a i p entries
        here = subst (λ (now : Option Files). AreWritten before.files now a i p entries) (sym says.files) written

        listed : OfEntries before.files a (λ i' p' es. AreWritten before.files after.files a i' p' es × (length es ≡ length entries))
        listed = record { instance = i; entries = entries; problem = p; posed = posed; holds = (here, refl) }

        cut_off : IsPartlyFollowed mid.said after.said (said_of (Models (length entries))) → AreListedPartly (view before) (view after) a
        cut_off partly = inr (inr (
          length entries,
          record { written = listed; said = subst (λ (text : Option (List ℕ)). IsPartlyFollowed text after.said (said_of (Models (length entries)))) said partly },
        ))
