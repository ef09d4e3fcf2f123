-- How each end of the command `check-models` is answered.
use Rattle.std.proofs.Common.{◌≡◌, ℕ, zero, suc, ◌<◌, ◌^◌, List, length, refl, sym, ◌∙◌, ap, subst, inl, inr, arith}
use Rattle.std.specs.Prelude.{Option}
use Rattle.scut_base.specs.Files.{Files, followed, IsPartlyFollowed}
use Rattle.scut_base.specs.World.{World}
use Rattle.front_set.specs.declared.entry.Entry.{Entry}
use Rattle.instance.specs.Shape.{InstanceValue}
use Rattle.front_text.specs.declared.reps.Reps.{Reps}
use Rattle.pb_lin.specs.Problem.{ProblemValue}
use Rattle.representatives.specs.declared.fault.RepsWhy.{RepsWhy}
use Rattle.representatives.specs.declared.fault.RepsWhy.TheVariants.{Syntax, Count, NotModel, Costs, Repeated, Log}
use Rattle.command_base.specs.Answering.{Answered, reading, reading_each}
use Rattle.command_base.specs.Causes.{HasText}
use Rattle.command_base.specs.Inputs.{IsListed}
use Rattle.command_base.specs.Messages.{said_of}
use Rattle.command_base.specs.Saying.{Says}
use Rattle.command_base.specs.Stops.{IsListedStop}
use Rattle.command_base.specs.Views.{OnlyReads, View, view}
use Rattle.command_base.specs.declared.stops.ListStop.{ListStop}
use Rattle.command_base.specs.declared.input.Listed.{Listed}
use Rattle.command_base.specs.declared.instance_file.Format.{Format}
use Rattle.command_base.specs.declared.status.Status.{Status}
use Rattle.command_base.specs.declared.status.Status.TheVariants.{Accepted, ModelsRefused}
use Rattle.command_base.proofs.Answered.{IsOwn, TakesListed, own_rose, said_last, view_kept}
use Rattle.command_check_models.specs.Entries.{AreLogsTakenFrom, AreRightFrom, IsModelsFault, IsPosed}
use Rattle.command_check_models.specs.Judging.{IsJudgingStop, IsModelsText, IsReadingStop, status_of_models}
use Rattle.command_check_models.specs.Table.{AreRight, CheckModelsRuns, CheckModelsTable, IsCutOff, IsLogRead, OfModels, check_models_calls}
use Rattle.command_check_models.specs.Words.{ModelsAsked, log_name, models_name}
use Rattle.command_check_models.specs.declared.stop.ModelsStop.{ModelsStop}
use Rattle.command_check_models.specs.declared.stop.ModelsStop.TheVariants.{Refused, Large, NoMemory as ModelsMemory, ShelfFailed as ModelsFailed}

-- ---- what was read, by what was asked

pub posed_by : (a : ModelsAsked) (before after : Option Files) (format : Format) (input list : List ℕ) (it : Listed) (entries : List Entry) → after ≡ before → format ≡ a.format → input ≡ a.input → list ≡ a.list → entries ≡ it.entries
    → IsListed before format input list it.input.inst it.input.problem it.entries → IsPosed after a it.input.inst entries it.input.problem
posed_by a before after format input list it entries files is_format is_input is_list is_entries read =
    subst (λ (f : Option Files). IsListed f a.format a.input a.list it.input.inst it.input.problem entries) (sym files)
    (subst (λ (es : List Entry). IsListed before a.format a.input a.list it.input.inst it.input.problem es) (sym is_entries)
    (subst (λ (name : List ℕ). IsListed before a.format a.input name it.input.inst it.input.problem it.entries) is_list
    (subst (λ (name : List ℕ). IsListed before a.format name list it.input.inst it.input.problem it.entries) is_input
    (subst (λ (f : Format). IsListed before f input list it.input.inst it.input.problem it.entries) is_format read))))

pub stop_by : (a : ModelsAsked) (format : Format) (input list : List ℕ) (stop : ListStop) (before after : World) → format ≡ a.format → input ≡ a.input → list ≡ a.list
    → IsListedStop format input list stop before.files before.faults after.faults → IsListedStop a.format a.input a.list stop before.files before.faults after.faults
stop_by a format input list stop before after is_format is_input is_list why =
    subst (λ (name : List ℕ). IsListedStop a.format a.input name stop before.files before.faults after.faults) is_list
    (subst (λ (name : List ℕ). IsListedStop a.format name list stop before.files before.faults after.faults) is_input
    (subst (λ (f : Format). IsListedStop f input list stop before.files before.faults after.faults) is_format why))

module _ (a : ModelsAsked) where
  pub reads_input : IsOwn (check_models_calls a) (reading a.input)
  reads_input = (0, omega arith, refl)

  pub reads_list : IsOwn (check_models_calls a) (reading a.list)
  reads_list = (1, omega arith, refl)

  -- nothing has changed
  nothing_done : (before after : View) → after ≡ before → IsCutOff before after a
  nothing_done before after same = record { files = ap (λ (v : View). v.files) same; said = inl (ap (λ (v : View). v.said) same) }

  pub takes_listed : (before after : View) → TakesListed (CheckModelsTable a) a.format a.input a.list before after
  takes_listed before after = record {
    first = record {
      bad = λ line kind was. was;
      limit = λ line which was. was;
      large = λ was. record { cause = inl (inl was.cause); same = was.same };
      memory = nothing_done before after;
      failed = nothing_done before after;
    };
    refused = λ k why was. was;
    large = λ was. record { cause = inl (inr was.cause); same = was.same };
  }

  -- ---- the stops

  -- memory was wanted, or a read failed
  module _ (before after : World) (reads : OnlyReads before after) where
    unread : IsCutOff (view before) (view after) a
    unread = nothing_done (view before) (view after) (view_kept before after reads)

    module _ (i : InstanceValue) (entries : List Entry) (p : ProblemValue) (posed : IsPosed before.files a i entries p) where
      -- the text of all models isn't read
      pub text_stopped : (stop : ModelsStop) → IsReadingStop stop before.files a.base before.faults after.faults → Answered (CheckModelsTable a) (check_models_calls a) (status_of_models stop) before after
      text_stopped (Refused k Syntax) stop =
          record { table = record { cause = record { instance = i; entries = entries; problem = p; posed = posed; text = stop }; same = view_kept before after reads }; cause = λ is. absurd cc; later = reads.later }
      text_stopped (Refused k Count) stop = absurd stop
      text_stopped (Refused k NotModel) stop = absurd stop
      text_stopped (Refused k Costs) stop = absurd stop
      text_stopped (Refused k Repeated) stop = absurd stop
      text_stopped (Refused k (Log line why)) stop = absurd stop
      text_stopped Large stop =
          record { table = record { cause = inr (inl record { instance = i; entries = entries; problem = p; posed = posed; text = stop }); same = view_kept before after reads }; cause = λ is. absurd cc; later = reads.later }
      text_stopped ModelsMemory stop = record { table = unread; cause = λ is. absurd cc; later = reads.later }
      text_stopped ModelsFailed stop = record { table = unread; cause = λ is. own_rose (check_models_calls a) (reading (models_name a.base)) before.faults after.faults (2, omega arith, refl) stop; later = reads.later }

      module _ (reps : List Reps) (text : IsModelsText before.files a.base reps) where
        -- an entry is wrong, by the text that is there
        wrong_entry : (k : ℕ) (why : RepsWhy) → HasText before.files (models_name a.base) (λ t. (length t < 2 ^ 32) × IsModelsFault before.files a i p entries (suc k) why t) → Answered (CheckModelsTable a) (check_models_calls a) (ModelsRefused (suc k) why) before after
        wrong_entry k why found = record { table = record { cause = record { instance = i; entries = entries; problem = p; posed = posed; text = found }; same = view_kept before after reads }; cause = λ is. absurd cc; later = reads.later }

        -- the models of an entry aren't right
        pub entry_stopped : (stop : ModelsStop) → IsJudgingStop stop before.files a i p entries reps before.faults after.faults → Answered (CheckModelsTable a) (check_models_calls a) (status_of_models stop) before after
        entry_stopped (Refused zero Count) stop = record {
          table = record {
            cause = record { instance = i; entries = entries; problem = p; posed = posed; text = λ told. let f = text told in (f.0, f.1, (f.2.0, (reps, f.2.1, stop))) };
            same = view_kept before after reads;
          };
          cause = λ is. absurd cc;
          later = reads.later;
        }
        entry_stopped (Refused zero Syntax) stop = absurd stop
        entry_stopped (Refused zero NotModel) stop = absurd stop
        entry_stopped (Refused zero Costs) stop = absurd stop
        entry_stopped (Refused zero Repeated) stop = absurd stop
        entry_stopped (Refused zero (Log line why)) stop = absurd stop
        entry_stopped (Refused (suc k) Syntax) stop = absurd stop.1.holds.1.wrong
        entry_stopped (Refused (suc k) Count) stop = wrong_entry k Count (λ told. let f = text told in (f.0, f.1, (f.2.0, record { reps = reps; spelled = f.2.1; as_many = stop.0; holds = stop.1 })))
        entry_stopped (Refused (suc k) NotModel) stop = wrong_entry k NotModel (λ told. let f = text told in (f.0, f.1, (f.2.0, record { reps = reps; spelled = f.2.1; as_many = stop.0; holds = stop.1 })))
        entry_stopped (Refused (suc k) Costs) stop = wrong_entry k Costs (λ told. let f = text told in (f.0, f.1, (f.2.0, record { reps = reps; spelled = f.2.1; as_many = stop.0; holds = stop.1 })))
        entry_stopped (Refused (suc k) Repeated) stop = wrong_entry k Repeated (λ told. let f = text told in (f.0, f.1, (f.2.0, record { reps = reps; spelled = f.2.1; as_many = stop.0; holds = stop.1 })))
        entry_stopped (Refused (suc k) (Log line why)) stop = wrong_entry k (Log line why) (λ told. let f = text told in (f.0, f.1, (f.2.0, record { reps = reps; spelled = f.2.1; as_many = stop.0; holds = stop.1 })))
        entry_stopped Large stop = record {
          table = record {
            cause = inr (inr record { instance = i; entries = entries; problem = p; posed = posed; text = λ told. let f = text told in (f.0, f.1, (f.2.0, record { reps = reps; spelled = f.2.1; as_many = stop.0; holds = (stop.1, stop.2) })) });
            same = view_kept before after reads;
          };
          cause = λ is. absurd cc;
          later = reads.later;
        }
        entry_stopped ModelsMemory stop = record { table = unread; cause = λ is. absurd cc; later = reads.later }
        entry_stopped ModelsFailed (as_many, n, marked, rose) = record {
          table = unread;
          cause = λ is. own_rose (check_models_calls a) (reading_each (log_name a.base) (IsLogRead a)) before.faults after.faults (3, omega arith, refl) (n, read, rose);
          later = reads.later;
        }
          where
            read : IsLogRead a before.files n
            read = record { instance = i; entries = entries; problem = p; posed = posed; text = λ told. let f = text told in (f.0, f.1, record { reps = reps; spelled = f.2.1; as_many = as_many; holds = marked }) }

  -- ---- what is accepted

  module _ (before mid after : World) (i : InstanceValue) (entries : List Entry) (p : ProblemValue) (posed : IsPosed before.files a i entries p) (reps : List Reps)
      (text : IsModelsText before.files a.base reps) (each : AreRightFrom before.files a i p 1 entries reps) (taken : AreLogsTakenFrom before.files a 1 reps) (reads : OnlyReads before mid) where
    right : OfModels before.files a (AreRight before.files a)
    right = record {
      instance = i;
      entries = entries;
      problem = p;
      posed = posed;
      text = λ told. let f = text told in (f.0, f.1, record { taken = f.2.0; reps = reps; spelled = f.2.1; each = each; logs_taken = taken });
    }

    -- the models are right, and that is said
    pub all_accepted : (result : Status) → Says Accepted result mid after → CheckModelsRuns a result before after
    all_accepted result says =
        said_last (CheckModelsTable a) (check_models_calls a) Accepted before mid after (4, omega arith, refl) (λ is. cc) reads.later reads.warned
        (λ said. record { cause = right; files = says.files ∙ reads.files; said = said ∙ ap (λ (old : Option (List ℕ)). followed old (said_of Accepted)) reads.said })
        (λ partly. let row = cut_off partly in (row, row))
        result says
      where
        cut_off : IsPartlyFollowed mid.said after.said (said_of Accepted) → IsCutOff (view before) (view after) a
        cut_off partly = record {
          files = says.files ∙ reads.files;
          said = inr record { cause = right; said = subst (λ (said : Option (List ℕ)). IsPartlyFollowed said after.said (said_of Accepted)) reads.said partly };
        }
