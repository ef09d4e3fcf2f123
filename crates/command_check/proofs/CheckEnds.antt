-- How each end of the command `check` is answered.
use Rattle.std.proofs.Common.{◌≡◌, ℕ, ◌<◌, ◌^◌, List, length, true, refl, ◌∙◌, ap, subst, inl, inr, arith}
use Rattle.std.specs.Prelude.{Option, ℤ}
use Rattle.scut_base.specs.Files.{Files, followed, IsPartlyFollowed}
use Rattle.scut_base.specs.World.{World}
use Rattle.front_set.specs.declared.entry.Entry.{Entry}
use Rattle.front_text.specs.Spelling.{Spells}
use Rattle.instance.specs.Shape.{InstanceValue}
use Rattle.instance.specs.declared.fault.InstanceLimit.TheVariants.{Bytes}
use Rattle.pb_lin.specs.Problem.{ProblemValue}
use Rattle.log_checker.specs.Accepted.{IsAccepted, IsEndedProof}
use Rattle.log_checker.specs.LogFaults.{IsLogFault, IsWholeFault}
use Rattle.log_checker.specs.declared.fault.CheckFault.TheVariants.{Refused as LineRefused}
use Rattle.log_checker.proofs.AcceptedFront.{accepted_front}
use Rattle.command_base.specs.Answering.{reading}
use Rattle.command_base.specs.Causes.{HasText}
use Rattle.command_base.specs.Inputs.{IsListed, OfInstance}
use Rattle.command_base.specs.Judging.{JudgedBy}
use Rattle.command_base.specs.Messages.{said_of}
use Rattle.command_base.specs.Saying.{Says}
use Rattle.command_base.specs.Stops.{IsLogStop, status_of_log}
use Rattle.command_base.specs.Views.{OnlyReads, View, view}
use Rattle.command_base.specs.declared.stops.LogStop.{LogStop}
use Rattle.command_base.specs.declared.stops.LogStop.TheVariants.{Refused as LineWrong, Large as LogLarge, NoMemory as LogMemory, ShelfFailed as LogFailed}
use Rattle.command_base.specs.declared.status.Status.{Status}
use Rattle.command_base.specs.declared.status.Status.TheVariants.{Accepted, Refused, TooLarge, NoMemory, ShelfFailed}
use Rattle.command_base.proofs.Answered.{IsOwn, TakesListed, own_rose, read_ended, said_last, view_kept}
use Rattle.command_check.specs.Stages.{IsJudgedFor}
use Rattle.command_check.specs.Table.{CheckRuns, CheckTable, IsCutOff, IsTakenAndAccepted, OfLog, OfRightList, check_calls}
use Rattle.command_check.specs.Words.{CheckAsked}

module _ (a : CheckAsked) where
  pub reads_input : IsOwn (check_calls a) (reading a.input)
  reads_input = (0, omega arith, refl)

  pub reads_list : IsOwn (check_calls a) (reading a.list)
  reads_list = (1, omega arith, refl)

  -- nothing has changed
  nothing_done : (before after : View) → after ≡ before → IsCutOff before after a
  nothing_done before after same = record { files = ap (λ (v : View). v.files) same; said = inl (ap (λ (v : View). v.said) same) }

  pub takes_listed : (before after : View) → TakesListed (CheckTable a) a.format a.input a.list before after
  takes_listed before after = record {
    first = record {
      bad = λ line kind was. was;
      limit = λ line which was. was;
      large = λ was. record { cause = inl was.cause; same = was.same };
      memory = nothing_done before after;
      failed = nothing_done before after;
    };
    refused = λ k why was. was;
    large = λ was. record { cause = inr (inl was.cause); same = was.same };
  }

  -- ---- what is so of the files

  module _ (files : Option Files) (i : InstanceValue) (p : ProblemValue) (entries : List Entry) (known : IsListed files a.format a.input a.list i p entries) (by : JudgedBy) (is : IsJudgedFor i entries by) where
    of_instance : (P : InstanceValue → Type 0) → P i → OfInstance files a.format a.input P
    of_instance P holds = λ told. let found = known.read.text told in (found.0, found.1, (i, found.2, holds))

    of_log : (P : List ℕ → ProblemValue → List (List ℤ) → Type 0) → HasText files a.log (λ bytes. P bytes by.problem by.vectors) → OfLog files a (λ j listed bytes. OfRightList j listed (P bytes))
    of_log P stop = of_instance _ (λ told. let l = known.listed told in (
      l.0,
      l.1,
      (
        l.2.0,
        λ told'. let g = stop told' in (
          g.0,
          g.1,
          record {
            entries = entries;
            spelled = l.2.1;
            right = known.right;
            problem = by.problem;
            normal = is.normal;
            holds = subst (P g.0 by.problem) is.vectors g.2;
          },
        ),
      ),
    ))

    accepted : HasText files a.log (λ bytes. (length bytes < 2 ^ 62) × IsEndedProof by.problem by.vectors bytes) → OfLog files a IsTakenAndAccepted
    accepted proof = of_instance _ (λ told. let l = known.listed told in (l.0, l.1, (l.2.0, λ told'. let g = proof told' in (g.0, g.1, taken l.0 g.0 l.2.1 g.2.0 g.2.1))))
      where
        taken : (listed bytes : List ℕ) → Spells listed true entries → length bytes < 2 ^ 62 → IsEndedProof by.problem by.vectors bytes → IsTakenAndAccepted i listed bytes
        taken listed bytes spelled small proof =
            let both : IsAccepted i listed bytes = record {
              entries = entries;
              spelled = spelled;
              right = known.right;
              problem = by.problem;
              normal = is.normal;
              proof = subst (λ (vs : List (List ℤ)). IsEndedProof by.problem vs bytes) is.vectors proof;
            } in
            record { taken = small; accepted = both; front = accepted_front i listed bytes known.read.limits both }

  -- ---- the ends

  module _ (before mid : World) (i : InstanceValue) (p : ProblemValue) (entries : List Entry) (known : IsListed before.files a.format a.input a.list i p entries) (by : JudgedBy) (is : IsJudgedFor i entries by) (reads : OnlyReads before mid) where
    -- the log isn't taken
    pub log_stopped : (stop : LogStop) → IsLogStop (λ bytes k why. IsWholeFault by.problem by.vectors bytes k why) (λ bytes k why. IsLogFault by.problem by.vectors bytes k why) a.log stop before.files before.faults mid.faults → CheckRuns a (status_of_log stop) before mid
    log_stopped (LineWrong k why) stop =
        read_ended (CheckTable a) (check_calls a) (Refused (LineRefused k why)) before mid reads (record { cause = of_log before.files i p entries known by is _ stop; same = view_kept before mid reads }) (λ is. absurd cc)
    log_stopped LogLarge stop =
        read_ended (CheckTable a) (check_calls a) (TooLarge 0 Bytes) before mid reads (record { cause = inr (inr (of_log before.files i p entries known by is _ stop)); same = view_kept before mid reads }) (λ is. absurd cc)
    log_stopped LogMemory stop = read_ended (CheckTable a) (check_calls a) NoMemory before mid reads (nothing_done (view before) (view mid) (view_kept before mid reads)) (λ is. absurd cc)
    log_stopped LogFailed stop = read_ended (CheckTable a) (check_calls a) ShelfFailed before mid reads (nothing_done (view before) (view mid) (view_kept before mid reads))
        (λ is. own_rose (check_calls a) (reading a.log) before.faults mid.faults (2, omega arith, refl) stop)

    -- list and log are accepted, and that is said
    pub all_accepted : (after : World) (result : Status) → HasText before.files a.log (λ bytes. (length bytes < 2 ^ 62) × IsEndedProof by.problem by.vectors bytes) → Says Accepted result mid after → CheckRuns a result before after
    all_accepted after result proof says =
        said_last (CheckTable a) (check_calls a) Accepted before mid after (3, omega arith, refl) (λ is. cc) reads.later reads.warned
        (λ said. record {
          cause = accepted before.files i p entries known by is proof;
          files = says.files ∙ reads.files;
          said = said ∙ ap (λ (text : Option (List ℕ)). followed text (said_of Accepted)) reads.said;
        })
        (λ partly. let row = cut_off partly in (row, row))
        result says
      where
        cut_off : IsPartlyFollowed mid.said after.said (said_of Accepted) → IsCutOff (view before) (view after) a
        cut_off partly = record {
          files = says.files ∙ reads.files;
          said = inr record {
            cause = accepted before.files i p entries known by is proof;
            said = subst (λ (text : Option (List ℕ)). IsPartlyFollowed text after.said (said_of Accepted)) reads.said partly;
          };
        }
