-- How each end of the command `trim` is answered.
use Rattle.std.proofs.Common.{◌≡◌, ℕ, ◌<◌, ◌^◌, List, length, true, refl, sym, ◌∙◌, ap, subst, inl, inr, arith}
use Rattle.std.specs.Prelude.{Option}
use Rattle.scut_base.specs.Files.{Files, followed, with_file, IsPartlyFollowed, IsPrefixOf, IsTouched}
use Rattle.scut_base.specs.Faults.{NoneFell, WritingFailed}
use Rattle.scut_base.specs.World.{World}
use Rattle.scut_base.specs.declared.shelf.ShelfFault.{ShelfFault}
use Rattle.scut_base.specs.declared.shelf.ShelfFault.TheVariants.{Failed}
use Rattle.front_set.specs.declared.entry.Entry.{Entry}
use Rattle.front_text.specs.Spelling.{Spells}
use Rattle.instance.specs.Shape.{InstanceValue}
use Rattle.instance.specs.declared.fault.InstanceLimit.TheVariants.{Bytes}
use Rattle.pb_lin.specs.Problem.{ProblemValue}
use Rattle.proof_laws.specs.declared.line.Line.{Line}
use Rattle.proof_lines.specs.declared.spelling.Spelling.TheVariants.{Plain}
use Rattle.proof_text.specs.Versions.{log_text}
use Rattle.log_checker.specs.Accepted.{IsAccepted, problem_vectors}
use Rattle.log_checker.specs.declared.fault.CheckFault.TheVariants.{Refused as LineRefused}
use Rattle.command_trim.specs.Trimmed.{trimmed}
use Rattle.command_base.specs.Answering.{Answered, OwnRose, appending, beginning, reading}
use Rattle.command_base.specs.Inputs.{IsListed}
use Rattle.command_base.specs.Judging.{JudgedBy}
use Rattle.command_base.specs.Messages.{said_of}
use Rattle.command_base.specs.Saying.{Says}
use Rattle.command_base.specs.Statuses.{status_of_shelf}
use Rattle.command_base.specs.Stops.{IsLogStop, status_of_log}
use Rattle.command_base.specs.Views.{OnlyReads, View, view}
use Rattle.command_base.specs.declared.stops.LogStop.{LogStop}
use Rattle.command_base.specs.declared.stops.LogStop.TheVariants.{Refused as LineWrong, Large as LogLarge, NoMemory as LogMemory, ShelfFailed as LogFailed}
use Rattle.command_base.specs.declared.status.Status.{Status}
use Rattle.command_base.specs.declared.status.Status.TheVariants.{NoMemory, Refused, ShelfFailed, TooLarge, Trimmed}
use Rattle.command_base.proofs.Answered.{IsOwn, TakesListed, own_rose, read_ended, said_last, shelf_fault, view_kept}
use Rattle.command_check.specs.Stages.{IsJudgedFor}
use Rattle.command_check.proofs.CheckEnds.{log_stopped as check_log_stopped}
use Rattle.command_trim.specs.Keeping.{IsProofOf, IsProved, every_by, whole_by}
use Rattle.command_trim.specs.Table.{IsCutOff, IsTextOf, IsWritten, TrimRuns, TrimTable, trim_calls}
use Rattle.command_trim.specs.TrimmedText.{IsTrimmedText}
use Rattle.command_trim.specs.Words.{TrimAsked, check_of}
use Rattle.command_trim.proofs.TrimmedTexts.{text_accepted}

module _ (a : TrimAsked) where
  pub reads_input : IsOwn (trim_calls a) (reading a.input)
  reads_input = (0, omega arith, refl)

  pub reads_list : IsOwn (trim_calls a) (reading a.list)
  reads_list = (1, omega arith, refl)

  -- ---- what isn't taken is refused as by `check`

  pub takes_listed : (before after : View) → TakesListed (TrimTable a) a.format a.input a.list before after
  takes_listed before after = record {
    first = record {
      bad = λ line kind was. was;
      limit = λ line which was. was;
      large = λ was. record { cause = inl was.cause; same = was.same };
      memory = inl;
      failed = inl;
    };
    refused = λ k why was. was;
    large = λ was. record { cause = inr (inl was.cause); same = was.same };
  }

  module _ (before after : World) (i : InstanceValue) (p : ProblemValue) (entries : List Entry) (known : IsListed before.files a.format a.input a.list i p entries) (reads : OnlyReads before after) where
    abbrev by : JudgedBy
    by = record { problem = p; vectors = problem_vectors i entries }

    judged : IsJudgedFor i entries by
    judged = record { normal = known.read.normal; vectors = refl }

    pub log_stopped : (stop : LogStop) → IsLogStop (whole_by by) (every_by by) a.log stop before.files before.faults after.faults → TrimRuns a (status_of_log stop) before after
    log_stopped (LineWrong k why) stop =
        let was = check_log_stopped (check_of a) before after i p entries known by judged reads (LineWrong k why) stop in
        read_ended (TrimTable a) (trim_calls a) (Refused (LineRefused k why)) before after reads was.answered.table (λ is. absurd cc)
    log_stopped LogLarge stop =
        let was = check_log_stopped (check_of a) before after i p entries known by judged reads LogLarge stop in
        read_ended (TrimTable a) (trim_calls a) (TooLarge 0 Bytes) before after reads was.answered.table (λ is. absurd cc)
    log_stopped LogMemory stop = read_ended (TrimTable a) (trim_calls a) NoMemory before after reads (inl (view_kept before after reads)) (λ is. absurd cc)
    log_stopped LogFailed stop = read_ended (TrimTable a) (trim_calls a) ShelfFailed before after reads (inl (view_kept before after reads))
        (λ is. own_rose (trim_calls a) (reading a.log) before.faults after.faults (2, omega arith, refl) stop)

  -- ---- the trimmed lines

  module _ (files : Option Files) (i : InstanceValue) (entries : List Entry) (p : ProblemValue) (lines kept : List Line) (proved : IsProved files a i entries p lines) (is : kept ≡ trimmed p lines) where
    text_of : (listed bytes : List ℕ) → Spells listed true entries → length bytes < 2 ^ 62 → IsProofOf (record { problem = p; vectors = problem_vectors i entries }) lines bytes → IsTrimmedText (length kept) (length lines) (log_text Plain kept) i listed bytes
    text_of listed bytes spelled small proof =
        let both : IsAccepted i listed bytes = record {
          entries = entries;
          spelled = spelled;
          right = proved.listed.right;
          problem = p;
          normal = proved.listed.read.normal;
          proof = proof.0;
        } in
        let same : kept ≡ trimmed p proof.0.lines = is ∙ ap (trimmed p) (sym proof.1) in
        record {
          taken = small;
          accepted = both;
          is = ap (log_text Plain) same;
          kept_is = ap length same;
          total_is = ap length (sym proof.1);
          again = subst (λ (ls : List Line). IsAccepted i listed (log_text Plain ls)) (sym same) (text_accepted i listed bytes proved.listed.read.limits both);
        }

    pub trimmed_text : IsTextOf files a (log_text Plain kept) (length kept) (length lines)
    trimmed_text = λ told.
        let read = proved.listed.read.text told in (
          read.0,
          read.1,
          (
            i,
            read.2,
            λ told'.
                let l = proved.listed.listed told' in (
                  l.0,
                  l.1,
                  (l.2.0, λ told''. let g = proved.proof told'' in (g.0, g.1, text_of l.0 g.0 l.2.1 g.2.0 g.2.1)),
                ),
          ),
        )

  module _ (before : World) (text : List ℕ) (kept total : ℕ) (new : IsTextOf before.files a text kept total) where
    -- the new file wasn't written to its end
    pub writing_stopped : (fault : ShelfFault) (after : World) → IsTouched before.files after.files a.output (λ bytes. IsPrefixOf bytes text) → after.said ≡ before.said → (fault ≡ Failed → WritingFailed before.faults after.faults a.output) → NoneFell before.faults after.faults
        → Answered (TrimTable a) (trim_calls a) (status_of_shelf fault) before after
    writing_stopped fault after touched quiet rose later = shelf_fault (TrimTable a) (trim_calls a) fault before after row row (λ failed. writes (rose failed)) later
      where
        row : IsCutOff (view before) (view after) a
        row = inr (inl (record { kept = kept; total = total; text = text; trimmed = new; files = touched; said = quiet }))

        writes : WritingFailed before.faults after.faults a.output → OwnRose (trim_calls a) before.files before.faults after.faults
        writes (inl begins) = own_rose (trim_calls a) (beginning a.output) before.faults after.faults (3, omega arith, refl) begins
        writes (inr appends) = own_rose (trim_calls a) (appending a.output) before.faults after.faults (4, omega arith, refl) appends

    -- the log was trimmed, and that was said
    pub all_trimmed : (mid after : World) (result : Status) → mid.files ≡ with_file before.files a.output text → mid.said ≡ before.said → mid.warned ≡ before.warned → NoneFell before.faults mid.faults → Says (Trimmed kept total) result mid after → TrimRuns a result before after
    all_trimmed mid after result put kept_said quiet later says =
        said_last (TrimTable a) (trim_calls a) (Trimmed kept total) before mid after (5, omega arith, refl) (λ is. cc) later quiet
        (λ said. record { written = written; said = said ∙ ap (λ (t : Option (List ℕ)). followed t (said_of (Trimmed kept total))) kept_said })
        (λ partly. let row = cut_off partly in (row, row))
        result says
      where
        written : IsWritten before.files after.files a kept total
        written = record { text = text; trimmed = new; files = says.files ∙ put }

        cut_off : IsPartlyFollowed mid.said after.said (said_of (Trimmed kept total)) → IsCutOff (view before) (view after) a
        cut_off partly = inr (inr (record {
          kept = kept;
          total = total;
          written = written;
          said = subst (λ (t : Option (List ℕ)). IsPartlyFollowed t after.said (said_of (Trimmed kept total))) kept_said partly;
        }))
