-- How each end of the command `elaborate` is answered.
use Rattle.std.proofs.Common.{◌≡◌, inl, inr, ℕ, List, refl, sym, ◌∙◌, ap, subst, arith}
use Rattle.std.specs.Prelude.{None, Option}
use Rattle.scut_base.specs.Files.{Files, followed, IsPartlyFollowed}
use Rattle.scut_base.specs.Faults.{NoneFell}
use Rattle.scut_base.specs.World.{World}
use Rattle.instance.specs.Shape.{InstanceValue}
use Rattle.pb_lin.specs.Problem.{ProblemValue}
use Rattle.proof_laws.specs.State.{start}
use Rattle.proof_laws.specs.declared.line.Line.{Line}
use Rattle.proof_laws.specs.declared.why.Why.{Why}
use Rattle.proof_lines.specs.declared.spelling.Spelling.TheVariants.{Plain}
use Rattle.log_checker.specs.declared.fault.CheckFault.TheVariants.{Refused as LineRefused}
use Rattle.command_elaborate.specs.Loose.{IsLooselyRefused}
use Rattle.command_elaborate.specs.Reasons.{Elaborates, Elaboration}
use Rattle.command_base.specs.Answering.{Answered, appending, beginning, reading}
use Rattle.command_base.specs.Inputs.{IsInput}
use Rattle.command_base.specs.LogLines.{IsLargeAfter, IsLogOf, IsWrongAfter, before_limit}
use Rattle.command_base.specs.Messages.{said_of}
use Rattle.command_base.specs.Rewriting.{IsLineAfter, IsRefusal, IsRewriteStop, IsRewritten, IsRewrittenPart}
use Rattle.command_base.specs.Saying.{Says}
use Rattle.command_base.specs.Stops.{status_of_log}
use Rattle.command_base.specs.Views.{View, view}
use Rattle.command_base.specs.declared.stops.LogStop.{LogStop}
use Rattle.command_base.specs.declared.stops.LogStop.TheVariants.{Refused as LineWrong, Large, NoMemory as LogMemory, ShelfFailed as LogFailed}
use Rattle.command_base.specs.declared.status.Status.{Status}
use Rattle.command_base.specs.declared.status.Status.TheVariants.{Done, Refused}
use Rattle.command_base.proofs.Answered.{IsOwn, TakesInput, ended, own_rose, said_last}
use Rattle.command_elaborate.specs.Elaborating.{HasAnswered, Refuses}
use Rattle.command_elaborate.specs.Table.{AreAnswered, ElaborateRuns, ElaborateTable, IsCutAfter, IsElaboratedPartly, IsNewTouched, IsRefusedAfter, IsTakenLog, IsWritten, elaborate_calls}
use Rattle.command_elaborate.specs.Words.{ElaborateAsked}

module _ (a : ElaborateAsked) where
  pub reads_input : IsOwn (elaborate_calls a) (reading a.input)
  reads_input = (0, omega arith, refl)

  pub takes_input : (before after : View) → TakesInput (ElaborateTable a) a.format a.input before after
  takes_input before after = record {
    bad = λ line kind was. was;
    limit = λ line which was. was;
    large = inl;
    memory = inl;
    failed = inl;
  }

  module _ (i : InstanceValue) (p : ProblemValue) (before : World) (of_file : IsInput before.files a.format a.input i p) (e : Elaboration) (is : e.problem ≡ p) where
    answered_so : (lines news : List Line) → HasAnswered e lines news → Elaborates p (start p) lines news e.state None
    answered_so lines news was = subst (λ (q : ProblemValue). Elaborates q (start q) lines news e.state None) is was

    are_answered : (lines news : List Line) → HasAnswered e lines news → AreAnswered p lines news
    are_answered lines news was = (e.state, answered_so lines news was)

    written : (after : Option Files) (Q : List Line → List ℕ → Type 0) (P : ProblemValue → List Line → List Line → List ℕ → Type 0) → (new : IsRewritten (HasAnswered e) before.files after a.log a.output Plain Q) → ((log : List ℕ) → Q new.lines log → P p new.lines new.news log) → IsWritten before.files after a P
    written after Q P new then = record {
      instance = i;
      problem = p;
      of_file = of_file;
      lines = new.lines;
      news = new.news;
      log = λ told. let text = new.text told in (text.0, text.1, then text.0 text.2);
      files = new.files;
      same = new.spelled;
    }

    touched : (after : World) → IsRewrittenPart (HasAnswered e) before.files after.files a.log a.output Plain → after.said ≡ before.said → IsNewTouched (view before) (view after) a
    touched after part said = record {
      instance = i;
      problem = p;
      of_file = of_file;
      lines = part.lines;
      news = part.news;
      read = record { read = part.read; answered = are_answered part.lines part.news part.answered };
      files = part.files;
      said = said;
    }

    -- a line is refused
    refused : (after : Option Files) (k : ℕ) (why : Why) → IsRefusal (Refuses e) k why (IsRewritten (HasAnswered e) before.files after a.log a.output Plain) → IsWritten before.files after a (λ q lines news. IsRefusedAfter q lines news k why)
    refused after k why (inl wrong) =
        let new = wrong.1 in
        written after (λ lines log. IsWrongAfter lines k log) (λ q lines news. IsRefusedAfter q lines news k why) new
        (λ log there. inl (record { syntax = wrong.0; wrong = there; answered = are_answered new.lines new.news new.answered }))
    refused after k why (inr line) =
        let new = line.2 in
        written after (λ lines log. IsLineAfter line.0 lines k (before_limit log)) (λ q lines news. IsRefusedAfter q lines news k why) new
        (λ log there. inr (record {
          state = e.state;
          answered = answered_so new.lines new.news new.answered;
          line = line.0;
          refused = subst (λ (q : ProblemValue). IsLooselyRefused q e.state line.0 why) is line.1;
          rest = there.rest;
          there = there.there;
          number = there.number;
        }))

    -- the new file wasn't written to its end
    pub writing_stopped : (stop : LogStop) (after : World) → IsRewriteStop (HasAnswered e) (Refuses e) stop before after a.log a.output Plain → after.said ≡ before.said → NoneFell before.faults after.faults → Answered (ElaborateTable a) (elaborate_calls a) (status_of_log stop) before after
    writing_stopped (LineWrong k why) after stop said later =
        ended (ElaborateTable a) (elaborate_calls a) (Refused (LineRefused k why)) before after (record { written = refused after.files k why stop; said = said }) (λ is. cc) later
    writing_stopped Large after stop said later = record {
      table = inr (record { written = written after.files IsLargeAfter IsCutAfter stop (λ log large. record { large = large; answered = are_answered stop.lines stop.news stop.answered }); said = said });
      cause = λ is. absurd cc;
      later = later;
    }
    writing_stopped LogMemory after stop said later =
        record { table = inr (inl (touched after stop said)); cause = λ is. absurd cc; later = later }
    writing_stopped LogFailed after stop said later = record {
      table = inr (inl (touched after stop.0 said));
      cause = λ is. elim stop.1 [
        | inl reads ↦ own_rose (elaborate_calls a) (reading a.log) before.faults after.faults (1, omega arith, refl) reads
        | inr writes ↦ elim writes [
          | inl begins ↦ own_rose (elaborate_calls a) (beginning a.output) before.faults after.faults (2, omega arith, refl) begins
          | inr appends ↦ own_rose (elaborate_calls a) (appending a.output) before.faults after.faults (3, omega arith, refl) appends
        ]
      ];
      later = later;
    }

    -- the new log was written, and that was said
    pub all_done : (mid after : World) (result : Status) → IsRewritten (HasAnswered e) before.files mid.files a.log a.output Plain IsLogOf → mid.said ≡ before.said → mid.warned ≡ before.warned → NoneFell before.faults mid.faults → Says Done result mid after → ElaborateRuns a result before after
    all_done mid after result new kept quiet later says =
        said_last (ElaborateTable a) (elaborate_calls a) Done before mid after (4, omega arith, refl) (λ is. cc) later quiet
        (λ said. record { written = all_written; said = said ∙ ap (λ (text : Option (List ℕ)). followed text (said_of Done)) kept })
        (λ partly. let row = cut_off partly in (row, row))
        result says
      where
        all_written : IsWritten before.files after.files a IsTakenLog
        all_written =
            let here = subst (λ (f : Option Files). IsRewritten (HasAnswered e) before.files f a.log a.output Plain IsLogOf) (sym says.files) new in
            written after.files IsLogOf IsTakenLog here (λ log spelled. record { spelled = spelled; answered = are_answered here.lines here.news here.answered })

        cut_off : IsPartlyFollowed mid.said after.said (said_of Done) → IsElaboratedPartly (view before) (view after) a
        cut_off partly = inr (inr (record { written = all_written; said = subst (λ (text : Option (List ℕ)). IsPartlyFollowed text after.said (said_of Done)) kept partly }))
