-- Where the command `elaborate` completes.
use Rattle.std.proofs.Common.{◌≡◌, ◌⊎◌, ℕ, zero, ◌-◌, ◌^◌, List, [], ◌∷◌, ◌++◌, refl, sym, ◌∙◌, inl, inr, subst, arith}
use Rattle.std.specs.Prelude.{None, Option, Some}
use Rattle.std.proofs.lemmas.List.{append-nil, append_assoc, take_all}
use Rattle.scut_base.specs.Files.{Files}
use Rattle.scut_base.specs.World.{World}
use Rattle.instance.specs.Shape.{InstanceValue}
use Rattle.instance.specs.declared.fault.InstanceLimit.TheVariants.{Bytes}
use Rattle.pb_lin.specs.Problem.{ProblemValue}
use Rattle.proof_laws.specs.State.{start}
use Rattle.proof_laws.specs.declared.line.Line.{Line}
use Rattle.proof_laws.specs.declared.why.Why.{Why}
use Rattle.proof_text.specs.LogText.{BeginsWith, IsSyntaxAt, SpellsLog}
use Rattle.proof_text.specs.Versions.{after_lines}
use Rattle.proof_text.proofs.Logs.{GoesOn, begins_align, never_unfinished, never_wrong, whole_some}
use Rattle.log_checker.specs.declared.fault.CheckFault.TheVariants.{Refused as LineRefused}
use Rattle.command_elaborate.specs.Reasons.{Elaborates}
use Rattle.command_elaborate.proofs.Lists.{elaborations_law, goes_on_law}
use Rattle.command_base.specs.Answering.{Answered}
use Rattle.command_base.specs.Inputs.{IsInput}
use Rattle.command_base.specs.InstanceFile.{IsTextOf}
use Rattle.command_base.specs.LogLines.{IsFirstWrong, IsLogOf}
use Rattle.command_base.specs.Views.{view}
use Rattle.command_base.specs.declared.status.Status.{Status}
use Rattle.command_base.specs.declared.status.Status.TheVariants.{Done, Refused, TooLarge, NoMemory, ShelfFailed}
use Rattle.command_base.proofs.Readable.{not_larger, of_text, readable}
use Rattle.command_elaborate.specs.Table.{AreElaborable, ElaborateCompletes, ElaborateTable, IsCutAfter, IsLineRefused, IsLooseProof, IsRefusedAfter, IsWritten, elaborate_calls}
use Rattle.command_elaborate.specs.Words.{ElaborateAsked}

-- where a log spells lines, what it begins with is the first of them
goes_on : (log : List ℕ) (lines others : List Line) (rest : List ℕ) → SpellsLog log lines → BeginsWith log others rest → (later : List Line) × (lines ≡ others ++ later)
goes_on log lines others rest spells begins = by (begins_align log lines others [] rest spells begins)
  where
    by : ((lines ≡ others) × ([] ≡ rest)) ⊎ (GoesOn (after_lines begins.first others) lines others rest ⊎ GoesOn (after_lines spells.first lines) others lines []) → (later : List Line) × (lines ≡ others ++ later)
    by (inl same) = ([], same.0 ∙ sym (append-nil others))
    by (inr (inl on)) = (on.next ∷ on.more, on.is)
    by (inr (inr on)) = absurd (whole_some _ _ on.line)

-- a line that is loosely refused is none of those of a loose proof
never_refused : (p : ProblemValue) (lines given news : List Line) (k : ℕ) (why : Why) (log : List ℕ) → SpellsLog log lines → IsLooseProof p lines → IsLineRefused p given news k why log → ⊥
never_refused p lines given news k why log spells proof r =
    let on = goes_on log lines (given ++ r.line ∷ []) r.rest spells r.there in
    let is : lines ≡ given ++ r.line ∷ on.0 = on.1 ∙ append_assoc given (r.line ∷ []) on.0 in
    let all : Elaborates p (start p) lines news r.state (Some why)
    = subst (λ (ls : List Line). Elaborates p (start p) ls news r.state (Some why)) (sym is) ((goes_on_law p (start p) given news r.state r.line r.answered).refused why on.0 r.refused) in
    let none : Some why ≡ None = ((elaborations_law p lines news r.state (Some why) all).not_refused proof.0 proof.1).0 in
    cc

none_refused : (p : ProblemValue) (lines given news : List Line) (k : ℕ) (why : Why) (log : List ℕ) → IsLogOf lines log → IsLooseProof p lines → IsRefusedAfter p given news k why log → ⊥
none_refused p lines given news k why log is proof (inr r) =
    let short = is.taken in
    never_refused p lines given news k why log is.spelled proof (subst (λ (bytes : List ℕ). IsLineRefused p given news k why bytes) (take_all (2 ^ 62 - 1) log (omega (arith, short))) r)
none_refused p lines given news k why log is proof (inl r) = by r.wrong.wrong
  where
    by : IsFirstWrong log k → ⊥
    by (inl wrong) =
        let short = is.taken in
        never_wrong log lines is.spelled k (subst (λ (bytes : List ℕ). IsSyntaxAt bytes k) (take_all (2 ^ 62 - 1) log (omega (arith, short))) wrong)
    by (inr ends) = never_unfinished log lines is.spelled k ends.2

module _ (a : ElaborateAsked) (files : Option Files) (are : AreElaborable a files) where
  a_proof : (i : InstanceValue) (p : ProblemValue) → IsInput files a.format a.input i p → IsLooseProof p are.lines
  a_proof i p of_file = are.loosely i p (of_text files a.input are.text (IsTextOf a.format i) are.there of_file.text) of_file.normal

  no_refusal : (after : Option Files) (k : ℕ) (why : Why) → IsWritten files after a (λ p lines news. IsRefusedAfter p lines news k why) → ⊥
  no_refusal after k why w =
      none_refused w.problem are.lines w.lines w.news k why are.logged are.log_spelled (a_proof w.instance w.problem w.of_file)
      (of_text files a.log are.logged (IsRefusedAfter w.problem w.lines w.news k why) are.log_there w.log)

  none_large : (after : Option Files) → IsWritten files after a IsCutAfter → ⊥
  none_large after w =
      let large = (of_text files a.log are.logged (IsCutAfter w.problem w.lines w.news) are.log_there w.log).large.large in
      let short = are.log_spelled.taken in
      omega (arith, large, short)

pub elaborate_completes : (a : ElaborateAsked) (status : Status) (before after : World) → Answered (ElaborateTable a) (elaborate_calls a) status before after → ElaborateCompletes a status before after
elaborate_completes a Done before after was are quiet other = refl
elaborate_completes a (Refused (LineRefused k why)) before after was are quiet other = absurd (no_refusal a before.files are after.files k why was.table.written)
elaborate_completes a (TooLarge zero Bytes) before after was are quiet other = absurd (large was.table)
  where
    large : ElaborateTable a (TooLarge zero Bytes) (view before) (view after) → ⊥
    large (inl input) = not_larger before.files a.input are.text (2 ^ 32) are.there are.spelled.taken input.cause
    large (inr log) = none_large a before.files are after.files log.written
elaborate_completes a NoMemory before after was are quiet other = absurd (other refl)
elaborate_completes a ShelfFailed before after was are quiet other = absurd (quiet (was.cause refl))
elaborate_completes a status before after was are quiet other =
    absurd (readable a.format a.input are.text are.instance status (view before) (view after) are.there are.spelled was.table)
