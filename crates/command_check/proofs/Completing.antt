-- Where the command `check` completes.
use Rattle.std.proofs.Common.{◌≡◌, ℕ, zero, ◌-◌, ◌<◌, ◌≤◌, ◌^◌, List, length, ℤ, refl, inl, inr, subst, arith}
use Rattle.std.specs.Prelude.{Option}
use Rattle.std.proofs.lemmas.List.{take_all}
use Rattle.scut_base.specs.Files.{Files}
use Rattle.scut_base.specs.World.{World}
use Rattle.scut_base.proofs.FileLaws.{told_by_content}
use Rattle.instance.specs.Shape.{InstanceValue}
use Rattle.instance.specs.declared.fault.InstanceLimit.TheVariants.{Bytes}
use Rattle.pb_lin.specs.Problem.{ProblemValue}
use Rattle.proof_laws.specs.declared.why.Why.{Why}
use Rattle.log_checker.specs.Accepted.{IsAccepted, problem_vectors}
use Rattle.log_checker.specs.ListFaults.{IsListFault}
use Rattle.log_checker.specs.LogFaults.{IsLogFault, IsWholeFault}
use Rattle.log_checker.specs.NoRefusal.{IsRefusedNowhere}
use Rattle.log_checker.specs.declared.fault.CheckFault.TheVariants.{Refused as LineRefused, ListRefused}
use Rattle.log_checker.specs.declared.fault.ListWhy.{ListWhy}
use Rattle.log_checker.proofs.Unrefused.{accepted_unrefused}
use Rattle.command_base.specs.Answering.{Answered}
use Rattle.command_base.specs.Causes.{HasText}
use Rattle.command_base.specs.Inputs.{OfList}
use Rattle.command_base.specs.InstanceFile.{IsTextOf}
use Rattle.command_base.specs.Views.{view}
use Rattle.command_base.specs.declared.status.Status.{Status}
use Rattle.command_base.specs.declared.status.Status.TheVariants.{Accepted, Refused, TooLarge, NoMemory, ShelfFailed}
use Rattle.command_base.proofs.InstanceFiles.{one_in}
use Rattle.command_base.proofs.Readable.{not_larger, of_text, readable}
use Rattle.command_check.specs.Table.{AreCheckable, CheckCompletes, CheckTable, HasLargeFile, IsLineFault, OfLog, OfRightList, check_calls}
use Rattle.command_check.specs.Words.{CheckAsked}

module _ (a : CheckAsked) (files : Option Files) (are : AreCheckable a files) where
  none_is_large : HasLargeFile files a → ⊥
  none_is_large (inl large) = not_larger files a.input are.text (2 ^ 32) are.there are.spelled.taken large
  none_is_large (inr (inl of)) =
      let found = of (told_by_content files a.input are.text are.there) in
      not_larger files a.list are.listed (2 ^ 32) are.list_there are.list_taken found.2.2
  none_is_large (inr (inr of)) =
      let told = told_by_content files a.input are.text are.there in
      let found = of told in
      let listed = found.2.2 told in
      not_larger files a.log are.logged (2 ^ 62) are.log_there are.log_taken (λ told'. let g = listed.2.1 told' in (g.0, g.1, g.2.holds.0))

  -- what is said of the instance and of the files, where these are they
  of_list : (P : InstanceValue → List ℕ → Type 0) → OfList files a.format a.input a.list P → P are.instance are.listed
  of_list P of =
      let text = of_text files a.input are.text (λ text. (i : InstanceValue) × IsTextOf a.format i text × HasText files a.list (λ listed. (length listed < 2 ^ 32) × P i listed)) are.there of in
      let listed = of_text files a.list are.listed (λ listed. (length listed < 2 ^ 32) × P text.0 listed) are.list_there text.2 in
      let same : text.0 ≡ are.instance = one_in a.format are.text text.0 are.instance text.1.spelled are.spelled.spelled in
      subst (λ (i : InstanceValue). P i are.listed) same listed.1

  of_log : (P : InstanceValue → List ℕ → List ℕ → Type 0) → OfLog files a P → P are.instance are.listed are.logged
  of_log P of = of_text files a.log are.logged (P are.instance are.listed) are.log_there (of_list (λ i listed. HasText files a.log (P i listed)) of)

  module _ (accepted : IsAccepted are.instance are.listed are.logged) where
    unrefused : IsRefusedNowhere are.instance are.listed are.logged
    unrefused = accepted_unrefused are.instance are.listed are.logged (let short = are.list_taken in omega arith) accepted

    no_entry_refused : (k : ℕ) (why : ListWhy) → OfList files a.format a.input a.list (λ i listed. IsListFault i listed k why) → ⊥
    no_entry_refused k why of = unrefused.right_list k why (of_list (λ i listed. IsListFault i listed k why) of)

    no_taken_fault : (k : ℕ) (why : Why) (p : ProblemValue) (vectors : List (List ℤ)) → IsLineFault are.logged k why p vectors → IsLogFault p vectors are.logged k why
    no_taken_fault k why p vectors (inl fault) = fault.1
    no_taken_fault k why p vectors (inr fault) =
        let short = are.log_taken in
        inl (subst (λ (bytes : List ℕ). IsWholeFault p vectors bytes k why) (take_all (2 ^ 62 - 1) are.logged (omega arith)) fault)

    no_line_refused : (k : ℕ) (why : Why) → OfLog files a (λ i listed log. OfRightList i listed (IsLineFault log k why)) → ⊥
    no_line_refused k why of =
        let right : OfRightList are.instance are.listed (IsLineFault are.logged k why) = of_log (λ i listed bytes. OfRightList i listed (IsLineFault bytes k why)) of in
        unrefused.right_log right.entries right.problem k why right.spelled right.normal (no_taken_fault k why right.problem (problem_vectors are.instance right.entries) right.holds)

pub check_completes : (a : CheckAsked) (status : Status) (before after : World) → Answered (CheckTable a) (check_calls a) status before after → CheckCompletes a status before after
check_completes a Accepted before after was are quiet other = (tt, λ accepted. refl)
check_completes a (Refused (LineRefused k why)) before after was are quiet other = (tt, λ accepted. absurd (no_line_refused a before.files are accepted k why was.table.cause))
check_completes a (Refused (ListRefused k why)) before after was are quiet other = (tt, λ accepted. absurd (no_entry_refused a before.files are accepted k why was.table.cause))
check_completes a (TooLarge zero Bytes) before after was are quiet other = absurd (none_is_large a before.files are was.table.cause)
check_completes a NoMemory before after was are quiet other = absurd (other refl)
check_completes a ShelfFailed before after was are quiet other = absurd (quiet (was.cause refl))
check_completes a status before after was are quiet other =
    absurd (readable a.format a.input are.text are.instance status (view before) (view after) are.there are.spelled was.table)
