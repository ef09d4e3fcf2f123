-- Where the command `check-models` completes.
use Rattle.std.proofs.Common.{◌≡◌, ℕ, zero, suc, ◌+◌, ◌-◌, ◌<◌, ◌≤◌, ◌^◌, List, [], ◌∷◌, ◌++◌, length, ℤ, refl, sym, ◌∙◌, ap, inl, inr, subst, arith, length-append}
use Rattle.std.specs.Prelude.{Option, true}
use Rattle.std.proofs.lemmas.List.{take_all}
use Rattle.scut_base.specs.Files.{Files, content, IsTold}
use Rattle.scut_base.specs.World.{World}
use Rattle.scut_base.proofs.FileLaws.{told_by_content}
use Rattle.front_set.specs.declared.entry.Entry.{Entry}
use Rattle.front_text.specs.Spelling.{Spells}
use Rattle.front_text.proofs.Texts.{one_list_of}
use Rattle.instance.specs.ParetoFront.{problem_vector}
use Rattle.instance.specs.Shape.{InstanceValue}
use Rattle.instance.specs.declared.fault.InstanceLimit.TheVariants.{Bytes}
use Rattle.instance_normal.specs.NormalForm.{IsNormalFormOf}
use Rattle.instance_normal.proofs.OneForm.{one_form}
use Rattle.log_checker.specs.Accepted.{IsEndedProof}
use Rattle.log_checker.specs.ListFaults.{IsListFault}
use Rattle.log_checker.specs.LogFaults.{IsLogFault, IsWholeFault}
use Rattle.log_checker.specs.declared.fault.CheckFault.TheVariants.{ListRefused}
use Rattle.log_checker.specs.declared.fault.ListWhy.{ListWhy}
use Rattle.log_checker.proofs.Faults.{ended_has_no_fault}
use Rattle.log_checker.proofs.ListLaws.{right_has_no_fault}
use Rattle.front_text.specs.ModelsText.{models_text}
use Rattle.front_text.specs.declared.reps.Reps.{Reps}
use Rattle.front_text.proofs.ModelsTexts.{one_text_of, right_everywhere}
use Rattle.pb_lin.specs.Problem.{ProblemValue}
use Rattle.proof_laws.specs.declared.why.Why.{Why}
use Rattle.representatives.specs.Bounded.{IsBounded, IsListingLog}
use Rattle.representatives.specs.Judged.{IsRepsFault}
use Rattle.representatives.specs.declared.fault.RepsWhy.{RepsWhy}
use Rattle.representatives.specs.declared.fault.RepsWhy.TheVariants.{Syntax, Count, NotModel, Costs, Repeated, Log}
use Rattle.representatives.proofs.Faults.{no_fault_law}
use Rattle.representatives.proofs.OneProblem.{one_problem_law}
use Rattle.command_base.specs.Answering.{Answered}
use Rattle.command_base.specs.Causes.{HasText}
use Rattle.command_base.specs.Inputs.{OfList}
use Rattle.command_base.specs.InstanceFile.{IsTextOf}
use Rattle.command_base.specs.Taking.{IsTakenFault}
use Rattle.command_base.specs.Views.{view}
use Rattle.command_base.specs.declared.status.Status.{Status}
use Rattle.command_base.specs.declared.status.Status.TheVariants.{Accepted, ModelsRefused, Refused, TooLarge, NoMemory, ShelfFailed}
use Rattle.command_base.proofs.InstanceFiles.{one_in}
use Rattle.command_base.proofs.Readable.{list_fault, not_larger, of_text, readable}
use Rattle.command_check_models.specs.Entries.{AfterRight, AreRightFrom, HasLargeLog, IsEntryWrong, IsLargeLog, IsLogWrong, IsModelsFault, IsOfAll, IsPosed, IsRightEntry}
use Rattle.command_check_models.specs.Table.{AreAcceptable, CheckModelsCompletes, CheckModelsTable, HasLargeFile, HasLargeInput, OfModels, check_models_calls}
use Rattle.command_check_models.specs.Words.{ModelsAsked, log_name, models_name}
use Rattle.command_check_models.proofs.RightEntries.{right_at, right_count}

module _ (a : ModelsAsked) (files : Option Files) (are : AreAcceptable a files) where
  -- ---- what the files hold

  instance_is : (i : InstanceValue) → HasText files a.input (IsTextOf a.format i) → i ≡ are.instance
  instance_is i text = one_in a.format are.text i are.instance (of_text files a.input are.text (IsTextOf a.format i) are.there text).spelled are.spelled.spelled

  entries_are : (i : InstanceValue) (entries : List Entry) (p : ProblemValue) → IsPosed files a i entries p → entries ≡ are.entries
  entries_are i entries p posed =
      let short = are.list_taken in
      (one_list_of are.listed _ _ entries are.entries (omega arith) (of_text files a.list are.listed (λ listed. (length listed < 2 ^ 32) × Spells listed true entries) are.list_there posed.listed).1 are.list_spelled).1

  problem_is : (i : InstanceValue) (entries : List Entry) (p : ProblemValue) → IsPosed files a i entries p → p ≡ are.problem
  problem_is i entries p posed =
      one_form are.instance p are.problem (subst (λ (j : InstanceValue). IsNormalFormOf j p) (instance_is i posed.read.text) posed.read.normal) are.normal

  of_models : (P : InstanceValue → ProblemValue → List Entry → List ℕ → Type 0) → OfModels files a P → P are.instance are.problem are.entries (models_text are.reps)
  of_models P of =
      subst (λ (i : InstanceValue). P i are.problem are.entries (models_text are.reps)) (instance_is of.instance of.posed.read.text)
      (subst (λ (p : ProblemValue). P of.instance p are.entries (models_text are.reps)) (problem_is of.instance of.entries of.problem of.posed)
      (subst (λ (es : List Entry). P of.instance of.problem es (models_text are.reps)) (entries_are of.instance of.entries of.problem of.posed)
      (of_text files (models_name a.base) (models_text are.reps) (P of.instance of.problem of.entries) are.models_there of.text)))

  reps_are : (reps : List Reps) → models_text are.reps ≡ models_text reps → reps ≡ are.reps
  reps_are reps same = sym (one_text_of are.reps reps (let short = are.models_taken in omega arith) same)

  -- ---- no file is too large

  list_not_large : HasLargeInput files a → ⊥
  list_not_large (inl large) = not_larger files a.input are.text (2 ^ 32) are.there are.spelled.taken large
  list_not_large (inr of) = not_larger files a.list are.listed (2 ^ 32) are.list_there are.list_taken (of (told_by_content files a.input are.text are.there)).2.2

  log_not_large : HasLargeLog files a are.instance are.problem are.entries (models_text are.reps) → ⊥
  log_not_large all =
      let after : AfterRight files a are.instance are.problem are.entries all.reps all.holds.0 (IsLargeLog files a are.instance are.problem) = all.holds.1 in
      let found = after.holds.1 (told_by_content files a.input are.text are.there) in
      let short = are.logs_taken (all.holds.0 + 1) found.0 found.1 in
      let long = found.2.2.0 in
      omega arith

  none_is_large : HasLargeFile files a → ⊥
  none_is_large (inl large) = list_not_large large
  none_is_large (inr (inl of)) =
      let long = of_models (λ i p entries text. 2 ^ 32 ≤ length text) of in
      let short = are.models_taken in
      omega arith
  none_is_large (inr (inr of)) = log_not_large (of_models (λ i p entries text. (length text < 2 ^ 32) × HasLargeLog files a i p entries text) of).1

  -- ---- nothing is refused

  no_list_refused : (k : ℕ) (why : ListWhy) → OfList files a.format a.input a.list (λ i listed. IsListFault i listed k why) → ⊥
  no_list_refused k why of =
      let short = are.list_taken in
      let fault = list_fault a.format a.input a.list files are.text are.listed are.instance are.there are.spelled are.list_there k why of in
      right_has_no_fault are.instance are.listed (omega arith) are.entries k why are.list_spelled are.right fault

  -- of an entry that is right
  module _ (n : ℕ) (e : Entry) (r : Reps) (right : IsRightEntry files a are.instance are.problem n e r) where
    no_log_wrong : (line : ℕ) (why : Why) → r.all ≡ true → HasText files (log_name a.base n) (IsLogWrong are.problem (problem_vector are.instance e.costs) r.models line why) → ⊥
    no_log_wrong line why all wrong =
        let told = told_by_content files a.input are.text are.there in
        let found = right.log all told in
        let short = are.logs_taken n found.0 found.1 in
        let bad : IsLogWrong are.problem (problem_vector are.instance e.costs) r.models line why found.0 = of_text files (log_name a.base n) found.0 (IsLogWrong are.problem (problem_vector are.instance e.costs) r.models line why) found.1 wrong in
        let one = one_problem_law are.problem (problem_vector are.instance e.costs) r.models bad.0 found.2.0 bad.1 found.2.1 in
        ended_has_no_fault bad.0 [] found.0 line why (subst (λ (q : ProblemValue). IsEndedProof q [] found.0) (sym one) found.2.2) (by bad.0 found.0 short bad.2)
      where
        by : (q : ProblemValue) (log : List ℕ) → length log < 2 ^ 62 → IsTakenFault (IsWholeFault q []) (IsLogFault q []) log line why → IsLogFault q [] log line why
        by q log short (inl fault) = fault.1
        by q log short (inr fault) = inl (subst (λ (bytes : List ℕ). IsWholeFault q [] bytes line why) (take_all (2 ^ 62 - 1) log (omega arith)) fault)

    no_entry_wrong : (why : RepsWhy) → IsEntryWrong files a are.instance are.problem n e r why → ⊥
    no_entry_wrong (Log line why) wrong = no_log_wrong line why wrong.0.0 wrong.1
    no_entry_wrong Syntax wrong = no_fault_law are.instance e.costs a.most r Syntax right.serving wrong
    no_entry_wrong Count wrong = no_fault_law are.instance e.costs a.most r Count right.serving wrong
    no_entry_wrong NotModel wrong = no_fault_law are.instance e.costs a.most r NotModel right.serving wrong
    no_entry_wrong Costs wrong = no_fault_law are.instance e.costs a.most r Costs right.serving wrong
    no_entry_wrong Repeated wrong = no_fault_law are.instance e.costs a.most r Repeated right.serving wrong

  none_after : (k : ℕ) (why : RepsWhy) → IsOfAll are.entries (models_text are.reps) (λ reps. AfterRight files a are.instance are.problem are.entries reps k (λ n e r. IsEntryWrong files a are.instance are.problem n e r why)) → ⊥
  none_after k why all =
      let after = all.holds in
      let same : are.reps ≡ after.reps_before ++ after.models ∷ after.reps_after = sym (reps_are all.reps all.spelled) ∙ after.reps_are in
      let each : AreRightFrom files a are.instance are.problem 1 (after.entries_before ++ after.entry ∷ after.entries_after) (after.reps_before ++ after.models ∷ after.reps_after) =
      subst (λ (es : List Entry). AreRightFrom files a are.instance are.problem 1 es (after.reps_before ++ after.models ∷ after.reps_after)) after.entries_are
      (subst (λ (rs : List Reps). AreRightFrom files a are.instance are.problem 1 are.entries rs) same are.each) in
      let here = right_at files a are.instance are.problem 1 after.entries_before after.entry after.entries_after after.reps_before after.models after.reps_after (right_count files a are.instance are.problem 1 after.entries_before after.reps_before after.right) each in
      let place : 1 + length after.entries_before ≡ k + 1 = (let at = after.place in omega arith) in
      no_entry_wrong (k + 1) after.entry after.models (subst (λ (n : ℕ). IsRightEntry files a are.instance are.problem n after.entry after.models) place here) why after.holds

  none_refused : (k : ℕ) (why : RepsWhy) → IsModelsFault files a are.instance are.problem are.entries k why (models_text are.reps) → ⊥
  none_refused k Syntax fault = right_everywhere are.reps k (let short = are.models_taken in omega arith) fault
  none_refused zero Count fault =
      let same : length fault.0 ≡ length are.reps = ap length (reps_are fault.0 fault.1) in
      let count = right_count files a are.instance are.problem 1 are.entries are.reps are.each in
      fault.2 (same ∙ sym count)
  none_refused zero NotModel fault = fault
  none_refused zero Costs fault = fault
  none_refused zero Repeated fault = fault
  none_refused zero (Log line why) fault = fault
  none_refused (suc k) Count fault = none_after k Count fault
  none_refused (suc k) NotModel fault = none_after k NotModel fault
  none_refused (suc k) Costs fault = none_after k Costs fault
  none_refused (suc k) Repeated fault = none_after k Repeated fault
  none_refused (suc k) (Log line why) fault = none_after k (Log line why) fault

pub check_models_completes : (a : ModelsAsked) (status : Status) (before after : World) → Answered (CheckModelsTable a) (check_models_calls a) status before after → CheckModelsCompletes a status before after
check_models_completes a Accepted before after was are quiet other = refl
check_models_completes a (ModelsRefused k why) before after was are quiet other =
    absurd (none_refused a before.files are k why (of_models a before.files are (λ i p entries text. (length text < 2 ^ 32) × IsModelsFault before.files a i p entries k why text) was.table.cause).1)
check_models_completes a (Refused (ListRefused k why)) before after was are quiet other = absurd (no_list_refused a before.files are k why was.table.cause)
check_models_completes a (TooLarge zero Bytes) before after was are quiet other = absurd (none_is_large a before.files are was.table.cause)
check_models_completes a NoMemory before after was are quiet other = absurd (other refl)
check_models_completes a ShelfFailed before after was are quiet other = absurd (quiet (was.cause refl))
check_models_completes a status before after was are quiet other =
    absurd (readable a.format a.input are.text are.instance status (view before) (view after) are.there are.spelled was.table)
