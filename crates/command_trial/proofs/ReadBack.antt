-- What is read back of the files that the parts before have written, where the files are told.
use Rattle.std.proofs.Common.{◌≡◌, ℕ, ◌-◌, ◌<◌, ◌≤◌, ◌^◌, ◌⊎◌, true, List, length, take, drop, ℤ, sym, ap, ◌∙◌, subst, inl, inr, arith}
use Rattle.std.specs.Prelude.{Option, Some}
use Rattle.std.proofs.lemmas.List.{take-append-drop}
use Rattle.scut_base.specs.Files.{Files, IsTold, content, with_file}
use Rattle.scut_base.proofs.FileLaws.{content-other, content-same, told-with_file}
use Rattle.front_set.specs.ListText.{list_text}
use Rattle.instance.specs.ParetoFront.{IsFront}
use Rattle.instance.specs.Shape.{InstanceValue}
use Rattle.pb_lin.specs.Problem.{ProblemValue}
use Rattle.proof_laws.specs.declared.why.Why.{Why}
use Rattle.log_checker.specs.Accepted.{IsAccepted, problem_vectors}
use Rattle.log_checker.specs.ListFaults.{IsListFault}
use Rattle.log_checker.specs.LogFaults.{IsLogFault, IsWholeFault}
use Rattle.log_checker.specs.NoRefusal.{IsRefusedNowhere}
use Rattle.log_checker.specs.declared.fault.ListWhy.{ListWhy}
use Rattle.log_checker.proofs.Faults.{whole_fault_more}
use Rattle.log_checker.proofs.Unrefused.{accepted_unrefused}
use Rattle.command_base.specs.Inputs.{OfList}
use Rattle.command_base.specs.Causes.{HasText}
use Rattle.command_base.specs.InstanceFile.{IsTextOf}
use Rattle.command_base.specs.Views.{View}
use Rattle.command_base.specs.declared.instance_file.Format.TheVariants.{Mcnf}
use Rattle.command_base.proofs.InstanceFiles.{one_in}
use Rattle.command_base.proofs.Readable.{not_larger, of_text}
use Rattle.command_gen.specs.Origin.{instance_from, text_from}
use Rattle.command_gen.specs.Table.{IsGenerated}
use Rattle.command_solve.specs.Table.{IsCertified}
use Rattle.command_check.specs.Table.{HasLargeFile, IsLineFault, IsTakenAndAccepted, OfLog, OfRightList}
use Rattle.command_trial.specs.Table.{IsSolved, with_three}
use Rattle.command_trial.specs.Words.{TrialAsked, check_part, gen_part, instance_name, list_name, log_name, solve_part}
use Rattle.command_trial.proofs.Names.{input_not_list, input_not_log, log_not_list}

-- an instance was generated
module _ (a : TrialAsked) (before mid : View) (told : IsTold before.files) (made : IsGenerated before mid (gen_part a)) where
  abbrev instance : InstanceValue
  instance = instance_from a.origin

  abbrev text : List ℕ
  text = text_from a.origin

  pub told_then : IsTold mid.files
  told_then = subst (λ (files : Option Files). IsTold files) (sym made.files) (told-with_file before.files (instance_name a) text told)

  pub there_then : content mid.files (instance_name a) ≡ Some text
  there_then = ap (λ (files : Option Files). content files (instance_name a)) made.files ∙ content-same before.files (instance_name a) text told

  -- what the file spells is that instance
  pub same_instance : (i : InstanceValue) → HasText mid.files (instance_name a) (IsTextOf Mcnf i) → i ≡ instance
  same_instance i has =
      let other : IsTextOf Mcnf i text = of_text mid.files (instance_name a) text (IsTextOf Mcnf i) there_then has in
      one_in Mcnf text i instance other.spelled made.spelled.spelled

  -- and it was solved
  module _ (size : ℕ) (last : View) (certified : IsCertified mid last (solve_part a) size) where
    abbrev listed : List ℕ
    listed = list_text true certified.entries

    abbrev proof : List ℕ
    proof = certified.proof

    pub is_instance : certified.instance ≡ instance
    is_instance = same_instance certified.instance certified.text

    pub accepted : IsAccepted instance listed proof
    accepted = subst (λ (i : InstanceValue). IsAccepted i listed proof) is_instance certified.accepted

    pub files_then : last.files ≡ with_three before.files a listed proof
    files_then = certified.listed.files ∙ ap (λ (files : Option Files). with_file (with_file files (log_name a) proof) (list_name a) listed) made.files

    -- with these bytes in place of what the log held
    abbrev logged : Option Files
    logged = with_file mid.files (log_name a) proof

    told_logged : IsTold logged
    told_logged = told-with_file mid.files (log_name a) proof told_then

    told_last : IsTold last.files
    told_last = subst (λ (files : Option Files). IsTold files) (sym certified.listed.files) (told-with_file logged (list_name a) listed told_logged)

    pub text_there : content last.files (instance_name a) ≡ Some text
    text_there =
        ap (λ (files : Option Files). content files (instance_name a)) certified.listed.files
        ∙ content-other logged (list_name a) listed (instance_name a) (input_not_list a.base)
        ∙ content-other mid.files (log_name a) proof (instance_name a) (input_not_log a.base)
        ∙ there_then

    list_there : content last.files (list_name a) ≡ Some listed
    list_there = ap (λ (files : Option Files). content files (list_name a)) certified.listed.files ∙ content-same logged (list_name a) listed told_logged

    log_there : content last.files (log_name a) ≡ Some proof
    log_there =
        ap (λ (files : Option Files). content files (log_name a)) certified.listed.files
        ∙ content-other logged (list_name a) listed (log_name a) (log_not_list a.base)
        ∙ content-same mid.files (log_name a) proof told_then

    -- the three files, whatever else was done that changed none
    abbrev pub solved : (after : Option Files) → after ≡ last.files → IsSolved before.files after a size
    solved after same = record {
      spelled = made.spelled;
      entries = certified.entries;
      front = subst (λ (i : InstanceValue). IsFront i certified.entries) is_instance certified.front;
      counted = certified.counted;
      proof = proof;
      accepted = accepted;
      files = same ∙ files_then;
    }

    -- ---- what is said of the instance that is read back

    of_list : (P : InstanceValue → List ℕ → Type 0) → OfList last.files Mcnf (instance_name a) (list_name a) P → (length listed < 2 ^ 32) × P instance listed
    of_list P of =
        let read = of_text last.files (instance_name a) text (λ (t : List ℕ). (i : InstanceValue) × IsTextOf Mcnf i t × HasText last.files (list_name a) (λ l. (length l < 2 ^ 32) × P i l)) text_there of in
        let found = of_text last.files (list_name a) listed (λ (l : List ℕ). (length l < 2 ^ 32) × P read.0 l) list_there read.2 in
        let same : read.0 ≡ instance = one_in Mcnf text read.0 instance read.1.spelled made.spelled.spelled in
        (found.0, subst (λ (i : InstanceValue). P i listed) same found.1)

    of_log : (P : InstanceValue → List ℕ → List ℕ → Type 0) → OfLog last.files (check_part a) P → (length listed < 2 ^ 32) × P instance listed proof
    of_log P of =
        let found = of_list (λ i l. HasText last.files (log_name a) (P i l)) of in
        (found.0, of_text last.files (log_name a) proof (P instance listed) log_there found.1)

    -- ---- what is accepted isn't too large

    pub taken : OfLog last.files (check_part a) IsTakenAndAccepted → (length listed < 2 ^ 32) × (length proof < 2 ^ 62)
    taken of = let found = of_log IsTakenAndAccepted of in (found.0, found.1.taken)

    -- ---- nothing of it is refused

    unrefused : length listed < 2 ^ 32 → IsRefusedNowhere instance listed proof
    unrefused short = accepted_unrefused instance listed proof (omega (arith, short)) accepted

    -- what is refused before the limit is refused in the whole log
    whole_log : (k : ℕ) (why : Why) (p : ProblemValue) (vectors : List (List ℤ)) → IsLineFault proof k why p vectors → IsLogFault p vectors proof k why
    whole_log k why p vectors (inl fault) = fault.1
    whole_log k why p vectors (inr fault) =
        inl (subst (λ (bytes : List ℕ). IsWholeFault p vectors bytes k why) (take-append-drop (2 ^ 62 - 1) proof)
        (whole_fault_more p vectors (take (2 ^ 62 - 1) proof) (drop (2 ^ 62 - 1) proof) k why fault))

    pub no_entry_refused : (k : ℕ) (why : ListWhy) → OfList last.files Mcnf (instance_name a) (list_name a) (λ i l. IsListFault i l k why) → ⊥
    no_entry_refused k why of =
        let found = of_list (λ i l. IsListFault i l k why) of in
        (unrefused found.0).right_list k why found.1

    pub no_line_refused : (k : ℕ) (why : Why) → OfLog last.files (check_part a) (λ i l bytes. OfRightList i l (IsLineFault bytes k why)) → ⊥
    no_line_refused k why of =
        let found = of_log (λ i l bytes. OfRightList i l (IsLineFault bytes k why)) of in
        let right : OfRightList instance listed (IsLineFault proof k why) = found.1 in
        (unrefused found.0).right_log right.entries right.problem k why right.spelled right.normal (whole_log k why right.problem (problem_vectors instance right.entries) right.holds)

    -- ---- the first file that is too large is the list or the log

    pub large_file : HasLargeFile last.files (check_part a) → (2 ^ 32 ≤ length listed) ⊎ (2 ^ 62 ≤ length proof)
    large_file (inl large) = absurd (not_larger last.files (instance_name a) text (2 ^ 32) text_there made.spelled.taken large)
    large_file (inr (inl of)) =
        let found = of told_last in
        inl (of_text last.files (list_name a) listed (λ (l : List ℕ). 2 ^ 32 ≤ length l) list_there found.2.2)
    large_file (inr (inr of)) =
        let found = of told_last in
        let lines = found.2.2 told_last in
        let logs = lines.2.1 told_last in
        inr (of_text last.files (log_name a) proof (λ (bytes : List ℕ). 2 ^ 62 ≤ length bytes) log_there (λ told'. (logs.0, logs.1, logs.2.holds.0)))
