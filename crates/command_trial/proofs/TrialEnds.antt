-- How each end of the command `trial` is answered, by the tables of its parts.
use Rattle.std.proofs.Common.{◌≡◌, ℕ, zero, true, false, List, ap, ◌∙◌, subst, inl, inr, arith}
use Rattle.std.specs.Prelude.{Option}
use Rattle.std.proofs.lemmas.Option.{none-some}
use Rattle.scut_base.specs.Files.{Files, IsTold, followed}
use Rattle.scut_base.specs.World.{World}
use Rattle.instance.specs.declared.fault.InstanceLimit.TheVariants.{Bytes}
use Rattle.instance.specs.Shape.{InstanceValue}
use Rattle.instance_normal.specs.NormalForm.{IsNormalFormOf}
use Rattle.log_checker.specs.declared.fault.CheckFault.TheVariants.{Refused as LineRefused, ListRefused, NoMemory as CheckNoMemory}
use Rattle.command_base.specs.Answering.{Answered}
use Rattle.command_base.specs.InputTable.{InputTable}
use Rattle.command_base.specs.Messages.{said_of}
use Rattle.command_base.specs.Views.{View, view}
use Rattle.command_base.specs.declared.instance_file.Format.TheVariants.{Mcnf}
use Rattle.command_base.specs.declared.status.Status.{Status}
use Rattle.command_base.specs.declared.status.Status.TheVariants.{Done, Complete, Incomplete, LogFull, Accepted, Refused, Usage, BadInput, TooLarge, NoMemory, ShelfFailed}
use Rattle.command_base.proofs.Answered.{own_rose_at_last}
use Rattle.command_base.proofs.Readable.{readable}
use Rattle.command_gen.specs.Table.{GenTable, IsGenerated, gen_calls}
use Rattle.proof_text.specs.declared.version.LogVersion.TheVariants.{One}
use Rattle.proof_text.specs.LogParts.{IsFull}
use Rattle.command_solve.specs.Table.{IsCertified, IsLogFull, SolveTable, solve_calls}
use Rattle.command_check.specs.Table.{CheckTable, check_calls}
use Rattle.command_trial.specs.Table.{IsTriedFull, TrialTable, goes_on, trial_calls}
use Rattle.command_gen.specs.Words.{GenAsked}
use Rattle.command_solve.specs.Words.{SolveAsked}
use Rattle.command_check.specs.Words.{CheckAsked}
use Rattle.command_trial.specs.Words.{AreNames, TrialAsked, check_in, check_part, gen_in, gen_part, instance_name, list_name, log_name, solve_in, solve_part}
use Rattle.command_trial.proofs.OwnCalls.{check_rose, gen_rose, solve_rose}
use Rattle.command_trial.proofs.ReadBack.{large_file, no_entry_refused, no_line_refused, same_instance, solved, taken, text_there, there_then, told_then}

module _ (a : TrialAsked) where
  -- ---- the first part

  made_by : (status : Status) (before after : View) → goes_on status ≡ true → GenTable (gen_part a) status before after → IsGenerated before after (gen_part a)
  made_by Done before after on was = was
  made_by NoMemory before after on was = absurd cc
  made_by ShelfFailed before after on was = absurd cc
  made_by status before after on was = absurd was

  gen_row : (status : Status) (before after : View) → goes_on status ≡ false → GenTable (gen_part a) status before after → TrialTable a status before after
  gen_row Done before after off was = absurd cc
  gen_row NoMemory before after off was = inl was
  gen_row ShelfFailed before after off was = inl was
  gen_row status before after off was = absurd was

  pub gen_ended : (status : Status) (before after : World) → goes_on status ≡ false → Answered (GenTable (gen_part a)) (gen_calls (gen_part a)) status before after → Answered (TrialTable a) (trial_calls a) status before after
  gen_ended status before after off was = record {
    table = gen_row status (view before) (view after) off was.table;
    cause = λ failed. gen_rose a before.files before.files before.faults after.faults (was.cause failed);
    later = was.later;
  }

  -- ---- the second, where the instance was generated

  module _ (before mid after : View) (made : IsGenerated before mid (gen_part a)) where
    solved_by : (status : Status) → goes_on status ≡ true → SolveTable (solve_part a) status mid after → (size : ℕ) × IsCertified mid after (solve_part a) size
    solved_by (Complete size) on was = (size, was)
    solved_by (Incomplete size learned) on was = absurd cc
    solved_by (LogFull lines) on was = absurd cc
    solved_by Usage on was = absurd cc
    solved_by NoMemory on was = absurd cc
    solved_by ShelfFailed on was = absurd cc
    solved_by (BadInput line kind) on was = absurd cc
    solved_by (TooLarge line which) on was = absurd cc
    solved_by status on was = absurd was

    full : (told : IsTold before.files) → IsLogFull mid after (solve_part a) → IsTriedFull before after a
    full told was = record {
      spelled = made.spelled;
      problem = was.problem;
      normal = subst (λ (i : InstanceValue). IsNormalFormOf i was.problem) (same_instance a before mid told made was.instance was.of_file.text) was.of_file.normal;
      full = subst (λ (files : Option Files). IsFull files after.files was.problem (log_name a) One) made.files was.full;
      said = was.said ∙ made.said;
    }

    -- what is read isn't refused
    unread : (status : Status) → IsTold before.files → InputTable Mcnf (instance_name a) status mid after → ⊥
    unread status told was = readable Mcnf (instance_name a) _ _ status mid after (there_then a before mid told made) made.spelled was

    solve_row : (status : Status) → goes_on status ≡ false → SolveTable (solve_part a) status mid after → TrialTable a status before after
    solve_row (Complete size) off was = absurd cc
    solve_row (Incomplete size learned) off was = absurd (none-some _ was.found.ending.limit)
    solve_row (LogFull lines) off was = (was.0, λ told. full told was.1)
    solve_row Usage off was = λ told. let has = was.cause (told_then a before mid told made) in absurd (let wrong = has.2.0 in cc)
    solve_row NoMemory off was = inr (inl (mid, made, was))
    solve_row ShelfFailed off was = inr (inl (mid, made, was))
    solve_row (BadInput line kind) off was = λ told. unread (BadInput line kind) told was
    solve_row (TooLarge zero Bytes) off was = λ told. absurd (unread (TooLarge zero Bytes) told was)
    solve_row (TooLarge line which) off was = λ told. unread (TooLarge line which) told was
    solve_row status off was = absurd was

  pub solve_ended : (made solved : Status) (before mid after : World) → goes_on made ≡ true → Answered (GenTable (gen_part a)) (gen_calls (gen_part a)) made before mid → goes_on solved ≡ false → Answered (SolveTable (solve_part a)) (solve_calls (solve_part a)) solved mid after
      → Answered (TrialTable a) (trial_calls a) solved before after
  solve_ended made solved before mid after on first off was = record {
    table = solve_row (view before) (view mid) (view after) (made_by made (view before) (view mid) on first.table) solved off was.table;
    cause = λ failed. own_rose_at_last (trial_calls a) before.faults mid.faults after.faults first.later (solve_rose a before.files mid.files mid.faults after.faults (was.cause failed));
    later = λ call name. omega (arith, first.later call name, was.later call name);
  }

  -- ---- the third, where it was solved

  module _ (before mid last after : View) (made : IsGenerated before mid (gen_part a)) (size : ℕ) (certified : IsCertified mid last (solve_part a) size) where
    said_two : last.said ≡ followed (followed before.said (said_of Done)) (said_of (Complete size))
    said_two = certified.listed.said ∙ ap (λ (t : Option (List ℕ)). followed t (said_of (Complete size))) made.said

    unread_last : (status : Status) → IsTold before.files → InputTable Mcnf (instance_name a) status last after → ⊥
    unread_last status told was = readable Mcnf (instance_name a) _ _ status last after (text_there a before mid told made size last certified) made.spelled was

    check_row : (status : Status) → CheckTable (check_part a) status last after → TrialTable a status before after
    check_row Accepted was = λ told. record {
      size = size;
      solved = solved a before mid told made size last certified after.files was.files;
      list_taken = (taken a before mid told made size last certified was.cause).0;
      log_taken = (taken a before mid told made size last certified was.cause).1;
      said = was.said ∙ ap (λ (t : Option (List ℕ)). followed t (said_of Accepted)) said_two;
    }
    check_row (Refused (LineRefused k why)) was = λ told. no_line_refused a before mid told made size last certified k why was.cause
    check_row (Refused (ListRefused k why)) was = λ told. no_entry_refused a before mid told made size last certified k why was.cause
    check_row (Refused CheckNoMemory) was = absurd was
    check_row (TooLarge zero Bytes) was = λ told. record {
      size = size;
      solved = solved a before mid told made size last certified after.files (ap (λ (v : View). v.files) was.same);
      large = large_file a before mid told made size last certified was.cause;
      said = ap (λ (v : View). v.said) was.same ∙ said_two;
    }
    check_row NoMemory was = inr (inr (mid, made, (size, last, certified, was)))
    check_row ShelfFailed was = inr (inr (mid, made, (size, last, certified, was)))
    check_row (BadInput line kind) was = λ told. unread_last (BadInput line kind) told was
    check_row (TooLarge line which) was = λ told. unread_last (TooLarge line which) told was
    check_row status was = absurd was

  pub check_ended : (made found checked : Status) (before mid last after : World) → goes_on made ≡ true → Answered (GenTable (gen_part a)) (gen_calls (gen_part a)) made before mid
      → goes_on found ≡ true → Answered (SolveTable (solve_part a)) (solve_calls (solve_part a)) found mid last → Answered (CheckTable (check_part a)) (check_calls (check_part a)) checked last after
      → Answered (TrialTable a) (trial_calls a) checked before after
  check_ended made found checked before mid last after on first on' second third =
      let generated = made_by made (view before) (view mid) on first.table in
      let certified = solved_by (view before) (view mid) (view last) generated found on' second.table in
      record {
        table = check_row (view before) (view mid) (view last) (view after) generated certified.0 certified.1 checked third.table;
        cause = λ failed. own_rose_at_last (trial_calls a) before.faults last.faults after.faults (λ call name. omega (arith, first.later call name, second.later call name)) (check_rose a before.files last.files last.faults after.faults (third.cause failed));
        later = λ call name. omega (arith, first.later call name, second.later call name, third.later call name);
      }

  -- ---- the same of parts that are given by the names of their files

  module _ (input list log : List ℕ) (names : AreNames a input list log) where
    gen_is : gen_in a.origin input ≡ gen_part a
    gen_is = ap (gen_in a.origin) names.is_input

    solve_is : solve_in input list log ≡ solve_part a
    solve_is =
        ap (λ (name : List ℕ). solve_in name list log) names.is_input
        ∙ ap (λ (name : List ℕ). solve_in (instance_name a) name log) names.is_list
        ∙ ap (λ (name : List ℕ). solve_in (instance_name a) (list_name a) name) names.is_log

    check_is : check_in input list log ≡ check_part a
    check_is =
        ap (λ (name : List ℕ). check_in name list log) names.is_input
        ∙ ap (λ (name : List ℕ). check_in (instance_name a) name log) names.is_list
        ∙ ap (λ (name : List ℕ). check_in (instance_name a) (list_name a) name) names.is_log

    abbrev OfGen : GenAsked → Status → World → World → Type 0
    OfGen part status before after = Answered (GenTable part) (gen_calls part) status before after

    abbrev OfSolve : SolveAsked → Status → World → World → Type 0
    OfSolve part status before after = Answered (SolveTable part) (solve_calls part) status before after

    abbrev OfCheck : CheckAsked → Status → World → World → Type 0
    OfCheck part status before after = Answered (CheckTable part) (check_calls part) status before after

    abbrev OfTrial : Status → World → World → Type 0
    OfTrial status before after = Answered (TrialTable a) (trial_calls a) status before after

    pub first_ended : (part : GenAsked) (made : Status) (before after : World) → part ≡ gen_in a.origin input → goes_on made ≡ false → OfGen part made before after → OfTrial made before after
    first_ended part made before after is off was = gen_ended made before after off (subst (λ (p : GenAsked). OfGen p made before after) (is ∙ gen_is) was)

    pub second_ended : (part : GenAsked) (next : SolveAsked) (made found : Status) (before mid after : World) → part ≡ gen_in a.origin input → goes_on made ≡ true → OfGen part made before mid
        → next ≡ solve_in input list log → goes_on found ≡ false → OfSolve next found mid after → OfTrial found before after
    second_ended part next made found before mid after is on first is' off second =
        solve_ended made found before mid after on (subst (λ (p : GenAsked). OfGen p made before mid) (is ∙ gen_is) first) off
        (subst (λ (p : SolveAsked). OfSolve p found mid after) (is' ∙ solve_is) second)

    pub third_ended : (part : GenAsked) (next : SolveAsked) (end : CheckAsked) (made found checked : Status) (before mid last after : World) → part ≡ gen_in a.origin input → goes_on made ≡ true → OfGen part made before mid
        → next ≡ solve_in input list log → goes_on found ≡ true → OfSolve next found mid last → end ≡ check_in input list log → OfCheck end checked last after → OfTrial checked before after
    third_ended part next end made found checked before mid last after is on first is' on' second is'' third =
        check_ended made found checked before mid last after on (subst (λ (p : GenAsked). OfGen p made before mid) (is ∙ gen_is) first) on'
        (subst (λ (p : SolveAsked). OfSolve p found mid last) (is' ∙ solve_is) second)
        (subst (λ (p : CheckAsked). OfCheck p checked last after) (is'' ∙ check_is) third)
