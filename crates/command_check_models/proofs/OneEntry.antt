-- One entry with its models, after those that are right.
use Rattle.std.specs.Prelude.{◌≡◌, ℕ, zero, suc, ◌+◌, ◌<◌, List, [], ◌∷◌, ◌++◌, length, take, drop, Option, refl}
use Rattle.std.proofs.Common.{sym, ◌∙◌, ap, subst, arith, get_or, append_assoc}
use Rattle.std.proofs.lemmas.List.{take-append-drop, take_more, length-take}
use Rattle.scut_base.specs.Files.{Files}
use Rattle.scut_base.specs.World.{World}
use Rattle.front_set.specs.declared.entry.Entry.{Entry}
use Rattle.instance.specs.Shape.{InstanceValue}
use Rattle.front_text.specs.declared.reps.Reps.{Reps}
use Rattle.pb_lin.specs.Problem.{ProblemValue}
use Rattle.command_base.specs.Views.{OnlyReads}
use Rattle.command_base.proofs.Answered.{rose_at_last}
use Rattle.command_check_models.specs.Entries.{AfterRight, AreLogsTakenFrom, AreRightFrom, IsEntryWrong, IsLargeLog, IsLogTaken, IsRightEntry}
use Rattle.command_check_models.specs.Judging.{IsEntryStop, IsJudgingStop}
use Rattle.command_check_models.specs.Words.{ModelsAsked, log_name}
use Rattle.command_check_models.specs.declared.stop.ModelsStop.{ModelsStop}
use Rattle.command_check_models.specs.declared.stop.ModelsStop.TheVariants.{Refused, Large, NoMemory, ShelfFailed}
use Rattle.command_check_models.proofs.RightEntries.{right_push, taken_push}

module _ {X : Type 0} (xs : List X) (i : ℕ) (x : X) (within : i < length xs) (is : x ≡ get_or xs i x) where
  -- the elements up to this one
  pub upto : take (i + 1) xs ≡ take i xs ++ x ∷ []
  upto = take_more xs i x within ∙ ap (λ (y : X). take i xs ++ y ∷ []) (sym is)

  -- those before it, it, and those after it
  pub around : xs ≡ take i xs ++ x ∷ drop (i + 1) xs
  around = sym (take-append-drop (i + 1) xs) ∙ ap (λ (ys : List X). ys ++ drop (i + 1) xs) upto ∙ append_assoc (take i xs) (x ∷ []) (drop (i + 1) xs)

module _ (a : ModelsAsked) (i : InstanceValue) (p : ProblemValue) (before mid : World) (reads : OnlyReads before mid)
    (entries : List Entry) (reps : List Reps) (as_many : length reps ≡ length entries) (k : ℕ) (within : k < length entries)
    (e : Entry) (e_is : e ≡ get_or entries k e) (r : Reps) (r_is : r ≡ get_or reps k r)
    (right : AreRightFrom before.files a i p 1 (take k entries) (take k reps)) (taken : AreLogsTakenFrom before.files a 1 (take k reps)) where
  inside : k < length reps
  inside = omega arith

  count : length (take k entries) ≡ k
  count = omega (arith, within, length-take k entries)

  -- so many are right, and this is next
  after_right : (P : ℕ → Entry → Reps → Type 0) → P (k + 1) e r → AfterRight before.files a i p entries reps k P
  after_right P holds = record {
    entries_before = take k entries;
    entry = e;
    entries_after = drop (k + 1) entries;
    entries_are = around entries k e within e_is;
    reps_before = take k reps;
    models = r;
    reps_after = drop (k + 1) reps;
    reps_are = around reps k r inside r_is;
    right = right;
    logs_taken = taken;
    place = count;
    holds = holds;
  }

  -- its models are right too
  pub right_more : IsRightEntry mid.files a i p (k + 1) e r → AreRightFrom before.files a i p 1 (take (k + 1) entries) (take (k + 1) reps)
  right_more one =
      let here : IsRightEntry before.files a i p (1 + length (take k entries)) e r =
      subst (λ (n : ℕ). IsRightEntry before.files a i p n e r) (let is : k + 1 ≡ 1 + length (take k entries) = omega (arith, count) in is)
      (subst (λ (fs : Option Files). IsRightEntry fs a i p (k + 1) e r) reads.files one) in
      subst (λ (es : List Entry). AreRightFrom before.files a i p 1 es (take (k + 1) reps)) (sym (upto entries k e within e_is))
      (subst (λ (rs : List Reps). AreRightFrom before.files a i p 1 (take k entries ++ e ∷ []) rs) (sym (upto reps k r inside r_is))
      (right_push before.files a i p 1 (take k entries) (take k reps) e r right here))

  -- and its log isn't too large
  pub taken_more : IsLogTaken mid.files a (k + 1) r → AreLogsTakenFrom before.files a 1 (take (k + 1) reps)
  taken_more one =
      let here : IsLogTaken before.files a (1 + length (take k reps)) r =
      subst (λ (n : ℕ). IsLogTaken before.files a n r) (let is : k + 1 ≡ 1 + length (take k reps) = omega (arith, inside, length-take k reps) in is)
      (subst (λ (fs : Option Files). IsLogTaken fs a (k + 1) r) reads.files one) in
      subst (λ (rs : List Reps). AreLogsTakenFrom before.files a 1 rs) (sym (upto reps k r inside r_is)) (taken_push before.files a i p 1 (take k reps) r taken here)

  -- or they aren't
  pub judging_stopped : (after : World) (stop : ModelsStop) → IsEntryStop stop mid.files a i p (k + 1) e r mid.faults after.faults → IsJudgingStop stop before.files a i p entries reps before.faults after.faults
  judging_stopped after stop was = by stop (subst (λ (fs : Option Files). IsEntryStop stop fs a i p (k + 1) e r mid.faults after.faults) reads.files was)
    where
      by : (s : ModelsStop) → IsEntryStop s before.files a i p (k + 1) e r mid.faults after.faults → IsJudgingStop s before.files a i p entries reps before.faults after.faults
      by (Refused zero why) wrong = absurd (omega (arith, wrong.0))
      by (Refused (suc j) why) wrong = (
        as_many,
        subst (λ (n : ℕ). AfterRight before.files a i p entries reps n (λ m d s. IsEntryWrong before.files a i p m d s why)) (let is : k ≡ j = omega (arith, wrong.0) in is)
            (after_right (λ m d s. IsEntryWrong before.files a i p m d s why) wrong.1),
      )
      by Large large = (as_many, k, after_right (IsLargeLog before.files a i p) large)
      by NoMemory memory = tt
      by ShelfFailed failed = (
        as_many,
        k + 1,
        (take k reps, r, drop (k + 1) reps, around reps k r inside r_is, omega (arith, inside, length-take k reps), failed.0),
        rose_at_last _ _ _ (reads.later _ (log_name a.base (k + 1))) failed.1,
      )
