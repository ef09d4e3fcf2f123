-- Lists with models for each entry: what IN and LIST hold, which models are right, and what is wrong first.
use Rattle.std.specs.Prelude.{◌≡◌, ◌≢◌, ℕ, zero, suc, ◌+◌, ◌<◌, ◌^◌, true, List, [], ◌∷◌, ◌++◌, length, Option, ℤ, Bool}
use Rattle.scut_base.specs.Files.{Files, IsTold}
use Rattle.front_set.specs.declared.entry.Entry.{Entry}
use Rattle.instance.specs.ParetoFront.{problem_vector}
use Rattle.instance.specs.Shape.{InstanceValue}
use Rattle.log_checker.specs.LogFaults.{IsLogFault, IsWholeFault}
use Rattle.front_text.specs.ModelsText.{models_text}
use Rattle.front_text.specs.ModelsSpelling.{IsSyntaxAt}
use Rattle.front_text.specs.declared.reps.Reps.{Reps}
use Rattle.pb_lin.specs.Problem.{ProblemValue}
use Rattle.proof_laws.specs.declared.why.Why.{Why}
use Rattle.representatives.specs.Bounded.{IsBounded, IsListingLog}
use Rattle.representatives.specs.Judged.{IsRepsFault}
use Rattle.representatives.specs.Representatives.{AreReps, AreServing}
use Rattle.representatives.specs.declared.fault.RepsWhy.{RepsWhy}
use Rattle.representatives.specs.declared.fault.RepsWhy.TheVariants.{Syntax, Count, Log}
use Rattle.command_base.specs.Causes.{HasText}
use Rattle.command_base.specs.Inputs.{IsListed}
use Rattle.command_base.specs.Taking.{IsTakenFault, IsTooLarge}
use Rattle.command_check_models.specs.Words.{ModelsAsked, log_name}

-- ---- what IN and LIST hold

-- IN spells the instance, LIST is the list of right entries, and the problem is the instance's normal form
abbrev pub IsPosed : Option Files → ModelsAsked → InstanceValue → List Entry → ProblemValue → Type 0
IsPosed files a i entries p = IsListed files a.format a.input a.list i p entries

-- ---- models that are right

-- These are models that serve the entry's vector, and representatives of it where the files are told; and where they are all, the log of entry
-- n shows it.
pub record IsRightEntry (files : Option Files) (a : ModelsAsked) (i : InstanceValue) (p : ProblemValue) (n : ℕ) (e : Entry) (r : Reps) : Type 0 where
  pub serving : AreServing i e.costs a.most r.all r.models
  pub reps : IsTold files → AreReps i e.costs a.most r.all r.models
  pub log : r.all ≡ true → HasText files (log_name a.base n) (IsListingLog p (problem_vector i e.costs) r.models)

-- so it is of each entry, of which the first has this number
abbrev pub AreRightFrom : Option Files → ModelsAsked → InstanceValue → ProblemValue → ℕ → List Entry → List Reps → Type 0
AreRightFrom files a i p n [] [] = Unit {0}
AreRightFrom files a i p n (e ∷ entries) (r ∷ reps) = IsRightEntry files a i p n e r × AreRightFrom files a i p (n + 1) entries reps
AreRightFrom files a i p n _ _ = ⊥

-- the models of entry n are to be all
abbrev pub IsMarkedAll : List Reps → ℕ → Type 0
IsMarkedAll reps n = (before : List Reps) × (r : Reps) × (after : List Reps) × (reps ≡ before ++ r ∷ after) × (length before + 1 ≡ n) × (r.all ≡ true)

-- The log of entry n is one that is taken, where its models are to be all.
abbrev pub IsLogTaken : Option Files → ModelsAsked → ℕ → Reps → Type 0
IsLogTaken files a n r = r.all ≡ true → HasText files (log_name a.base n) (λ log. length log < 2 ^ 62)

-- so it is of each entry, of which the first has this number
abbrev pub AreLogsTakenFrom : Option Files → ModelsAsked → ℕ → List Reps → Type 0
AreLogsTakenFrom files a n [] = Unit {0}
AreLogsTakenFrom files a n (r ∷ reps) = IsLogTaken files a n r × AreLogsTakenFrom files a (n + 1) reps

-- ---- what is wrong first

-- this line of the log of all models is refused, over the bounded problem
abbrev pub IsLogWrong : ProblemValue → List ℤ → List (List Bool) → ℕ → Why → List ℕ → Type 0
IsLogWrong p us models line why log = (q : ProblemValue) × IsBounded p us models q × IsTakenFault (IsWholeFault q []) (IsLogFault q []) log line why

-- these are different models that serve the vector, and are to be all
abbrev pub AreToBeAll : ModelsAsked → InstanceValue → Entry → Reps → Type 0
AreToBeAll a i e r = (r.all ≡ true) × AreServing i e.costs a.most r.all r.models

-- what is wrong first with the models of entry n: their number, a model, or the log of all
abbrev pub IsEntryWrong : Option Files → ModelsAsked → InstanceValue → ProblemValue → ℕ → Entry → Reps → RepsWhy → Type 0
IsEntryWrong files a i p n e r (Log line why) = AreToBeAll a i e r × HasText files (log_name a.base n) (IsLogWrong p (problem_vector i e.costs) r.models line why)
IsEntryWrong files a i p n e r why = IsRepsFault i e.costs a.most r why

-- The first k entries are right, none of their logs is too large, and P holds of the number of the next, of it and of its models.
pub record AfterRight (files : Option Files) (a : ModelsAsked) (i : InstanceValue) (p : ProblemValue) (entries : List Entry) (reps : List Reps) (k : ℕ) (P : ℕ → Entry → Reps → Type 0) : Type 0 where
  pub entries_before : List Entry
  pub entry : Entry
  pub entries_after : List Entry
  pub entries_are : entries ≡ entries_before ++ entry ∷ entries_after
  pub reps_before : List Reps
  pub models : Reps
  pub reps_after : List Reps
  pub reps_are : reps ≡ reps_before ++ models ∷ reps_after
  pub right : AreRightFrom files a i p 1 entries_before reps_before
  pub logs_taken : AreLogsTakenFrom files a 1 reps_before
  pub place : length entries_before ≡ k
  pub holds : P (k + 1) entry models

-- The text is that of as many entries as there are, and of the entries and their models P holds.
pub record IsOfAll (entries : List Entry) (text : List ℕ) (P : List Reps → Type 0) : Type 0 where
  pub reps : List Reps
  pub spelled : text ≡ models_text reps
  pub as_many : length reps ≡ length entries
  pub holds : P reps

-- What is wrong first with the text of all models, by the number of the entry; it is 0 for the whole.
abbrev pub IsModelsFault : Option Files → ModelsAsked → InstanceValue → ProblemValue → List Entry → ℕ → RepsWhy → List ℕ → Type 0
IsModelsFault files a i p entries k Syntax text = IsSyntaxAt text k
IsModelsFault files a i p entries zero Count text = (reps : List Reps) × (text ≡ models_text reps) × (length reps ≢ length entries)
IsModelsFault files a i p entries zero why text = ⊥
IsModelsFault files a i p entries (suc k) why text = IsOfAll entries text (λ reps. AfterRight files a i p entries reps k (λ n e r. IsEntryWrong files a i p n e r why))

-- ---- files that are too large

-- the log of entry n is too large, where its models are to be all
abbrev pub IsLargeLog : Option Files → ModelsAsked → InstanceValue → ProblemValue → ℕ → Entry → Reps → Type 0
IsLargeLog files a i p n e r =
    AreToBeAll a i e r × HasText files (log_name a.base n) (λ log. (q : ProblemValue) × IsBounded p (problem_vector i e.costs) r.models q × IsTooLarge (IsWholeFault q []) log)

-- so is that of the entry after some that are right
abbrev pub HasLargeLog : Option Files → ModelsAsked → InstanceValue → ProblemValue → List Entry → List ℕ → Type 0
HasLargeLog files a i p entries text = IsOfAll entries text (λ reps. (k : ℕ) × AfterRight files a i p entries reps k (IsLargeLog files a i p))
