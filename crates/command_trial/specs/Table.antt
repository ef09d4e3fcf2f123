-- The answers of `trial NUMBER VARS OBJECTIVES BASE`, a record for each. BASE stands for its three files, BASE.mcnf,
-- BASE.list and BASE.log.
use Rattle.std.specs.Prelude.{◌≡◌, ◌⊎◌, ℕ, zero, ◌<◌, ◌≤◌, ◌^◌, Bool, true, false, List, [], ◌∷◌, length, Option}
use Rattle.scut_base.specs.Files.{Files, with_file, followed, IsTold}
use Rattle.scut_base.specs.World.{World}
use Rattle.front_set.specs.declared.entry.Entry.{Entry}
use Rattle.front_set.specs.ListText.{list_text}
use Rattle.instance.specs.declared.fault.InstanceLimit.TheVariants.{Bytes}
use Rattle.instance.specs.ParetoFront.{IsFront}
use Rattle.instance_normal.specs.NormalForm.{IsNormalFormOf}
use Rattle.pb_lin.specs.Problem.{ProblemValue}
use Rattle.log_checker.specs.Accepted.{IsAccepted}
use Rattle.command_base.specs.Answering.{Call, Completes, Runs, appending, beginning, reading, saying}
use Rattle.command_base.specs.InstanceFile.{IsTextOf}
use Rattle.command_base.specs.Messages.{said_of}
use Rattle.command_base.specs.Views.{View}
use Rattle.command_base.specs.declared.instance_file.Format.TheVariants.{Mcnf}
use Rattle.command_base.specs.declared.status.Status.{Status}
use Rattle.command_base.specs.declared.status.Status.TheVariants.{Done, Complete, Accepted, Refused, Usage, BadInput, TooLarge, LogFull, NoMemory, ShelfFailed}
use Rattle.command_gen.specs.Origin.{instance_from, text_from}
use Rattle.command_gen.specs.Table.{IsCutShort, IsGenerated}
use Rattle.proof_text.specs.declared.version.LogVersion.TheVariants.{One}
use Rattle.proof_text.specs.LogParts.{IsFull}
use Rattle.command_solve.specs.Table.{IsCertified, IsSolvedPartly}
use Rattle.command_check.specs.Table.{IsCutOff}
use Rattle.command_trial.specs.Words.{TrialAsked, check_part, gen_part, instance_name, list_name, log_name, solve_part}

-- it begins, appends to and reads its three files, and says something
abbrev pub trial_calls : TrialAsked → List Call
trial_calls a =
    beginning (instance_name a) ∷ appending (instance_name a) ∷ reading (instance_name a)
    ∷ beginning (log_name a) ∷ appending (log_name a) ∷ reading (log_name a)
    ∷ beginning (list_name a) ∷ appending (list_name a) ∷ reading (list_name a)
    ∷ saying ∷ []

-- a part after which the next one is run
abbrev pub goes_on : Status → Bool
goes_on Done = true
goes_on (Complete size) = true
goes_on status = false

-- ---- what the three files hold

-- the files with the generated instance
abbrev pub with_instance : Option Files → TrialAsked → Option Files
with_instance files a = with_file files (instance_name a) (text_from a.origin)

-- and with these texts as log and list
abbrev pub with_three : Option Files → TrialAsked → (listed proof : List ℕ) → Option Files
with_three files a listed proof = with_file (with_file (with_instance files a) (log_name a) proof) (list_name a) listed

-- what was said before, and then these words
abbrev pub said_in_turn : Option (List ℕ) → List Status → Option (List ℕ)
said_in_turn text [] = text
said_in_turn text (status ∷ statuses) = said_in_turn (followed text (said_of status)) statuses

-- BASE.mcnf holds a text that spells the generated instance, BASE.list the list text of its front, of this size, and
-- BASE.log a log that is accepted with it. No other file has changed.
pub record IsSolved (before after : Option Files) (a : TrialAsked) (size : ℕ) : Type 0 where
  pub spelled : IsTextOf Mcnf (instance_from a.origin) (text_from a.origin)
  pub entries : List Entry
  pub front : IsFront (instance_from a.origin) entries
  pub counted : length entries ≡ size
  pub proof : List ℕ
  pub accepted : IsAccepted (instance_from a.origin) (list_text true entries) proof
  pub files : after ≡ with_three before a (list_text true entries) proof

-- ---- the answers

-- Accepted: the instance was generated, solved, and its list and log, neither of which is too large, were accepted. So what is accepted is its front.
pub record IsTried (before after : View) (a : TrialAsked) : Type 0 where
  pub size : ℕ
  pub solved : IsSolved before.files after.files a size
  pub list_taken : length (list_text true solved.entries) < 2 ^ 32
  pub log_taken : length solved.proof < 2 ^ 62
  pub said : after.said ≡ said_in_turn before.said (Done ∷ Complete size ∷ Accepted ∷ [])

-- TooLarge: the instance was generated and solved, and its list or its log is larger than one that is checked may be.
pub record IsTriedTooLarge (before after : View) (a : TrialAsked) : Type 0 where
  pub size : ℕ
  pub solved : IsSolved before.files after.files a size
  pub large : (2 ^ 32 ≤ length (list_text true solved.entries)) ⊎ (2 ^ 62 ≤ length solved.proof)
  pub said : after.said ≡ said_in_turn before.said (Done ∷ Complete size ∷ [])

-- LogFull: the instance was generated, and BASE.log holds the header and 2^61 lines, each legal where it stands.
pub record IsTriedFull (before after : View) (a : TrialAsked) : Type 0 where
  pub spelled : IsTextOf Mcnf (instance_from a.origin) (text_from a.origin)
  pub problem : ProblemValue
  pub normal : IsNormalFormOf (instance_from a.origin) problem
  pub full : IsFull (with_instance before.files a) after.files problem (log_name a) One
  pub said : after.said ≡ said_in_turn before.said (Done ∷ [])

-- the instance was generated, and P holds of what was so then
abbrev pub AfterGenerating : View → TrialAsked → (View → Type 0) → Type 0
AfterGenerating before a P = (mid : View) × IsGenerated before mid (gen_part a) × P mid

-- and it was solved
abbrev pub AfterSolving : View → TrialAsked → (View → Type 0) → Type 0
AfterSolving before a P = AfterGenerating before a (λ first. (size : ℕ) × (mid : View) × IsCertified first mid (solve_part a) size × P mid)

-- NoMemory and ShelfFailed: how far which part came, after those before it were done.
abbrev pub IsTriedPartly : View → View → TrialAsked → Type 0
IsTriedPartly before after a = IsCutShort before after (gen_part a)
    ⊎ (AfterGenerating before a (λ mid. IsSolvedPartly mid after (solve_part a))
    ⊎ AfterSolving before a (λ mid. IsCutOff mid after (check_part a)))

-- it isn't told what the files hold, so that anything may have been read back
abbrev pub IsUntold : Option Files → Type 0
IsUntold files = IsTold files → ⊥

-- The table. Line 0 stands for the whole file. Where the files are told, nothing that was written is refused.
abbrev pub TrialTable : TrialAsked → Status → View → View → Type 0
TrialTable a Accepted before after = IsTold before.files → IsTried before after a
TrialTable a (TooLarge zero Bytes) before after = IsTold before.files → IsTriedTooLarge before after a
TrialTable a (LogFull lines) before after = (lines ≡ 2 ^ 61) × (IsTold before.files → IsTriedFull before after a)
TrialTable a NoMemory before after = IsTriedPartly before after a
TrialTable a ShelfFailed before after = IsTriedPartly before after a
TrialTable a (TooLarge line which) before after = IsUntold before.files
TrialTable a (BadInput line kind) before after = IsUntold before.files
TrialTable a (Refused fault) before after = IsUntold before.files
TrialTable a Usage before after = IsUntold before.files
TrialTable a status before after = ⊥

-- it answers so, and warns of nothing
abbrev pub TrialRuns : TrialAsked → Status → World → World → Type 0
TrialRuns a = Runs (TrialTable a) (trial_calls a)

-- ---- where it completes

-- list and log were accepted, or reached a limit
abbrev pub IsTrialEnd : Status → Type 0
IsTrialEnd Accepted = Unit {0}
IsTrialEnd (TooLarge zero Bytes) = Unit {0}
IsTrialEnd (LogFull lines) = Unit {0}
IsTrialEnd status = ⊥

-- Where the files are told and no own call failed, that is so, unless memory is wanted.
abbrev pub TrialCompletes : TrialAsked → Status → World → World → Type 0
TrialCompletes a = Completes (λ (files : Option Files). IsTold files) (λ files told. IsTrialEnd) (trial_calls a)
