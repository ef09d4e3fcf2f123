-- The text of all models, after their logs: how writing it ends.
use Rattle.std.specs.Prelude.{◌≡◌, ◌⊎◌, ℕ, ◌<◌, ◌^◌, List, length, Option, refl}
use Rattle.std.proofs.Common.{inl, inr, sym, ◌∙◌, ap, subst, arith}
use Rattle.scut_base.specs.Faults.{NoneFell, WritingFailed}
use Rattle.scut_base.specs.Files.{Files, IsPrefixOf, IsTouched, with_file}
use Rattle.scut_base.specs.World.{World}
use Rattle.front_set.specs.declared.entry.Entry.{Entry}
use Rattle.instance.specs.Shape.{InstanceValue}
use Rattle.front_text.specs.ModelsText.{models_text}
use Rattle.front_text.specs.declared.reps.Reps.{Reps}
use Rattle.pb_lin.specs.Problem.{ProblemValue}
use Rattle.proof_rules.specs.declared.recorder.RecordFault.{RecordFault}
use Rattle.proof_rules.specs.declared.recorder.RecordFault.TheVariants.{Failed, Full, NoMemory}
use Rattle.command_base.proofs.Answered.{rose_at_last}
use Rattle.command_check_models.specs.Words.{ModelsAsked, models_name}
use Rattle.command_models.specs.Gathering.{AreGathered, IsCause, IsGatheringStop, IsWritingStop, LogFailed}
use Rattle.command_models.specs.Table.{AreTouched, AreWritten}
use Rattle.command_models.proofs.Texts.{no_text, text_left, text_whole}

module _ (a : ModelsAsked) (i : InstanceValue) (p : ProblemValue) (entries : List Entry) (few : length entries < 2 ^ 63) (old mid : World) where
  -- the models weren't gathered
  pub gathering_failed : (fault : RecordFault) → IsGatheringStop fault old.files mid.files a i p entries old.faults mid.faults → IsWritingStop fault old.files mid.files a i p entries old.faults mid.faults
  gathering_failed fault stop = record { cause = by fault stop.cause; touched = no_text a i p entries few old.files mid.files stop.touched }
    where
      by : (f : RecordFault) → IsCause f mid.files a i p entries (LogFailed a (length entries) old.faults mid.faults) → IsCause f mid.files a i p entries (LogFailed a (length entries) old.faults mid.faults ⊎ WritingFailed old.faults mid.faults (models_name a.base))
      by Failed failed = inl failed
      by Full full = full
      by NoMemory memory = tt

  -- they were
  module _ (new : World) (reps shown : List Reps) (same : shown ≡ reps) (base : List ℕ) (base_is : base ≡ a.base) (gathered : AreGathered old.files mid.files a i p entries reps) where
    -- their text was written
    pub text_written : new.files ≡ with_file mid.files (models_name base) (models_text shown) → AreWritten old.files new.files a i p entries
    text_written is = text_whole a i p entries few old.files mid.files new.files reps gathered (λ bytes. Unit {0}) (inr (models_text reps, tt, here)) here
      where
        here : new.files ≡ with_file mid.files (models_name a.base) (models_text reps)
        here = is ∙ ap (λ (b : List ℕ). with_file mid.files (models_name b) (models_text shown)) base_is ∙ ap (λ (rs : List Reps). with_file mid.files (models_name a.base) (models_text rs)) same

    -- a part of it was
    pub text_touched : IsTouched mid.files new.files (models_name base) (λ bytes. IsPrefixOf bytes (models_text shown)) → AreTouched old.files new.files a i p entries
    text_touched was = text_left a i p entries few old.files mid.files new.files reps gathered (λ bytes. IsPrefixOf bytes (models_text reps))
        (subst (λ (b : List ℕ). IsTouched mid.files new.files (models_name b) (λ bytes. IsPrefixOf bytes (models_text reps))) base_is
        (subst (λ (rs : List Reps). IsTouched mid.files new.files (models_name base) (λ bytes. IsPrefixOf bytes (models_text rs))) same was)) (λ bytes part. part)

    -- and a count rose
    pub text_failed : NoneFell old.faults mid.faults → WritingFailed mid.faults new.faults (models_name base) → WritingFailed old.faults new.faults (models_name a.base)
    text_failed fell rose = subst (λ (b : List ℕ). WritingFailed old.faults new.faults (models_name b)) base_is (by rose)
      where
        by : WritingFailed mid.faults new.faults (models_name base) → WritingFailed old.faults new.faults (models_name base)
        by (inl begun) = inl (rose_at_last _ _ _ (fell _ (models_name base)) begun)
        by (inr more) = inr (rose_at_last _ _ _ (fell _ (models_name base)) more)
