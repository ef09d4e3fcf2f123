-- What gathering the models that serve a vector leaves in its log.
use Rattle.std.specs.Prelude.{◌≡◌, ℕ, Bool, true, List, ℤ, Option, Result}
use Rattle.scut_base.specs.Faults.{Faults, WritingFailed}
use Rattle.scut_base.specs.Files.{Files, with_file}
use Rattle.scut_base.specs.World.{World}
use Rattle.instance.specs.ParetoFront.{problem_vector}
use Rattle.instance.specs.Shape.{InstanceValue}
use Rattle.front_text.specs.declared.reps.Reps.{Reps}
use Rattle.pb_lin.specs.Problem.{ProblemValue}
use Rattle.proof_rules.specs.declared.recorder.RecordFault.{RecordFault}
use Rattle.proof_rules.specs.declared.recorder.RecordFault.TheVariants.{Failed, Full, NoMemory}
use Rattle.proof_text.specs.LogParts.{IsFull, IsPartOfLog}
use Rattle.proof_text.specs.declared.version.LogVersion.TheVariants.{One}
use Rattle.representatives.specs.Bounded.{IsBounded, IsListingLog}
use Rattle.representatives.specs.Representatives.{AreReps}
use Rattle.representative_search.specs.Seeking.{LeavesFile}

-- P holds of the bounded problem of some models
abbrev pub OfBounded : ProblemValue → List ℤ → (ProblemValue → Type 0) → Type 0
OfBounded p us P = (list : List (List Bool)) × (q : ProblemValue) × IsBounded p us list q × P q

-- a part of a log over the bounded problem of some models
abbrev pub IsPartOfSearch : ProblemValue → List ℤ → List ℕ → Type 0
IsPartOfSearch p us bytes = OfBounded p us (λ q. IsPartOfLog One q bytes)

-- the log was written, and shows that these are all models that serve the vector
abbrev pub ListsAll : Option Files → Option Files → List ℕ → ProblemValue → List ℤ → List (List Bool) → Type 0
ListsAll old new name p us models = (log : List ℕ) × IsListingLog p us models log × (new ≡ with_file old name log)

-- the log has as many lines as it may, over the bounded problem of some models
abbrev pub IsFullSearch : Option Files → Option Files → List ℕ → ProblemValue → List ℤ → Type 0
IsFullSearch old new name p us = OfBounded p us (λ q. IsFull old new q name One)

-- why no models are answered
abbrev pub IsGatherStop : RecordFault → Option Files → Option Files → List ℕ → ProblemValue → List ℤ → Faults → Faults → Type 0
IsGatherStop Failed old new name p us before after = WritingFailed before after name
IsGatherStop Full old new name p us before after = IsFullSearch old new name p us
IsGatherStop NoMemory old new name p us before after = Unit {0}

-- what a search over bounded problems leaves in this file
abbrev pub LeavesSearch : {A : Type 0} → (A → Type 0) → ProblemValue → List ℤ → List ℕ → World → World → Result A RecordFault → Type 0
LeavesSearch Found p us name before after = LeavesFile Found (λ fault. IsGatherStop fault before.files after.files name p us before.faults after.faults) (IsPartOfSearch p us) name before after

-- models that serve the vector; where they are all, the log shows it
pub record IsGathered (old new : Option Files) (name : List ℕ) (i : InstanceValue) (p : ProblemValue) (v : List ℤ) (most : ℕ) (r : Reps) : Type 0 where
  pub reps : AreReps i v most r.all r.models
  pub log : r.all ≡ true → ListsAll old new name p (problem_vector i v) r.models
