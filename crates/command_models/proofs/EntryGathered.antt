-- What gathering the models of one entry leaves.
use Rattle.std.proofs.Common.{◌≡◌, ℕ, List, subst}
use Rattle.std.specs.Prelude.{Result, Ok, Err, IfOk, IfErr}
use Rattle.scut_base.specs.World.{World}
use Rattle.front_set.specs.declared.entry.Entry.{Entry}
use Rattle.instance.specs.ParetoFront.{problem_vector}
use Rattle.instance.specs.Shape.{InstanceValue}
use Rattle.front_text.specs.declared.reps.Reps.{Reps}
use Rattle.pb_lin.specs.Problem.{ProblemValue}
use Rattle.proof_rules.specs.declared.recorder.RecordFault.{RecordFault}
use Rattle.representative_search.specs.Gathered.{IsGathered, LeavesSearch}
use Rattle.command_check_models.specs.Words.{ModelsAsked, log_name}
use Rattle.command_models.specs.Gathering.{IsEntryGathered, IsEntryStop}

module _ (old new : World) (a : ModelsAsked) (i : InstanceValue) (p : ProblemValue) (n : ℕ) (e : Entry) where
  abbrev Gathers : List ℕ → ℕ → Result Reps RecordFault → Type 0
  Gathers name most r = LeavesSearch (IsGathered old.files new.files name i p e.costs most) p (problem_vector i e.costs) name old new r

  gathers_asked : (name : List ℕ) (most : ℕ) (r : Result Reps RecordFault) → name ≡ log_name a.base n → most ≡ a.most → Gathers name most r → Gathers (log_name a.base n) a.most r
  gathers_asked name most r named is leaves = subst (λ (k : ℕ). Gathers (log_name a.base n) k r) is (subst (λ (file : List ℕ). Gathers file most r) named leaves)

  gathered_of : (r : Result Reps RecordFault) → Gathers (log_name a.base n) a.most r → IfOk r (IsEntryGathered old.files new.files a i p n e)
  gathered_of (Ok reps) leaves = record { reps = leaves.found.reps; log = leaves.found.log; touched = leaves.keeps.touched }
  gathered_of (Err fault) leaves = tt

  stop_of : (r : Result Reps RecordFault) → Gathers (log_name a.base n) a.most r → IfErr r (λ fault. IsEntryStop fault old.files new.files a i p n e old.faults new.faults)
  stop_of (Ok reps) leaves = tt
  stop_of (Err fault) leaves = record { stop = leaves.stop; touched = leaves.keeps.touched }

  pub entry_gathered : (name : List ℕ) (most : ℕ) (r : Result Reps RecordFault) → name ≡ log_name a.base n → most ≡ a.most → Gathers name most r → IfOk r (IsEntryGathered old.files new.files a i p n e)
  entry_gathered name most r named is leaves = gathered_of r (gathers_asked name most r named is leaves)

  pub entry_stopped : (name : List ℕ) (most : ℕ) (r : Result Reps RecordFault) → name ≡ log_name a.base n → most ≡ a.most → Gathers name most r → IfErr r (λ fault. IsEntryStop fault old.files new.files a i p n e old.faults new.faults)
  entry_stopped name most r named is leaves = stop_of r (gathers_asked name most r named is leaves)
