-- Models that are found one after the other: each search begins the log anew.
use Rattle.std.proofs.Common.{◌≡◌, ◌≢◌, inl, inr, ℕ, Bool, None, Some, List, [], ◌∷◌, ◌++◌, sym, subst, ◌∙◌}
use Rattle.std.specs.Prelude.{All, Contains, Option, Result, Ok, Err, ℤ}
use Rattle.std.proofs.lemmas.List.{get_or_default}
use Rattle.std.proofs.lemmas.List.Elements.{All-push}
use Rattle.std.proofs.lemmas.List.Quantifiers.{all_pairs_push}
use Rattle.scut_base.specs.Files.{IsTouched}
use Rattle.scut_base.specs.World.{World}
use Rattle.instance.specs.Shape.{InstanceValue}
use Rattle.instance.specs.ParetoFront.{problem_vector}
use Rattle.pb_lin.specs.Problem.{ProblemValue}
use Rattle.proof_rules.specs.declared.recorder.RecordFault.{RecordFault}
use Rattle.proof_rules.specs.declared.recorder.RecordFault.TheVariants.{Failed, Full, NoMemory}
use Rattle.proof_text.specs.LogParts.{IsLogStopped, IsPartOfLog}
use Rattle.proof_text.specs.declared.version.LogVersion.TheVariants.{One}
use Rattle.representatives.specs.Bounded.{IsBounded, IsListingLog}
use Rattle.representatives.specs.Laws.{AreGiven, BoundedModelServes, EndedLogListsAll}
use Rattle.representatives.specs.Representatives.{AreDifferent, Serves}
use Rattle.representative_search.specs.Further.{IsCutModel, IsFurther}
use Rattle.representative_search.specs.Gathered.{IsGatherStop, IsPartOfSearch, LeavesSearch, ListsAll}
use Rattle.representative_search.specs.Seeking.{LeavesLog, TouchesFile}
use Rattle.representative_search.proofs.BegunAnew.{again, full_anew, touches_twice, writing_since}

-- ---- a search on the bounded problem of some models

module _ (name : List ℕ) (i : InstanceValue) (p q : ProblemValue) (v : List ℤ) (list : List (List Bool)) (bounded : IsBounded p (problem_vector i v) list q) (before after : World) where
  further_found : BoundedModelServes → EndedLogListsAll → AreGiven i p v list → (found : Option (List Bool)) → IsCutModel before.files after.files name q i.vars found → IsFurther before.files after.files name i p v list found
  further_found serves lists given (Some a) cut = subst (λ (x : List Bool). Serves i v x × (Contains list x → ⊥)) (sym cut.2) (serves i p q v list given bounded cut.0 cut.1)
  further_found serves lists given None refuted =
      let listing : IsListingLog p (problem_vector i v) list refuted.0 = (q, bounded, refuted.1) in
      (lists i p v list refuted.0 given listing, (refuted.0, listing, refuted.2))

  search_stop : (fault : RecordFault) → IsLogStopped fault before.files after.files q name One before.faults after.faults → IsGatherStop fault before.files after.files name p (problem_vector i v) before.faults after.faults
  search_stop Failed stop = stop.1
  search_stop Full stop = (list, q, bounded, stop)
  search_stop NoMemory stop = tt

  search_part : IsTouched before.files after.files name (IsPartOfLog One q) → IsTouched before.files after.files name (IsPartOfSearch p (problem_vector i v))
  search_part (inl same) = inl same
  search_part (inr put) = inr (put.0, (list, q, bounded, put.1), put.2)

  search_touches : TouchesFile (IsPartOfLog One q) name before after → TouchesFile (IsPartOfSearch p (problem_vector i v)) name before after
  search_touches keeps = record { touched = search_part keeps.touched; said = keeps.said; warned = keeps.warned; later = keeps.later }

  pub searches_further : BoundedModelServes → EndedLogListsAll → AreGiven i p v list → (r : Result (Option (List Bool)) RecordFault)
      → LeavesLog (IsCutModel before.files after.files name q i.vars) q name before after r → LeavesSearch (IsFurther before.files after.files name i p v list) p (problem_vector i v) name before after r
  searches_further serves lists given (Ok found) leaves = record { found = further_found serves lists given found leaves.found; stop = tt; keeps = search_touches leaves.keeps }
  searches_further serves lists given (Err fault) leaves = record { found = tt; stop = search_stop fault leaves.stop; keeps = search_touches leaves.keeps }

-- ---- one search after another

module _ (name : List ℕ) (p : ProblemValue) (us : List ℤ) (before mid after : World) (first : TouchesFile (IsPartOfSearch p us) name before mid) where
  pub lists_again : (models : List (List Bool)) → ListsAll mid.files after.files name p us models → ListsAll before.files after.files name p us models
  lists_again models lists = (lists.0, lists.1, again before.files mid.files after.files name lists.0 (IsPartOfSearch p us) first.touched lists.2)

  stop_again : (fault : RecordFault) → IsGatherStop fault mid.files after.files name p us mid.faults after.faults → IsGatherStop fault before.files after.files name p us before.faults after.faults
  stop_again Failed stop = writing_since before.faults mid.faults after.faults name first.later stop
  stop_again Full (list, q, bounded, full) = (list, q, bounded, full_anew before.files mid.files after.files name (IsPartOfSearch p us) first.touched q full)
  stop_again NoMemory stop = tt

  pub stops_again : {A : Type 0} (Found : A → Type 0) (fault : RecordFault) → IsGatherStop fault mid.files after.files name p us mid.faults after.faults → TouchesFile (IsPartOfSearch p us) name mid after → LeavesSearch Found p us name before after (Err fault)
  stops_again Found fault stop second = record { found = tt; stop = stop_again fault stop; keeps = touches_twice (IsPartOfSearch p us) name before mid after first second }

-- ---- one model more

-- models that serve the vector, all of them different
pub record AreGathered (i : InstanceValue) (v : List ℤ) (models : List (List Bool)) : Type 0 where
  pub serve : All (Serves i v) models
  pub different : AreDifferent models

pub more_gathered : (i : InstanceValue) (v : List ℤ) (models more : List (List Bool)) (a : List Bool) → AreGathered i v models → Serves i v a × (Contains models a → ⊥) → more ≡ models ++ a ∷ [] → AreGathered i v more
more_gathered i v models more a gathered fresh is = subst (AreGathered i v) (sym is) (record {
  serve = All-push (Serves i v) models a gathered.serve fresh.0;
  different = all_pairs_push (λ x y. x ≢ y) models a gathered.different (λ k d short same. fresh.1 (k, short, get_or_default models k a d short ∙ same));
})
