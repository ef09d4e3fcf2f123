-- The log of all models of an entry, judged.
use Rattle.std.specs.Prelude.{Result, Ok, Err, IfErr, OnOk, ◌≡◌, ℕ, ◌<◌, ◌≤◌, ◌^◌, Bool, true, false, MatchBool, List, [], ◌∷◌, length, Option, ℤ, All, refl}
use Rattle.std.proofs.Common.{sym, subst, arith}
use Rattle.std.proofs.lemmas.List.Elements.{All-nil, All-cons, All-head, All-tail}
use Rattle.scut_base.specs.Faults.{Faults}
use Rattle.scut_base.specs.Files.{Files, IsTold}
use Rattle.front_set.specs.declared.entry.Entry.{Entry}
use Rattle.instance.specs.ParetoFront.{problem_vector}
use Rattle.instance.specs.Shape.{InstanceValue}
use Rattle.log_checker.specs.Accepted.{IsEndedProof}
use Rattle.log_checker.specs.LogFaults.{IsLogFault, IsWholeFault}
use Rattle.front_text.specs.declared.reps.Reps.{Reps}
use Rattle.pb_lin.specs.Problem.{ProblemValue}
use Rattle.representatives.specs.Bounded.{IsBounded, IsListingLog}
use Rattle.representatives.specs.Laws.{AreGiven, EndedLogListsAll}
use Rattle.representatives.specs.Representatives.{AreServing, Serves}
use Rattle.command_base.specs.Causes.{HasText}
use Rattle.command_base.specs.Stops.{IsLogStop}
use Rattle.command_base.specs.declared.stops.LogStop.{LogStop}
use Rattle.command_base.specs.declared.stops.LogStop.TheVariants.{Refused as LineWrong, Large as LogLarge, NoMemory as LogMemory, ShelfFailed as LogFailed}
use Rattle.command_check_models.specs.Entries.{AreToBeAll, IsLogTaken, IsRightEntry}
use Rattle.command_check_models.specs.Judging.{IsEntryStop, IsGivenEntry, stop_of}
use Rattle.command_check_models.specs.Words.{ModelsAsked, log_name}

-- what is judged by a checker of this problem, where nothing may be logged
module _ (files : Option Files) (name : List ℕ) (p q : ProblemValue) (vs : List (List ℤ)) (same : q ≡ p) (none : vs ≡ []) (r : Result (Unit {0}) LogStop) where
  abbrev IsTaken : ProblemValue → List (List ℤ) → Type 0
  IsTaken o us = OnOk r (HasText files name (λ bytes. (length bytes < 2 ^ 62) × IsEndedProof o us bytes))

  pub ended_by : IsTaken q vs → IsTaken p []
  ended_by was = subst (λ (o : ProblemValue). IsTaken o []) same (subst (IsTaken q) none was)

  pub stopped_by : (before after : Faults) → IfErr r (λ stop. IsLogStop (λ bytes k why. IsWholeFault q vs bytes k why) (λ bytes k why. IsLogFault q vs bytes k why) name stop files before after)
      → IfErr r (λ stop. IsLogStop (IsWholeFault p []) (IsLogFault p []) name stop files before after)
  stopped_by before after was =
      subst (λ (o : ProblemValue). IfErr r (λ stop. IsLogStop (IsWholeFault o []) (IsLogFault o []) name stop files before after)) same
      (subst (λ (us : List (List ℤ)). IfErr r (λ stop. IsLogStop (IsWholeFault q us) (IsLogFault q us) name stop files before after)) none was)

-- all models are fewer than as many as are asked for
pub few_models : (all : Bool) (n k : ℕ) → all ≡ true → MatchBool all (n < k) (n ≡ k) → k ≤ 2 ^ 20 → n ≤ 2 ^ 20
few_models true n k is count most = omega arith
few_models false n k is count most = absurd cc

module _ (files : Option Files) (a : ModelsAsked) (i : InstanceValue) (p q : ProblemValue) (n : ℕ) (e : Entry) (r : Reps)
    (given : IsGivenEntry i p e) (few : length r.models ≤ 2 ^ 20) (serving : AreServing i e.costs a.most r.all r.models) (all : r.all ≡ true)
    (bounded : IsBounded p (problem_vector i e.costs) r.models q) (name : List ℕ) (named : name ≡ log_name a.base n) where
  long_models : (models : List (List Bool)) → All (Serves i e.costs) models → All (λ m. length m ≡ i.vars) models
  long_models [] serve = All-nil (λ (m : List Bool). length m ≡ i.vars)
  long_models (m ∷ models) serve = All-cons (λ (b : List Bool). length b ≡ i.vars) m models (All-head (Serves i e.costs) m models serve).model.variables (long_models models (All-tail (Serves i e.costs) m models serve))

  given_here : AreGiven i p e.costs r.models
  given_here = record { limits = given.limits; normal = given.normal; vector = given.vector; few = few; long = long_models r.models serving.serve }

  -- the log is accepted
  module _ (has : HasText files name (λ bytes. (length bytes < 2 ^ 62) × IsEndedProof q [] bytes)) where
    pub log_accepted : EndedLogListsAll → IsRightEntry files a i p n e r
    log_accepted law = record {
      serving = serving;
      reps = λ told. (let found = has told in record { serving = serving; whole = λ is m serves. law i p e.costs r.models found.0 given_here (q, bounded, found.2.1) m serves });
      log = λ is. subst (λ (file : List ℕ). HasText files file (IsListingLog p (problem_vector i e.costs) r.models)) named (λ told. let found = has told in (found.0, found.1, (q, bounded, found.2.1)));
    }

    pub log_taken : IsLogTaken files a n r
    log_taken is = subst (λ (file : List ℕ). HasText files file (λ log. length log < 2 ^ 62)) named (λ told. let found = has told in (found.0, found.1, found.2.0))

  -- it isn't
  pub log_stopped : (before after : Faults) (stop : LogStop) → IsLogStop (IsWholeFault q []) (IsLogFault q []) name stop files before after → IsEntryStop (stop_of n stop) files a i p n e r before after
  log_stopped before after stop was = by stop (subst (λ (file : List ℕ). IsLogStop (IsWholeFault q []) (IsLogFault q []) file stop files before after) named was)
    where
      by : (s : LogStop) → IsLogStop (IsWholeFault q []) (IsLogFault q []) (log_name a.base n) s files before after → IsEntryStop (stop_of n s) files a i p n e r before after
      by (LineWrong line why) wrong = (refl, ((all, serving), λ told. let found = wrong told in (found.0, found.1, (q, bounded, found.2))))
      by LogLarge large = ((all, serving), λ told. let found = large told in (found.0, found.1, (q, bounded, found.2)))
      by LogMemory memory = tt
      by LogFailed failed = (all, failed)
