-- The models of entries, gathered one after another.
use Rattle.std.specs.Prelude.{◌≡◌, ◌≢◌, ◌↔◌, ℕ, suc, ◌+◌, ◌<◌, ◌≤◌, ◌^◌, true, List, [], ◌∷◌, ◌++◌, length, Option, refl, ℤ}
use Rattle.std.proofs.Common.{inl, inr, sym, ◌∙◌, ap, subst, arith, length-append}
use Rattle.scut_base.specs.Files.{Files, content, IsTold}
use Rattle.front_set.specs.declared.entry.Entry.{Entry}
use Rattle.instance.specs.ParetoFront.{problem_vector}
use Rattle.instance.specs.Shape.{InstanceValue}
use Rattle.front_text.specs.declared.reps.Reps.{Reps}
use Rattle.pb_lin.specs.Problem.{ProblemValue}
use Rattle.representatives.specs.Bounded.{IsListingLog}
use Rattle.representative_search.specs.Gathered.{IsPartOfSearch, ListsAll}
use Rattle.command_base.specs.Causes.{HasText}
use Rattle.command_check_models.specs.Entries.{AreRightFrom, IsRightEntry}
use Rattle.command_check_models.specs.Words.{ModelsAsked, log_name, models_name}
use Rattle.command_check_models.proofs.RightEntries.{right_push}
use Rattle.command_models.specs.Gathering.{AreGathered, AreLogsTouched, IsEntryGathered, IsLogTouched}
use Rattle.command_models.specs.Table.{IsTouchedAt, LogsTouchedFrom}
use Rattle.command_models.proofs.LogNames.{one_log}
use Rattle.command_models.proofs.Touching.{other_kept, text_kept, told_after, told_first, touched_anew, touched_at, touched_kept, written_at}

module _ (a : ModelsAsked) (i : InstanceValue) (p : ProblemValue) where
  -- nothing is gathered yet
  pub none_touched : (files : Option Files) → AreLogsTouched files files a i p []
  none_touched files = record { logs = tt; told = ((λ told. told), (λ told. told)); others = λ name other. refl }

  -- the log of entry k + 1 was touched after those of k
  module _ (mid new : Option Files) (k : ℕ) (e : Entry) (fits : k + 1 < 2 ^ 64) (touched : IsLogTouched mid new a i p (k + 1) e) where
    others_stay : (q : List ℕ) → q ≢ log_name a.base (k + 1) → content new q ≡ content mid q
    others_stay = other_kept mid new (log_name a.base (k + 1)) (IsPartOfSearch p (problem_vector i e.costs)) touched

    told_back : IsTold new → IsTold mid
    told_back = told_first mid new (log_name a.base (k + 1)) (IsPartOfSearch p (problem_vector i e.costs)) touched

    told_on : IsTold mid → IsTold new
    told_on = told_after mid new (log_name a.base (k + 1)) (IsPartOfSearch p (problem_vector i e.costs)) touched

    earlier_stays : (n : ℕ) → n ≤ k → content new (log_name a.base n) ≡ content mid (log_name a.base n)
    earlier_stays n before = others_stay (log_name a.base n) (λ same. (let is = one_log a.base n (k + 1) (omega arith) fits same in omega arith))

    logs_stay : (old : Option Files) (n : ℕ) (es : List Entry) → n + length es ≤ k + 1 → LogsTouchedFrom old mid a i p n es → LogsTouchedFrom old new a i p n es
    logs_stay old n [] within was = tt
    logs_stay old n (d ∷ es) within was = (
      touched_kept old mid new (log_name a.base n) (IsPartOfSearch p (problem_vector i d.costs)) told_back (earlier_stays n (omega arith)) was.0,
      logs_stay old (n + 1) es (omega arith) was.1,
    )

    logs_push : (old : Option Files) (n : ℕ) (es : List Entry) → n + length es ≡ k + 1 → LogsTouchedFrom old new a i p n es → IsTouchedAt old new (log_name a.base (k + 1)) (IsPartOfSearch p (problem_vector i e.costs)) → LogsTouchedFrom old new a i p n (es ++ e ∷ [])
    logs_push old n [] is was here = (subst (λ (m : ℕ). IsTouchedAt old new (log_name a.base m) (IsPartOfSearch p (problem_vector i e.costs))) (let same : k + 1 ≡ n = omega arith in same) here, tt)
    logs_push old n (d ∷ es) is was here = (was.0, logs_push old (n + 1) es (omega arith) was.1 here)

    right_stays : (n : ℕ) (es : List Entry) (rs : List Reps) → n + length es ≤ k + 1 → AreRightFrom mid a i p n es rs → AreRightFrom new a i p n es rs
    right_stays n [] [] within was = tt
    right_stays n [] (r ∷ rs) within was = absurd was
    right_stays n (d ∷ es) [] within was = absurd was
    right_stays n (d ∷ es) (r ∷ rs) within was = (
      record {
        serving = was.0.serving;
        reps = λ now. was.0.reps (told_back now);
        log = λ all. text_kept mid new (log_name a.base n) (IsListingLog p (problem_vector i d.costs) r.models) told_back (earlier_stays n (omega arith)) (was.0.log all);
      },
      right_stays (n + 1) es rs (omega arith) was.1,
    )

    -- the logs of one entry more
    pub touched_more : (old : Option Files) (es : List Entry) → length es ≡ k → AreLogsTouched old mid a i p es → AreLogsTouched old new a i p (es ++ e ∷ [])
    touched_more old es count was =
        let longer : length (es ++ e ∷ []) ≡ length es + 1 = length-append es (e ∷ []) in
        let here : content mid (log_name a.base (k + 1)) ≡ content old (log_name a.base (k + 1)) =
        was.others (log_name a.base (k + 1)) (λ (n, some, within, same). (let is = one_log a.base (k + 1) n fits (omega arith) same in omega arith)) in
        record {
          logs = logs_push old 1 es (omega arith) (logs_stay old 1 es (omega arith) was.logs)
              (touched_anew old mid new (log_name a.base (k + 1)) (IsPartOfSearch p (problem_vector i e.costs)) here (touched_at mid new (log_name a.base (k + 1)) (IsPartOfSearch p (problem_vector i e.costs)) touched));
          told = ((λ told. told_on (was.told.0 told)), (λ told. was.told.1 (told_back told)));
          others = λ name other.
              others_stay name (λ same. other (k + 1, omega arith, omega arith, same))
              ∙ was.others name (λ (n, some, within, same). other (n, some, omega arith, same));
        }

    -- the models of one entry more
    pub gathered_more : (old : Option Files) (es : List Entry) (rs : List Reps) (r : Reps) → length es ≡ k → AreGathered old mid a i p es rs → IsEntryGathered mid new a i p (k + 1) e r → AreGathered old new a i p (es ++ e ∷ []) (rs ++ r ∷ [])
    gathered_more old es rs r count was one = record {
      each = right_push new a i p 1 es rs e r (right_stays 1 es rs (omega arith) was.each)
          (subst (λ (n : ℕ). IsRightEntry new a i p n e r) (let is : k + 1 ≡ 1 + length es = omega arith in is) here);
      touched = touched_more old es count was.touched;
    }
      where
        here : IsRightEntry new a i p (k + 1) e r
        here = record {
          serving = one.reps.serving;
          reps = λ now. one.reps;
          log = λ all. (let log : ListsAll mid new (log_name a.base (k + 1)) p (problem_vector i e.costs) r.models = one.log all in λ told. (log.0, written_at mid new (log_name a.base (k + 1)) log.0 log.2 told, log.1));
        }

  -- ---- the entries that weren't come to

  module _ (old new : Option Files) (es : List Entry) (touched : AreLogsTouched old new a i p es) where
    -- their logs are as they were
    logs_rest : (n : ℕ) (rest : List Entry) → length es < n → n + length rest < 2 ^ 64 → LogsTouchedFrom old new a i p n rest
    logs_rest n [] later within = tt
    logs_rest n (d ∷ rest) later within = (
      inl (touched.others (log_name a.base n) (λ (m, some, most, same). (let is = one_log a.base n m (omega arith) (omega arith) same in omega arith))),
      logs_rest (n + 1) rest (omega arith) (omega arith),
    )

    logs_append : (n : ℕ) (fs rest : List Entry) → LogsTouchedFrom old new a i p n fs → LogsTouchedFrom old new a i p (n + length fs) rest → LogsTouchedFrom old new a i p n (fs ++ rest)
    logs_append n [] rest first later = subst (λ (m : ℕ). LogsTouchedFrom old new a i p m rest) (let is : n + 0 ≡ n = omega arith in is) later
    logs_append n (d ∷ fs) rest first later =
        (first.0, logs_append (n + 1) fs rest first.1 (subst (λ (m : ℕ). LogsTouchedFrom old new a i p m rest) (let is : n + length (d ∷ fs) ≡ (n + 1) + length fs = omega arith in is) later))

    pub touched_whole : (rest : List Entry) → length es + length rest < 2 ^ 63 → AreLogsTouched old new a i p (es ++ rest)
    touched_whole rest within =
        let longer : length (es ++ rest) ≡ length es + length rest = length-append es rest in
        record {
          logs = logs_append 1 es rest touched.logs (logs_rest (1 + length es) rest (omega arith) (omega arith));
          told = touched.told;
          others = λ name other. touched.others name (λ (n, some, most, same). other (n, some, omega arith, same));
        }
