-- The text of all models, written after their logs.
use Rattle.std.specs.Prelude.{◌≡◌, ◌≢◌, ◌↔◌, ℕ, ◌+◌, ◌<◌, ◌≤◌, ◌^◌, List, [], ◌∷◌, length, Option, refl, ℤ}
use Rattle.std.specs.List.{AllZip}
use Rattle.std.proofs.Common.{inl, inr, sym, ◌∙◌, ap, subst, arith}
use Rattle.scut_base.specs.Files.{Files, content, with_file, IsPrefixOf, IsTold, IsTouched}
use Rattle.front_set.specs.declared.entry.Entry.{Entry}
use Rattle.instance.specs.ParetoFront.{problem_vector}
use Rattle.instance.specs.Shape.{InstanceValue}
use Rattle.front_text.specs.ModelsText.{models_text}
use Rattle.front_text.specs.declared.reps.Reps.{Reps}
use Rattle.pb_lin.specs.Problem.{ProblemValue}
use Rattle.representatives.specs.Bounded.{IsListingLog}
use Rattle.representatives.specs.Representatives.{AreReps}
use Rattle.representative_search.specs.Gathered.{IsPartOfSearch}
use Rattle.command_check_models.specs.Entries.{AreRightFrom}
use Rattle.command_check_models.specs.Words.{ModelsAsked, log_name, models_name}
use Rattle.command_models.specs.Gathering.{AreGathered, AreLogsTouched}
use Rattle.command_models.specs.Table.{AreTouched, AreWritten, IsTextTouched, IsTouchedAt, LogsTouchedFrom}
use Rattle.command_models.proofs.LogNames.{no_log}
use Rattle.command_models.proofs.Touching.{other_kept, text_kept, told_after, told_first, touched_anew, touched_at, touched_kept, written_at}

module _ (a : ModelsAsked) (i : InstanceValue) (p : ProblemValue) (entries : List Entry) (few : length entries < 2 ^ 63) where
  -- the text is as it was, where logs alone were touched
  text_stays : (old new : Option Files) → AreLogsTouched old new a i p entries → content new (models_name a.base) ≡ content old (models_name a.base)
  text_stays old new was = was.others (models_name a.base) (λ (n, some, within, same). no_log a.base n (omega arith) (sym same))

  -- where the text wasn't begun
  pub no_text : (old new : Option Files) → AreLogsTouched old new a i p entries → AreTouched old new a i p entries
  no_text old new was = record {
    logs = was.logs;
    text = inl (text_stays old new was);
    others = record { told = was.told; others = λ name other none. was.others name none };
  }

  each_represents : (files : Option Files) → IsTold files → (n : ℕ) (es : List Entry) (rs : List Reps) → AreRightFrom files a i p n es rs → AllZip (λ e r. AreReps i e.costs a.most r.all r.models) es rs
  each_represents files told n [] [] was = tt
  each_represents files told n [] (r ∷ rs) was = absurd was
  each_represents files told n (e ∷ es) [] was = absurd was
  each_represents files told n (e ∷ es) (r ∷ rs) was = (was.0.reps told, each_represents files told (n + 1) es rs was.1)

  -- the text was touched after the logs
  module _ (old mid new : Option Files) (reps : List Reps) (was : AreGathered old mid a i p entries reps) (P : List ℕ → Type 0) (touched : IsTouched mid new (models_name a.base) P) where
    told_back : IsTold new → IsTold mid
    told_back = told_first mid new (models_name a.base) P touched

    log_stays : (n : ℕ) → n < 2 ^ 64 → content new (log_name a.base n) ≡ content mid (log_name a.base n)
    log_stays n small = other_kept mid new (models_name a.base) P touched (log_name a.base n) (no_log a.base n small)

    logs_stay : (n : ℕ) (es : List Entry) → n + length es ≤ 2 ^ 63 → LogsTouchedFrom old mid a i p n es → LogsTouchedFrom old new a i p n es
    logs_stay n [] within first = tt
    logs_stay n (d ∷ es) within first = (
      touched_kept old mid new (log_name a.base n) (IsPartOfSearch p (problem_vector i d.costs)) told_back (log_stays n (omega arith)) first.0,
      logs_stay (n + 1) es (omega arith) first.1,
    )

    right_stays : (n : ℕ) (es : List Entry) (rs : List Reps) → n + length es ≤ 2 ^ 63 → AreRightFrom mid a i p n es rs → AreRightFrom new a i p n es rs
    right_stays n [] [] within first = tt
    right_stays n [] (r ∷ rs) within first = absurd first
    right_stays n (d ∷ es) [] within first = absurd first
    right_stays n (d ∷ es) (r ∷ rs) within first = (
      record {
        serving = first.0.serving;
        reps = λ now. first.0.reps (told_back now);
        log = λ all. text_kept mid new (log_name a.base n) (IsListingLog p (problem_vector i d.costs) r.models) told_back (log_stays n (omega arith)) (first.0.log all);
      },
      right_stays (n + 1) es rs (omega arith) first.1,
    )

    told : IsTold old ↔ IsTold new
    told = ((λ now. told_after mid new (models_name a.base) P touched (was.touched.told.0 now)), (λ now. was.touched.told.1 (told_back now)))

    -- a part of it was written
    pub text_left : ((bytes : List ℕ) → P bytes → IsPrefixOf bytes (models_text reps)) → AreTouched old new a i p entries
    text_left part = record {
      logs = logs_stay 1 entries (omega arith) was.touched.logs;
      text = by (touched_anew old mid new (models_name a.base) P (text_stays old mid was.touched) (touched_at mid new (models_name a.base) P touched));
      others = record { told = told; others = λ name other none. other_kept mid new (models_name a.base) P touched name other ∙ was.touched.others name none };
    }
      where
        by : IsTouchedAt old new (models_name a.base) P → IsTextTouched old new a i entries
        by (inl same) = inl same
        by (inr has) = inr (λ now. let found = has now in (found.0, found.1, (reps, each_represents mid (told_back now) 1 entries reps was.each, part found.0 found.2)))

    -- it was written whole
    pub text_whole : new ≡ with_file mid (models_name a.base) (models_text reps) → AreWritten old new a i p entries
    text_whole is = record {
      reps = reps;
      text = λ now. written_at mid new (models_name a.base) (models_text reps) is now;
      each = right_stays 1 entries reps (omega arith) was.each;
      logs = logs_stay 1 entries (omega arith) was.touched.logs;
      others = record { told = told; others = λ name other none. other_kept mid new (models_name a.base) P touched name other ∙ was.touched.others name none };
    }
