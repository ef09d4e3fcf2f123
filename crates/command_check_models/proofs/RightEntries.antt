-- Entries with right models, one after another, and the first that hasn't.
use Rattle.std.specs.Prelude.{◌≡◌, ℕ, zero, ◌+◌, ◌<◌, ◌≤◌, List, [], ◌∷◌, ◌++◌, length, take, drop, Option, refl}
use Rattle.std.proofs.Common.{sym, ◌∙◌, ap, subst, arith}
use Rattle.scut_base.specs.Files.{Files}
use Rattle.front_set.specs.declared.entry.Entry.{Entry}
use Rattle.instance.specs.Shape.{InstanceValue}
use Rattle.front_text.specs.declared.reps.Reps.{Reps}
use Rattle.pb_lin.specs.Problem.{ProblemValue}
use Rattle.command_check_models.specs.Entries.{AreLogsTakenFrom, AreRightFrom, IsLogTaken, IsRightEntry}
use Rattle.command_check_models.specs.Words.{ModelsAsked}

module _ (files : Option Files) (a : ModelsAsked) (i : InstanceValue) (p : ProblemValue) where
  -- one more
  pub right_push : (n : ℕ) (es : List Entry) (rs : List Reps) (e : Entry) (r : Reps) → AreRightFrom files a i p n es rs → IsRightEntry files a i p (n + length es) e r → AreRightFrom files a i p n (es ++ e ∷ []) (rs ++ r ∷ [])
  right_push n [] [] e r all one = (subst (λ (k : ℕ). IsRightEntry files a i p k e r) (let is : n + 0 ≡ n = omega arith in is) one, tt)
  right_push n [] (s ∷ rs) e r all one = absurd all
  right_push n (d ∷ es) [] e r all one = absurd all
  right_push n (d ∷ es) (s ∷ rs) e r all one =
      (all.0, right_push (n + 1) es rs e r all.1 (subst (λ (k : ℕ). IsRightEntry files a i p k e r) (let is : n + length (d ∷ es) ≡ (n + 1) + length es = omega arith in is) one))

  -- one more log that isn't too large
  pub taken_push : (n : ℕ) (rs : List Reps) (r : Reps) → AreLogsTakenFrom files a n rs → IsLogTaken files a (n + length rs) r → AreLogsTakenFrom files a n (rs ++ r ∷ [])
  taken_push n [] r all one = (subst (λ (k : ℕ). IsLogTaken files a k r) (let is : n + 0 ≡ n = omega arith in is) one, tt)
  taken_push n (s ∷ rs) r all one =
      (all.0, taken_push (n + 1) rs r all.1 (subst (λ (k : ℕ). IsLogTaken files a k r) (let is : n + length (s ∷ rs) ≡ (n + 1) + length rs = omega arith in is) one))

  -- as many entries as models
  pub right_count : (n : ℕ) (es : List Entry) (rs : List Reps) → AreRightFrom files a i p n es rs → length es ≡ length rs
  right_count n [] [] all = refl
  right_count n [] (r ∷ rs) all = absurd all
  right_count n (e ∷ es) [] all = absurd all
  right_count n (e ∷ es) (r ∷ rs) all = let more = right_count (n + 1) es rs all.1 in omega arith

  -- the one after so many
  pub right_at : (n : ℕ) (es : List Entry) (e : Entry) (fs : List Entry) (rs : List Reps) (r : Reps) (ss : List Reps) → length es ≡ length rs → AreRightFrom files a i p n (es ++ e ∷ fs) (rs ++ r ∷ ss) → IsRightEntry files a i p (n + length es) e r
  right_at n [] e fs [] r ss same all = subst (λ (k : ℕ). IsRightEntry files a i p k e r) (let is : n ≡ n + 0 = omega arith in is) all.0
  right_at n [] e fs (s ∷ rs) r ss same all = absurd (omega arith)
  right_at n (d ∷ es) e fs [] r ss same all = absurd (omega arith)
  right_at n (d ∷ es) e fs (s ∷ rs) r ss same all =
      subst (λ (k : ℕ). IsRightEntry files a i p k e r) (let is : (n + 1) + length es ≡ n + length (d ∷ es) = omega arith in is) (right_at (n + 1) es e fs rs r ss (omega arith) all.1)
