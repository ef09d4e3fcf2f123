-- Files of which one alone has changed.
use Rattle.std.proofs.Common.{◌≡◌, ◌≢◌, ℕ, Bool, true, false, None, Some, List, refl, sym, ap, ◌∙◌}
use Rattle.std.specs.Prelude.{Option}
use Rattle.std.specs.Ordering.{nat_cmp, eq_by_cmp}
use Rattle.std.specs.Cmp.Lexicographic.{slice_cmp}
use Rattle.std.specs.FinMap.{insert, same_map, slice_cmp-IsAntisymmetric, nat_cmp-IsAntisymmetric}
use Rattle.std.proofs.lemmas.Cmp.{nat_list_cmp_total}
use Rattle.std.proofs.lemmas.Option.{none-some}
use Rattle.std.proofs.Math.Bool.{true≢false}
use Rattle.scut_base.specs.Files.{Files, content, with_file, IsTold}
use Rattle.scut_base.proofs.FileLaws.{content-same, content-other, tied_is, tied_same, with_file-untold}
use Rattle.proof_text.specs.Recorders.{without_file}
use Rattle.proof_text.proofs.LogFiles.{others_same}

module _ (name bytes : List ℕ) where
  by_tie : (m n : Files) → without_file (Some n) name ≡ without_file (Some m) name → content (Some n) name ≡ Some bytes
      → (q : List ℕ) (b : Bool) → eq_by_cmp (slice_cmp nat_cmp) q name ≡ b → content (Some n) q ≡ content (with_file (Some m) name bytes) q
  by_tie m n others there q true tied =
      let is : q ≡ name = tied_is q name tied in
      ap (content (Some n)) is ∙ there ∙ sym (content-same (Some m) name bytes tt) ∙ sym (ap (content (with_file (Some m) name bytes)) is)
  by_tie m n others there q false tied =
      let other : q ≢ name = λ e. true≢false (sym (tied_same name) ∙ ap (λ (r : List ℕ). eq_by_cmp (slice_cmp nat_cmp) r name) (sym e) ∙ tied) in
      others_same (Some n) (Some m) name q others other ∙ sym (content-other (Some m) name bytes q other)

  same_files : (m n : Files) → ((q : List ℕ) → content (Some n) q ≡ content (with_file (Some m) name bytes) q) → Some n ≡ with_file (Some m) name bytes
  unfolding content with_file
  same_files m n same = ap Some (same_map nat_list_cmp_total (slice_cmp-IsAntisymmetric nat_cmp-IsAntisymmetric) n (insert m name bytes) same)

  none_from_none : (n : Files) → without_file (Some n) name ≡ without_file None name → ⊥
  unfolding without_file
  none_from_none n e = none-some _ (sym e)

  some_from_some : (m : Files) → without_file None name ≡ without_file (Some m) name → ⊥
  unfolding without_file
  some_from_some m e = none-some _ e

  -- where the others stayed, this one alone was written
  pub only_this : (old new : Option Files) → without_file new name ≡ without_file old name → (IsTold new → content new name ≡ Some bytes) → new ≡ with_file old name bytes
  only_this None None others there = sym (with_file-untold name bytes)
  only_this None (Some n) others there = absurd (none_from_none n others)
  only_this (Some m) None others there = absurd (some_from_some m others)
  only_this (Some m) (Some n) others there = same_files m n (λ q. by_tie m n others (there tt) q (eq_by_cmp (slice_cmp nat_cmp) q name) refl)

told_with_none : (n : Files) (name : List ℕ) → without_file (Some n) name ≡ without_file None name → ⊥
unfolding without_file
told_with_none n name e = none-some _ (sym e)

-- where the others stayed, files are told where they were
pub told_alike : (old new : Option Files) (name : List ℕ) → without_file new name ≡ without_file old name → IsTold new → IsTold old
told_alike None None name others told = told
told_alike None (Some n) name others told = absurd (told_with_none n name others)
told_alike (Some m) new name others told = tt
