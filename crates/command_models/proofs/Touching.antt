-- What one file that is touched leaves of the others.
use Rattle.std.specs.Prelude.{◌≡◌, ◌≢◌, ◌↔◌, ℕ, List, Option, Some, refl}
use Rattle.std.proofs.Common.{inl, inr, sym, ◌∙◌, ap, subst}
use Rattle.scut_base.specs.Files.{Files, content, with_file, IsTold, IsTouched}
use Rattle.scut_base.proofs.FileLaws.{content-other, content-same, told-with_file, told_before}
use Rattle.command_base.specs.Causes.{HasText}
use Rattle.command_models.specs.Table.{IsTouchedAt}

module _ (old new : Option Files) (name : List ℕ) (P : List ℕ → Type 0) where
  pub other_kept : IsTouched old new name P → (q : List ℕ) → q ≢ name → content new q ≡ content old q
  other_kept (inl same) q other = ap (λ (f : Option Files). content f q) same
  other_kept (inr (bytes, holds, is)) q other = ap (λ (f : Option Files). content f q) is ∙ content-other old name bytes q other

  pub told_after : IsTouched old new name P → IsTold old → IsTold new
  told_after (inl same) told = subst IsTold (sym same) told
  told_after (inr (bytes, holds, is)) told = subst IsTold (sym is) (told-with_file old name bytes told)

  pub told_first : IsTouched old new name P → IsTold new → IsTold old
  told_first (inl same) told = subst IsTold same told
  told_first (inr (bytes, holds, is)) told = told_before old name bytes (subst IsTold is told)

  pub touched_at : IsTouched old new name P → IsTouchedAt old new name P
  touched_at (inl same) = inl (ap (λ (f : Option Files). content f name) same)
  touched_at (inr (bytes, holds, is)) = inr (λ told. (bytes, ap (λ (f : Option Files). content f name) is ∙ content-same old name bytes (told_before old name bytes (subst IsTold is told)), holds))

-- a file that was written
pub written_at : (old new : Option Files) (name bytes : List ℕ) → new ≡ with_file old name bytes → IsTold new → content new name ≡ Some bytes
written_at old new name bytes is told = ap (λ (f : Option Files). content f name) is ∙ content-same old name bytes (told_before old name bytes (subst IsTold is told))

-- what a text has stays so while its file is kept
pub text_kept : (old new : Option Files) (name : List ℕ) (P : List ℕ → Type 0) → (IsTold new → IsTold old) → content new name ≡ content old name → HasText old name P → HasText new name P
text_kept old new name P told same has = λ now. let found = has (told now) in (found.0, same ∙ found.1, found.2)

pub touched_kept : (first old new : Option Files) (name : List ℕ) (P : List ℕ → Type 0) → (IsTold new → IsTold old) → content new name ≡ content old name → IsTouchedAt first old name P → IsTouchedAt first new name P
touched_kept first old new name P told same (inl kept) = inl (same ∙ kept)
touched_kept first old new name P told same (inr has) = inr (text_kept old new name P told same has)

-- touched anew: where the file was as at first, it is as at first or holds what it has been given
pub touched_anew : (first old new : Option Files) (name : List ℕ) (P : List ℕ → Type 0) → content old name ≡ content first name → IsTouchedAt old new name P → IsTouchedAt first new name P
touched_anew first old new name P kept (inl same) = inl (same ∙ kept)
touched_anew first old new name P kept (inr has) = inr has
