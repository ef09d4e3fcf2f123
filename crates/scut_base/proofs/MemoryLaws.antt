-- What the trait asks of a shelf, from what a shelf in memory has become.
use Rattle.std.specs.Prelude.{◌≡◌, ℕ, List, ◌++◌, take, drop, Some, IsSome}
use Rattle.std.specs.FinMap.{insert}
use Rattle.std.proofs.Common.{ap, sym, subst}
use Rattle.std.proofs.lemmas.List.{take-append-drop}
use Rattle.scut_base.specs.Files.{Files, content, with_file, bytes_or_none, IsPartlyAppended, IsPartlyFollowed}
use Rattle.scut_base.proofs.FileLaws.{nothing_appended}

-- a file that holds other bytes
pub with_file_insert : (old new : Files) (name bytes : List ℕ) → new ≡ insert old name bytes → Some new ≡ with_file (Some old) name bytes
unfolding with_file
with_file_insert old new name bytes is = ap Some is

-- a prefix of a piece was put after a file
pub cut_appended : (old new : Files) (name piece : List ℕ) (m : ℕ) → new ≡ insert old name (bytes_or_none (content (Some old) name) ++ take m piece) → IsPartlyAppended (Some old) (Some new) name piece
cut_appended old new name piece m is = (take m piece, (drop m piece, take-append-drop m piece), with_file_insert old new name _ is)

-- nothing was put after a file
pub kept_appended : (old new : Files) (name piece : List ℕ) → IsSome (content (Some old) name) → new ≡ old → IsPartlyAppended (Some old) (Some new) name piece
kept_appended old new name piece there is = subst (λ (files : Files). IsPartlyAppended (Some old) (Some files) name piece) (sym is) (nothing_appended (Some old) name piece there)

-- a prefix of a piece was put out
pub cut_followed : (old new piece : List ℕ) (m : ℕ) → new ≡ old ++ take m piece → IsPartlyFollowed (Some old) (Some new) piece
cut_followed old new piece m is = (take m piece, (drop m piece, take-append-drop m piece), ap Some is)
