-- What a loop that reads a file knows.
use Rattle.std.proofs.Common.{◌≡◌, ℕ, ◌+◌, ◌<◌, ◌≤◌, ◌^◌, min, arith, List, ◌++◌, length, take, drop, refl, sym, ◌∙◌, ap, subst}
use Rattle.std.specs.Prelude.{Option, Some}
use Rattle.std.proofs.Math.Seq.{take-add}
use Rattle.std.proofs.lemmas.List.{length-take, take_min, take_all}
use Rattle.scut_base.specs.Files.{Files, content, IsTold, IsReadAt, ReadsFrom}
use Rattle.scut_base.proofs.FileLaws.{told_by_content}
use Rattle.scut_base.proofs.Options.{some_is}
use Rattle.command_base.specs.WholeFile.{IsWhole, IsLarge}

-- the bytes are the first of the file
abbrev pub IsReadSoFar : Option Files → List ℕ → List ℕ → Type 0
IsReadSoFar files name bytes = (whole : List ℕ) → content files name ≡ Some whole → bytes ≡ take (length bytes) whole

-- where something was read, the file is there
abbrev pub IsThereSoFar : Option Files → List ℕ → List ℕ → Type 0
IsThereSoFar files name bytes = IsTold files → 0 < length bytes → (whole : List ℕ) × (content files name ≡ Some whole)

pub there_from_read : (old now : Option Files) (name bytes into : List ℕ) (at n : ℕ) → now ≡ old → IsReadAt now name at n into → IsThereSoFar old name bytes
there_from_read old now name bytes into at n same read = λ told some.
    let got = read (subst IsTold (sym same) told) in
    (got.0, ap (λ f. content f name) (sym same) ∙ got.1)

pub read_further : (files : Option Files) (name bytes into : List ℕ) (n : ℕ) → IsReadSoFar files name bytes → IsReadAt files name (length bytes) n into → IsReadSoFar files name (bytes ++ take n into)
read_further files name bytes into n start read whole is =
    let got = read (told_by_content files name whole is) in
    let same : got.0 ≡ whole = some_is whole got.0 _ is got.1 in
    let reads : ReadsFrom whole (length bytes) n into = subst (λ w. ReadsFrom w (length bytes) n into) same got.2 in
    let so_far : bytes ≡ take (length bytes) whole = start whole is in
    let piece : take n into ≡ take n (drop (length bytes) whole) = reads.copied in
    let joined : bytes ++ take n into ≡ take (length bytes + n) whole = ap (λ xs. xs ++ take n into) so_far ∙ ap (λ ys. take (length bytes) whole ++ ys) piece ∙ sym (take-add (length bytes) n whole) in
    fits (length bytes + n) whole (bytes ++ take n into) joined
  where
    fits : (k : ℕ) (whole xs : List ℕ) → xs ≡ take k whole → xs ≡ take (length xs) whole
    fits k whole xs e = e ∙ sym (take_min k whole) ∙ ap (λ n. take n whole) (sym (length-take k whole) ∙ ap length (sym e))

pub read_all : (files : Option Files) (name bytes into : List ℕ) → IsReadSoFar files name bytes → IsReadAt files name (length bytes) 0 into → IsWhole files name bytes
read_all files name bytes into start read told =
    let got = read told in
    let so_far : bytes ≡ take (length bytes) got.0 = start got.0 got.1 in
    let all : take (length bytes) got.0 ≡ got.0 = take_all (length bytes) got.0 (got.2.ends refl) in
    got.1 ∙ ap Some (sym (so_far ∙ all))

moved : (old now : Option Files) (name bytes into : List ℕ) (at n : ℕ) → now ≡ old → at ≡ length bytes → IsReadAt now name at n into → IsReadAt old name (length bytes) n into
moved old now name bytes into at n same place read = subst (λ a. IsReadAt old name a n into) place (subst (λ f. IsReadAt f name at n into) same read)

-- the same of a shelf whose files have stayed
pub reads_further : (old now : Option Files) (name bytes more into : List ℕ) (at n : ℕ) → IsReadSoFar old name bytes → now ≡ old → at ≡ length bytes → more ≡ bytes ++ take n into → IsReadAt now name at n into → IsReadSoFar old name more
reads_further old now name bytes more into at n start same place is read =
    subst (IsReadSoFar old name) (sym is) (read_further old name bytes into n start (moved old now name bytes into at n same place read))

pub reads_all : (old now : Option Files) (name bytes into : List ℕ) (at n : ℕ) → IsReadSoFar old name bytes → now ≡ old → at ≡ length bytes → n ≡ 0 → IsReadAt now name at n into → IsWhole old name bytes
reads_all old now name bytes into at n start same place none read =
    read_all old name bytes into start (subst (λ k. IsReadAt old name (length bytes) k into) none (moved old now name bytes into at n same place read))

-- what was read is no longer than the file
long_enough : (files : Option Files) (name bytes : List ℕ) (n : ℕ) → IsReadSoFar files name bytes → n ≤ length bytes → (whole : List ℕ) → content files name ≡ Some whole → n ≤ length whole
long_enough files name bytes n start long whole is =
    let so_far : bytes ≡ take (length bytes) whole = start whole is in
    let same : length bytes ≡ min (length bytes) (length whole) = ap length so_far ∙ length-take (length bytes) whole in
    omega arith

-- what is read on past the limit is large
pub read_no_more : (files : Option Files) (name bytes : List ℕ) → IsReadSoFar files name bytes → IsThereSoFar files name bytes → 2 ^ 32 ≤ length bytes → IsLarge files name
read_no_more files name bytes start there long = λ told.
    let found = there told (omega arith) in
    (found.0, found.1, long_enough files name bytes (2 ^ 32) start long found.0 found.1)
