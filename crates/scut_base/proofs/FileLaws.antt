-- Laws of `content` and `with_file`.
use Rattle.std.specs.Prelude.{◌≡◌, ◌≢◌, ℕ, List, [], ◌++◌, Option, Some, None, Result, Ok, Err, OnErr, IsSome, refl, Bool, true, false, cond}
use Rattle.std.specs.Ordering.{nat_cmp, eq_by_cmp}
use Rattle.std.specs.Cmp.Lexicographic.{slice_cmp}
use Rattle.std.specs.FinMap.{get, insert, get-insert, same_map, slice_cmp-IsAntisymmetric, nat_cmp-IsAntisymmetric}
use Rattle.std.proofs.Common.{sym, ◌∙◌, ap, subst, inr, append_assoc}
use Rattle.std.proofs.lemmas.Cmp.{nat_list_cmp_total}
use Rattle.std.proofs.lemmas.List.{append-nil}
use Rattle.std.proofs.lemmas.Option.{none-some}
use Rattle.std.proofs.Math.Bool.{true≢false}
use Rattle.std.proofs.lemmas.Map.Text.{is_eq-slice_cmp}
use Rattle.std.proofs.lemmas.Slice.Eq.{bytes_eq-Decides}
use Rattle.scut_base.specs.Files.{Files, content, with_file, IsTold, IsPartlyAppended, bytes_or_none, IsTouched, IsPrefixOf}

-- two names are tied exactly where they are one
pub tied_same : (n : List ℕ) → eq_by_cmp (slice_cmp nat_cmp) n n ≡ true
tied_same n = is_eq-slice_cmp n n ∙ (bytes_eq-Decides n n).1 refl

pub tied_is : (q n : List ℕ) → eq_by_cmp (slice_cmp nat_cmp) q n ≡ true → q ≡ n
tied_is q n h = (bytes_eq-Decides q n).0 (sym (is_eq-slice_cmp q n) ∙ h)

not_true : (b : Bool) → (b ≡ true → ⊥) → b ≡ false
not_true true h = absurd (h refl)
not_true false h = refl

pub tied_other : (q n : List ℕ) → q ≢ n → eq_by_cmp (slice_cmp nat_cmp) q n ≡ false
tied_other q n h = not_true _ (λ e. h (tied_is q n e))

pub content-same : (f : Option Files) (n b : List ℕ) → IsTold f → content (with_file f n b) n ≡ Some b
unfolding content with_file
content-same None n b told = absurd told
content-same (Some m) n b told = get-insert nat_list_cmp_total m n b n ∙ ap (λ t. cond t (Some b) (get m n)) (tied_same n)

pub content-other : (f : Option Files) (n b q : List ℕ) → q ≢ n → content (with_file f n b) q ≡ content f q
unfolding content with_file
content-other None n b q other = refl
content-other (Some m) n b q other = get-insert nat_list_cmp_total m n b q ∙ ap (λ t. cond t (Some b) (get m q)) (tied_other q n other)

cond_same : {X : Type 0} (t : Bool) (x y z : X) → cond t x (cond t y z) ≡ cond t x z
cond_same true x y z = refl
cond_same false x y z = refl

pub with_file-twice : (f : Option Files) (n a b : List ℕ) → with_file (with_file f n a) n b ≡ with_file f n b
unfolding with_file
with_file-twice None n a b = refl
with_file-twice (Some m) n a b = ap Some (same_map nat_list_cmp_total (slice_cmp-IsAntisymmetric nat_cmp-IsAntisymmetric) _ _ (λ q.
    get-insert nat_list_cmp_total (insert m n a) n b q
    ∙ ap (cond (eq_by_cmp (slice_cmp nat_cmp) q n) (Some b)) (get-insert nat_list_cmp_total m n a q)
    ∙ cond_same (eq_by_cmp (slice_cmp nat_cmp) q n) _ _ _
    ∙ sym (get-insert nat_list_cmp_total m n b q)))

pub told-with_file : (f : Option Files) (n b : List ℕ) → IsTold f → IsTold (with_file f n b)
unfolding with_file
told-with_file None n b told = told
told-with_file (Some m) n b told = tt

pub told_before : (f : Option Files) (n b : List ℕ) → IsTold (with_file f n b) → IsTold f
unfolding with_file
told_before None n b told = told
told_before (Some m) n b told = tt

-- a shelf that tells no files
pub untold-IsPartlyAppended : (name piece : List ℕ) → IsPartlyAppended None None name piece
unfolding with_file
untold-IsPartlyAppended name piece = ([], (piece, refl), refl)

-- what holds anyway holds at an error
pub on_err_anyway : {T E P : Type 0} (r : Result T E) → P → OnErr r P
on_err_anyway (Ok v) p = tt
on_err_anyway (Err e) p = p

pub told_by_content : (f : Option Files) (n b : List ℕ) → content f n ≡ Some b → IsTold f
unfolding content
told_by_content None n b e = absurd (none-some b e)
told_by_content (Some m) n b e = tt

-- nothing is told of any file
pub with_file-untold : (n b : List ℕ) → with_file None n b ≡ None
unfolding with_file
with_file-untold n b = refl

-- a piece after a file that holds these bytes
pub with_file_append : (f : Option Files) (n a b : List ℕ) → with_file (with_file f n a) n (bytes_or_none (content (with_file f n a) n) ++ b) ≡ with_file f n (a ++ b)
with_file_append None n a b = rw (with_file-untold n a, with_file-untold n _, with_file-untold n (a ++ b)) refl
with_file_append (Some m) n a b = rw (content-same (Some m) n a tt) (with_file-twice (Some m) n a (a ++ b))

-- a file that was written is there
pub with_file_is_there : (f : Option Files) (n a : List ℕ) → IsTold (with_file f n a) → IsSome (content (with_file f n a) n)
with_file_is_there f n a told = subst IsSome (sym (content-same f n a (told_before f n a told))) refl

-- ---- a file that is written piece by piece: it holds a, and then b after it

pub there_by : (g f : Option Files) (n a : List ℕ) → g ≡ with_file f n a → IsTold g → IsSome (content g n)
there_by g f n a e told = subst (λ h. IsSome (content h n)) (sym e) (with_file_is_there f n a (subst IsTold e told))

pub appended_by : (g f new : Option Files) (n a b : List ℕ) → g ≡ with_file f n a → new ≡ with_file g n (bytes_or_none (content g n) ++ b) → new ≡ with_file f n (a ++ b)
appended_by g f new n a b e is = is ∙ ap (λ h. with_file h n (bytes_or_none (content h n) ++ b)) e ∙ with_file_append f n a b

-- where an append failed, the file holds a prefix of the whole text
pub partly_by : (g f new : Option Files) (n a b rest text : List ℕ) → g ≡ with_file f n a → IsPartlyAppended g new n b → a ++ b ++ rest ≡ text → IsTouched f new n (λ prefix. IsPrefixOf prefix text)
partly_by g f new n a b rest text e partly whole = inr (a ++ partly.0, (partly.1.0 ++ rest, joined), appended_by g f new n a partly.0 e partly.2)
  where
    joined : (a ++ partly.0) ++ (partly.1.0 ++ rest) ≡ text
    joined = sym (append_assoc (a ++ partly.0) partly.1.0 rest) ∙ ap (λ xs. xs ++ rest) (append_assoc a partly.0 partly.1.0 ∙ ap (λ xs. a ++ xs) partly.1.1) ∙ whole

-- a file that is given the bytes that it holds
pub with_file_kept : (f : Option Files) (n b : List ℕ) → content f n ≡ Some b → with_file f n b ≡ f
unfolding content with_file
with_file_kept None n b is = refl
with_file_kept (Some m) n b is = ap Some (same_map nat_list_cmp_total (slice_cmp-IsAntisymmetric nat_cmp-IsAntisymmetric) _ _ (λ q.
    get-insert nat_list_cmp_total m n b q ∙ by q (eq_by_cmp (slice_cmp nat_cmp) q n) refl))
  where
    by : (q : List ℕ) (t : Bool) → eq_by_cmp (slice_cmp nat_cmp) q n ≡ t → cond t (Some b) (get m q) ≡ get m q
    by q true e = sym (ap (get m) (tied_is q n e) ∙ is)
    by q false e = refl

-- a file with nothing more after its bytes
pub bytes_kept : (f : Option Files) (n : List ℕ) (o : Option (List ℕ)) → content f n ≡ o → IsSome o → with_file f n (bytes_or_none o ++ []) ≡ f
bytes_kept f n None is some = absurd (true≢false (sym some))
bytes_kept f n (Some b) is some = ap (with_file f n) (append-nil b) ∙ with_file_kept f n b is

-- nothing of the piece was put after a file that is there
pub nothing_appended : (f : Option Files) (n piece : List ℕ) → IsSome (content f n) → IsPartlyAppended f f n piece
nothing_appended f n piece some = ([], (piece, refl), sym (bytes_kept f n (content f n) refl some))
