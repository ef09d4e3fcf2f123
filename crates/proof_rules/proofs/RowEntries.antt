-- Entries of the index from variables to rows: how they are made, and the places that are found among them.
use Rattle.std.proofs.Common.{◌≡◌, ℕ, ◌+◌, ◌<◌, ◌≤◌, true, false, List, [], ◌∷◌, ◌++◌, map, length, get_or, eqb, arith, sym, ap, ◌∙◌, subst, ⊎_elim, leb}
use Rattle.std.specs.Ordering.{nat_cmp}
use Rattle.std.specs.List.{All, AllPairs, Contains, dedup}
use Rattle.std.specs.List.Sorted.{IsPartitionPoint, IsPermutation, IsSorted}
use Rattle.std.specs.List.Retain.{IsFiltered, DiffersFromLast}
use Rattle.std.proofs.lemmas.Bool.{cases_lt, eqb-true, leb-true, leb-false}
use Rattle.std.proofs.lemmas.List.{get_or_default}
use Rattle.std.proofs.lemmas.List.Elements.{All-contains, Contains-append_left, Contains-append_right, Contains-get_or, Contains-push}
use Rattle.std.proofs.lemmas.List.Filters.{dedup_is}
use Rattle.std.proofs.lemmas.List.Folds.{Any-from_list_any}
use Rattle.std.proofs.lemmas.List.Kept.{AllPairs-from_increasing, Contains-dedup_nat, Contains-from_dedup}
use Rattle.std.proofs.lemmas.List.Sorted.{Contains-permutation, IsPermutation-sym}
use Rattle.std.proofs.lemmas.Map.Keys.{IsStrictlyIncreasing-dedup}
use Rattle.scut_base.specs.Literal.{Literal}
use Rattle.scut_base.proofs.Lists.{Contains-map}
use Rattle.pb_lin.specs.Constraint.{ConstraintValue, literals}
use Rattle.pb_lin.specs.Place.{IsPlace}
use Rattle.pb_lin.specs.Substitution.{Images, has_image, touches}
use Rattle.pb_lin.specs.declared.witness.Image.{Image}
use Rattle.proof_rules.specs.RowIndex.{AreEntered, RowEntries}

-- ---- rows entered one after another

-- what literals of one place enter
abbrev pub entries_of : List Literal → ℕ → RowEntries
entries_of lits place = map (λ l. (l.var, place)) lits

-- the first rows are entered
abbrev pub RowsEntered : RowEntries → List ConstraintValue → ℕ → Type 0
RowsEntered entries rows n = (k : ℕ) (d : ConstraintValue) → k < n → AreEntered entries k (literals (get_or rows k d).terms)

own_entered : (entries : RowEntries) (place : ℕ) (lits : List Literal) → AreEntered (entries ++ entries_of lits place) place lits
own_entered entries place lits k d short =
    let enter : Literal → ℕ × ℕ = λ l. (l.var, place) in
    Contains-append_right entries (map enter lits) (enter (get_or lits k d)) (Contains-map enter lits (get_or lits k d) (Contains-get_or lits k d short))

entered_stays : (entries more : RowEntries) (place : ℕ) (lits : List Literal) → AreEntered entries place lits → AreEntered (entries ++ more) place lits
entered_stays entries more place lits is k d short = Contains-append_left entries more ((get_or lits k d).var, place) (is k d short)

-- one row more
pub rows_entered_more : (entries all : RowEntries) (rows : List ConstraintValue) (i : ℕ) (row : ConstraintValue) (lits : List Literal) → i < length rows → row ≡ get_or rows i row → lits ≡ literals row.terms →
    all ≡ entries ++ entries_of lits i → RowsEntered entries rows i → RowsEntered all rows (i + 1)
rows_entered_more entries all rows i row lits short is own made before k d less = subst (λ (es : RowEntries). AreEntered es k (literals (get_or rows k d).terms)) (sym made) (⊎_elim
    (λ (old : k < i). entered_stays entries (entries_of lits i) k (literals (get_or rows k d).terms) (before k d old))
    (λ (last : i ≤ k).
    let at : k ≡ i = omega arith in
    let here : get_or rows k d ≡ row = ap (λ (j : ℕ). get_or rows j d) at ∙ get_or_default rows i d row short ∙ sym is in
    let same : lits ≡ literals (get_or rows k d).terms = own ∙ ap (λ (c : ConstraintValue). literals c.terms) (sym here) in
    subst (λ (ls : List Literal). AreEntered (entries ++ entries_of lits i) k ls) same (subst (λ (j : ℕ). AreEntered (entries ++ entries_of lits i) j lits) (sym at) (own_entered entries i lits)))
    (cases_lt k i))

-- entries in another order enter the same
pub entered_sorted : (entries sorted : RowEntries) (place : ℕ) (lits : List Literal) → IsPermutation entries sorted → AreEntered entries place lits → AreEntered sorted place lits
entered_sorted entries sorted place lits moved is k d short = Contains-permutation entries sorted ((get_or lits k d).var, place) moved (is k d short)

-- ---- the entries of a variable

-- from the test that the variable isn't above
pub IsPlace-from_above : (entries : RowEntries) (var i : ℕ) → i ≤ length entries → IsPartitionPoint (λ e. leb e.0 var ≡ true) (λ e. leb e.0 var ≡ false) entries i → IsPlace (λ e. e.0) entries (var + 1) i
IsPlace-from_above entries var i bound point = record {
  bound = bound;
  below = λ k d h. let le = leb-true _ _ (point.0 k d (omega arith) h) in omega arith;
  above = λ k d h short. let lt = leb-false _ _ (point.1 k d h short) in omega arith;
}

-- the places below `rows` of the entries from one up to another are among these
abbrev pub ArePushed : RowEntries → ℕ → ℕ → ℕ → List ℕ → Type 0
ArePushed entries rows first end places = (j : ℕ) (d : ℕ × ℕ) → first ≤ j → j < end → (get_or entries j d).1 < rows → Contains places (get_or entries j d).1

-- one entry more, whose place is put after the others
pub pushed_more : (entries : RowEntries) (rows first i : ℕ) (places more : List ℕ) → i < length entries → more ≡ places ++ (get_or entries i (0, 0)).1 ∷ [] → ArePushed entries rows first i places → ArePushed entries rows first (i + 1) more
pushed_more entries rows first i places more short made before j d from less few = subst (λ (ks : List ℕ). Contains ks (get_or entries j d).1) (sym made) (⊎_elim
    (λ (old : j < i). Contains-append_left places ((get_or entries i (0, 0)).1 ∷ []) (get_or entries j d).1 (before j d from old few))
    (λ (last : i ≤ j).
    let at : j ≡ i = omega arith in
    let here : (get_or entries i (0, 0)).1 ≡ (get_or entries j d).1 = ap (λ (e : ℕ × ℕ). e.1) (get_or_default entries i (0, 0) d short ∙ ap (λ (k : ℕ). get_or entries k d) (sym at)) in
    subst (Contains (places ++ (get_or entries i (0, 0)).1 ∷ [])) here (Contains-push places (get_or entries i (0, 0)).1))
    (cases_lt j i))

-- one entry more, whose place isn't below `rows`
pub pushed_same : (entries : RowEntries) (rows first i : ℕ) (places : List ℕ) → i < length entries → rows ≤ (get_or entries i (0, 0)).1 → ArePushed entries rows first i places → ArePushed entries rows first (i + 1) places
pushed_same entries rows first i places short over before j d from less few = ⊎_elim
    (λ (old : j < i). before j d from old few)
    (λ (last : i ≤ j).
    let at : j ≡ i = omega arith in
    let here : (get_or entries i (0, 0)).1 ≡ (get_or entries j d).1 = ap (λ (e : ℕ × ℕ). e.1) (get_or_default entries i (0, 0) d short ∙ ap (λ (k : ℕ). get_or entries k d) (sym at)) in
    absurd (omega arith))
    (cases_lt j i)

-- these are all of the variable
pub pushed_all : (entries : RowEntries) (var rows first end i : ℕ) (places : List ℕ) → IsPlace (λ e. e.0) entries var first → IsPlace (λ e. e.0) entries (var + 1) end → end ≤ i → ArePushed entries rows first i places →
    (k : ℕ) → k < rows → Contains entries (var, k) → Contains places k
pushed_all entries var rows first end i places low high done pushed k few found =
    let e : ℕ × ℕ = (var, k) in
    let j = found.0 in
    let is : get_or entries j e ≡ e = found.2 in
    let own : (get_or entries j e).0 ≡ var = ap (λ (x : ℕ × ℕ). x.0) is in
    let place : (get_or entries j e).1 ≡ k = ap (λ (x : ℕ × ℕ). x.1) is in
    let from : first ≤ j = ⊎_elim (λ (less : j < first). absurd (let under = low.below j e less in omega arith)) (λ (more : first ≤ j). more) (cases_lt j first) in
    let upto : j < end = ⊎_elim (λ (less : j < end). less) (λ (more : end ≤ j). absurd (let over = high.above j e more found.1 in omega arith)) (cases_lt j end) in
    subst (Contains places) place (pushed j e from (omega arith) (omega arith))

-- ---- places sorted, and each kept once

module _ (xs ys zs : List ℕ) (moved : IsPermutation xs ys) (sorted : IsSorted nat_cmp ys) (filtered : IsFiltered (DiffersFromLast eqb) [] ys zs) where
  once : zs ≡ dedup eqb ys
  once = dedup_is eqb ys zs filtered

  pub rising_once : AllPairs (λ i j. i < j) zs
  rising_once = subst (AllPairs (λ i j. i < j)) (sym once) (AllPairs-from_increasing (dedup eqb ys) (IsStrictlyIncreasing-dedup ys sorted))

  pub kept_once : (k : ℕ) → Contains xs k → Contains zs k
  kept_once k there = subst (λ (ks : List ℕ). Contains ks k) (sym once) (Contains-dedup_nat ys k (Contains-permutation xs ys k moved there))

  pub within_once : (P : ℕ → Type 0) → All P xs → All P zs
  within_once P all k d short =
      let there = subst (λ (ks : List ℕ). Contains ks (get_or zs k d)) once (Contains-get_or zs k d short) in
      All-contains P xs (get_or zs k d) all (Contains-permutation ys xs (get_or zs k d) (IsPermutation-sym xs ys moved) (Contains-from_dedup eqb ys (get_or zs k d) there))

-- ---- the places that the images of a substitution find

-- the places below `rows` that are entered with the variable of one of the first images are among these
abbrev pub AreFound : Images → RowEntries → ℕ → ℕ → List ℕ → Type 0
AreFound w entries rows n places = (i : ℕ) (d : ℕ × Image) → i < n → (k : ℕ) → k < rows → Contains entries ((get_or w i d).0, k) → Contains places k

-- one image more
pub found_more : (w : Images) (entries own : RowEntries) (rows n : ℕ) (image : ℕ × Image) (places more : List ℕ) → n < length w → image ≡ get_or w n image → own ≡ entries → ((k : ℕ) → Contains places k → Contains more k) →
    ((k : ℕ) → k < rows → Contains own (image.0, k) → Contains more k) → AreFound w entries rows n places → AreFound w entries rows (n + 1) more
found_more w entries own rows n image places more short is same kept pushed found i d less k few there = ⊎_elim
    (λ (old : i < n). kept k (found i d old k few there))
    (λ (last : n ≤ i).
    let at : i ≡ n = omega arith in
    let here : get_or w i d ≡ image = ap (λ (j : ℕ). get_or w j d) at ∙ get_or_default w n d image short ∙ sym is in
    pushed k few (subst (λ (es : RowEntries). Contains es (image.0, k)) (sym same) (subst (λ (x : ℕ × Image). Contains entries (x.0, k)) here there)))
    (cases_lt i n)

-- a variable that has an image is that of one of these
pub found_all : (w : Images) (entries : RowEntries) (rows n : ℕ) (places : List ℕ) → length w ≤ n → AreFound w entries rows n places →
    (var k : ℕ) → has_image w var ≡ true → k < rows → Contains entries (var, k) → Contains places k
found_all w entries rows n places long found var k has few there =
    let own = Any-from_list_any (λ (i : ℕ × Image). eqb i.0 var) w has in
    let i : ℕ = own.0 in
    let d : ℕ × Image = own.1 in
    let at : get_or w i d ≡ d = own.3 in
    let same : (get_or w i d).0 ≡ var = ap (λ (x : ℕ × Image). x.0) at ∙ eqb-true d.0 var own.4 in
    found i d (let short : i < length w = own.2 in omega arith) k few (subst (λ (v : ℕ). Contains entries (v, k)) (sym same) there)

-- a touched row's place is found by one of its variables
pub touched_found : (w : Images) (c : ConstraintValue) (entries : RowEntries) (place : ℕ) → AreEntered entries place (literals c.terms) → touches w c ≡ true → (var : ℕ) × (has_image w var ≡ true) × Contains entries (var, place)
touched_found w c entries place entered touched =
    let lits = literals c.terms in
    let own = Any-from_list_any (λ (l : Literal). has_image w l.var) lits touched in
    let j : ℕ = own.0 in
    let l : Literal = own.1 in
    let at : get_or lits j l ≡ l = own.3 in
    (l.var, own.4, subst (λ (m : Literal). Contains entries (m.var, place)) at (entered j l own.2))
