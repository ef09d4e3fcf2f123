-- The levels of a list's literals, as they are collected and counted.
use Rattle.std.proofs.Common.{◌≡◌, ⊎_elim, ℕ, ◌+◌, ◌<◌, ◌≤◌, None, List, [], ◌∷◌, ◌++◌, length, get_or, All, eqb, arith, sym, ap, ◌∙◌, subst}
use Rattle.std.specs.Prelude.{Contains, IsSorted, IsPermutation}
use Rattle.std.specs.Ordering.{nat_cmp}
use Rattle.std.specs.List.{dedup}
use Rattle.std.specs.List.Retain.{IsFiltered, DiffersFromLast}
use Rattle.std.proofs.lemmas.Bool.{cases_lt}
use Rattle.std.proofs.lemmas.List.{get_or_default}
use Rattle.std.proofs.lemmas.List.Elements.{All-push, Contains-append_left, Contains-push}
use Rattle.std.proofs.lemmas.List.Filters.{All-dedup, dedup_is}
use Rattle.std.proofs.lemmas.List.Kept.{AllPairs-from_increasing, Contains-dedup_nat}
use Rattle.std.proofs.lemmas.List.Sorted.{All-permutation, Contains-permutation}
use Rattle.std.proofs.lemmas.Map.Keys.{IsStrictlyIncreasing-dedup}
use Rattle.scut_base.specs.Literal.{Literal}
use Rattle.scut_base.specs.Assignment.{partial_truth}
use Rattle.clause_prop.specs.Steps.{TrailValue, AreSteps, partial}
use Rattle.clause_prop.specs.declared.step.Step.{Step}
use Rattle.cdcl_state.proofs.TrailSteps.{no_step, place_same, step_same}
use Rattle.cdcl_state.specs.Searching.{IsLevelOf}
use Rattle.cdcl_core.specs.Levels.{AreLevels, IsLevelCount}

-- the level of one of these literals
abbrev pub IsAmong : TrailValue → List Literal → ℕ → Type 0
IsAmong t lits level = (l : Literal) × Contains lits l × IsLevelOf t l level

-- the levels of the first literals
pub record AreLevelsTo (t : TrailValue) (lits : List Literal) (i : ℕ) (levels : List ℕ) : Type 0 where
  pub found : All (IsAmong t lits) levels
  pub all : (k : ℕ) (l : Literal) (level : ℕ) → k < i → k < length lits → get_or lits k l ≡ l → IsLevelOf t l level → Contains levels level

level_same : (t : TrailValue) (l : Literal) (a b : ℕ) → AreSteps t.vars t.steps → IsLevelOf t l a → IsLevelOf t l b → a ≡ b
level_same t l a b steps one other =
    let place = place_same t one.place other.place one.step other.step steps one.there other.there (one.variable ∙ sym other.variable) in
    sym one.is ∙ ap (λ (s : Step). s.level) (step_same t one.place other.place one.step other.step one.there other.there place) ∙ other.is

-- at one place there is one literal
literal_same : (lits : List Literal) (i k : ℕ) (l m : Literal) → k ≡ i → k < length lits → l ≡ get_or lits i l → get_or lits k m ≡ m → m ≡ l
literal_same lits i k l m same inside first second =
    let read : get_or lits i m ≡ get_or lits i l = get_or_default lits i m l (omega (arith, same, inside)) in
    sym second ∙ ap (λ (n : ℕ). get_or lits n m) same ∙ read ∙ sym first

pub with_level : (t : TrailValue) (lits : List Literal) (i : ℕ) (levels now : List ℕ) (l : Literal) (level : ℕ) → AreSteps t.vars t.steps → i < length lits → l ≡ get_or lits i l
    → IsLevelOf t l level → now ≡ levels ++ level ∷ [] → AreLevelsTo t lits i levels → AreLevelsTo t lits (i + 1) now
with_level t lits i levels now l level steps inside here is pushed old = subst (AreLevelsTo t lits (i + 1)) (sym pushed) (record {
  found = All-push (IsAmong t lits) levels level old.found (l, (i, inside, sym here), is);
  all = λ k m other less within there at. ⊎_elim
      (λ (before : k < i). Contains-append_left levels (level ∷ []) other (old.all k m other before within there at))
      (λ (last : i ≤ k).
      let same : m ≡ l = literal_same lits i k l m (omega (arith, less, last)) within here there in
      let equal : level ≡ other = level_same t l level other steps is (subst (λ (x : Literal). IsLevelOf t x other) same at) in
      subst (Contains (levels ++ level ∷ [])) equal (Contains-push levels level))
      (cases_lt k i);
})

pub without_level : (t : TrailValue) (lits : List Literal) (i : ℕ) (levels : List ℕ) (l : Literal) → AreSteps t.vars t.steps → i < length lits → l ≡ get_or lits i l
    → partial_truth (partial t) l ≡ None → AreLevelsTo t lits i levels → AreLevelsTo t lits (i + 1) levels
without_level t lits i levels l steps inside here is_open old = record {
  found = old.found;
  all = λ k m other less within there at. ⊎_elim
      (λ (before : k < i). old.all k m other before within there at)
      (λ (last : i ≤ k).
      let same : m ≡ l = literal_same lits i k l m (omega (arith, less, last)) within here there in
      absurd (no_step t l at.place at.step steps is_open at.there (at.variable ∙ ap (λ (x : Literal). x.var) same)))
      (cases_lt k i);
}

pub none_yet : (t : TrailValue) (lits : List Literal) (levels : List ℕ) → levels ≡ [] → AreLevelsTo t lits 0 levels
none_yet t lits levels none = subst (AreLevelsTo t lits 0) (sym none) (record {
  found = λ k d less. absurd (let below : k < 0 = less in omega arith);
  all = λ k l level less within there at. absurd (let below : k < 0 = less in omega arith);
})

pub all_levels : (t : TrailValue) (lits : List Literal) (i : ℕ) (levels : List ℕ) → length lits ≤ i → AreLevelsTo t lits i levels → AreLevels t lits levels
all_levels t lits i levels past are = record {
  found = are.found;
  all = λ l level (k, inside, at) is. are.all k l level (omega (arith, inside, past)) inside at is;
}

-- sorted, and each once
pub counted : (t : TrailValue) (lits : List Literal) (levels sorted kept : List ℕ) (n : ℕ) → AreLevels t lits levels → IsPermutation levels sorted → IsSorted nat_cmp sorted
    → IsFiltered (DiffersFromLast eqb) [] sorted kept → n ≡ length kept → IsLevelCount t lits n
counted t lits levels sorted kept n are moved order filtered count =
    let same : kept ≡ dedup eqb sorted = dedup_is eqb sorted kept filtered in
    record {
      levels = dedup eqb sorted;
      are = record {
        found = All-dedup eqb (IsAmong t lits) sorted (All-permutation (IsAmong t lits) levels sorted moved are.found);
        all = λ l level among is. Contains-dedup_nat sorted level (Contains-permutation levels sorted level moved (are.all l level among is));
      };
      rising = AllPairs-from_increasing (dedup eqb sorted) (IsStrictlyIncreasing-dedup sorted order);
      count = count ∙ ap length same;
    }
