-- What is listed of a board's entries.
use Rattle.std.proofs.Common.{◌≡◌, ◌<◌, List, length, map, get_or, ℤ, sym, ap, ap₂, ◌∙◌, subst, arith}
use Rattle.std.specs.Prelude.{All, AllPairs, Contains}
use Rattle.std.specs.List.Sorted.{IsPermutation}
use Rattle.std.proofs.lemmas.List.{length-map, get_or-map}
use Rattle.std.proofs.lemmas.List.Elements.{All-weaker, All-map}
use Rattle.std.proofs.lemmas.List.Sorted.{All-permutation, Contains-permutation}
use Rattle.scut_base.proofs.Lists.{AllPairs-permutation, Contains-map}
use Rattle.front_set.specs.declared.entry.Entry.{Entry}
use Rattle.front_set.specs.Vector.{is_below, AreRising, IsBelow}
use Rattle.front_set.specs.Front.{vectors_of, AreIncomparable as NoneIsBelow}
use Rattle.instance.specs.Shape.{InstanceValue}
use Rattle.instance.specs.Meaning.{costs_of}
use Rattle.instance.specs.ParetoFront.{problem_vector, listed_entry, WeaklyDominates, AreProblemVectors, IsProblemVector}
use Rattle.instance.proofs.Dominance.{bounds_kept, length-problem_numbers, problem_numbers-twice, weakly_dominates-is_below}
use Rattle.log_checker.specs.Accepted.{AreIncomparable, IsCovered, IsRightList, IsRightModel, problem_vectors}
use Rattle.search_base.specs.Boards.{IsModelPair}

module _ (i : InstanceValue) where
  twice : (u : List ℤ) → problem_vector i (problem_vector i u) ≡ u
  twice u = problem_numbers-twice i.objectives u

  -- a pair of a model, as the instance has it
  right_model : (e : Entry) → IsModelPair i e → IsRightModel i (listed_entry i e)
  right_model e pair = record { model = pair.model; costs = sym (twice (costs_of i e.model)) ∙ ap (problem_vector i) (sym pair.costs) }

  pub right_models : (entries : List Entry) → All (IsModelPair i) entries → All (IsRightModel i) (map (listed_entry i) entries)
  right_models entries pairs = All-map (IsRightModel i) (listed_entry i) entries
      (All-weaker (IsModelPair i) (λ (e : Entry). IsRightModel i (listed_entry i e)) right_model entries pairs)

  vector_length : (e : Entry) → IsModelPair i e → length (problem_vector i e.costs) ≡ length i.objectives
  vector_length e pair = length-problem_numbers i.objectives e.costs ∙ pair.bounds.numbers

  -- where one vector isn't below another, its costs don't weakly dominate the other's
  not_dominated : (e f : Entry) → IsModelPair i e → IsModelPair i f → (IsBelow e.costs f.costs → ⊥) → WeaklyDominates i (problem_vector i e.costs) (problem_vector i f.costs) → ⊥
  not_dominated e f pair other none dominates = none
      (ap₂ is_below (sym (twice e.costs)) (sym (twice f.costs))
      ∙ sym (weakly_dominates-is_below i.objectives (problem_vector i e.costs) (problem_vector i f.costs) (vector_length e pair) (vector_length f other))
      ∙ dominates)

  abbrev AreApart : Entry → Entry → Type 0
  AreApart e f = AreIncomparable i e.costs f.costs

  apart : (entries : List Entry) → All (IsModelPair i) entries → NoneIsBelow entries → AllPairs AreApart (map (listed_entry i) entries)
  apart entries pairs once = λ m n d less below.
      let within : n < length entries = omega (arith, length-map entries (listed_entry i)) in
      let e : Entry = get_or entries m d in
      let f : Entry = get_or entries n d in
      let first : get_or (map (listed_entry i) entries) m d ≡ listed_entry i e = get_or-map (listed_entry i) entries m d d (omega arith) in
      let second : get_or (map (listed_entry i) entries) n d ≡ listed_entry i f = get_or-map (listed_entry i) entries n d d within in
      let pair : IsModelPair i e = pairs m d (omega arith) in
      let other : IsModelPair i f = pairs n d within in
      let none = once m n d less within in
      subst (λ (x : Entry). AreApart x (get_or (map (listed_entry i) entries) n d)) (sym first)
      (subst (λ (y : Entry). AreApart (listed_entry i e) y) (sym second)
      (record { first = not_dominated e f pair other none.0; second = not_dominated f e other pair none.1 }))

  swapped : (e f : Entry) → AreApart e f → AreApart f e
  swapped e f are = record { first = are.second; second = are.first }

  module _ (entries listed : List Entry) (pairs : All (IsModelPair i) entries) (permuted : IsPermutation (map (listed_entry i) entries) listed) where
    pub right_list : NoneIsBelow entries → AreRising (vectors_of listed) → IsRightList i listed
    right_list once rising = record {
      models = All-permutation (IsRightModel i) (map (listed_entry i) entries) listed permuted (right_models entries pairs);
      rising = rising;
      incomparable = AllPairs-permutation AreApart swapped (map (listed_entry i) entries) listed permuted (apart entries pairs once);
    }

    pub listed_vectors : AreProblemVectors i listed
    listed_vectors = All-permutation (λ (e : Entry). IsProblemVector i e.costs) (map (listed_entry i) entries) listed permuted
        (All-map (λ (e : Entry). IsProblemVector i e.costs) (listed_entry i) entries
        (All-weaker (IsModelPair i) (λ (e : Entry). IsProblemVector i (problem_vector i e.costs)) (λ e pair. bounds_kept i e.costs pair.bounds) entries pairs))

    -- what an entry is below is covered
    covered_by : (v : List ℤ) → ((e : Entry) × Contains entries e × IsBelow e.costs v) → IsCovered (problem_vectors i listed) v
    covered_by v found =
        let there : Contains listed (listed_entry i found.0) = Contains-permutation (map (listed_entry i) entries) listed (listed_entry i found.0) permuted (Contains-map (listed_entry i) entries found.0 found.1) in
        let vector : Contains (problem_vectors i listed) (problem_vector i (problem_vector i found.0.costs)) = Contains-map (λ (e : Entry). problem_vector i e.costs) listed (listed_entry i found.0) there in
        (found.0.costs, subst (Contains (problem_vectors i listed)) (twice found.0.costs) vector, found.2)

    pub all_covered : (vectors : List (List ℤ)) → All (λ v. (e : Entry) × Contains entries e × IsBelow e.costs v) vectors → All (IsCovered (problem_vectors i listed)) vectors
    all_covered vectors below = All-weaker (λ (v : List ℤ). (e : Entry) × Contains entries e × IsBelow e.costs v) (IsCovered (problem_vectors i listed)) covered_by vectors below
