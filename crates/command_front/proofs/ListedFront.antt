-- What is listed of a set that stands for all models is the front.
use Rattle.std.proofs.Common.{◌≡◌, ℕ, ◌<◌, ◌^◌, Bool, List, length, map, ℤ, sym, ap, ◌∙◌, subst}
use Rattle.std.specs.Prelude.{All, Contains, IfOk, Result, Ok, Err, Vec}
use Rattle.std.specs.declared.alloc.Global.{Global}
use Rattle.std.specs.List.Sorted.{IsPermutation}
use Rattle.std.proofs.lemmas.List.{length-map}
use Rattle.std.proofs.lemmas.List.Elements.{All-weaker, All-contains}
use Rattle.std.proofs.lemmas.List.Sorted.{All-permutation, Contains-permutation, IsPermutation-sym}
use Rattle.front_set.specs.declared.entry.Entry.{Entry}
use Rattle.front_set.specs.Vector.{IsStrictlyBelow, AreRising}
use Rattle.front_set.specs.Front.{IsMinimalOf, vectors_of}
use Rattle.scut_base.proofs.Lists.{Contains-from_map, Contains-map}
use Rattle.instance.specs.Shape.{InstanceValue}
use Rattle.instance.specs.Meaning.{IsModel, costs_of, objective_cost}
use Rattle.instance.specs.ParetoFront.{problem_vector, listed_entry, IsFront, IsOnFront, Dominates}
use Rattle.instance.proofs.Dominance.{problem_numbers-twice, problem_numbers-injective, weakly_dominates-is_below}
use Rattle.log_checker.specs.Accepted.{IsRightModel}
use Rattle.search_base.specs.Boards.{IsModelPair}
use Rattle.certified_front.proofs.ListedModels.{right_models}
use Rattle.command_front.specs.Enumeration.{assignment_of, pair_of, StandsForModels}
use Rattle.command_front.proofs.Numbered.{number_of, number-small, assignment-number}
use Rattle.command_front.proofs.Enumerated.{entries_are_models}

-- a pair of a model and its costs, as the instance has them
abbrev IsListed : InstanceValue → Entry → Type 0
IsListed i e = IsModel i e.model × (costs_of i e.model ≡ e.costs)

listed_models : (i : InstanceValue) (entries : List Entry) → All (IsModelPair i) entries → All (IsListed i) (map (listed_entry i) entries)
listed_models i entries pairs = All-weaker (IsRightModel i) (IsListed i) (λ e right. (right.model, right.costs)) (map (listed_entry i) entries) (right_models i entries pairs)

-- to dominate is to be strictly below, in the vectors of the problem
strictly_below : (i : InstanceValue) (u v : List ℤ) → length u ≡ length i.objectives → length v ≡ length i.objectives → Dominates i u v → IsStrictlyBelow (problem_vector i u) (problem_vector i v)
strictly_below i u v p q dominates = (sym (weakly_dominates-is_below i.objectives u v p q) ∙ dominates.0, λ same. dominates.1 (problem_numbers-injective i.objectives u v same))

dominates_from_below : (i : InstanceValue) (u v : List ℤ) → length u ≡ length i.objectives → length v ≡ length i.objectives → IsStrictlyBelow (problem_vector i u) (problem_vector i v) → Dominates i u v
dominates_from_below i u v p q below = (weakly_dominates-is_below i.objectives u v p q ∙ below.0, λ same. below.1 (ap (problem_vector i) same))

costs_length : (i : InstanceValue) (a : List Bool) → length (costs_of i a) ≡ length i.objectives
costs_length i a = length-map i.objectives (objective_cost a)

-- every model has a pair
pair_of_model : (i : InstanceValue) (entries : List Entry) (all : StandsForModels i entries (2 ^ i.vars)) (a : List Bool) → IsModel i a → Contains all.pairs (pair_of i a)
pair_of_model i entries all a model =
    let small : number_of a < 2 ^ i.vars = subst (λ (n : ℕ). number_of a < 2 ^ n) model.variables (number-small a) in
    let same : assignment_of i.vars (number_of a) ≡ a = ap (λ n. assignment_of n (number_of a)) (sym model.variables) ∙ assignment-number a in
    subst (λ (b : List Bool). Contains all.pairs (pair_of i b)) same (all.complete (number_of a) small (subst (λ (b : List Bool). IsModel i b) (sym same) model))

-- a vector is on the front exactly where the problem's vector is minimal
on_front_from_minimal : (i : InstanceValue) (entries : List Entry) (all : StandsForModels i entries (2 ^ i.vars)) (v : List ℤ) → IsMinimalOf all.pairs (problem_vector i v) → IsOnFront i v
on_front_from_minimal i entries all v minimal =
    let found = Contains-from_map (λ (e : Entry). e.costs) all.pairs (problem_vector i v) minimal.among in
    let pair : IsModelPair i found.0 = All-contains (IsModelPair i) all.pairs found.0 all.sound found.1 in
    let costs : costs_of i found.0.model ≡ v = problem_numbers-injective i.objectives _ _ (sym pair.costs ∙ found.2) in
    record {
      reached = (found.0.model, pair.model, costs);
      undominated = λ b model dominates.
          let length_v : length v ≡ length i.objectives = sym (ap length costs) ∙ costs_length i found.0.model in
          minimal.least (problem_vector i (costs_of i b)) (Contains-map (λ (e : Entry). e.costs) all.pairs (pair_of i b) (pair_of_model i entries all b model)) (strictly_below i (costs_of i b) v (costs_length i b) length_v dominates);
    }

minimal_from_on_front : (i : InstanceValue) (entries : List Entry) (all : StandsForModels i entries (2 ^ i.vars)) (v : List ℤ) → IsOnFront i v → IsMinimalOf all.pairs (problem_vector i v)
minimal_from_on_front i entries all v on_front =
    let a : List Bool = on_front.reached.0 in
    let costs : costs_of i a ≡ v = on_front.reached.2 in
    let length_v : length v ≡ length i.objectives = sym (ap length costs) ∙ costs_length i a in
    record {
      among = subst (λ (w : List ℤ). Contains (vectors_of all.pairs) (problem_vector i w)) costs (Contains-map (λ (e : Entry). e.costs) all.pairs (pair_of i a) (pair_of_model i entries all a on_front.reached.1));
      least = λ u among below.
          let found = Contains-from_map (λ (e : Entry). e.costs) all.pairs u among in
          let pair : IsModelPair i found.0 = All-contains (IsModelPair i) all.pairs found.0 all.sound found.1 in
          let is : u ≡ problem_vector i (costs_of i found.0.model) = sym found.2 ∙ pair.costs in
          on_front.undominated found.0.model pair.model
          (dominates_from_below i (costs_of i found.0.model) v (costs_length i found.0.model) length_v (subst (λ (w : List ℤ). IsStrictlyBelow w (problem_vector i v)) is below));
    }

-- a vector is listed exactly where the problem's vector is that of an entry
entry_from_listed : (i : InstanceValue) (entries listed : List Entry) → IsPermutation (map (listed_entry i) entries) listed → (v : List ℤ) → Contains (vectors_of listed) v → Contains (vectors_of entries) (problem_vector i v)
entry_from_listed i entries listed permuted v there =
    let found = Contains-from_map (λ (e : Entry). e.costs) listed v there in
    let before : Contains (map (listed_entry i) entries) found.0 = Contains-permutation listed (map (listed_entry i) entries) found.0 (IsPermutation-sym _ _ permuted) found.1 in
    let origin = Contains-from_map (listed_entry i) entries found.0 before in
    let is : origin.0.costs ≡ problem_vector i v = sym (problem_numbers-twice i.objectives origin.0.costs) ∙ ap (problem_vector i) (ap (λ (e : Entry). e.costs) origin.2 ∙ found.2) in
    subst (Contains (vectors_of entries)) is (Contains-map (λ (e : Entry). e.costs) entries origin.0 origin.1)

listed_from_entry : (i : InstanceValue) (entries listed : List Entry) → IsPermutation (map (listed_entry i) entries) listed → (v : List ℤ) → Contains (vectors_of entries) (problem_vector i v) → Contains (vectors_of listed) v
listed_from_entry i entries listed permuted v there =
    let found = Contains-from_map (λ (e : Entry). e.costs) entries (problem_vector i v) there in
    let after : Contains listed (listed_entry i found.0) = Contains-permutation (map (listed_entry i) entries) listed (listed_entry i found.0) permuted (Contains-map (listed_entry i) entries found.0 found.1) in
    let is : problem_vector i found.0.costs ≡ v = ap (problem_vector i) found.2 ∙ problem_numbers-twice i.objectives v in
    subst (Contains (vectors_of listed)) is (Contains-map (λ (e : Entry). e.costs) listed (listed_entry i found.0) after)

pub front_from_models : (i : InstanceValue) (entries listed : List Entry) → StandsForModels i entries (2 ^ i.vars) → IsPermutation (map (listed_entry i) entries) listed → AreRising (vectors_of listed) → IsFront i listed
front_from_models i entries listed all permuted rising = record {
  rising = rising;
  exact = λ v. (
    (λ there. on_front_from_minimal i entries all v ((all.stands.minimal (problem_vector i v)).0 (entry_from_listed i entries listed permuted v there))),
    (λ on_front. listed_from_entry i entries listed permuted v ((all.stands.minimal (problem_vector i v)).1 (minimal_from_on_front i entries all v on_front))),
  );
  models = All-permutation (IsListed i) (map (listed_entry i) entries) listed permuted (listed_models i entries (entries_are_models i entries _ all));
}

-- the same of an answer that may want memory
pub listed_is_front : {E : Type 0} (i : InstanceValue) (entries : List Entry) (r : Result (Vec Entry Global) E) → StandsForModels i entries (2 ^ i.vars) → IfOk r (λ v. IsPermutation (map (listed_entry i) entries) v.items) → IfOk r (λ v. AreRising (vectors_of v.items)) → IfOk r (λ v. IsFront i v.items)
listed_is_front i entries (Ok v) all permuted rising = front_from_models i entries v.items all permuted rising
listed_is_front i entries (Err e) all permuted rising = tt
