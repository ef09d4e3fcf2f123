-- What a set of pairs stands for, where the assignments below a number were gone through.
use Rattle.std.proofs.Common.{◌≡◌, ℕ, ◌+◌, ◌<◌, Bool, List, [], ◌∷◌, ◌++◌, ℤ, ap, ap₂, ◌∙◌, subst, inl, inr, ◌⊎◌, arith}
use Rattle.std.specs.Prelude.{All, Contains}
use Rattle.std.proofs.lemmas.Bool.{cases_lt}
use Rattle.std.proofs.lemmas.List.Elements.{All-push, All-contains, All-weaker, Contains-append_left, Contains-push}
use Rattle.front_set.specs.declared.entry.Entry.{Entry}
use Rattle.front_set.specs.Front.{StandsFor}
use Rattle.instance.specs.Shape.{InstanceValue}
use Rattle.instance.specs.Meaning.{IsModel, costs_of}
use Rattle.instance.specs.ParetoFront.{problem_vector, IsProblemVector, AreProblemVectors}
use Rattle.search_base.specs.Boards.{IsModelPair}
use Rattle.command_front.specs.Enumeration.{assignment_of, pair_of, StandsForModels}

-- an assignment that is a model was inserted
pub one_model_more : (i : InstanceValue) (old new : List Entry) (p : Entry) (k : ℕ) → StandsForModels i old k → ((pairs : List Entry) → StandsFor old pairs → StandsFor new (pairs ++ p ∷ [])) → p.model ≡ assignment_of i.vars k → IsModelPair i p → StandsForModels i new (k + 1)
one_model_more i old new p k so_far inserted numbered pair = record {
  pairs = so_far.pairs ++ p ∷ [];
  stands = inserted so_far.pairs so_far.stands;
  sound = All-push (IsModelPair i) so_far.pairs p so_far.sound pair;
  complete = λ j less model. by j (cases j less) model;
}
  where
    cases : (j : ℕ) → j < k + 1 → (j < k) ⊎ (k ≡ j)
    cases j less = elim (cases_lt j k) [ inl small ↦ inl small | inr large ↦ inr (omega arith) ]

    by : (j : ℕ) → (j < k) ⊎ (k ≡ j) → IsModel i (assignment_of i.vars j) → Contains (so_far.pairs ++ p ∷ []) (pair_of i (assignment_of i.vars j))
    by j (inl less) model = Contains-append_left so_far.pairs (p ∷ []) _ (so_far.complete j less model)
    by j (inr same) model =
        let is : p ≡ pair_of i (assignment_of i.vars j) = whole p (pair_of i (assignment_of i.vars j)) (pair.costs ∙ ap (λ a. problem_vector i (costs_of i a)) (numbered ∙ ap (assignment_of i.vars) same)) (numbered ∙ ap (assignment_of i.vars) same) in
        subst (Contains (so_far.pairs ++ p ∷ [])) is (Contains-push so_far.pairs p)
      where
        whole : (e f : Entry) → e.costs ≡ f.costs → e.model ≡ f.model → e ≡ f
        whole e f same_costs same_model = ap₂ (λ (v : List ℤ) (a : List Bool). let r : Entry = record { costs = v; model = a } in r) same_costs same_model

-- each entry is a model with the problem's vector of its costs
pub entries_are_models : (i : InstanceValue) (entries : List Entry) (k : ℕ) → StandsForModels i entries k → All (IsModelPair i) entries
entries_are_models i entries k so_far = All-weaker (Contains so_far.pairs) (IsModelPair i) (λ e there. All-contains (IsModelPair i) so_far.pairs e so_far.sound there) entries so_far.stands.inserted

pub entries_are_bounded : (i : InstanceValue) (entries : List Entry) (k : ℕ) → StandsForModels i entries k → AreProblemVectors i entries
entries_are_bounded i entries k so_far = All-weaker (IsModelPair i) (λ (e : Entry). IsProblemVector i e.costs) (λ e pair. pair.bounds) entries (entries_are_models i entries k so_far)
