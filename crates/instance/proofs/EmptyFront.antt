-- A front is empty exactly where there is no model.
use Rattle.std.proofs.Common.{◌≡◌, ℕ, Bool, true, List, [], ◌∷◌, length, map, ℤ, ◌↔◌, refl, sym, ap, ◌∙◌, subst}
use Rattle.std.specs.Prelude.{◌&&◌, Contains}
use Rattle.std.specs.List.{filter, list_all}
use Rattle.std.proofs.lemmas.Bool.{and_parts, and_from}
use Rattle.std.proofs.lemmas.List.{length-map}
use Rattle.front_set.specs.declared.entry.Entry.{Entry}
use Rattle.front_set.specs.Front.{vectors_of, IsMinimalOf}
use Rattle.scut_base.proofs.Lists.{Contains-nil, Contains-head, Contains-map, Contains-from_map, Contains-filter, Contains-from_filter}
use Rattle.front_set.proofs.Minimal.{minimal_below}
use Rattle.instance.specs.Shape.{InstanceValue}
use Rattle.instance.specs.Meaning.{IsModel, costs_of, clause_true, row_holds, objective_cost}
use Rattle.instance.specs.ParetoFront.{IsFront, IsOnFront, problem_vector}
use Rattle.instance.proofs.Dominance.{problem_numbers-injective, weakly_dominates-is_below}
use Rattle.instance.proofs.Assignments.{assignments, among_assignments, length_among_assignments}

-- whether every clause is true and every row holds
abbrev satisfies : InstanceValue → List Bool → Bool
satisfies i a = list_all (clause_true a) i.clauses && list_all (row_holds a) i.linear

-- an assignment with the problem's vector of its costs
abbrev pair_of : InstanceValue → List Bool → Entry
pair_of i a = record { costs = problem_vector i (costs_of i a); model = a }

-- the pairs of all models
abbrev model_pairs : InstanceValue → List Entry
model_pairs i = map (pair_of i) (filter (satisfies i) (assignments i.vars))

satisfies_model : (i : InstanceValue) (a : List Bool) → IsModel i a → satisfies i a ≡ true
satisfies_model i a model = and_from (list_all (clause_true a) i.clauses) (list_all (row_holds a) i.linear) model.clauses model.rows

-- each model is among the assignments that satisfy the instance
model_among : (i : InstanceValue) (a : List Bool) → IsModel i a → Contains (filter (satisfies i) (assignments i.vars)) a
model_among i a model = Contains-filter (satisfies i) (assignments i.vars) a (subst (λ (n : ℕ). Contains (assignments n) a) model.variables (among_assignments a)) (satisfies_model i a model)

vector_among : (i : InstanceValue) (a : List Bool) → IsModel i a → Contains (vectors_of (model_pairs i)) (problem_vector i (costs_of i a))
vector_among i a model = Contains-map (λ (e : Entry). e.costs) (model_pairs i) (pair_of i a) (Contains-map (pair_of i) (filter (satisfies i) (assignments i.vars)) a (model_among i a model))

-- each of these vectors is that of a model
model_of_vector : (i : InstanceValue) (v : List ℤ) → Contains (vectors_of (model_pairs i)) v → (a : List Bool) × IsModel i a × (problem_vector i (costs_of i a) ≡ v)
model_of_vector i v among =
    let pair = Contains-from_map (λ (e : Entry). e.costs) (model_pairs i) v among in
    let found = Contains-from_map (pair_of i) (filter (satisfies i) (assignments i.vars)) pair.0 pair.1 in
    let kept = Contains-from_filter (satisfies i) (assignments i.vars) found.0 found.1 in
    let holds = and_parts (list_all (clause_true found.0) i.clauses) (list_all (row_holds found.0) i.linear) kept.1 in (
      found.0,
      record { variables = length_among_assignments i.vars found.0 kept.0; clauses = holds.0; rows = holds.1 },
      ap (λ (e : Entry). e.costs) found.2 ∙ pair.2,
    )

length-costs_of : (i : InstanceValue) (a : List Bool) → length (costs_of i a) ≡ length i.objectives
length-costs_of i a = length-map i.objectives (objective_cost a)

-- a model whose vector is minimal has costs on the front
on_front : (i : InstanceValue) (b : List Bool) → IsModel i b → IsMinimalOf (model_pairs i) (problem_vector i (costs_of i b)) → IsOnFront i (costs_of i b)
on_front i b model minimal = record {
  reached = (b, model, refl);
  undominated = λ a here dominates. minimal.least (problem_vector i (costs_of i a)) (vector_among i a here) (
    sym (weakly_dominates-is_below i.objectives (costs_of i a) (costs_of i b) (length-costs_of i a) (length-costs_of i b)) ∙ dominates.0,
    λ same. dominates.1 (problem_numbers-injective i.objectives (costs_of i a) (costs_of i b) same),
  );
}

empty_where_no_model : (i : InstanceValue) (entries : List Entry) → IsFront i entries → ((a : List Bool) → IsModel i a → ⊥) → entries ≡ []
empty_where_no_model i [] front none = refl
empty_where_no_model i (e ∷ entries) front none =
    let on = (front.exact e.costs).0 (Contains-head e.costs (vectors_of entries)) in
    absurd (none on.reached.0 on.reached.1)

-- below the vector of a model there is a minimal one, and that is on the front
no_model_where_empty : (i : InstanceValue) (entries : List Entry) → IsFront i entries → entries ≡ [] → (a : List Bool) → IsModel i a → ⊥
no_model_where_empty i entries front empty a model =
    let low = minimal_below (model_pairs i) (problem_vector i (costs_of i a)) (vector_among i a model) in
    let found = model_of_vector i low.0 low.1.among in
    let minimal : IsMinimalOf (model_pairs i) (problem_vector i (costs_of i found.0)) = subst (IsMinimalOf (model_pairs i)) (sym found.2) low.1 in
    let there = (front.exact (costs_of i found.0)).1 (on_front i found.0 found.1 minimal) in
    Contains-nil (costs_of i found.0) (subst (λ (es : List Entry). Contains (vectors_of es) (costs_of i found.0)) empty there)

pub empty_exactly : (i : InstanceValue) (entries : List Entry) → IsFront i entries → (entries ≡ []) ↔ ((a : List Bool) → IsModel i a → ⊥)
empty_exactly i entries front = (no_model_where_empty i entries front, empty_where_no_model i entries front)
