-- Models of the bounded problem, and models that serve a vector.
use Rattle.std.specs.Prelude.{◌≡◌, ◌≢◌, ◌⊎◌, ℕ, ◌≤◌, Bool, true, false, not, List, [], ◌∷◌, ◌++◌, map, length, take, All, Contains, ℤ, ◌≤ℤ◌, int_lt, refl}
use Rattle.std.proofs.Common.{sym, ◌∙◌, ap, subst, inl, inr, ⊎_elim, arith}
use Rattle.std.proofs.lemmas.Int.{ints}
use Rattle.std.proofs.lemmas.Bool.{and_parts, and_from, cases_Bool}
use Rattle.std.proofs.lemmas.List.{length-map}
use Rattle.std.proofs.lemmas.List.Elements.{All-nil, All-cons, All-head, All-tail, All-append, All-contains}
use Rattle.scut_base.proofs.Lists.{Contains-head, Contains-cons, Contains-cons_cases, Contains-map, head_same, tail_same}
use Rattle.front_set.specs.declared.entry.Entry.{Entry}
use Rattle.front_set.specs.Vector.{is_below, IsBelow}
use Rattle.front_set.proofs.FrontLaws.{IsBelow-refl, IsBelow-trans, IsBelow-antisym}
use Rattle.instance.specs.Shape.{InstanceValue}
use Rattle.instance.specs.Meaning.{IsModel, costs_of, objective_cost}
use Rattle.instance.specs.ParetoFront.{weakly_dominates, problem_vector}
use Rattle.instance.proofs.Dominance.{weakly_dominates-is_below, problem_numbers-injective}
use Rattle.instance_normal.specs.Tightened.{tightened}
use Rattle.instance_normal.proofs.Members.{all_split}
use Rattle.instance_normal.proofs.Models.{model_extends, model_restricts}
use Rattle.pb_lin.specs.Constraint.{ConstraintValue, Holds}
use Rattle.pb_lin.specs.CostRow.{CostRowValue, row_cost}
use Rattle.pb_lin.specs.Problem.{ProblemValue, IsProblemModel, problem_costs}
use Rattle.representatives.specs.Bounded.{AreCostBounds, IsBounded, blocking}
use Rattle.representatives.specs.Laws.{AreGiven, BoundedModelServes, EndedLogListsAll, FrontIsServedExactly}
use Rattle.representatives.specs.Representatives.{Serves}
use Rattle.representatives.proofs.Bounds.{bound_law}
use Rattle.representatives.proofs.Blocking.{blocking_law}
use Rattle.representatives.proofs.Ended.{ended_empty_law}
use Rattle.representatives.proofs.Limits.{bounded_within}

-- ---- bounds

at_most : (x y : ℤ) → not (int_lt y x) ≡ true → x ≤ℤ y
at_most x y is = grind (arith, ints)

not_above : (x y : ℤ) → x ≤ℤ y → not (int_lt y x) ≡ true
not_above x y le = grind (arith, ints)

-- the bounds hold where the costs are below
bounds_hold : (b : List Bool) (rs : List CostRowValue) (us : List ℤ) (cs : List ConstraintValue) → AreCostBounds rs us cs → is_below (map (row_cost b) rs) us ≡ true → All (Holds b) cs
bounds_hold b [] [] [] are below = All-nil (Holds b)
bounds_hold b [] [] (c ∷ cs) are below = absurd are
bounds_hold b [] (u ∷ us) cs are below = absurd are
bounds_hold b (r ∷ rs) [] cs are below = absurd are
bounds_hold b (r ∷ rs) (u ∷ us) [] are below = absurd are
bounds_hold b (r ∷ rs) (u ∷ us) (c ∷ cs) are below =
    let parts = and_parts _ _ below in
    All-cons (Holds b) c cs ((bound_law r u c are.0 b).1 (at_most (row_cost b r) u parts.0)) (bounds_hold b rs us cs are.1 parts.1)

-- and the costs are below where they hold
below_from_bounds : (b : List Bool) (rs : List CostRowValue) (us : List ℤ) (cs : List ConstraintValue) → AreCostBounds rs us cs → All (Holds b) cs → is_below (map (row_cost b) rs) us ≡ true
below_from_bounds b [] [] [] are hold = refl
below_from_bounds b [] [] (c ∷ cs) are hold = absurd are
below_from_bounds b [] (u ∷ us) cs are hold = absurd are
below_from_bounds b (r ∷ rs) [] cs are hold = absurd are
below_from_bounds b (r ∷ rs) (u ∷ us) [] are hold = absurd are
below_from_bounds b (r ∷ rs) (u ∷ us) (c ∷ cs) are hold =
    and_from (not (int_lt u (row_cost b r))) (is_below (map (row_cost b) rs) us)
    (not_above (row_cost b r) u ((bound_law r u c are.0 b).0 (All-head (Holds b) c cs hold)))
    (below_from_bounds b rs us cs are.1 (All-tail (Holds b) c cs hold))

-- ---- the clauses of the listed ones

take_front : (a rest : List Bool) → take (length a) (a ++ rest) ≡ a
take_front [] rest = take_zero rest
  where
    take_zero : (xs : List Bool) → take 0 xs ≡ []
    take_zero [] = refl
    take_zero (x ∷ xs) = refl
take_front (x ∷ a) rest = ap (λ (ys : List Bool). x ∷ ys) (take_front a rest)

long_front : (a rest : List Bool) → length a ≤ length (a ++ rest)
long_front [] rest = omega arith
long_front (x ∷ a) rest = let more = long_front a rest in omega arith

blockings_hold : (a rest : List Bool) (list : List (List Bool)) → All (λ m. length m ≡ length a) list → (Contains list a → ⊥) → All (Holds (a ++ rest)) (map blocking list)
blockings_hold a rest [] long apart = All-nil (Holds (a ++ rest))
blockings_hold a rest (m ∷ list) long apart =
    let same : length m ≡ length a = All-head (λ (x : List Bool). length x ≡ length a) m list long in
    let most = long_front a rest in
    All-cons (Holds (a ++ rest)) (blocking m) (map blocking list)
    ((blocking_law m (a ++ rest) (omega arith)).1 (λ e. apart (subst (λ (x : List Bool). Contains (m ∷ list) x) (sym e ∙ ap (λ (n : ℕ). take n (a ++ rest)) same ∙ take_front a rest) (Contains-head m list))))
    (blockings_hold a rest list (All-tail (λ (x : List Bool). length x ≡ length a) m list long) (λ there. apart (Contains-cons m a list there)))

-- ---- vectors

has_numbers : (i : InstanceValue) (a : List Bool) → length (costs_of i a) ≡ length i.objectives
has_numbers i a = length-map i.objectives (objective_cost a)

-- to dominate weakly is to be below, in the vectors of the problem
below_is : (i : InstanceValue) (u v : List ℤ) → length u ≡ length i.objectives → length v ≡ length i.objectives → weakly_dominates i.objectives u v ≡ is_below (problem_vector i u) (problem_vector i v)
below_is i u v p q = weakly_dominates-is_below i.objectives u v p q

-- ---- a model that serves the vector and isn't listed

extended : (i : InstanceValue) (p q : ProblemValue) (v : List ℤ) (list : List (List Bool)) → AreGiven i p v list → IsBounded p (problem_vector i v) list q → (a : List Bool) → Serves i v a → (Contains list a → ⊥) → IsProblemModel q (tightened i a)
extended i p q v list given bounded a serves unlisted =
    let model = model_extends i p given.limits given.normal a serves.model in
    let below : is_below (problem_vector i (costs_of i a)) (problem_vector i v) ≡ true = sym (below_is i (costs_of i a) v (has_numbers i a) given.vector.numbers) ∙ serves.costs in
    let own : is_below (problem_costs p (tightened i a)) (problem_vector i v) ≡ true = ap (λ (u : List ℤ). is_below u (problem_vector i v)) model.1 ∙ below in
    let same : All (λ m. length m ≡ length a) list = subst (λ (n : ℕ). All (λ (m : List Bool). length m ≡ n) list) (sym serves.model.variables) given.long in
    record {
      variables = model.0.variables ∙ sym bounded.vars;
      rows = subst (All (Holds (tightened i a))) (sym bounded.rows)
          (All-append (Holds (tightened i a)) p.rows (bounded.bounds ++ map blocking list) model.0.rows
          (All-append (Holds (tightened i a)) bounded.bounds (map blocking list) (bounds_hold (tightened i a) p.costs (problem_vector i v) bounded.bounds bounded.are_bounds own) (blockings_hold a _ list same unlisted)));
    }

-- ---- a model of the bounded problem

pub bounded_model_law : BoundedModelServes
bounded_model_law i p q v list given bounded b model =
    let whole = all_split (Holds b) p.rows (bounded.bounds ++ map blocking list) (subst (All (Holds b)) bounded.rows model.rows) in
    let added = all_split (Holds b) bounded.bounds (map blocking list) whole.1 in
    let own : IsProblemModel p b = record { variables = model.variables ∙ bounded.vars; rows = whole.0 } in
    let restricted = model_restricts i p given.limits given.normal b own in
    let a : List Bool = take i.vars b in
    let bounds : IsBelow (problem_costs p b) (problem_vector i v) = below_from_bounds b p.costs (problem_vector i v) bounded.bounds bounded.are_bounds added.0 in
    let below : IsBelow (problem_vector i (costs_of i a)) (problem_vector i v) = IsBelow-trans (problem_vector i (costs_of i a)) (problem_costs p b) (problem_vector i v) restricted.1 bounds in
    let long : length a ≡ i.vars = restricted.0.variables in (
      record { model = restricted.0; costs = below_is i (costs_of i a) v (has_numbers i a) given.vector.numbers ∙ below },
      λ there.
          let blocked : Holds b (blocking a) = All-contains (Holds b) (map blocking list) (blocking a) added.1 (Contains-map blocking list a there) in
          let most : i.vars ≤ length b = omega (arith, own.variables, given.normal.vars) in
          (blocking_law a b (omega (arith, long, most))).0 blocked (ap (λ (n : ℕ). take n b) long),
    )

-- ---- whether an assignment is listed can be decided

same_or_not : (a b : List Bool) → (a ≡ b) ⊎ (a ≢ b)
same_or_not [] [] = inl refl
same_or_not [] (y ∷ b) = inr (λ e. cc)
same_or_not (x ∷ a) [] = inr (λ e. cc)
same_or_not (x ∷ a) (y ∷ b) = by_first x y (same_or_not a b)
  where
    by_first : (u w : Bool) → (a ≡ b) ⊎ (a ≢ b) → (u ∷ a ≡ w ∷ b) ⊎ (u ∷ a ≢ w ∷ b)
    by_first true true (inl same) = inl (ap (λ (xs : List Bool). true ∷ xs) same)
    by_first false false (inl same) = inl (ap (λ (xs : List Bool). false ∷ xs) same)
    by_first true true (inr other) = inr (λ e. other (tail_same true true a b e))
    by_first false false (inr other) = inr (λ e. other (tail_same false false a b e))
    by_first true false rest = inr (λ e. (let h : true ≡ false = head_same true false a b e in cc))
    by_first false true rest = inr (λ e. (let h : false ≡ true = head_same false true a b e in cc))

listed_or_not : (a : List Bool) (list : List (List Bool)) → Contains list a ⊎ (Contains list a → ⊥)
listed_or_not a [] = inr (λ there. nothing there)
  where
    nothing : Contains [] a → ⊥
    nothing there = absurd (let h = there.1 in omega arith)
listed_or_not a (m ∷ list) = by_first (same_or_not m a) (listed_or_not a list)
  where
    by_first : (m ≡ a) ⊎ (m ≢ a) → Contains list a ⊎ (Contains list a → ⊥) → Contains (m ∷ list) a ⊎ (Contains (m ∷ list) a → ⊥)
    by_first (inl same) rest = inl (subst (λ (x : List Bool). Contains (m ∷ list) x) same (Contains-head m list))
    by_first (inr other) (inl there) = inl (Contains-cons m a list there)
    by_first (inr other) (inr none) = inr (λ there. elim (Contains-cons_cases m a list there) [
      | inl same ↦ other same
      | inr later ↦ none later
    ])

pub lists_all_law : EndedLogListsAll
lists_all_law i p v list log given (q, bounded, proof) a serves = elim (listed_or_not a list) [
  | inl there ↦ there
  | inr unlisted ↦ absurd (ended_empty_law q log (bounded_within i p q v list given bounded) proof (tightened i a) (extended i p q v list given bounded a serves unlisted))
]

-- ---- a vector of the front

pub front_served_law : FrontIsServedExactly
front_served_law i entries front e there a serves =
    let u : List ℤ = costs_of i a in
    let own = All-contains (λ (x : Entry). IsModel i x.model × (costs_of i x.model ≡ x.costs)) entries e front.models there in
    let numbers : length e.costs ≡ length i.objectives = subst (λ (w : List ℤ). length w ≡ length i.objectives) own.1 (has_numbers i e.model) in
    let below : IsBelow (problem_vector i u) (problem_vector i e.costs) = sym (below_is i u e.costs (has_numbers i a) numbers) ∙ serves.costs in
    ⊎_elim
    (λ (back : is_below (problem_vector i e.costs) (problem_vector i u) ≡ true). problem_numbers-injective i.objectives u e.costs (IsBelow-antisym (problem_vector i u) (problem_vector i e.costs) below back))
    (λ (apart : is_below (problem_vector i e.costs) (problem_vector i u) ≡ false).
    let differ : u ≢ e.costs = λ same. let itself : is_below (problem_vector i e.costs) (problem_vector i u) ≡ true = subst (λ (w : List ℤ). is_below (problem_vector i e.costs) (problem_vector i w) ≡ true) (sym same) (IsBelow-refl (problem_vector i e.costs)) in cc in
    absurd (((front.exact e.costs).0 (Contains-map (λ (x : Entry). x.costs) entries e there)).undominated a serves.model (serves.costs, differ)))
    (cases_Bool (is_below (problem_vector i e.costs) (problem_vector i u)))
