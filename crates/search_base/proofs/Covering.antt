-- The vector that is logged was uncovered, and fewer vectors are left.
use Rattle.std.proofs.Common.{◌≡◌, inl, inr, ℕ, ◌+◌, ◌<◌, ◌≤◌, Bool, true, false, not, cond, List, [], ◌∷◌, ◌++◌, map, get_or, refl, sym, ap, ◌∙◌, subst, arith, ℤ, pos, ◌+ℤ◌}
use Rattle.std.specs.List.{Contains, count_by, flat_map, range_with_len}
use Rattle.std.proofs.lemmas.Bool.{cond-true, cond-false, false_from_ne_true}
use Rattle.std.proofs.lemmas.List.Elements.{Contains-append_left, Contains-append_right, Contains-push}
use Rattle.std.proofs.lemmas.List.FromFn.{length-range_with_len, get_or-range_with_len}
use Rattle.scut_base.proofs.Lists.{Contains-nil, Contains-head, Contains-cons_cases, Contains-map, sum_gap}
use Rattle.instance_normal.proofs.Members.{any_from_member, any_of_members, one_passes}
use Rattle.front_set.specs.Vector.{IsBelow, is_below}
use Rattle.front_set.proofs.FrontLaws.{IsBelow-refl}
use Rattle.pb_lin.specs.Constraint.{total, value}
use Rattle.pb_lin.specs.CostRow.{CostRowValue, row_cost}
use Rattle.pb_lin.specs.Problem.{ProblemValue, problem_costs}
use Rattle.proof_laws.specs.declared.line.Line.{Line}
use Rattle.search_base.specs.CostBox.{cost_box, is_covered, uncovered, values_of}
use Rattle.search_base.specs.Logged.{IsCovered, logged}
use Rattle.search_base.proofs.Answered.{value_most}

-- ---- the cost box

pub in_piece : {X Y : Type 0} (f : X → List Y) (xs : List X) (x : X) (y : Y) → Contains xs x → Contains (f x) y →
    Contains (flat_map f xs) y
in_piece f [] x y there has = absurd (Contains-nil x there)
in_piece f (z ∷ xs) x y there has = elim (Contains-cons_cases z x xs there) [
  | inl same ↦ Contains-append_left (f z) (flat_map f xs) y (subst (λ w. Contains (f w) y) (sym same) has)
  | inr later ↦ Contains-append_right (f z) (flat_map f xs) y (in_piece f xs x y later has)
]

in_range : (n k : ℕ) → k < n → Contains (range_with_len 0 n) k
in_range n k less =
    let at : get_or (range_with_len 0 n) k k ≡ k = get_or-range_with_len 0 n k k less ∙ omega arith in
    (k, omega (arith, length-range_with_len 0 n), at)

value_in : (x : List Bool) (r : CostRowValue) → Contains (values_of r) (row_cost x r)
value_in x r = Contains-map (λ k. pos k +ℤ r.offset) (range_with_len 0 (total r.terms + 1)) (value x r.terms)
    (in_range (total r.terms + 1) (value x r.terms) (let most = value_most x r.terms in omega arith))

costs_in : (x : List Bool) (rows : List CostRowValue) → Contains (cost_box rows) (map (row_cost x) rows)
costs_in x [] = Contains-head [] []
costs_in x (r ∷ rows) = in_piece (λ y. map (λ v. y ∷ v) (cost_box rows)) (values_of r) (row_cost x r)
    (row_cost x r ∷ map (row_cost x) rows) (value_in x r)
    (Contains-map (λ (v : List ℤ). row_cost x r ∷ v) (cost_box rows) (map (row_cost x) rows) (costs_in x rows))

-- ---- counts

fewer : {X : Type 0} (p q : X → Bool) (xs : List X) (x : X) → Contains xs x → ((y : X) → q y ≡ true → p y ≡ true) →
    q x ≡ false → p x ≡ true → count_by q xs < count_by p xs
fewer {X} p q xs x (k, short, at) within out in' =
    let less : count_by q xs + 1 ≤ count_by p xs =
    sum_gap (λ y. cond (q y) 1 0) (λ y. cond (p y) 1 0) xs k 1 x each short here in
    omega arith
  where
    each : (y : X) → cond (q y) 1 0 ≤ cond (p y) 1 0
    each y = by (q y) refl
      where
        by : (b : Bool) → q y ≡ b → cond b 1 0 ≤ cond (p y) 1 0
        by true e = let passes : cond {A = ℕ} (p y) 1 0 ≡ 1 = cond-true (p y) 1 0 (within y e) in omega arith
        by false e = omega arith

    here : cond (q (get_or xs k x)) 1 0 + 1 ≤ cond (p (get_or xs k x)) 1 0
    here =
        let none : cond {A = ℕ} (q (get_or xs k x)) 1 0 ≡ 0 = cond-false (q (get_or xs k x)) 1 0 (ap q at ∙ out) in
        let one : cond {A = ℕ} (p (get_or xs k x)) 1 0 ≡ 1 = cond-true (p (get_or xs k x)) 1 0 (ap p at ∙ in') in
        omega arith

-- ---- covered vectors

pub covered_by : (vectors : List (List ℤ)) (v u : List ℤ) → Contains vectors u → IsBelow u v →
    is_covered vectors v ≡ true
covered_by vectors v u there below = any_from_member (λ w. is_below w v) vectors u there below

uncovered_by : (vectors : List (List ℤ)) (v : List ℤ) → ((u : List ℤ) → Contains vectors u → IsBelow u v → ⊥) →
    is_covered vectors v ≡ false
uncovered_by vectors v none =
    false_from_ne_true (is_covered vectors v)
    (λ e. let found = one_passes (λ w. is_below w v) vectors e in none found.0 found.1 found.2)

still_covered : (vectors : List (List ℤ)) (u v : List ℤ) → is_covered vectors v ≡ true →
    is_covered (vectors ++ u ∷ []) v ≡ true
still_covered vectors u v e =
    any_of_members (λ w. is_below w v) vectors (vectors ++ u ∷ [])
    (λ w there. Contains-append_left vectors (u ∷ []) w there) e

still_uncovered : (vectors : List (List ℤ)) (u v : List ℤ) → not (is_covered (vectors ++ u ∷ []) v) ≡ true →
    not (is_covered vectors v) ≡ true
still_uncovered vectors u v e = by (is_covered vectors v) refl
  where
    by : (b : Bool) → is_covered vectors v ≡ b → not b ≡ true
    by true was = let now = still_covered vectors u v was in let never : false ≡ true = sym (ap not now) ∙ e in cc
    by false was = refl

-- fewer vectors are uncovered once the costs of an assignment are logged that nothing logged is below
pub falls : (p : ProblemValue) (old new : List Line) (x : List Bool) →
    logged p new ≡ logged p old ++ problem_costs p x ∷ [] → (IsCovered p old (problem_costs p x) → ⊥) →
    uncovered p new < uncovered p old
falls p old new x logs none =
    subst (λ (vs : List (List ℤ)). count_by (λ v. not (is_covered vs v)) (cost_box p.costs) < uncovered p old)
    (sym logs)
    (fewer (λ v. not (is_covered (logged p old) v)) (λ v. not (is_covered (logged p old ++ problem_costs p x ∷ []) v))
    (cost_box p.costs) (problem_costs p x) (costs_in x p.costs)
    (λ v e. still_uncovered (logged p old) (problem_costs p x) v e)
    (ap not (covered_by (logged p old ++ problem_costs p x ∷ []) (problem_costs p x) (problem_costs p x)
    (Contains-push (logged p old) (problem_costs p x)) (IsBelow-refl (problem_costs p x))))
    (ap not (uncovered_by (logged p old) (problem_costs p x) (λ u there below. none (u, there, below)))))
