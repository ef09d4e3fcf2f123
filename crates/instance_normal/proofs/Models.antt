-- Models of an instance extend to models of its normal form, and models of that restrict to models of the instance.
use Rattle.std.proofs.Common.{◌≡◌, inl, inr, ℕ, zero, suc, ◌+◌, ◌-◌, Bool, true, false, not, List, [], ◌∷◌, ◌++◌, length, map, take, drop, filter, refl, sym, ap, ◌∙◌, subst, append_assoc, length-append, ℤ, pos, ◌+ℤ◌, if◌then◌else◌, arith}
use Rattle.std.specs.Prelude.{All}
use Rattle.std.specs.List.{flat_map}
use Rattle.std.proofs.lemmas.List.{length-map, get_or_at, length-take, length-drop, take-append-drop}
use Rattle.std.proofs.lemmas.List.Elements.{All-nil, All-head, All-tail, All-append, All-map, All-filter, All-weaker}
use Rattle.scut_base.specs.Literal.{Literal}
use Rattle.scut_base.specs.Assignment.{value_of}
use Rattle.front_set.specs.Vector.{IsBelow}
use Rattle.instance.specs.declared.row.Linear.{Linear}
use Rattle.instance.specs.declared.objective.Objective.{Objective}
use Rattle.instance.specs.declared.objective.Soft.{Soft}
use Rattle.instance.specs.Shape.{InstanceValue, IsWithinLimits, IsObjectiveWithin, IsRowWithin, ClauseUpTo}
use Rattle.instance.specs.Meaning.{IsModel, costs_of, clause_true, row_holds, relates, objective_cost, soft_cost, int_sum_by, terms_value}
use Rattle.instance.specs.ParetoFront.{problem_vector, problem_numbers}
use Rattle.pb_lin.specs.Problem.{ProblemValue, IsProblemModel, problem_costs}
use Rattle.instance_normal.specs.NormalForm.{Clause, linear_sources, is_relaxed, relaxed_softs, relaxed_clauses, row_sources, cost_sources, IsNormalFormOf}
use Rattle.instance_normal.specs.Tightened.{tightened}
use Rattle.instance_normal.proofs.Members.{all_split, all_unmapped, all_unflattened, all_flattened, all_both, test_from_all, all_from_test, none_kept}
use Rattle.instance_normal.proofs.Truth.{Reaches, clause_kept, terms_kept, int_sum_agrees}
use Rattle.instance_normal.proofs.RowTruth.{SourceHolds, sources_hold, rows_hold, linear_exactly}
use Rattle.instance_normal.proofs.Payments.{AreTight, tight_held, held_sources, held_from_sources, unrelaxed}
use Rattle.instance_normal.proofs.Costs.{row_costs, tight_costs, held_costs, relaxed_of}

-- ---- limits

-- without variables no soft clause needs one
pub none_relaxed : (os : List Objective) → All (IsObjectiveWithin 0) os → relaxed_of os ≡ []
none_relaxed [] within = refl
none_relaxed (o ∷ os) within =
    let here : filter is_relaxed o.softs ≡ [] = none_kept is_relaxed o.softs (All-weaker (λ (s : Soft). ClauseUpTo 0 s.lits) (λ (s : Soft). is_relaxed s ≡ false) unrelaxed o.softs (All-head (IsObjectiveWithin 0) o os within).clauses) in
    ap (λ (ss : List Soft). ss ++ relaxed_of os) here ∙ none_relaxed os (All-tail (IsObjectiveWithin 0) o os within)

-- the clauses of relaxed soft clauses are within the limit
pub relaxed_upto : (n : ℕ) (os : List Objective) → All (IsObjectiveWithin n) os → All (λ s. ClauseUpTo n s.lits) (relaxed_of os)
relaxed_upto n [] within = All-nil (λ s. ClauseUpTo n s.lits)
relaxed_upto n (o ∷ os) within = All-append (λ (s : Soft). ClauseUpTo n s.lits) (filter is_relaxed o.softs) (relaxed_of os) (All-filter is_relaxed (λ (s : Soft). ClauseUpTo n s.lits) o.softs (All-head (IsObjectiveWithin n) o os within).clauses) (relaxed_upto n os (All-tail (IsObjectiveWithin n) o os within))

reached : (i : InstanceValue) (ext : List Bool) → IsWithinLimits i → length ext ≡ length (relaxed_softs i) → Reaches i.vars ext
reached i ext limits long = by i.vars limits.objectives
  where
    nothing : (xs : List Bool) → length xs ≡ 0 → xs ≡ []
    nothing [] e = refl
    nothing (x ∷ xs) e = absurd (omega arith)

    by : (n : ℕ) → All (IsObjectiveWithin n) i.objectives → Reaches n ext
    by zero within = inr (nothing ext (long ∙ ap length (none_relaxed i.objectives within)))
    by (suc n) within = inl (omega arith)

-- ---- what is kept by an extension

record Extension (i : InstanceValue) (a ext : List Bool) : Type 0 where
  long : length a ≡ i.vars
  reaches : Reaches i.vars ext

clauses_kept : (i : InstanceValue) (a ext : List Bool) → IsWithinLimits i → Extension i a ext → All (λ lits. clause_true (a ++ ext) lits ≡ clause_true a lits) i.clauses
clauses_kept i a ext limits e = All-weaker (ClauseUpTo i.vars) (λ (lits : List Literal). clause_true (a ++ ext) lits ≡ clause_true a lits) (λ lits upto. clause_kept i.vars a ext lits e.long e.reaches upto) i.clauses limits.clauses

rows_kept : (i : InstanceValue) (a ext : List Bool) → IsWithinLimits i → Extension i a ext → All (λ row. row_holds (a ++ ext) row ≡ row_holds a row) i.linear
rows_kept i a ext limits e = All-weaker (IsRowWithin i.vars) (λ (row : Linear). row_holds (a ++ ext) row ≡ row_holds a row) (λ row within. ap (λ (z : ℤ). relates row.rel z row.bound) (terms_kept i.vars a ext row.terms e.long e.reaches within.variables)) i.linear limits.rows

objective_kept : (i : InstanceValue) (a ext : List Bool) → Extension i a ext → (o : Objective) → IsObjectiveWithin i.vars o → objective_cost (a ++ ext) o ≡ objective_cost a o
objective_kept i a ext e o within =
    let softs = int_sum_agrees (soft_cost (a ++ ext)) (soft_cost a) o.softs (All-weaker (λ (s : Soft). ClauseUpTo i.vars s.lits) (λ (s : Soft). soft_cost (a ++ ext) s ≡ soft_cost a s) (λ s upto. cost_kept s (clause_kept i.vars a ext s.lits e.long e.reaches upto)) o.softs within.clauses) in
    let terms = terms_kept i.vars a ext o.terms e.long e.reaches within.variables in
    sums softs terms
  where
    cost_kept : (s : Soft) → clause_true (a ++ ext) s.lits ≡ clause_true a s.lits → soft_cost (a ++ ext) s ≡ soft_cost a s
    cost_kept s same = ap (λ (b : Bool). if b then pos 0 else pos s.weight) same

    sums : int_sum_by (soft_cost (a ++ ext)) o.softs ≡ int_sum_by (soft_cost a) o.softs → terms_value (a ++ ext) o.terms ≡ terms_value a o.terms → objective_cost (a ++ ext) o ≡ objective_cost a o
    sums softs terms = ap (λ (z : ℤ). z +ℤ terms_value (a ++ ext) o.terms +ℤ o.offset) softs ∙ ap (λ (z : ℤ). int_sum_by (soft_cost a) o.softs +ℤ z +ℤ o.offset) terms

costs_kept : (i : InstanceValue) (a ext : List Bool) → Extension i a ext → (os : List Objective) → All (IsObjectiveWithin i.vars) os → map (objective_cost (a ++ ext)) os ≡ map (objective_cost a) os
costs_kept i a ext e [] within = refl
costs_kept i a ext e (o ∷ os) within = ap (λ (z : ℤ). z ∷ map (objective_cost (a ++ ext)) os) (objective_kept i a ext e o (All-head (IsObjectiveWithin i.vars) o os within)) ∙ ap (λ (zs : List ℤ). objective_cost a o ∷ zs) (costs_kept i a ext e os (All-tail (IsObjectiveWithin i.vars) o os within))

-- ---- the instance's part of the rows

model_sources : (i : InstanceValue) (a ext : List Bool) → IsWithinLimits i → Extension i a ext → IsModel i a → All (SourceHolds (a ++ ext)) (map Clause i.clauses) × All (SourceHolds (a ++ ext)) (flat_map linear_sources i.linear)
model_sources i a ext limits e model = (
  All-map (SourceHolds (a ++ ext)) Clause i.clauses (all_both (λ lits. clause_true (a ++ ext) lits ≡ clause_true a lits) (λ lits. clause_true a lits ≡ true) (λ lits. SourceHolds (a ++ ext) (Clause lits)) i.clauses (λ lits same holds. same ∙ holds) (clauses_kept i a ext limits e) (all_from_test (clause_true a) i.clauses model.clauses)),
  all_flattened (SourceHolds (a ++ ext)) linear_sources i.linear (all_both (λ row. row_holds (a ++ ext) row ≡ row_holds a row) (λ row. row_holds a row ≡ true) (λ row. All (SourceHolds (a ++ ext)) (linear_sources row)) i.linear (λ row same holds. (linear_exactly (a ++ ext) row).1 (same ∙ holds)) (rows_kept i a ext limits e) (all_from_test (row_holds a) i.linear model.rows)),
)

sources_model : (i : InstanceValue) (a ext : List Bool) → IsWithinLimits i → Extension i a ext → All (SourceHolds (a ++ ext)) (map Clause i.clauses) → All (SourceHolds (a ++ ext)) (flat_map linear_sources i.linear) → IsModel i a
sources_model i a ext limits e clauses rows = record {
  variables = e.long;
  clauses = test_from_all (clause_true a) i.clauses (all_both (λ lits. clause_true (a ++ ext) lits ≡ clause_true a lits) (λ lits. SourceHolds (a ++ ext) (Clause lits)) (λ lits. clause_true a lits ≡ true) i.clauses (λ lits same holds. sym same ∙ holds) (clauses_kept i a ext limits e) (all_unmapped (SourceHolds (a ++ ext)) Clause i.clauses clauses));
  rows = test_from_all (row_holds a) i.linear (all_both (λ row. row_holds (a ++ ext) row ≡ row_holds a row) (λ row. All (SourceHolds (a ++ ext)) (linear_sources row)) (λ row. row_holds a row ≡ true) i.linear (λ row same holds. sym same ∙ (linear_exactly (a ++ ext) row).0 holds) (rows_kept i a ext limits e) (all_unflattened (SourceHolds (a ++ ext)) linear_sources i.linear rows));
}

-- ---- the relaxation variables

abbrev falsities : List Bool → List Soft → List Bool
falsities a softs = map (λ s. not (clause_true a s.lits)) softs

-- after a prefix their values are those of a tightened assignment
tight_tail : (a b front : List Bool) (softs : List Soft) → b ≡ front ++ falsities a softs → All (λ s. clause_true b s.lits ≡ clause_true a s.lits) softs → AreTight b (length front + 1) softs
tight_tail a b front [] is same = tt
tight_tail a b front (s ∷ softs) is same = (
  ap (λ (c : List Bool). value_of c (length front + 1)) is
      ∙ get_or_at front (not (clause_true a s.lits)) (falsities a softs) false (length front + 1 - 1) (omega arith)
      ∙ ap not (sym (All-head (λ (x : Soft). clause_true b x.lits ≡ clause_true a x.lits) s softs same)),
  subst (λ (v : ℕ). AreTight b v softs) (let long : length (front ++ not (clause_true a s.lits) ∷ []) + 1 ≡ length front + 1 + 1 = omega (arith, length-append front (not (clause_true a s.lits) ∷ [])) in long)
      (tight_tail a b (front ++ not (clause_true a s.lits) ∷ []) softs (is ∙ sym (append_assoc front (not (clause_true a s.lits) ∷ []) (falsities a softs))) (All-tail (λ (x : Soft). clause_true b x.lits ≡ clause_true a x.lits) s softs same)),
)

tightened_tight : (i : InstanceValue) (a : List Bool) → IsWithinLimits i → Extension i a (falsities a (relaxed_softs i)) → AreTight (tightened i a) (i.vars + 1) (relaxed_softs i)
tightened_tight i a limits e = subst (λ (n : ℕ). AreTight (tightened i a) (n + 1) (relaxed_softs i)) e.long
    (tight_tail a (tightened i a) a (relaxed_softs i) refl (All-weaker (λ (s : Soft). ClauseUpTo i.vars s.lits) (λ (s : Soft). clause_true (tightened i a) s.lits ≡ clause_true a s.lits) (λ s upto. clause_kept i.vars a (falsities a (relaxed_softs i)) s.lits e.long e.reaches upto) (relaxed_softs i) (relaxed_upto i.vars i.objectives limits.objectives)))

-- ---- both laws

pub model_extends : (i : InstanceValue) (p : ProblemValue) → IsWithinLimits i → IsNormalFormOf i p → (a : List Bool) → IsModel i a → IsProblemModel p (tightened i a) × (problem_costs p (tightened i a) ≡ problem_vector i (costs_of i a))
model_extends i p limits form a model =
    let ext : List Bool = falsities a (relaxed_softs i) in
    let long : length ext ≡ length (relaxed_softs i) = length-map (relaxed_softs i) (λ s. not (clause_true a s.lits)) in
    let e : Extension i a ext = record { long = model.variables; reaches = reached i ext limits long } in
    let tight = tightened_tight i a limits e in
    let given = model_sources i a ext limits e model in
    let relaxed = held_sources (tightened i a) (i.vars + 1) (relaxed_softs i) (tight_held (tightened i a) (i.vars + 1) (relaxed_softs i) tight) in (
      record {
        variables = length-append a ext ∙ (let sum : length a + length ext ≡ i.vars + length (relaxed_softs i) = omega (arith, model.variables, long) in sum) ∙ sym form.vars;
        rows = rows_hold (tightened i a) (row_sources i) p.rows form.rows (All-append (SourceHolds (tightened i a)) (map Clause i.clauses ++ flat_map linear_sources i.linear) (relaxed_clauses (i.vars + 1) (relaxed_softs i)) (All-append (SourceHolds (tightened i a)) (map Clause i.clauses) (flat_map linear_sources i.linear) given.0 given.1) relaxed);
      },
      row_costs (tightened i a) (cost_sources (i.vars + 1) i.objectives) p.costs form.costs
          ∙ tight_costs (tightened i a) i.vars (i.vars + 1) i.objectives limits.objectives tight
          ∙ ap (problem_numbers i.objectives) (costs_kept i a ext e i.objectives limits.objectives),
    )

restricts : (i : InstanceValue) (p : ProblemValue) → IsWithinLimits i → IsNormalFormOf i p → (a ext : List Bool) → length a ≡ i.vars → length ext ≡ length (relaxed_softs i) → IsProblemModel p (a ++ ext) → IsModel i a × IsBelow (problem_vector i (costs_of i a)) (problem_costs p (a ++ ext))
restricts i p limits form a ext a_long ext_long model =
    let e : Extension i a ext = record { long = a_long; reaches = reached i ext limits ext_long } in
    let all = sources_hold (a ++ ext) (row_sources i) p.rows form.rows model.rows in
    let parts = all_split (SourceHolds (a ++ ext)) (map Clause i.clauses ++ flat_map linear_sources i.linear) (relaxed_clauses (i.vars + 1) (relaxed_softs i)) all in
    let given = all_split (SourceHolds (a ++ ext)) (map Clause i.clauses) (flat_map linear_sources i.linear) parts.0 in
    let held = held_from_sources (a ++ ext) (i.vars + 1) (relaxed_softs i) parts.1 in
    let below = held_costs (a ++ ext) i.vars (i.vars + 1) i.objectives limits.objectives held in (
      sources_model i a ext limits e given.0 given.1,
      subst (λ (u : List ℤ). IsBelow u (problem_costs p (a ++ ext))) (ap (problem_numbers i.objectives) (costs_kept i a ext e i.objectives limits.objectives))
          (subst (IsBelow (problem_numbers i.objectives (map (objective_cost (a ++ ext)) i.objectives))) (sym (row_costs (a ++ ext) (cost_sources (i.vars + 1) i.objectives) p.costs form.costs)) below),
    )

pub model_restricts : (i : InstanceValue) (p : ProblemValue) → IsWithinLimits i → IsNormalFormOf i p → (b : List Bool) → IsProblemModel p b → IsModel i (take i.vars b) × IsBelow (problem_vector i (costs_of i (take i.vars b))) (problem_costs p b)
model_restricts i p limits form b model =
    let whole : take i.vars b ++ drop i.vars b ≡ b = take-append-drop i.vars b in
    let long : length b ≡ i.vars + length (relaxed_softs i) = model.variables ∙ form.vars in
    let a_long : length (take i.vars b) ≡ i.vars = omega (arith, length-take i.vars b) in
    let ext_long : length (drop i.vars b) ≡ length (relaxed_softs i) = omega (arith, length-drop i.vars b) in
    subst (λ (c : List Bool). IsModel i (take i.vars b) × IsBelow (problem_vector i (costs_of i (take i.vars b))) (problem_costs p c)) whole
    (restricts i p limits form (take i.vars b) (drop i.vars b) a_long ext_long (subst (IsProblemModel p) (sym whole) model))
