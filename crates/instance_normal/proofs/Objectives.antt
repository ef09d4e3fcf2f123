-- Objectives one by one: their rows and their cost rows.
use Rattle.std.proofs.Common.{◌≡◌, ℕ, ◌+◌, ◌≤◌, List, [], ◌∷◌, ◌++◌, length, map, filter, refl, sym, ap, ◌∙◌, subst, append_assoc, length-append, ℤ, pos, unsigned_abs, arith}
use Rattle.std.specs.List.{AllZip, flat_map}
use Rattle.std.proofs.lemmas.Int.{ints}
use Rattle.std.proofs.lemmas.List.Elements.{filter-append}
use Rattle.std.proofs.lemmas.List.Sums.{sum_by-cons, sum_by-append}
use Rattle.scut_base.specs.Literal.{Literal}
use Rattle.instance.specs.declared.objective.Objective.{Objective}
use Rattle.instance.specs.declared.objective.Soft.{Soft}
use Rattle.instance.specs.declared.objective.Sense.{Sense}
use Rattle.instance.specs.declared.objective.Sense.TheVariants.{Min, Max}
use Rattle.instance.specs.Shape.{weights_sum, terms_magnitude}
use Rattle.instance.specs.ParetoFront.{problem_number}
use Rattle.instance_normal.specs.declared.draft.Draft.{Draft}
use Rattle.instance_normal.specs.NormalForm.{RowSource, Clause, IsRowOf, Payment, Never, Always, Where, Relaxed, payment, is_relaxed, positive, next_variable, relaxed_clauses, payment_terms, payment_offset, soft_terms, soft_offset, CostSource, cost_source, cost_sources}
use Rattle.instance_normal.specs.Fitting.{AddsRows}

relaxed_clauses-append : (var : ℕ) (xs ys : List Soft) → relaxed_clauses var (xs ++ ys) ≡ relaxed_clauses var xs ++ relaxed_clauses (var + length xs) ys
relaxed_clauses-append var [] ys = ap (λ (v : ℕ). relaxed_clauses v ys) (let same : var ≡ var + 0 = omega arith in same)
relaxed_clauses-append var (x ∷ xs) ys = ap (λ (rs : List RowSource). Clause (x.lits ++ positive var ∷ []) ∷ rs) (relaxed_clauses-append (var + 1) xs ys ∙ ap (λ (v : ℕ). relaxed_clauses (var + 1) xs ++ relaxed_clauses v ys) (let same : var + 1 + length xs ≡ var + length (x ∷ xs) = omega arith in same))

-- rows added one after the other
pub adds_both : (old mid new : Draft) (xs ys : List Soft) → AddsRows old mid xs → AddsRows mid new ys → AddsRows old new (xs ++ ys)
adds_both old mid new xs ys first second =
    let kept : filter is_relaxed (xs ++ ys) ≡ filter is_relaxed xs ++ filter is_relaxed ys = filter-append is_relaxed xs ys in
    let next : mid.vars + 1 ≡ old.vars + 1 + length (filter is_relaxed xs) = omega (arith, first.vars) in
    record {
      vars = omega (arith, first.vars, second.vars, ap length kept, length-append (filter is_relaxed xs) (filter is_relaxed ys));
      rows = λ ss zipped.
          let sources : (ss ++ relaxed_clauses (old.vars + 1) (filter is_relaxed xs)) ++ relaxed_clauses (mid.vars + 1) (filter is_relaxed ys) ≡ ss ++ relaxed_clauses (old.vars + 1) (filter is_relaxed (xs ++ ys)) =
          append_assoc ss (relaxed_clauses (old.vars + 1) (filter is_relaxed xs)) (relaxed_clauses (mid.vars + 1) (filter is_relaxed ys))
          ∙ ap (λ (rs : List RowSource). ss ++ rs) (ap (λ (v : ℕ). relaxed_clauses (old.vars + 1) (filter is_relaxed xs) ++ relaxed_clauses v (filter is_relaxed ys)) next ∙ sym (relaxed_clauses-append (old.vars + 1) (filter is_relaxed xs) (filter is_relaxed ys)) ∙ ap (relaxed_clauses (old.vars + 1)) (sym kept)) in
          subst (λ (rs : List RowSource). AllZip IsRowOf rs new.rows) sources (second.rows (ss ++ relaxed_clauses (old.vars + 1) (filter is_relaxed xs)) (first.rows ss zipped));
      fits = λ all. second.fits (first.fits all);
    }

pub filter-flat_map : (os : List Objective) → filter is_relaxed (flat_map (λ o. o.softs) os) ≡ flat_map (λ o. filter is_relaxed o.softs) os
filter-flat_map [] = refl
filter-flat_map (o ∷ os) = filter-append is_relaxed o.softs (flat_map (λ x. x.softs) os) ∙ ap (λ (ss : List Soft). filter is_relaxed o.softs ++ ss) (filter-flat_map os)

pub cost_sources-push : (var : ℕ) (os : List Objective) (o : Objective) → cost_sources var (os ++ o ∷ []) ≡ cost_sources var os ++ cost_source (var + length (filter is_relaxed (flat_map (λ x. x.softs) os))) o ∷ []
cost_sources-push var [] o = ap (λ (v : ℕ). let cs : List CostSource = cost_source v o ∷ [] in cs) (let same : var ≡ var + 0 = omega arith in same)
cost_sources-push var (x ∷ os) o =
    let kept = ap length (filter-append is_relaxed x.softs (flat_map (λ y. y.softs) os)) ∙ length-append (filter is_relaxed x.softs) (filter is_relaxed (flat_map (λ y. y.softs) os)) in
    let next : var + length (filter is_relaxed x.softs) + length (filter is_relaxed (flat_map (λ y. y.softs) os)) ≡ var + length (filter is_relaxed (flat_map (λ y. y.softs) (x ∷ os))) = omega (arith, kept) in
    ap (λ (cs : List CostSource). cost_source var x ∷ cs) (cost_sources-push (var + length (filter is_relaxed x.softs)) os o ∙ ap (λ (v : ℕ). cost_sources (var + length (filter is_relaxed x.softs)) os ++ cost_source v o ∷ []) next)

-- ---- magnitudes

payment_magnitude : (var weight : ℕ) (p : Payment) → terms_magnitude (payment_terms var weight p) + payment_offset weight p ≤ weight
payment_magnitude var weight Never = omega arith
payment_magnitude var weight Always = omega arith
payment_magnitude var weight (Where l) = omega (arith, ints, sum_by-cons (λ (t : ℤ × Literal). unsigned_abs t.0) (pos weight, l) [])
payment_magnitude var weight Relaxed = omega (arith, ints, sum_by-cons (λ (t : ℤ × Literal). unsigned_abs t.0) (pos weight, positive var) [])

pub soft_magnitude : (var : ℕ) (softs : List Soft) → terms_magnitude (soft_terms var softs) + soft_offset softs ≤ weights_sum softs
soft_magnitude var [] = omega arith
soft_magnitude var (s ∷ softs) =
    omega (arith, payment_magnitude var s.weight (payment s), soft_magnitude (next_variable var (payment s)) softs, sum_by-append (λ (t : ℤ × Literal). unsigned_abs t.0) (payment_terms var s.weight (payment s)) (soft_terms (next_variable var (payment s)) softs), sum_by-cons (λ (x : Soft). payment_offset x.weight (payment x)) s softs, sum_by-cons (λ (x : Soft). x.weight) s softs)

pub signed_number : (sense : Sense) (x : ℤ) → unsigned_abs (problem_number sense x) ≡ unsigned_abs x
signed_number Min x = refl
signed_number Max x = omega (arith, ints)

pub signed_magnitude : (sense : Sense) (terms : List (ℤ × Literal)) → terms_magnitude (map (λ t. (problem_number sense t.0, t.1)) terms) ≡ terms_magnitude terms
signed_magnitude sense [] = refl
signed_magnitude sense (t ∷ terms) = omega (arith, signed_number sense t.0, signed_magnitude sense terms, sum_by-cons (λ (u : ℤ × Literal). unsigned_abs u.0) t terms, sum_by-cons (λ (u : ℤ × Literal). unsigned_abs u.0) (problem_number sense t.0, t.1) (map (λ u. (problem_number sense u.0, u.1)) terms))
