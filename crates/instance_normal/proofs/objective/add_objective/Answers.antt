use Rattle.std.proofs.Common.{◌≡◌, ℕ, ◌+◌, ◌≤◌, ◌<◌, List, ◌++◌, map, ap, ap₂, ◌∙◌, subst, ℤ, pos, ◌+ℤ◌, to_z, of_z, unsigned_abs, FitsSigned, Result, ◌^◌, arith}
use Rattle.std.specs.Prelude.{IfOk}
use Rattle.std.specs.Int.{w64}
use Rattle.std.proofs.lemmas.Int.{ints}
use Rattle.std.proofs.lemmas.List.Sums.{sum_by-append}
use Rattle.scut_base.specs.Literal.{Literal}
use Rattle.instance.specs.declared.objective.Sense.{Sense}
use Rattle.instance.specs.Shape.{terms_magnitude}
use Rattle.instance.specs.ParetoFront.{problem_number}
use Rattle.pb_lin.specs.CostRow.{CostRowValue}
use Rattle.instance_normal.specs.NormalForm.{IsCostRowOf, soft_terms, soft_offset}
use Rattle.instance_normal.proofs.Adding.{soft_offset-le}
use Rattle.instance_normal.proofs.Objectives.{soft_magnitude, signed_number, signed_magnitude}
use Rattle.instance_normal.proofs.objective.add_objective.Goals as goal

pub overflow_cast-offset : goal.overflow_cast-offset
overflow_cast-offset c =
    let offset : c.in_ok-costs.costs.offset ≡ soft_offset c.args.objective.now.softs = c.in_ok-costs.ensures.offset ∙ ap soft_offset c.as_slice.ensures in
    let most = soft_offset-le c.args.objective.now.softs in
    omega (arith, ints, c.requires.magnitude)

-- a sum of a small number and a small whole number is that sum
small_sum : (n m : ℕ) (x : ℤ) → unsigned_abs x ≤ m → n + m < 2 ^ 63 → to_z w64 (of_z w64 (to_z w64 n +ℤ to_z w64 (of_z w64 x))) ≡ pos n +ℤ x
small_sum n m x le short =
    let plain : to_z w64 (of_z w64 x) ≡ x = omega (arith, ints) in
    let natural : to_z w64 n ≡ pos n = omega (arith, ints) in
    let sum : to_z w64 (of_z w64 (pos n +ℤ x)) ≡ pos n +ℤ x = omega (arith, ints) in
    ap₂ (λ (y z : ℤ). to_z w64 (of_z w64 (y +ℤ z))) natural plain ∙ sum

fits_sum : (n m : ℕ) (x : ℤ) → unsigned_abs x ≤ m → n + m < 2 ^ 63 → FitsSigned w64 (to_z w64 n +ℤ to_z w64 (of_z w64 x))
fits_sum n m x le short =
    let plain : to_z w64 (of_z w64 x) ≡ x = omega (arith, ints) in
    let natural : to_z w64 n ≡ pos n = omega (arith, ints) in
    omega (arith, ints)

small_abs : (n m : ℕ) (x : ℤ) → unsigned_abs x ≤ m → unsigned_abs (pos n +ℤ x) ≤ n + m
small_abs n m x le = omega (arith, ints)

-- the magnitude of the offset's own part
own_part : (sense : Sense) (x y : ℤ) → x ≡ problem_number sense y → unsigned_abs x ≤ unsigned_abs y
own_part sense x y is = (let same = signed_number sense y in let own = ap unsigned_abs is in omega arith)

minimised : (sense : Sense) (x y : ℤ) → x ≡ problem_number sense (to_z w64 (of_z w64 y)) → unsigned_abs y < 2 ^ 63 → x ≡ problem_number sense y
minimised sense x y is small = is ∙ ap (problem_number sense) (let plain : to_z w64 (of_z w64 y) ≡ y = omega (arith, ints) in plain)

pub overflow_add-offset : goal.overflow_add-offset
overflow_add-offset c =
    let offset : c.in_ok-costs.costs.offset ≡ soft_offset c.args.objective.now.softs = c.in_ok-costs.ensures.offset ∙ ap soft_offset c.as_slice.ensures in
    let most = soft_offset-le c.args.objective.now.softs in
    fits_sum c.in_ok-costs.costs.offset (unsigned_abs c.args.objective.now.offset) c.as_minimised.result (own_part c.args.objective.now.sense c.as_minimised.result c.args.objective.now.offset (minimised c.args.objective.now.sense c.as_minimised.result c.args.objective.now.offset c.as_minimised.ensures (omega (arith, c.requires.magnitude)))) (omega (arith, c.requires.magnitude))

pub cost_row-requires : goal.cost_row-requires
cost_row-requires c =
    let offset : c.in_ok-costs.costs.offset ≡ soft_offset c.args.objective.now.softs = c.in_ok-costs.ensures.offset ∙ ap soft_offset c.as_slice.ensures in
    let most = soft_offset-le c.args.objective.now.softs in
    let own = own_part c.args.objective.now.sense c.as_minimised.result c.args.objective.now.offset (minimised c.args.objective.now.sense c.as_minimised.result c.args.objective.now.offset c.as_minimised.ensures (omega (arith, c.requires.magnitude))) in
    let whole = small_sum c.in_ok-costs.costs.offset (unsigned_abs c.args.objective.now.offset) c.as_minimised.result own (omega (arith, c.requires.magnitude)) in
    let abs = ap unsigned_abs whole in
    let bound = small_abs c.in_ok-costs.costs.offset (unsigned_abs c.args.objective.now.offset) c.as_minimised.result own in
    let signed : List (ℤ × Literal) = map (λ t. (problem_number c.args.objective.now.sense t.0, t.1)) c.args.objective.now.terms in
    let terms : c.as_slice-3.result.now ≡ soft_terms (c.args.draft.now.vars + 1) c.args.objective.now.softs ++ signed =
    c.as_slice-3.ensures ∙ c.in_ok-add_terms.ensures ∙ ap₂ (λ (xs ys : List (ℤ × Literal)). xs ++ map (λ t. (problem_number c.args.objective.now.sense t.0, t.1)) ys) (c.in_ok-costs.ensures.terms ∙ ap (soft_terms (c.args.draft.now.vars + 1)) c.as_slice.ensures) c.as_slice-2.ensures in
    let size = ap terms_magnitude terms ∙ sum_by-append (λ (t : ℤ × Literal). unsigned_abs t.0) (soft_terms (c.args.draft.now.vars + 1) c.args.objective.now.softs) signed in
    let softs = soft_magnitude (c.args.draft.now.vars + 1) c.args.objective.now.softs in
    let others = signed_magnitude c.args.objective.now.sense c.args.objective.now.terms in
    omega (arith, c.requires.magnitude)

moved : {E : Type 0} (r : Result CostRowValue E) (ts us : List (ℤ × Literal)) (x y : ℤ) → ts ≡ us → x ≡ y → IfOk r (IsCostRowOf (record { terms = ts; offset = x })) → IfOk r (IsCostRowOf (record { terms = us; offset = y }))
moved r ts us x y terms offset is = subst (λ (vs : List (ℤ × Literal)). IfOk r (IsCostRowOf (record { terms = vs; offset = y }))) terms (subst (λ (z : ℤ). IfOk r (IsCostRowOf (record { terms = ts; offset = z }))) offset is)

pub returns-clause-row : goal.returns-clause-row
returns-clause-row c =
    let offset : c.in_ok-costs.costs.offset ≡ soft_offset c.args.objective.now.softs = c.in_ok-costs.ensures.offset ∙ ap soft_offset c.as_slice.ensures in
    let most = soft_offset-le c.args.objective.now.softs in
    let own = own_part c.args.objective.now.sense c.as_minimised.result c.args.objective.now.offset (minimised c.args.objective.now.sense c.as_minimised.result c.args.objective.now.offset c.as_minimised.ensures (omega (arith, c.requires.magnitude))) in
    let signed : List (ℤ × Literal) = map (λ t. (problem_number c.args.objective.now.sense t.0, t.1)) c.args.objective.now.terms in
    let terms : c.as_slice-3.result.now ≡ soft_terms (c.args.draft.now.vars + 1) c.args.objective.now.softs ++ signed =
    c.as_slice-3.ensures ∙ c.in_ok-add_terms.ensures ∙ ap₂ (λ (xs ys : List (ℤ × Literal)). xs ++ map (λ t. (problem_number c.args.objective.now.sense t.0, t.1)) ys) (c.in_ok-costs.ensures.terms ∙ ap (soft_terms (c.args.draft.now.vars + 1)) c.as_slice.ensures) c.as_slice-2.ensures in
    let whole = small_sum c.in_ok-costs.costs.offset (unsigned_abs c.args.objective.now.offset) c.as_minimised.result own (omega (arith, c.requires.magnitude)) ∙ ap₂ (λ (n : ℕ) (z : ℤ). pos n +ℤ z) offset (minimised c.args.objective.now.sense c.as_minimised.result c.args.objective.now.offset c.as_minimised.ensures (omega (arith, c.requires.magnitude))) in
    moved c.cost_row.result c.as_slice-3.result.now (soft_terms (c.args.draft.now.vars + 1) c.args.objective.now.softs ++ signed) (to_z w64 (of_z w64 (to_z w64 c.in_ok-costs.costs.offset +ℤ to_z w64 (of_z w64 c.as_minimised.result)))) (pos (soft_offset c.args.objective.now.softs) +ℤ problem_number c.args.objective.now.sense c.args.objective.now.offset) terms whole c.cost_row.ensures
