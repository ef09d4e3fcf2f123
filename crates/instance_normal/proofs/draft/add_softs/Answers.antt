use Rattle.std.proofs.Common.{◌≡◌, ℕ, ◌+◌, ◌≤◌, List, [], ◌∷◌, ◌++◌, take, sym, ap, ap₂, ◌∙◌, subst, ℤ, arith}
use Rattle.std.proofs.lemmas.List.{take_more, length-take}
use Rattle.std.proofs.lemmas.List.Sums.{length-filter, count_by-le-length, sum_by_more_le}
use Rattle.scut_base.specs.Literal.{Literal}
use Rattle.instance.specs.declared.objective.Soft.{Soft}
use Rattle.instance_normal.specs.NormalForm.{is_relaxed, payment, payment_terms, soft_terms, soft_offset}
use Rattle.instance_normal.specs.Fitting.{AddsRows}
use Rattle.instance_normal.proofs.Adding.{relaxed_count, one_added, soft_terms-push, soft_offset-push, soft_offset-le, payment_offset-le}
use Rattle.instance_normal.proofs.draft.add_softs.Goals as goal

-- no more relaxation variables than soft clauses
few : (k : ℕ) (softs : List Soft) → relaxed_count (take k softs) ≤ k
few k softs = omega (arith, length-filter is_relaxed (take k softs), count_by-le-length is_relaxed (take k softs), length-take k softs)

pub overflow_add-draft : goal.overflow_add-draft
overflow_add-draft c = omega (arith, few c.loop-soft.soft-index c.args.softs.now, c.loop-soft.invariant.rows.vars)

pub relax-requires-clause-below : goal.relax-requires-clause-below
relax-requires-clause-below c = omega (arith, few c.loop-soft.soft-index c.args.softs.now, c.loop-soft.invariant.rows.vars)

pub add_relaxation-requires-clause-vars : goal.add_relaxation-requires-clause-vars
add_relaxation-requires-clause-vars c = omega (arith, few c.loop-soft.soft-index c.args.softs.now, c.loop-soft.invariant.rows.vars)

pub add_relaxation-requires-clause-offset : goal.add_relaxation-requires-clause-offset
add_relaxation-requires-clause-offset c =
    let so_far = soft_offset-le (take c.loop-soft.soft-index c.args.softs.now) in
    let here = payment_offset-le c.soft-item.result.weight (payment c.soft-item.result) in
    let whole = sum_by_more_le (λ (s : Soft). s.weight) c.args.softs.now c.loop-soft.soft-index c.soft-item.result c.loop-soft-test.true in
    let is = ap (λ (s : Soft). s.weight) c.soft-item.is in
    omega (arith, c.loop-soft.invariant.offset, c.in_ok-added.ensures.offset)

pub loop-soft-preserved : goal.loop-soft-preserved
loop-soft-preserved c =
    let done : List Soft = take c.loop-soft.soft-index c.args.softs.now in
    let s : Soft = c.soft-item.result in
    let longer : take (c.loop-soft.soft-index + 1) c.args.softs.now ≡ done ++ s ∷ [] = take_more c.args.softs.now c.loop-soft.soft-index s c.loop-soft-test.true ∙ ap (λ (x : Soft). done ++ x ∷ []) (sym c.soft-item.is) in
    let var : c.loop-soft.draft.vars + 1 ≡ c.args.draft.now.vars + 1 + relaxed_count done = omega (arith, c.loop-soft.invariant.rows.vars) in
    record {
      rows = subst (AddsRows c.args.draft.now c.add_relaxation.new.draft) (sym longer) (one_added c.args.draft.now c.loop-soft.draft c.add_relaxation.new.draft done s c.in_ok-added.added c.loop-soft.invariant.rows c.in_ok-added.ensures c.in_ok-add_relaxation.ensures.rows c.in_ok-add_relaxation.ensures.vars);
      terms = c.in_ok-add_relaxation.ensures.terms
          ∙ ap₂ (λ (xs ys : List (ℤ × Literal)). xs ++ ys) c.loop-soft.invariant.terms (c.in_ok-added.ensures.terms ∙ ap (λ (v : ℕ). payment_terms v s.weight (payment s)) var)
          ∙ sym (soft_terms-push (c.args.draft.now.vars + 1) done s)
          ∙ ap (soft_terms (c.args.draft.now.vars + 1)) (sym longer);
      offset = c.in_ok-add_relaxation.ensures.offset
          ∙ ap₂ (λ (x y : ℕ). x + y) c.loop-soft.invariant.offset c.in_ok-added.ensures.offset
          ∙ sym (soft_offset-push done s)
          ∙ ap soft_offset (sym longer);
    }
