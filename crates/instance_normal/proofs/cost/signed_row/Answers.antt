use Rattle.std.proofs.Common.{◌≡◌, ℕ, ◌<◌, ◌≤◌, ◌^◌, List, take, length, get_or, sym, ap, ◌∙◌, subst, ℤ, pos, ◌+ℤ◌, to_z, of_z, unsigned_abs, arith}
use Rattle.std.specs.Int.{w64, w128}
use Rattle.std.proofs.lemmas.Int.{ints, to_z-of_z}
use Rattle.std.proofs.lemmas.List.{take_more, take_all}
use Rattle.std.proofs.lemmas.List.Sums.{sum_by_more_le}
use Rattle.scut_base.specs.Literal.{Literal}
use Rattle.pb_lin.specs.CostRow.{row_cost, IsCostRow}
use Rattle.instance_normal.specs.Merging.{StandForSums}
use Rattle.instance_normal.proofs.Members.{all_unmapped}
use Rattle.instance_normal.proofs.Merging.{stand_for_more, cost_row_from, others_before}
use Rattle.instance_normal.proofs.cost.signed_row.Goals as goal

pub add_signed-requires-clause-from_one : goal.add_signed-requires-clause-from_one
add_signed-requires-clause-from_one c = all_unmapped (λ v. 0 < v) (λ (s : ℕ × ℤ). s.0) c.args.sums.now c.requires.variables.from_one c.loop-sum.sum-index (0, pos 0) c.loop-sum-test.true

pub add_signed-requires-clause-below : goal.add_signed-requires-clause-below
add_signed-requires-clause-below c = all_unmapped (λ v. v < 2 ^ 63) (λ (s : ℕ × ℤ). s.0) c.args.sums.now c.requires.variables.below c.loop-sum.sum-index (0, pos 0) c.loop-sum-test.true

pub overflow_add-offset : goal.overflow_add-offset
overflow_add-offset c =
    let more = sum_by_more_le (λ (s : ℕ × ℤ). unsigned_abs s.1) c.args.sums.now c.loop-sum.sum-index (0, pos 0) c.loop-sum-test.true in
    omega (arith, ints, c.loop-sum.invariant.low, c.in_ok-offset.ensures.added.low)

pub loop-sum-preserved : goal.loop-sum-preserved
loop-sum-preserved c =
    let s : ℕ × ℤ = get_or c.args.sums.now c.loop-sum.sum-index (0, pos 0) in
    let more = sum_by_more_le (λ (x : ℕ × ℤ). unsigned_abs x.1) c.args.sums.now c.loop-sum.sum-index (0, pos 0) c.loop-sum-test.true in
    let moved : to_z w128 (of_z w128 (to_z w128 c.loop-sum.offset-bits +ℤ to_z w128 (of_z w128 c.in_ok-offset.field-0))) ≡ to_z w128 c.loop-sum.offset-bits +ℤ c.in_ok-offset.field-0 = omega (arith, ints, c.loop-sum.invariant.low, c.in_ok-offset.ensures.added.low) in
    subst (λ (ss : List (ℕ × ℤ)). StandForSums ss (to_z w128 (of_z w128 c.args.offset)) c.add_signed.new.terms (to_z w128 (of_z w128 (to_z w128 c.loop-sum.offset-bits +ℤ to_z w128 (of_z w128 c.in_ok-offset.field-0))))) (sym (take_more c.args.sums.now c.loop-sum.sum-index (0, pos 0) c.loop-sum-test.true))
    (stand_for_more (take c.loop-sum.sum-index c.args.sums.now) s (to_z w128 (of_z w128 c.args.offset)) (to_z w128 c.loop-sum.offset-bits) c.in_ok-offset.field-0 (to_z w128 (of_z w128 (to_z w128 c.loop-sum.offset-bits +ℤ to_z w128 (of_z w128 c.in_ok-offset.field-0)))) c.loop-sum.terms c.add_signed.new.terms c.loop-sum.invariant c.in_ok-offset.ensures.added (all_unmapped (λ v. 0 < v) (λ (x : ℕ × ℤ). x.0) c.args.sums.now c.requires.variables.from_one c.loop-sum.sum-index (0, pos 0) c.loop-sum-test.true) (others_before c.args.sums.now c.loop-sum.sum-index (0, pos 0) c.loop-sum-test.true c.requires.variables.distinct) moved)

whole : (i : ℕ) (sums : List (ℕ × ℤ)) (offset plain : ℤ) (terms : List (Literal × ℕ)) (left : ℤ) → length sums ≤ i → offset ≡ plain → StandForSums (take i sums) offset terms left → StandForSums sums plain terms left
whole i sums offset plain terms left all same stand = subst (λ (ss : List (ℕ × ℤ)). StandForSums ss plain terms left) (take_all i sums all) (subst (λ (z : ℤ). StandForSums (take i sums) z terms left) same stand)

pub overflow_cast-offset : goal.overflow_cast-offset
overflow_cast-offset c =
    let stand = whole c.loop-sum.sum-index c.args.sums.now (to_z w128 (of_z w128 c.args.offset)) c.args.offset c.loop-sum.terms (to_z w128 c.loop-sum.offset-bits) c.loop-sum-test.false (to_z-of_z _ _ c.ranges.offset) c.loop-sum.invariant in
    let row = cost_row_from c.args.sums.now c.args.offset (to_z w128 c.loop-sum.offset-bits) c.loop-sum.terms stand c.requires.small c.requires.bounds in
    omega (arith, ints, row.least)

pub from_parts-requires : goal.from_parts-requires
from_parts-requires c =
    let stand = whole c.loop-sum.sum-index c.args.sums.now (to_z w128 (of_z w128 c.args.offset)) c.args.offset c.loop-sum.terms (to_z w128 c.loop-sum.offset-bits) c.loop-sum-test.false (to_z-of_z _ _ c.ranges.offset) c.loop-sum.invariant in
    let row = cost_row_from c.args.sums.now c.args.offset (to_z w128 c.loop-sum.offset-bits) c.loop-sum.terms stand c.requires.small c.requires.bounds in
    let plain : to_z w64 (of_z w64 (to_z w128 c.loop-sum.offset-bits)) ≡ to_z w128 c.loop-sum.offset-bits = omega (arith, ints, row.least) in
    subst (IsCostRow c.loop-sum.terms) (sym plain) row

pub returns-clause-value : goal.returns-clause-value
returns-clause-value c =
    let stand = whole c.loop-sum.sum-index c.args.sums.now (to_z w128 (of_z w128 c.args.offset)) c.args.offset c.loop-sum.terms (to_z w128 c.loop-sum.offset-bits) c.loop-sum-test.false (to_z-of_z _ _ c.ranges.offset) c.loop-sum.invariant in
    let row = cost_row_from c.args.sums.now c.args.offset (to_z w128 c.loop-sum.offset-bits) c.loop-sum.terms stand c.requires.small c.requires.bounds in
    let plain : to_z w64 (of_z w64 (to_z w128 c.loop-sum.offset-bits)) ≡ to_z w128 c.loop-sum.offset-bits = omega (arith, ints, row.least) in
    λ a. ap (row_cost a) c.from_parts.ensures ∙ ap (λ (z : ℤ). row_cost a (record { terms = c.loop-sum.terms; offset = z })) plain ∙ stand.value a
