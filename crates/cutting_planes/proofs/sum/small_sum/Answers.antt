use Rattle.std.proofs.Common.{ℕ, ◌+◌, ◌<◌, ◌≤◌, ◌^◌, length, drop, ◌⊎◌, inl, inr, arith, subst, sym}
use Rattle.std.proofs.lemmas.Option.{slice_get_within}
use Rattle.std.specs.Prelude.{option_to_list}
use Rattle.pb_lin.specs.Constraint.{ConstraintValue}
use Rattle.cutting_planes.specs.Applied.{IsPushedBelow}
use Rattle.cutting_planes.specs.Rules.{IsSum}
use Rattle.cutting_planes.proofs.Terms.{Terms}
use Rattle.cutting_planes.proofs.Merge.{merge_start, step_block, step_block_right, step_joined, step_last, left_positive, right_positive, next_small, fewer_left, fewer_right, fewer_both, IsJoined}
use Rattle.cutting_planes.proofs.sum.small_sum.Goals as goal
use Rattle.cutting_planes.proofs.sum.small_sum.Goals.{then-loop-i-test+else-j-len, else-loop-i-test}

pub loop-i-init : goal.loop-i-init
loop-i-init c = record {
  merge = rw c.in_ok-merged.ensures (merge_start c.args.p.now c.args.q.now c.len.ensures.normal c.len-2.ensures.normal);
  within = omega arith;
  within_too = omega arith;
}

-- what was put at the end of the left side
left_block : (c : goal.In_ok-i) → IsPushedBelow c.loop-i.merged c.push_below.new.merged c.args.p.now.terms c.loop-i.i c.term-t.result.0.var c.in_ok-i.i
left_block c = subst (λ (ts : Terms). IsPushedBelow c.loop-i.merged c.push_below.new.merged ts c.loop-i.i c.term-t.result.0.var c.in_ok-i.i) c.terms.ensures.value (subst (λ (v : ℕ). IsPushedBelow c.loop-i.merged c.push_below.new.merged c.terms.result.now c.loop-i.i v c.in_ok-i.i) c.var-then-var.ensures.value c.in_ok-i.ensures)

-- and of the right side
right_block : (c : goal.In_ok-j) → IsPushedBelow c.loop-i.merged c.push_below-then-var-2.new.merged c.args.q.now.terms c.loop-i.j c.term-s.result.0.var c.in_ok-j.j
right_block c = subst (λ (ts : Terms). IsPushedBelow c.loop-i.merged c.push_below-then-var-2.new.merged ts c.loop-i.j c.term-s.result.0.var c.in_ok-j.j) c.terms-then-var-2.ensures.value (subst (λ (v : ℕ). IsPushedBelow c.loop-i.merged c.push_below-then-var-2.new.merged c.terms-then-var-2.result.now c.loop-i.j v c.in_ok-j.j) c.var-then-var-2.ensures.value c.in_ok-j.ensures)

pub loop-i-preserved-then-var : goal.loop-i-preserved-then-var
loop-i-preserved-then-var c = record {
  merge = step_block c.args.p.now.terms c.args.q.now.terms c.loop-i.merged c.push_below.new.merged c.loop-i.i c.loop-i.j c.in_ok-i.i c.term-t.result c.loop-i.cancelled c.loop-i.invariant.merge c.term-t.ensures (left_block c);
  within = (left_block c).bound;
  within_too = c.loop-i.invariant.within_too;
}

pub loop-i-preserved-then-var-2 : goal.loop-i-preserved-then-var-2
loop-i-preserved-then-var-2 c = record {
  merge = step_block_right c.args.p.now.terms c.args.q.now.terms c.loop-i.merged c.push_below-then-var-2.new.merged c.loop-i.i c.loop-i.j c.in_ok-j.j c.term-s.result c.loop-i.cancelled c.loop-i.invariant.merge c.term-s.ensures (right_block c);
  within = c.loop-i.invariant.within;
  within_too = (right_block c).bound;
}

pub add_terms-joined-requires-clause-positive : goal.add_terms-joined-requires-clause-positive
add_terms-joined-requires-clause-positive c = left_positive c.args.p.now.terms c.args.q.now.terms c.loop-i.merged (drop c.loop-i.j c.args.q.now.terms) c.loop-i.i c.term-s.result c.loop-i.cancelled c.loop-i.invariant.merge c.term-s.ensures

pub add_terms-joined-requires-clause-positive_too : goal.add_terms-joined-requires-clause-positive_too
add_terms-joined-requires-clause-positive_too c = right_positive c.args.p.now.terms c.args.q.now.terms c.loop-i.merged (drop c.loop-i.i c.args.p.now.terms) c.loop-i.j c.term-t.result c.loop-i.cancelled c.loop-i.invariant.merge c.term-t.ensures

pub add_terms-joined-requires-clause-small : goal.add_terms-joined-requires-clause-small
add_terms-joined-requires-clause-small c =
    let small : c.loop-i.cancelled + (c.term-s.result.1 + c.term-t.result.1) ≤ 2 ^ 100 = next_small c.args.p.now c.args.q.now c.loop-i.merged c.loop-i.i c.loop-i.j c.term-s.result c.term-t.result c.loop-i.cancelled c.loop-i.invariant.merge c.term-s.ensures c.term-t.ensures c.requires in
    omega arith

pub overflow_add-cancelled : goal.overflow_add-cancelled
overflow_add-cancelled c =
    let small : c.loop-i.cancelled + (c.term-s.result.1 + c.term-t.result.1) ≤ 2 ^ 100 = next_small c.args.p.now c.args.q.now c.loop-i.merged c.loop-i.i c.loop-i.j c.term-s.result c.term-t.result c.loop-i.cancelled c.loop-i.invariant.merge c.term-s.ensures c.term-t.ensures c.requires in
    let joined = c.add_terms-joined.ensures.total in
    omega arith

pub loop-i-preserved : goal.loop-i-preserved
loop-i-preserved c =
    let joined : IsJoined c.term-s.result c.term-t.result (option_to_list c.add_terms-joined.result.0) c.add_terms-joined.result.1 = record {
      same = c.add_terms-joined.ensures.value;
      variable = omega arith;
      terms = c.add_terms-joined.ensures.left;
      small = c.add_terms-joined.ensures.total;
    } in
    record {
      merge = step_joined c.args.p.now.terms c.args.q.now.terms c.loop-i.merged c.push_some.new.terms c.loop-i.i c.loop-i.j c.term-s.result c.term-t.result c.add_terms-joined.result.0 c.loop-i.cancelled c.add_terms-joined.result.1 c.loop-i.invariant.merge c.term-s.ensures c.term-t.ensures joined c.in_ok-push_some.ensures;
      within = let short : c.loop-i.i < length c.args.p.now.terms = slice_get_within c.args.p.now.terms c.loop-i.i c.term-s.result c.term-s.ensures in omega arith;
      within_too = let short : c.loop-i.j < length c.args.q.now.terms = slice_get_within c.args.q.now.terms c.loop-i.j c.term-t.result c.term-t.ensures in omega arith;
    }

pub loop-i-smaller-then-var : goal.loop-i-smaller-then-var
loop-i-smaller-then-var c =
    fewer_left (length c.args.p.now.terms) (length c.args.q.now.terms) c.loop-i.i c.loop-i.j c.in_ok-i.i (left_block c).past (left_block c).bound

pub loop-i-smaller-then-var-2 : goal.loop-i-smaller-then-var-2
loop-i-smaller-then-var-2 c =
    fewer_right (length c.args.p.now.terms) (length c.args.q.now.terms) c.loop-i.i c.loop-i.j c.in_ok-j.j (right_block c).past (right_block c).bound

pub loop-i-smaller : goal.loop-i-smaller
loop-i-smaller c =
    let p = c.args.p.now.terms in
    let q = c.args.q.now.terms in
    fewer_both (length p) (length q) c.loop-i.i c.loop-i.j (slice_get_within p c.loop-i.i c.term-s.result c.term-s.ensures) (slice_get_within q c.loop-i.j c.term-t.result c.term-t.ensures)

pub from_parts-requires : goal.from_parts-requires
from_parts-requires c =
    let ended : (length c.args.p.now.terms ≤ c.loop-i.i) ⊎ (length c.args.q.now.terms ≤ c.loop-i.j) = elim c.loop-i-test.branch [
      | then-loop-i-test+else-j-len w ↦ inr (omega arith)
      | else-loop-i-test w ↦ inl (omega arith)
    ] in
    (step_last c.args.p.now c.args.q.now c.loop-i.merged c.push_rest.new.terms c.push_rest-2.new.terms c.loop-i.i c.loop-i.j c.loop-i.cancelled c.saturating_sub-degree.result c.loop-i.invariant.merge ended c.in_ok-push_rest.ensures c.in_ok-push_rest-2.ensures c.requires (omega arith)).normal

pub returns : goal.returns
returns c =
    let p = c.args.p.now in
    let q = c.args.q.now in
    let ended : (length p.terms ≤ c.loop-i.i) ⊎ (length q.terms ≤ c.loop-i.j) = elim c.loop-i-test.branch [
      | then-loop-i-test+else-j-len w ↦ inr (omega arith)
      | else-loop-i-test w ↦ inl (omega arith)
    ] in
    subst (λ (r : ConstraintValue). IsSum r p q) (sym c.from_parts.ensures)
    (step_last p q c.loop-i.merged c.push_rest.new.terms c.push_rest-2.new.terms c.loop-i.i c.loop-i.j c.loop-i.cancelled c.saturating_sub-degree.result c.loop-i.invariant.merge ended c.in_ok-push_rest.ensures c.in_ok-push_rest-2.ensures c.requires (omega arith))
