use Rattle.std.proofs.Common.{◌<◌, ◌≤◌, ◌≡◌, length, arith, ⊎_elim}
use Rattle.std.proofs.lemmas.Bool.{cases_lt}
use Rattle.std.specs.BinaryHeap.{heap_items}
use Rattle.cdcl_state.proofs.Listed.{popped_late, popped_next, none_among}
use Rattle.cdcl_state.proofs.places.next_before.Goals as goal

pub loop-place-preserved : goal.loop-place-preserved
loop-place-preserved c = record {
  heap = (c.in-Some.ensures.heap_order c.loop-place.invariant.heap).0;
  kept = popped_late (heap_items c.args.waiting.now) (heap_items c.loop-place.waiting) (heap_items c.pop.new.self) c.args.end c.in-Some.place c.loop-place.invariant.kept c.in-Some.ensures.permutation c.if-place-end.false;
}

pub returns-then-place-end-clause-next : goal.returns-then-place-end-clause-next
returns-then-place-end-clause-next c =
    popped_next (heap_items c.args.waiting.now) (heap_items c.loop-place.waiting) (heap_items c.pop.new.self) c.args.end c.in-Some.place c.loop-place.invariant.kept c.in-Some.ensures.permutation c.if-place-end.true (c.in-Some.ensures.below_top c.loop-place.invariant.heap)

pub returns-clause-none : goal.returns-clause-none
returns-clause-none c p among =
    let w = c.loop-place.waiting in
    let none : length (heap_items w) ≡ 0 = omega (arith, c.in_default.ensures.none, w.data.ok.0) in
    ⊎_elim
    (λ (low : p < c.args.end). absurd (none_among (heap_items w) p none (c.loop-place.invariant.kept p among low)))
    (λ (late : c.args.end ≤ p). late)
    (cases_lt p c.args.end)
