use Rattle.std.proofs.Common.{subst, sym}
use Rattle.std.proofs.lemmas.List.{take_all}
use Rattle.std.specs.Prelude.{List, ℕ, All, Contains, slice_index}
use Rattle.std.specs.BinaryHeap.{heap_items}
use Rattle.cdcl_state.proofs.Listed.{pushed_all, pushed_others}
use Rattle.cdcl_state.proofs.places.gather.Goals as goal

pub returns-in_err-push-clause-kept : goal.returns-in_err-push-clause-kept
returns-in_err-push-clause-kept c p among = subst (λ (xs : List ℕ). Contains xs p) (sym c.in_err-push.ensures.unchanged.0) (c.loop-place.invariant.kept p among)

pub loop-place-preserved : goal.loop-place-preserved
loop-place-preserved c = record {
  heap = c.in_ok-push.ensures.heap_order c.loop-place.invariant.heap;
  kept = λ p among. pushed_others (heap_items c.loop-place.waiting) (heap_items c.push.new.self) (slice_index c.args.places.now c.loop-place.place-index) p c.in_ok-push.ensures.permutation (c.loop-place.invariant.kept p among);
  all = pushed_all (heap_items c.loop-place.waiting) (heap_items c.push.new.self) c.args.places.now c.loop-place.place-index c.loop-place-test.true c.in_ok-push.ensures.permutation c.loop-place.invariant.all;
}

pub returns-clause-all : goal.returns-clause-all
returns-clause-all c = subst (All (Contains (heap_items c.loop-place.waiting))) (take_all c.loop-place.place-index c.args.places.now c.loop-place-test.false) c.loop-place.invariant.all
