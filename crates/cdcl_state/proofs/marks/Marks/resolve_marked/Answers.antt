use Rattle.std.proofs.Common.{refl, ◌∙◌, subst, arith}
use Rattle.std.specs.Prelude.{All, Contains, reverse}
use Rattle.std.proofs.lemmas.List.Elements.{All-contains}
use Rattle.std.specs.BinaryHeap.{heap_items}
use Rattle.cdcl_state.proofs.Listed.{after_least, closing_early, closing_next, closing_none, listed_on, rest_all}
use Rattle.cdcl_state.proofs.marks.Marks.resolve_marked.Goals as goal

pub back-init : goal.back-init
back-init c = record {
  walk = c.requires.walk;
  room = refl;
  falls = omega arith;
  heap = c.in_ok-gather.ensures.heap;
  listed = λ p among low. All-contains (Contains (heap_items c.gather.new.waiting)) c.args.self.now.places p (subst (All (Contains (heap_items c.gather.new.waiting))) c.as_slice.ensures c.in_ok-gather.ensures.all) among;
  within = c.requires.within;
  closing = λ given start. start;
}

pub returns-then-place-self-clause-closing : goal.returns-then-place-self-clause-closing
returns-then-place-self-clause-closing c given start =
    let s = c.back.self in
    let before = c.back.invariant in
    closing_early c.args.store.now c.args.trail.now s.on.items given (reverse c.back.hints.items) s.seen.items s.places s.least before.walk (heap_items c.back.waiting) (heap_items c.next_before.new.waiting) c.back.before c.in-Some.place before.listed c.in-Some.ensures.next c.if-place-self.true (before.closing given start)

pub step_back-requires-clause-after : goal.step_back-requires-clause-after
step_back-requires-clause-after c = after_least c.back.self.least c.in-Some.place c.if-place-self.false

pub back-preserved : goal.back-preserved
back-preserved c =
    let s = c.back.self in
    let before = c.back.invariant in
    let next = c.in-Some.ensures.next in
    let done = c.in_ok-step_back.ensures in
    let after = heap_items c.gather-in-Some.new.waiting in
    record {
      walk = done.walk;
      room = done.room ∙ before.room;
      falls = omega (arith, done.falls, before.falls);
      heap = c.in_ok-gather-2.ensures.heap;
      listed = listed_on s.places c.step_back.new.self.places (heap_items c.back.waiting) (heap_items c.next_before.new.waiting) after c.back.before c.in-Some.place done.longer next before.listed c.in_ok-gather-2.ensures.kept
          (rest_all after c.as_slice-in-Some.result.now c.step_back.new.self.places s.places c.len-known.result c.as_slice-in-Some.ensures c.len-known.ensures c.in_ok-gather-2.ensures.all);
      within = omega (arith, next.before, before.within);
      closing = λ given start. done.closing given
          (closing_next c.args.store.now c.args.trail.now s.on.items given (reverse c.back.hints.items) s.seen.items s.places s.least before.walk (heap_items c.back.waiting) (heap_items c.next_before.new.waiting) c.back.before c.in-Some.place before.listed next (before.closing given start));
    }

pub returns-clause-closing : goal.returns-clause-closing
returns-clause-closing c given start =
    let s = c.back.self in
    let before = c.back.invariant in
    closing_none c.args.store.now c.args.trail.now s.on.items given (reverse c.back.hints.items) s.seen.items s.places s.least before.walk (heap_items c.back.waiting) c.back.before before.listed c.in_default.ensures.none (before.closing given start)
