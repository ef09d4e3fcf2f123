use Rattle.std.proofs.Common.{get_or, refl, sym, ◌∙◌, subst, arith}
use Rattle.std.specs.Prelude.{ℕ, ◌+◌, take}
use Rattle.cdcl_state.specs.Walking.{IsHighest}
use Rattle.cdcl_state.proofs.Collecting.{highest_next, highest_past, place_below, read_mark}
use Rattle.cdcl_state.proofs.marks.Marks.highest.Goals as goal
use Rattle.cdcl_state.proofs.marks.Marks.highest.Goals.{then-index, else-index}

pub index-requires : goal.index-requires
index-requires c =
    let items = c.as_slice-place-items.result.now in
    let i = c.loop-place.place-index in
    let low = place_below _ c.args.self.now.on.items c.args.self.now.seen.items c.args.self.now.places items i (get_or items i 0) c.requires.are c.as_slice-place-items.ensures c.loop-place-test.true refl c.requires.long in
    omega (arith, low, c.args.self.now.on.ok.0)

pub loop-place-preserved : goal.loop-place-preserved
loop-place-preserved c =
    let items = c.as_slice-place-items.result.now in
    let i = c.loop-place.place-index in
    let on = read_mark _ c.args.self.now.on.items c.args.self.now.seen.items c.args.self.now.places items i (get_or items i 0) c.requires.are c.as_slice-place-items.ensures c.loop-place-test.true refl c.index.result.now c.requires.long c.index.ensures in
    elim c.if-index.branch [
      | then-index w ↦ subst (λ (best : ℕ). IsHighest c.args.trail.now c.args.self.now.on.items (take (i + 1) c.args.self.now.places) c.args.top best) (sym w.best-is)
          (highest_next _ c.args.self.now.on.items c.args.self.now.seen.items c.args.self.now.places items i (get_or items i 0) c.requires.are c.as_slice-place-items.ensures c.loop-place-test.true refl
          c.args.trail.now c.args.top c.loop-place.best w.raised-best.result w.step_at-level.result c.loop-place.invariant (on ∙ w.if-index.true) w.step_at-level.ensures.value w.raised-best.ensures.kept w.raised-best.ensures.reached w.raised-best.ensures.one_of)
      | else-index w ↦ subst (λ (best : ℕ). IsHighest c.args.trail.now c.args.self.now.on.items (take (i + 1) c.args.self.now.places) c.args.top best) (sym w.best-is)
          (highest_past _ c.args.self.now.on.items c.args.self.now.seen.items c.args.self.now.places items i (get_or items i 0) c.requires.are c.as_slice-place-items.ensures c.loop-place-test.true refl c.args.trail.now c.args.top c.loop-place.best c.loop-place.invariant (on ∙ w.if-index.false))
    ]
