use Rattle.std.specs.Prelude.{◌++◌, [], ◌∷◌, ◌+◌, take}
use Rattle.std.proofs.Common.{get_or, refl, sym, ◌∙◌, ap, subst}
use Rattle.scut_base.specs.Literal.{Literal}
use Rattle.cdcl_state.specs.Walking.{AreAside}
use Rattle.cdcl_state.proofs.Collecting.{aside_next, aside_past}
use Rattle.cdcl_state.proofs.marks.Marks.aside.Goals as goal
use Rattle.cdcl_state.proofs.marks.Marks.aside.Goals.{then-is_aside+in_ok-push, else-is_aside}

pub loop-place-preserved : goal.loop-place-preserved
loop-place-preserved c =
    let t = c.args.trail.now in
    let items = c.as_slice-place-items.result.now in
    let i = c.loop-place.place-index in
    let s = c.step_at-step.result in
    let lits = c.loop-place.lits.items in
    let at = c.step_at-step.ensures.value in
    elim c.if-is_aside.branch [
      | then-is_aside+in_ok-push w ↦
          subst (AreAside t c.args.reach c.args.self.now.on.items (take (i + 1) c.args.self.now.places)) (sym (ap (λ v. v.items) w.lits-is ∙ (w.in_ok-push.ensures).items ∙ ap (λ (l : Literal). lits ++ l ∷ []) w.said.ensures))
          (aside_next _ c.args.self.now.on.items c.args.self.now.seen.items c.args.self.now.places items i (get_or items i 0) c.requires.are c.as_slice-place-items.ensures c.loop-place-test.true refl t c.args.reach lits s c.step_at-step.ensures.steps c.loop-place.invariant at (c.is_aside.ensures.on w.if-is_aside.true) (c.is_aside.ensures.free s at w.if-is_aside.true))
      | else-is_aside w ↦
          subst (AreAside t c.args.reach c.args.self.now.on.items (take (i + 1) c.args.self.now.places)) (sym (ap (λ v. v.items) w.lits-is))
          (aside_past _ c.args.self.now.on.items c.args.self.now.seen.items c.args.self.now.places items i (get_or items i 0) c.requires.are c.as_slice-place-items.ensures c.loop-place-test.true refl t c.args.reach lits s c.loop-place.invariant at (c.is_aside.ensures.other s at w.if-is_aside.false))
    ]
