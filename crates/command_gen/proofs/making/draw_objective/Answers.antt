use Rattle.std.proofs.Common.{◌≡◌, ◌+◌, ap, refl, ◌∙◌, arith}
use Rattle.command_gen.specs.Draws.{below, state_after}
use Rattle.command_gen.specs.Generated.{drawn_soft, soft_of}
use Rattle.command_gen.proofs.Drawing.{drawn_more, next_after}
use Rattle.command_gen.proofs.making.draw_objective.Goals as goal

pub loop-before-preserved : goal.loop-before-preserved
loop-before-preserved c =
    let i = c.loop-before.before in
    let s = c.args.draws.now in
    let was = c.loop-before.invariant in
    let drawn : c.draw_soft.new.draws ≡ state_after (i + 1) s = c.in_ok-draw_soft.ensures.state ∙ next_after i (i + 1) s c.loop-before.draws refl was.state in
    let soft : c.in_ok-draw_soft.field-0 ≡ drawn_soft s (i + 1) =
    c.in_ok-draw_soft.ensures.soft
    ∙ ap (λ n. soft_of (n + 1) (below 4 c.draw_soft.new.draws)) c.from.ensures
    ∙ ap (λ d. soft_of (i + 1) (below 4 d)) drawn in
    record {
      softs = drawn_more (drawn_soft s) 1 i (i + 1) c.loop-before.softs c.push.new.self c.in_ok-draw_soft.field-0 (omega arith) was.softs c.in_ok-push.ensures.ok soft;
      state = drawn;
    }
