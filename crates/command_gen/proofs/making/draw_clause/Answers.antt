use Rattle.std.proofs.Common.{◌≡◌, ◌+◌, ap, refl, ◌∙◌, false, arith}
use Rattle.command_gen.specs.Draws.{below, draw, state_after}
use Rattle.command_gen.specs.Generated.{drawn_item}
use Rattle.command_gen.proofs.Drawing.{drawn_more, literal_is, next_after}
use Rattle.command_gen.proofs.making.draw_clause.Goals as goal

pub loop-item-preserved : goal.loop-item-preserved
loop-item-preserved c =
    let i = c.loop-item._item in
    let s = c.args.draws.now in
    let was = c.loop-item.invariant in
    let drawn : c.below.new.self ≡ state_after (i + 1) s = c.below.ensures.state ∙ next_after i (i + 1) s c.loop-item.draws refl was.state in
    let number = c.from.ensures ∙ c.below.ensures.drawn ∙ ap (below c.args.vars) drawn in
    record {
      clause = drawn_more (drawn_item c.args.vars s) 1 i (i + 1) c.loop-item.clause c.push.new.self c.new.result (omega arith) was.clause c.in_ok-push.ensures.ok
          (literal_is c.new.result (1 + draw c.args.vars s (i + 1)) false (c.new.ensures.var ∙ ap (λ n. 1 + n) number) c.new.ensures.neg);
      state = drawn;
    }
