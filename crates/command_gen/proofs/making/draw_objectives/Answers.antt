use Rattle.std.proofs.Common.{◌+◌, ◌*◌, ap, sym, ◌∙◌, arith}
use Rattle.command_gen.specs.Draws.{state_after}
use Rattle.command_gen.specs.Generated.{drawn_objective, nth_objective}
use Rattle.command_gen.proofs.Drawing.{drawn_more, one_more_of, state_sum}
use Rattle.command_gen.proofs.making.draw_objectives.Goals as goal

pub loop-objective-preserved : goal.loop-objective-preserved
loop-objective-preserved c =
    let i = c.loop-objective._objective in
    let s = c.args.draws.now in
    let vars = c.args.vars in
    let was = c.loop-objective.invariant in
    record {
      objectives = drawn_more (nth_objective vars s) 0 i i c.loop-objective.objectives c.push.new.self c.in_ok-draw_objective.field-0 (omega arith) was.objectives c.in_ok-push.ensures.ok
          (c.in_ok-draw_objective.ensures.objective ∙ ap (drawn_objective vars) was.state);
      state = c.in_ok-draw_objective.ensures.state ∙ ap (state_after vars) was.state ∙ sym (state_sum vars (vars * i) (vars * (i + 1)) s (one_more_of vars i));
    }
