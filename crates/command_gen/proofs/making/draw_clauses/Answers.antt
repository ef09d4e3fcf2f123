use Rattle.std.proofs.Common.{◌+◌, ◌*◌, ap, sym, ◌∙◌, arith}
use Rattle.command_gen.specs.Draws.{state_after}
use Rattle.command_gen.specs.Generated.{drawn_clause, nth_clause}
use Rattle.command_gen.proofs.Drawing.{drawn_more, state_sum}
use Rattle.command_gen.proofs.making.draw_clauses.Goals as goal

pub loop-clause-preserved : goal.loop-clause-preserved
loop-clause-preserved c =
    let i = c.loop-clause._clause in
    let s = c.args.draws.now in
    let was = c.loop-clause.invariant in
    record {
      clauses = drawn_more (nth_clause c.args.vars s) 0 i i c.loop-clause.clauses c.push.new.self c.as_slice.result.now (omega arith) was.clauses c.in_ok-push.ensures.ok
          (c.as_slice.ensures ∙ c.in_ok-draw_clause.ensures.clause ∙ ap (drawn_clause c.args.vars) was.state);
      state = c.in_ok-draw_clause.ensures.state ∙ ap (state_after 3) was.state ∙ sym (state_sum 3 (3 * i) (3 * (i + 1)) s (omega arith));
    }
