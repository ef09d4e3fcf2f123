use Rattle.std.proofs.Common.{◌∙◌, sym, ◌+◌, arith}
use Rattle.front_text.proofs.Models.{one_value_more, no_more_values, no_literal_after_space}
use Rattle.front_text.proofs.entry.read_model.Goals as goal

pub returns-then-not-skip-2 : goal.returns-then-not-skip-2
returns-then-not-skip-2 c = no_more_values c.args.cursor.now c.loop-values.cursor c.loop-values.values c.loop-values.invariant (omega arith) c.loop-values-test.ensures.1 (λ b rest is. c.if-not-skip-2.ensures.1 _ (c.loop-values-test.ensures.0 ∙ is))

pub loop-values-preserved : goal.loop-values-preserved
loop-values-preserved c = one_value_more c.args.cursor.now c.loop-values.cursor c.skip-in-loop-values-2.new.self c.take_literal.new.cursor c.loop-values.values c.push.new.self c.in-Some.value (c.len.result + 1) c.loop-values.invariant (sym c.loop-values-test.ensures.0 ∙ c.if-not-skip-2.ensures) c.in-Some.ensures.1 (omega arith) c.in_ok-push-in-Some.ensures.ok

pub returns-in-None : goal.returns-in-None
returns-in-None c = no_literal_after_space c.args.cursor.now c.loop-values.cursor c.skip-in-loop-values-2.new.self c.loop-values.values (c.len.result + 1) c.loop-values.invariant (omega arith) c.loop-values-test.ensures.1 (sym c.loop-values-test.ensures.0 ∙ c.if-not-skip-2.ensures) (omega arith) c.in-None.ensures
