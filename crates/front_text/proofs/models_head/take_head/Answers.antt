use Rattle.front_text.proofs.ModelsHeads.{no_head_begin, no_head}
use Rattle.front_text.proofs.models_head.take_head.Goals as goal

pub returns-then-not-skip : goal.returns-then-not-skip
returns-then-not-skip c = no_head_begin c.args.cursor.now c.if-not-skip.ensures.1

pub returns-in_err-count : goal.returns-in_err-count
returns-in_err-count c = rw c.from_residual.ensures (no_head c.args.cursor.now c.skip.new.self _ c.take_word.new.self c.if-not-skip.ensures c.take_word.ensures (λ count rest is. c.in_err-count.ensures count))

pub returns-then-not-skip-2 : goal.returns-then-not-skip-2
returns-then-not-skip-2 c = no_head c.args.cursor.now c.skip.new.self _ c.take_word.new.self c.if-not-skip.ensures c.take_word.ensures (λ count rest is. c.if-not-skip-2.ensures.1 rest is)
