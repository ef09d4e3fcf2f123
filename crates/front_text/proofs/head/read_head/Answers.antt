use Rattle.front_text.proofs.Heads.{no_head}
use Rattle.front_text.proofs.head.read_head.Goals as goal

pub returns-in_err-count : goal.returns-in_err-count
returns-in_err-count c = rw c.from_residual-in_err-count.ensures (no_head c.args.cursor.now c.read_kind.new.cursor _ c.take_word.new.self c.in_ok-complete.complete c.in_ok-complete.ensures.1 c.take_word.ensures (λ count rest is. c.in_err-count.ensures count))

pub returns-then-not-skip : goal.returns-then-not-skip
returns-then-not-skip c = no_head c.args.cursor.now c.read_kind.new.cursor _ c.take_word.new.self c.in_ok-complete.complete c.in_ok-complete.ensures.1 c.take_word.ensures (λ count rest is. c.if-not-skip.ensures.1 rest is)
