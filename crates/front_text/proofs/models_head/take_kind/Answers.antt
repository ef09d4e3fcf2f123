use Rattle.front_text.proofs.ModelsHeads.{no_kind_begin, no_kind_line}
use Rattle.front_text.proofs.models_head.take_kind.Goals as goal

pub returns-in_err-all : goal.returns-in_err-all
returns-in_err-all c = rw c.from_residual.ensures (no_kind_begin c.args.cursor.now c.in_err-all.ensures)

pub returns-in_err-count : goal.returns-in_err-count
returns-in_err-count c = rw c.from_residual-in_err-count.ensures (no_kind_line c.args.cursor.now c.take_kind_text.new.cursor _ c.take_word.new.self c.in_ok-all.all c.in_ok-all.ensures.1 c.take_word.ensures (λ count rest is. c.in_err-count.ensures count))

pub returns-then-not-skip : goal.returns-then-not-skip
returns-then-not-skip c = no_kind_line c.args.cursor.now c.take_kind_text.new.cursor _ c.take_word.new.self c.in_ok-all.all c.in_ok-all.ensures.1 c.take_word.ensures (λ count rest is. c.if-not-skip.ensures.1 rest is)
