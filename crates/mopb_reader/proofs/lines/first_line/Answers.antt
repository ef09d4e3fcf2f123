use Rattle.std.proofs.Common.{◌+◌, drop, take, Some, None}
use Rattle.std.proofs.lemmas.List.{take_rest}
use Rattle.mopb_reader.proofs.Cutting.{lines_first, lines_last, numbered_first, lines_counted}
use Rattle.mopb_reader.proofs.lines.first_line.Goals as goal

pub returns-then-end-text-clause-same : goal.returns-then-end-text-clause-same
returns-then-end-text-clause-same c number =
    rw (take_rest c.args.text.now _) (numbered_first number c.content-line.result.now (take c.line_len-end.result c.args.text.now) c.args.text.now (Some (drop (c.line_len-end.result + 1) c.args.text.now)) (lines_first c.args.text.now c.line_len-end.result c.line_len-end.ensures.value c.if-end-text.true) c.content-line.ensures.same)

pub returns-then-end-text-clause-lines : goal.returns-then-end-text-clause-lines
returns-then-end-text-clause-lines c =
    rw (take_rest c.args.text.now _) (lines_counted (take c.line_len-end.result c.args.text.now) c.args.text.now (Some (drop (c.line_len-end.result + 1) c.args.text.now)) (lines_first c.args.text.now c.line_len-end.result c.line_len-end.ensures.value c.if-end-text.true))

pub returns-clause-same : goal.returns-clause-same
returns-clause-same c number = numbered_first number c.content-line.result.now (take c.line_len-end.result c.args.text.now) c.args.text.now None (lines_last c.args.text.now c.line_len-end.result c.line_len-end.ensures.value c.if-end-text.false) c.content-line.ensures.same

pub returns-clause-lines : goal.returns-clause-lines
returns-clause-lines c = lines_counted (take c.line_len-end.result c.args.text.now) c.args.text.now None (lines_last c.args.text.now c.line_len-end.result c.line_len-end.ensures.value c.if-end-text.false)
