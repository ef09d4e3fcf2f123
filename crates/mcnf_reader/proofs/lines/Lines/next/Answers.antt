use Rattle.mcnf_reader.proofs.Cutting.{take_line, take_last_line}
use Rattle.mcnf_reader.proofs.lines.Lines.next.Goals as goal

pub returns-then-end-text : goal.returns-then-end-text
returns-then-end-text c = take_line _ _ _ _ _ _ c.self.view_is c.if-self.false c.line_len-end.ensures.value c.if-end-text.true c.line_at-line.ensures c.after-self-inside.ensures

pub returns : goal.returns
returns c = take_last_line _ _ _ _ _ c.self.view_is c.if-self.false c.line_len-end.ensures.value c.if-end-text.false c.line_at-line.ensures
