use Rattle.std.proofs.Common.{◌≡◌, map, take}
use Rattle.search_base.specs.Cutting.{answered_line}
use Rattle.search_base.proofs.cut.lines_of.Given as goal

abbrev pub invariant-loop-answer : goal.invariant-loop-answer
invariant-loop-answer l = l.lines ≡ map answered_line (take l.answer-index l.answers)
