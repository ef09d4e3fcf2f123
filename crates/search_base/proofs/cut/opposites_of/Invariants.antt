use Rattle.std.proofs.Common.{◌≡◌, map, take}
use Rattle.pb_lin.specs.Constraint.{opposite}
use Rattle.search_base.specs.Cutting.{answered_literals}
use Rattle.search_base.proofs.cut.opposites_of.Given as goal

abbrev pub invariant-loop-answer : goal.invariant-loop-answer
invariant-loop-answer l = l.opposites.items ≡ map opposite (answered_literals (take l.answer-index l.answers))
