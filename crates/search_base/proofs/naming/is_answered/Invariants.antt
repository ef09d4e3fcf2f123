use Rattle.std.proofs.Common.{◌≡◌, false, take}
use Rattle.pb_lin.specs.Restriction.{is_among}
use Rattle.search_base.specs.Cutting.{answered_literals}
use Rattle.search_base.proofs.naming.is_answered.Given as goal

abbrev pub invariant-loop-answer : goal.invariant-loop-answer
invariant-loop-answer l = is_among (answered_literals (take l.answer-index l.answers)) l.lit ≡ false
