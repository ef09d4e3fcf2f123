use Rattle.std.proofs.Common.{◌≡◌, ◌++◌, ◌+◌, drop, codes}
use Rattle.front_set.specs.ListText.{literals_from}
use Rattle.front_text.proofs.print.append_model.Given as goal

abbrev pub invariant-loop-at : goal.invariant-loop-at
invariant-loop-at l = l.text.items ++ literals_from (l.at + 1) (drop l.at l.model) ≡ l.fn.text.items ++ (codes "v" ++ literals_from 1 l.model)
