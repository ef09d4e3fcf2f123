use Rattle.std.proofs.Common.{ℕ, List, ◌∙◌, ap}
use Rattle.std.specs.List.{zip}
use Rattle.pb_lin.specs.LineMap.{lines_of}
use Rattle.pb_lin.proofs.LineEntries.{no_lines}
use Rattle.pb_lin.proofs.LineTable.{places_none}
use Rattle.clause_prop.proofs.store.ClauseStore.new.Goals as goal

pub invariant_of-result : goal.invariant_of-result
invariant_of-result c = rw (c.new.ensures, c.new-2.ensures.items, c.new-3.ensures.items) places_none

pub returns : goal.returns
returns c = ap (λ (ids : List ℕ). lines_of (zip ids c.new-3.result.items)) c.new-2.ensures.items ∙ no_lines
