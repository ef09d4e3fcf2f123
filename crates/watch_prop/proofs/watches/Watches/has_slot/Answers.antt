use Rattle.std.proofs.Common.{length, arith, ap}
use Rattle.watch_prop.proofs.watches.Watches.has_slot.Goals as goal

pub returns-else-begins-clause-no : goal.returns-else-begins-clause-no
returns-else-begins-clause-no c = λ _ long. absurd (omega (arith, long, ap length (c.begins.ensures.none c.if-begins.false)))
