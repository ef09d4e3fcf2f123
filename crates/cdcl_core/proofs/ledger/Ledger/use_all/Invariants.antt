use Rattle.std.proofs.Common.{◌≡◌}
use Rattle.cdcl_core.proofs.ledger.Ledger.use_all.Given as goal

abbrev pub invariant-loop-hint : goal.invariant-loop-hint
invariant-loop-hint l = l.self ≡ l.fn.self
