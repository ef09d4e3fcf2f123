use Rattle.std.proofs.Common.{◌≡◌, take}
use Rattle.watch_prop.proofs.watch_lists.short_lits.Given as goal

abbrev pub invariant-loop-lit : goal.invariant-loop-lit
invariant-loop-lit l = l.row ≡ take l.lit-index l.lits
