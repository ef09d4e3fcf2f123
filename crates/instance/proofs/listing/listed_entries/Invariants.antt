use Rattle.std.proofs.Common.{◌≡◌, take, map}
use Rattle.instance.specs.ParetoFront.{listed_entry}
use Rattle.instance.proofs.listing.listed_entries.Given as goal

abbrev pub invariant-loop-entry : goal.invariant-loop-entry
invariant-loop-entry l = l.all.items ≡ map (listed_entry l.inst) (take l.entry-index l.entries)
