use Rattle.std.proofs.Common.{◌≡◌, []}
use Rattle.pb_lin.specs.LineMap.{LineMap}
use Rattle.watch_prop.specs.Watches.{AreTaken, Hold, IsReady}
use Rattle.watch_prop.proofs.watches.Watches.packed.Given as goal

abbrev pub invariant-loop-slot : goal.invariant-loop-slot
invariant-loop-slot l = record {
  ready : IsReady l.packed l.trail;
  none : l.packed.ends.items ≡ [];
  taken : (lines : LineMap) → Hold l.self lines → AreTaken l.packed l.self lines l.slot;
}
