use Rattle.std.proofs.Common.{length, arith, ap}
use Rattle.watch_prop.proofs.WatchWords.{length_slots}
use Rattle.watch_prop.proofs.slots.Slots.len.Goals as goal

pub returns : goal.returns
returns c = omega (arith, c.len.ensures, c.self.inside.words.ok.0, length_slots c.self.inside.words.items, ap length c.self.view_is)
