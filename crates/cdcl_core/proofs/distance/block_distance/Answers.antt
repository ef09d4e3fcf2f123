use Rattle.std.proofs.Common.{◌∙◌}
use Rattle.cdcl_core.proofs.LevelCounts.{counted}
use Rattle.cdcl_core.proofs.distance.block_distance.Goals as goal

pub returns : goal.returns
returns g c = counted _ _ _ c.sort_unstable.new.self.items c.dedup.new.self.items _ c.in_ok-levels.ensures c.sort_unstable.ensures.permutation c.sort_unstable.ensures.sorted c.dedup.ensures.filtered (c.len.ensures ∙ c.dedup.new.self.ok.0)
