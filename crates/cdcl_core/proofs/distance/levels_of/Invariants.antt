use Rattle.cdcl_core.proofs.LevelCounts.{AreLevelsTo}
use Rattle.cdcl_core.proofs.distance.levels_of.Given as goal

abbrev pub invariant-loop-lit : goal.invariant-loop-lit
invariant-loop-lit g l = AreLevelsTo l.search.trail l.lits l.lit-index l.levels.items
