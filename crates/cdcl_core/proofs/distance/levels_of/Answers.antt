use Rattle.cdcl_core.proofs.LevelCounts.{all_levels, none_yet, with_level, without_level}
use Rattle.cdcl_core.proofs.distance.levels_of.Goals as goal
use Rattle.cdcl_core.proofs.distance.levels_of.Goals.{in-Some+in_ok-push, in_default}

pub loop-lit-init : goal.loop-lit-init
loop-lit-init g c = none_yet _ _ c.in_ok-levels.levels.items c.in_ok-levels.ensures.items

pub loop-lit-preserved : goal.loop-lit-preserved
loop-lit-preserved g c =
    let trail = c.args.search.now.trail in
    let steps = c.level-level.ensures.search.steps in
    elim c.match-level_of.branch [
      | in-Some+in_ok-push w ↦ rw w.levels-is (with_level trail c.args.lits.now c.loop-lit.lit-index c.loop-lit.levels.items w.push.new.self.items c.lit-item.result w.in-Some.level steps c.loop-lit-test.true c.lit-item.is
          w.in-Some.ensures w.in_ok-push.ensures.items c.loop-lit.invariant)
      | in_default w ↦ rw w.levels-is (without_level trail c.args.lits.now c.loop-lit.lit-index c.loop-lit.levels.items c.lit-item.result steps c.loop-lit-test.true c.lit-item.is w.in_default.ensures c.loop-lit.invariant)
    ]

pub returns : goal.returns
returns g c = all_levels _ _ c.loop-lit.lit-index c.loop-lit.levels.items c.loop-lit-test.false c.loop-lit.invariant
