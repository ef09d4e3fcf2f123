use Rattle.std.proofs.Common.{◌∙◌}
use Rattle.watch_prop.proofs.counters.Counters.count_to.Goals as goal

pub count-requires-clause-in_step : goal.count-requires-clause-in_step
count-requires-clause-in_step c = (c.requires.in_step.0, c.loop-self.invariant.in_step c.requires.in_step.0 c.requires.in_step.1)

pub loop-self-preserved : goal.loop-self-preserved
loop-self-preserved c = record {
  in_step = λ store in_step. c.count.ensures.in_step store (c.loop-self.invariant.in_step store in_step);
  others = record {
    lists = c.count.ensures.others.lists ∙ c.loop-self.invariant.others.lists;
    ends = c.count.ensures.others.ends ∙ c.loop-self.invariant.others.ends;
    fresh = c.count.ensures.others.fresh ∙ c.loop-self.invariant.others.fresh;
    done = c.count.ensures.others.done ∙ c.loop-self.invariant.others.done;
  };
}
