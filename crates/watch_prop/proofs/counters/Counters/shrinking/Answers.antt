use Rattle.std.proofs.Common.{◌≤◌, ◌<◌, ℕ, List, length, get_or, sym, subst, arith}
use Rattle.watch_prop.specs.Counting.{fresh_at}
use Rattle.watch_prop.specs.declared.counter_lines.Fresh.{Fresh}
use Rattle.watch_prop.proofs.CounterLaws.{counters_cut, ends_short}
use Rattle.watch_prop.proofs.counters.Counters.shrinking.Goals as goal

pub loop-self-preserved : goal.loop-self-preserved
loop-self-preserved c = record {
  in_step = c.uncount.ensures.in_step c.args.store.now c.loop-self.invariant.in_step;
  ends = subst (λ (es : List ℕ). (k : ℕ) → k < length es → get_or es k 0 ≤ c.args.keep) (sym c.uncount.ensures.others.ends) c.loop-self.invariant.ends;
  late = subst (λ (n : ℕ). (k : ℕ) → k < n → (fresh_at c.uncount.new.self.fresh.items k).end ≤ c.args.keep) (sym c.uncount.ensures.others.done)
      (subst (λ (fs : List Fresh). (k : ℕ) → k < c.loop-self.self.done → (fresh_at fs k).end ≤ c.args.keep) (sym c.uncount.ensures.others.fresh) c.loop-self.invariant.late);
}

pub returns : goal.returns
returns c = counters_cut c.loop-self.self c.args.store.now c.args.trail.now c.args.keep c.requires.keep c.loop-self-test.false c.loop-self.invariant.ends c.loop-self.invariant.late c.loop-self.invariant.in_step

pub uncount-requires-clause-in_step : goal.uncount-requires-clause-in_step
uncount-requires-clause-in_step c = (c.args.store.now, c.loop-self.invariant.in_step)

pub uncount-requires-clause-more : goal.uncount-requires-clause-more
uncount-requires-clause-more c = let short = ends_short c.loop-self.self c.args.store.now c.args.trail.now c.args.keep c.loop-self.invariant.ends c.loop-self.invariant.in_step in omega (arith, short, c.loop-self-test.true)
