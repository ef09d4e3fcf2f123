use Rattle.std.proofs.Common.{◌≡◌, ℕ, arith, subst}
use Rattle.watch_prop.specs.Counted.{IsQuietStep}
use Rattle.watch_prop.proofs.counters.Counters.count_next.Goals as goal

pub returns-clause-quiet : goal.returns-clause-quiet
returns-clause-quiet c = λ none.
    let is : c.args.self.now.counted ≡ c.args.place = omega (arith, c.if-place-self.false, c.requires.next) in
    subst (λ (k : ℕ). IsQuietStep c.count.new.self c.args.trail.now.steps k) is (c.count.ensures.quiet none)
