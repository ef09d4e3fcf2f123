use Rattle.std.proofs.Common.{refl, arith}
use Rattle.search_base.proofs.RisingLiterals.{rising_pairs}
use Rattle.search_base.proofs.logging.variables_rise.Goals as goal

pub returns : goal.returns
returns c = (
  λ passed. (
    λ k d short. c.loop-at.invariant.1 k d (omega (arith, c.loop-at-test.false)),
    rising_pairs c.args.lits.now c.loop-at.at c.loop-at-test.false c.loop-at.invariant.0,
  ),
  λ rising. refl,
)
