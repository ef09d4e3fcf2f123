use Rattle.std.proofs.Common.{ℕ, refl}
use Rattle.proof_lines.proofs.RisingLists.{rising_pairs}
use Rattle.proof_lines.proofs.lists.are_rising.Goals as goal

pub returns : goal.returns
returns c = (λ passed. rising_pairs (λ (i : ℕ). i) c.args.ids.now c.loop-at.at c.loop-at-test.false c.loop-at.invariant, λ rising. refl)
