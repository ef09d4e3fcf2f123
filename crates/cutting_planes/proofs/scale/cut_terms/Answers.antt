use Rattle.std.proofs.Common.{min, arith}
use Rattle.cutting_planes.proofs.Terms.{change_more}
use Rattle.cutting_planes.proofs.scale.cut_terms.Goals as goal

pub loop-term-preserved : goal.loop-term-preserved
loop-term-preserved c = change_more (λ n. min n c.args.degree) c.deref_mut-term-items.result.now c.loop-term.term-items c.loop-term.term-index c.term-item.result c.min-term.result (omega arith) (omega arith) c.loop-term.invariant c.min-term.ensures
