use Rattle.std.proofs.Common.{◌≡◌, ◌∙◌, ◌≤◌, ◌*◌, ◌^◌, get_or, refl, sym, subst, arith}
use Rattle.pb_lin.specs.Constraint.{total}
use Rattle.cutting_planes.proofs.Terms.{Terms, coefficient-le-total, change_more, product_small}
use Rattle.cutting_planes.proofs.scale.multiplied_terms.Goals as goal

pub overflow_mul-term : goal.overflow_mul-term
overflow_mul-term c =
    let same : c.deref_mut-term-items.result.now ≡ c.args.terms = c.deref_mut-term-items.ensures.value ∙ c.into_vec-terms.ensures in
    let below : (get_or c.loop-term.term-items c.loop-term.term-index c.term-item.result).1 ≤ total c.deref_mut-term-items.result.now = coefficient-le-total (λ n. n * c.args.factor) c.deref_mut-term-items.result.now c.loop-term.term-items c.loop-term.term-index c.term-item.result (omega arith) c.loop-term.invariant in
    let all : total c.deref_mut-term-items.result.now * c.args.factor ≤ 2 ^ 100 = subst (λ (ts : Terms). total ts * c.args.factor ≤ 2 ^ 100) (sym same) c.requires in
    let small : (get_or c.loop-term.term-items c.loop-term.term-index c.term-item.result).1 * c.args.factor ≤ 2 ^ 100 = product_small (get_or c.loop-term.term-items c.loop-term.term-index c.term-item.result).1 (total c.deref_mut-term-items.result.now) c.args.factor below all in
    omega arith

pub loop-term-preserved : goal.loop-term-preserved
loop-term-preserved c = change_more (λ n. n * c.args.factor) c.deref_mut-term-items.result.now c.loop-term.term-items c.loop-term.term-index c.term-item.result _ (omega arith) (omega arith) c.loop-term.invariant refl
