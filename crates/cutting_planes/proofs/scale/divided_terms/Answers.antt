use Rattle.std.proofs.Common.{◌≡◌, ◌∙◌, ◌≤◌, ◌^◌, get_or, sym, subst, arith}
use Rattle.pb_lin.specs.Constraint.{total}
use Rattle.cutting_planes.specs.Rules.{rounded_up}
use Rattle.cutting_planes.proofs.Terms.{Terms, coefficient-le-total, change_more}
use Rattle.cutting_planes.proofs.scale.divided_terms.Goals as goal

pub rounded_up-term-requires-clause-dividend : goal.rounded_up-term-requires-clause-dividend
rounded_up-term-requires-clause-dividend c =
    let same : c.deref_mut-term-items.result.now ≡ c.args.terms = c.deref_mut-term-items.ensures.value ∙ c.into_vec-terms.ensures in
    let below : (get_or c.loop-term.term-items c.loop-term.term-index c.term-item.result).1 ≤ total c.deref_mut-term-items.result.now = coefficient-le-total (λ n. rounded_up n c.args.divisor) c.deref_mut-term-items.result.now c.loop-term.term-items c.loop-term.term-index c.term-item.result (omega arith) c.loop-term.invariant in
    let all : total c.deref_mut-term-items.result.now ≤ 2 ^ 100 = subst (λ (ts : Terms). total ts ≤ 2 ^ 100) (sym same) c.requires.terms in
    omega arith

pub loop-term-preserved : goal.loop-term-preserved
loop-term-preserved c = change_more (λ n. rounded_up n c.args.divisor) c.deref_mut-term-items.result.now c.loop-term.term-items c.loop-term.term-index c.term-item.result c.rounded_up-term.result (omega arith) (omega arith) c.loop-term.invariant c.rounded_up-term.ensures
