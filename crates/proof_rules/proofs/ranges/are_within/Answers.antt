use Rattle.std.proofs.Common.{◌≡◌, ◌≤◌, ◌-◌, length, get_or, arith, ap, ◌∙◌}
use Rattle.std.proofs.lemmas.Bool.{leb-true}
use Rattle.std.proofs.lemmas.List.{get_or_default}
use Rattle.scut_base.specs.Literal.{Literal}
use Rattle.pb_lin.proofs.Places.{IsNonDecreasingBy-rising}
use Rattle.proof_rules.proofs.ranges.are_within.Goals as goal

pub returns-else-len-eq0 : goal.returns-else-len-eq0
returns-else-len-eq0 c = λ within k d low.
    let ls = c.args.literals.now in
    let last = length ls - 1 in
    let up : (get_or ls k d).var ≤ (get_or ls last d).var = IsNonDecreasingBy-rising (λ (l : Literal). l.var) ls c.requires k last d (omega arith) (omega arith) in
    let same : c.var.result ≡ (get_or ls last d).var = c.var.ensures.value ∙ ap (λ (l : Literal). l.var) (c.index-literals-len.is ∙ get_or_default ls last c.index-literals-len.result d (omega arith)) in
    omega (arith, up, same, leb-true c.var.result c.args.n within)
