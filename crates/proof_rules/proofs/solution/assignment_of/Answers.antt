use Rattle.std.proofs.Common.{◌≡◌, ◌+◌, ◌-◌, List, Bool, not, length, get_or, take, arith, ap, ◌∙◌}
use Rattle.std.proofs.lemmas.List.{length-set}
use Rattle.scut_base.specs.Literal.{Literal}
use Rattle.proof_rules.proofs.Models.{placed, assigned_more, assigned_all}
use Rattle.proof_rules.proofs.solution.assignment_of.Goals as goal

pub set-requires : goal.set-requires
set-requires c =
    let var : (get_or c.args.model.now c.loop-literal.literal-index c.literal-item.result).var ≡ 1 + c.loop-literal.literal-index = placed (length c.args.model.now) 1 c.args.model.now c.requires c.loop-literal.literal-index c.literal-item.result c.loop-literal-test.true in
    let here : c.literal-item.result.var ≡ (get_or c.args.model.now c.loop-literal.literal-index c.literal-item.result).var = ap (λ (m : Literal). m.var) c.literal-item.is in
    let long : length c.loop-literal.a ≡ length c.args.model.now = c.loop-literal.invariant.long in
    omega arith

pub loop-literal-preserved : goal.loop-literal-preserved
loop-literal-preserved c =
    let i = c.loop-literal.literal-index in
    let l = c.literal-item.result in
    let model = c.args.model.now in
    let var : (get_or model i l).var ≡ 1 + i = placed (length model) 1 model c.requires i l c.loop-literal-test.true in
    let here : l.var ≡ (get_or model i l).var = ap (λ (m : Literal). m.var) c.literal-item.is in
    let at : l.var ≡ i + 1 = omega arith in
    record {
      long = ap length c.set.ensures ∙ length-set c.loop-literal.a (l.var - 1) (not l.neg) ∙ c.loop-literal.invariant.long;
      values = ap (λ (b : List Bool). take (i + 1) b) c.set.ensures ∙ assigned_more c.loop-literal.a model i l l c.loop-literal-test.true c.literal-item.is at c.loop-literal.invariant.long c.loop-literal.invariant.values;
    }

pub returns : goal.returns
returns c = assigned_all c.loop-literal.a c.args.model.now c.loop-literal.literal-index c.loop-literal-test.false c.loop-literal.invariant.long c.loop-literal.invariant.values
