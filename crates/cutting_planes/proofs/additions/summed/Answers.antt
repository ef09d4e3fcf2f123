use Rattle.std.proofs.Common.{◌≡◌, ◌+◌, ◌-◌, ◌*◌, ◌≤◌, ◌^◌, List, drop, length, length-drop, rules, subst, take, arith}
use Rattle.std.proofs.lemmas.List.{take_rest}
use Rattle.pb_lin.specs.Constraint.{ConstraintValue, size}
use Rattle.pb_lin.specs.Given.{given_of}
use Rattle.cutting_planes.specs.Additions.{IsAddend}
use Rattle.cutting_planes.specs.Rules.{IsSum, multiplied}
use Rattle.cutting_planes.specs.declared.token.PolToken.{PolToken}
use Rattle.cutting_planes.proofs.AdditionRuns.{leads_more}
use Rattle.cutting_planes.proofs.additions.summed.Goals as goal

pub loop-at-preserved : goal.loop-at-preserved
loop-at-preserved c =
    let left = length-drop c.loop-at.at c.args.tokens.now in
    let rest : take (length c.args.tokens.now - c.loop-at.at) (drop c.loop-at.at c.args.tokens.now) ≡ drop c.loop-at.at c.args.tokens.now = take_rest c.args.tokens.now c.loop-at.at in
    record {
      bound =
          let most : c.in-Some.next.tokens ≤ length (drop c.loop-at.at c.args.tokens.now) = subst (λ (ts : List PolToken). c.in-Some.next.tokens ≤ length ts) rest c.in-Some.ensures.bound in
          let within : c.loop-at.at ≤ length c.args.tokens.now = c.loop-at.invariant.bound in
          omega arith;
      leads =
          let small : size c.loop-at.sum + size c.in-Some.next.constraint.now * c.in-Some.next.factor ≤ 2 ^ 100 = search rules in
          let sum : IsSum c.in_ok-sum.sum c.loop-at.sum (multiplied c.in-Some.next.factor c.in-Some.next.constraint.now) = subst (λ (q : ConstraintValue). IsSum c.in_ok-sum.sum c.loop-at.sum (multiplied c.in-Some.next.factor q)) c.lent.ensures c.in_ok-sum.ensures in
          let addend : IsAddend (given_of c.args.lines.now c.args.negated c.args.denied) (drop c.loop-at.at c.args.tokens.now) c.in-Some.next.constraint.now c.in-Some.next.factor c.in-Some.next.tokens =
          subst (λ (ts : List PolToken). IsAddend (given_of c.args.lines.now c.args.negated c.args.denied) ts c.in-Some.next.constraint.now c.in-Some.next.factor c.in-Some.next.tokens) rest c.in-Some.ensures.addend in
          leads_more (given_of c.args.lines.now c.args.negated c.args.denied) c.args.tokens.now c.loop-at.at c.in-Some.next.tokens c.in-Some.next.factor c.args.start c.loop-at.sum c.in_ok-sum.sum c.in-Some.next.constraint.now
          c.loop-at.invariant.leads addend small sum;
    }
