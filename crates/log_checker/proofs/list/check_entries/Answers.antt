use Rattle.std.proofs.Common.{◌≡◌, ℕ, ◌+◌, Ok, subst, ap, arith}
use Rattle.std.proofs.lemmas.Grind.{common_steps}
use Rattle.log_checker.specs.declared.fault.ListWhy.{ListWhy}
use Rattle.log_checker.specs.ListJudging.{IsFirstWrong}
use Rattle.log_checker.proofs.Comparing.{first_wrong, one_more_right}
use Rattle.log_checker.proofs.list.check_entries.Goals as goal

pub returns-in-Some-clause-refused : goal.returns-in-Some-clause-refused
returns-in-Some-clause-refused c = λ k why is.
    let found : ListWhy = c.in-Some.why in
    let wrong = c.in_ok-why.ensures.wrong found (ap (λ o. Ok o) c.in-Some.is) in
    let place : c.loop-at.at + 1 ≡ k = (let same = c.refusal.ensures in cc) in
    let reason : found ≡ why = (let same = c.refusal.ensures in cc) in
    subst (λ (n : ℕ). IsFirstWrong c.args.inst.now c.args.entries.now n why) place
    (subst (IsFirstWrong c.args.inst.now c.args.entries.now (c.loop-at.at + 1)) reason
    (first_wrong c.args.inst.now c.args.entries.now _ c.loop-at.at c.index-entries-at.result found (grind (arith, common_steps)) c.loop-at-test.true c.index-entries-at.is c.loop-at.invariant.0 wrong))

pub loop-at-preserved : goal.loop-at-preserved
loop-at-preserved c =
    one_more_right c.args.inst.now c.args.entries.now _ c.loop-at.at c.index-entries-at.result (grind (arith, common_steps)) c.loop-at-test.true c.index-entries-at.is
    (c.in_ok-why.ensures.right (ap (λ o. Ok o) c.in_default.is)) (c.in_ok-why.ensures.vector (ap (λ o. Ok o) c.in_default.is)) c.loop-at.invariant.1
