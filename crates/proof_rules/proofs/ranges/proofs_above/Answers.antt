use Rattle.std.proofs.Common.{nat_lt, sym, ◌∙◌}
use Rattle.proof_laws.specs.Refusal.{proof_variables}
use Rattle.proof_laws.specs.declared.goal.Goal.{Goal}
use Rattle.proof_laws.specs.declared.goal.GoalProof.{GoalProof}
use Rattle.proof_rules.proofs.Searches.{found_here, not_found_here, found_nowhere}
use Rattle.proof_rules.proofs.ranges.proofs_above.Goals as goal

pub loop-proof-preserved : goal.loop-proof-preserved
loop-proof-preserved c =
    c.loop-proof.invariant
    ∙ not_found_here (λ v. nat_lt c.args.n v) (λ (q : Goal × GoalProof). proof_variables q.1) c.args.proofs.now c.loop-proof.proof-index c.proof-item.result c.proof-item.result c.loop-proof-test.true c.proof-item.is (sym c.proof_above.ensures ∙ c.in_default.is)

pub returns-in-Some : goal.returns-in-Some
returns-in-Some c =
    sym
    (c.loop-proof.invariant
    ∙ found_here (λ v. nat_lt c.args.n v) (λ (q : Goal × GoalProof). proof_variables q.1) c.args.proofs.now c.loop-proof.proof-index c.proof-item.result c.proof-item.result c.in-Some.var c.loop-proof-test.true c.proof-item.is (sym c.proof_above.ensures ∙ c.in-Some.is))

pub returns : goal.returns
returns c = sym (c.loop-proof.invariant ∙ found_nowhere (λ v. nat_lt c.args.n v) (λ (q : Goal × GoalProof). proof_variables q.1) c.args.proofs.now c.loop-proof.proof-index c.loop-proof-test.false)
