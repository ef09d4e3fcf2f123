use Rattle.std.proofs.Common.{None, arith, sym, subst}
use Rattle.std.proofs.lemmas.Result.{err_from_is_err_and}
use Rattle.pb_lin.specs.Constraint.{ConstraintValue, UpTo, negation, size}
use Rattle.proof_laws.specs.Refusal.{IsHintsFault, size_fault}
use Rattle.proof_laws.specs.declared.why.Why.TheVariants.{RupOpen}
use Rattle.proof_rules.specs.Verdict.{IsVerdict}
use Rattle.proof_rules.proofs.GoalFaults.{size_fine}
use Rattle.proof_rules.proofs.Replays.{negation_upto}
use Rattle.proof_rules.proofs.Verdicts.{first_passed, first_refused}
use Rattle.proof_rules.proofs.derivation.judge_rup.Goals as goal

pub judge_hints-requires-clause-negated : goal.judge_hints-requires-clause-negated
judge_hints-requires-clause-negated c = negation_upto c.args.reached.now.vars c.args.goal.now c.requires.goal

pub judge_hints-requires-2-clause-negated : goal.judge_hints-requires-2-clause-negated
judge_hints-requires-2-clause-negated c = subst (UpTo c.args.reached.now.vars) (sym c.in_ok-negated.ensures.value) (negation_upto c.args.reached.now.vars c.args.goal.now c.requires.goal)

pub returns-in_err-negated-clause-verdict : goal.returns-in_err-negated-clause-verdict
returns-in_err-negated-clause-verdict c =
    let denied = negation c.args.goal.now in
    let p = err_from_is_err_and c.from_residual.result c.from_residual.ensures.1 in
    rw (p.1, p.2) (first_refused ConstraintValue (Unit {0}) (size_fault (size denied)) (IsHintsFault c.args.reached.now denied None c.args.hints.now RupOpen) c.in_err-negated.field-0.0 c.in_err-negated.ensures.verdict)

pub returns-clause-verdict : goal.returns-clause-verdict
returns-clause-verdict c =
    let denied = negation c.args.goal.now in
    first_passed (Unit {0}) (size_fault (size denied)) (IsHintsFault c.args.reached.now denied None c.args.hints.now RupOpen) c.judge_hints-2.result c.in_ok-negated.ensures.verdict
    (subst (λ (n : ConstraintValue). IsVerdict {T = Unit {0}} (IsHintsFault c.args.reached.now n None c.args.hints.now RupOpen) c.judge_hints-2.result) c.in_ok-negated.ensures.value c.judge_hints-2.ensures.verdict)

pub returns-then-is_clause-clause-verdict : goal.returns-then-is_clause-clause-verdict
returns-then-is_clause-clause-verdict c =
    let denied = negation c.args.goal.now in
    first_passed (Unit {0}) (size_fault (size denied)) (IsHintsFault c.args.reached.now denied None c.args.hints.now RupOpen) c.judge_hints.result
    (sym (size_fine (size denied) (λ large. let small = c.read_negated.ensures.small in omega arith))) c.judge_hints.ensures.verdict
