-- What a definition by terms in any order leaves of a recorder.
use Rattle.std.proofs.Common.{◌≡◌, ℕ, ◌+◌, ◌∙◌, ap}
use Rattle.sum_outputs.specs.Outputs.{IsInOrder, IsDefinedBy, IsDefinedNext}
use Rattle.sum_outputs.proofs.LaterStates.{continues_again, memory_err, if_ok_both}
use Rattle.proof_laws.specs.State.{StateValue}
use Rattle.proof_laws.proofs.Replays.{replay_once}
use Rattle.sum_outputs.proofs.DefinedLines.{defined_next, sum_of_order}
use Rattle.sum_outputs.proofs.definition.define.Goals as goal

pub returns-in_err-constraint-clause-recorded : goal.returns-in_err-constraint-clause-recorded
returns-in_err-constraint-clause-recorded g c =
    let R = g.R.Recorder in
    let a = R.seen c.args.rec.now in
    memory_err a a c.from_residual.result (continues_again a) c.from_residual.ensures.1

pub define_next-requires-clause-next : goal.define_next-requires-clause-next
define_next-requires-clause-next g c = λ s reached.
    let R = g.R.Recorder in
    let a = R.seen c.args.rec.now in
    let order : IsInOrder c.args.terms.now c.args.sum c.in_ok-constraint.constraint = c.in_ok-constraint.ensures in
    let same : c.state.result.now ≡ s = replay_once a.problem a.lines c.state.result.now s c.state.ensures.replays reached in
    let next : c.vars-var.result + 1 ≡ s.vars + 1 = ap (λ (n : ℕ). n + 1) (c.vars-var.ensures.value ∙ ap (λ (u : StateValue). u.vars) same) in
    sum_of_order s c.args.terms.now c.in_ok-constraint.constraint (c.vars-var.result + 1) c.args.sum order c.requires.terms next c.requires.some c.requires.most (c.requires.variables s reached)

pub returns-clause-defined : goal.returns-clause-defined
returns-clause-defined g c =
    let R = g.R.Recorder in
    let a = R.seen c.args.rec.now in
    let b = R.seen c.define_next.new.rec in
    let order : IsInOrder c.args.terms.now c.args.sum c.in_ok-constraint.constraint = c.in_ok-constraint.ensures in
    if_ok_both c.define_next.result (λ o. (o.sum ≡ c.args.sum) × (o.from ≡ c.args.from)) (IsDefinedBy a b c.in_ok-constraint.constraint) (IsDefinedNext a b c.args.terms.now)
    (λ o sum is. defined_next a b c.args.terms.now c.in_ok-constraint.constraint o c.args.sum sum.0 order c.requires.variables c.requires.ready c.define_next.ensures.recorded.continues.problem is)
    c.define_next.ensures.sum c.define_next.ensures.defined
