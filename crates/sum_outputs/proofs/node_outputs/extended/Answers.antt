-- What is made, and what is put behind the others.
use Rattle.std.proofs.Common.{ℕ, ◌-◌, List, [], ◌∷◌, length, drop, ap, sym, subst, ◌∙◌, arith}
use Rattle.std.specs.List.{All}
use Rattle.sum_outputs.specs.Outputs.{AreRising, CanImplyNow}
use Rattle.sum_outputs.specs.Sums.{last_sum}
use Rattle.sum_outputs.specs.Falling.{AreFallingTo, AreExtended}
use Rattle.sum_outputs.specs.declared.sum_output.SumOutput.{SumOutput}
use Rattle.sum_outputs.proofs.LaterStates.{continues_twice, handed_err, memory_err, ready_later, recorded_ok}
use Rattle.sum_outputs.proofs.MakeLines.{node_weights}
use Rattle.sum_outputs.proofs.FallingLines.{last_outputs}
use Rattle.sum_outputs.proofs.ExtendedLists.{are_extended, extended_later, last_within, new_implies_old}
use Rattle.sum_outputs.proofs.node_outputs.extended.Goals as goal

pub make_falling-requires-clause-last : goal.make_falling-requires-clause-last
make_falling-requires-clause-last g c =
    let R = g.R.Recorder in
    let within = last_within (R.seen c.args.rec.now) c.requires.may.ready c.args.node.now.terms.now c.args.outputs.now c.requires.outputs.outputs in
    let last = c.last_sum.ensures in
    omega arith

pub tie-requires-clause-ready : goal.tie-requires-clause-ready
tie-requires-clause-ready g c =
    let R = g.R.Recorder in
    let made = c.in_ok-falling.ensures in
    ready_later (R.seen c.args.rec.now) (R.seen c.make_falling.new.rec) c.requires.may.ready made.recorded.continues made.recorded.whole

pub tie-requires-clause-rising : goal.tie-requires-clause-rising
tie-requires-clause-rising g c =
    let R = g.R.Recorder in
    let a = R.seen c.args.rec.now in
    let b = R.seen c.make_falling.new.rec in
    let made = c.in_ok-falling.ensures in
    let ready_b = ready_later a b c.requires.may.ready made.recorded.continues made.recorded.whole in
    subst AreRising (sym (c.last_of.ensures ∙ ap (λ (os : List SumOutput). drop (length os - 1) os) c.as_slice.ensures))
    (last_outputs b c.args.node.now.terms.now c.in_ok-falling.falling ready_b.state (node_weights a c.requires.may.ready c.args.node.now c.requires.may.inner.children) (made.falling.are.outputs ready_b.state ready_b.reached)).rising

pub tie-requires-clause-can : goal.tie-requires-clause-can
tie-requires-clause-can g c =
    let R = g.R.Recorder in
    let a = R.seen c.args.rec.now in
    let b = R.seen c.make_falling.new.rec in
    let made = c.in_ok-falling.ensures in
    let node = c.args.node.now in
    let q = c.requires in
    let os = c.args.outputs.now in
    let fs = c.in_ok-falling.falling in
    let falling : AreFallingTo a b node.terms.now (last_sum os) c.args.k fs = subst (λ (n : ℕ). AreFallingTo a b node.terms.now n c.args.k fs) c.last_sum.ensures made.falling in
    subst (λ (smaller : List SumOutput). All (λ o. All (λ p. CanImplyNow b (p ∷ []) [] o) c.last_of.result.now) smaller) (sym c.last_of-2.ensures)
    (subst (λ (greater : List SumOutput). All (λ o. All (λ p. CanImplyNow b (p ∷ []) [] o) greater) (drop (length os - 1) os))
    (sym (c.last_of.ensures ∙ ap (λ (ps : List SumOutput). drop (length ps - 1) ps) c.as_slice.ensures))
    (λ i d short k e short'. new_implies_old a b q.may.ready made.recorded.continues node.terms.now (node_weights a q.may.ready node q.may.inner.children) os fs c.args.k
    q.outputs.outputs q.outputs.defined falling (length fs - 1) (length os - 1) i d k e short short'))

pub returns-in_err-tie-clause-recorded : goal.returns-in_err-tie-clause-recorded
returns-in_err-tie-clause-recorded g c =
    let R = g.R.Recorder in
    handed_err (R.seen c.args.rec.now) (R.seen c.make_falling.new.rec) (R.seen c.tie.new.rec) c.in_err-tie.field-0.0
    c.from_residual-in_err-tie.result c.in_ok-falling.ensures.recorded.continues c.in_err-tie.ensures.recorded c.from_residual-in_err-tie.ensures.1

pub returns-in_err-all-clause-recorded : goal.returns-in_err-all-clause-recorded
returns-in_err-all-clause-recorded g c =
    let R = g.R.Recorder in
    let a = R.seen c.args.rec.now in
    let d = R.seen c.tie.new.rec in
    memory_err a d c.from_residual-in_err-all.result
    (continues_twice a (R.seen c.make_falling.new.rec) d c.in_ok-falling.ensures.recorded.continues c.in_ok-tie.ensures.recorded.continues) c.from_residual-in_err-all.ensures.1

pub returns-clause-recorded : goal.returns-clause-recorded
returns-clause-recorded g c =
    let R = g.R.Recorder in
    let a = R.seen c.args.rec.now in
    let d = R.seen c.tie.new.rec in
    recorded_ok a d _ (continues_twice a (R.seen c.make_falling.new.rec) d c.in_ok-falling.ensures.recorded.continues c.in_ok-tie.ensures.recorded.continues) c.in_ok-tie.ensures.recorded.whole

pub returns-clause-extended : goal.returns-clause-extended
returns-clause-extended g c =
    let R = g.R.Recorder in
    let a = R.seen c.args.rec.now in
    let b = R.seen c.make_falling.new.rec in
    let d = R.seen c.tie.new.rec in
    let made = c.in_ok-falling.ensures in
    let node = c.args.node.now in
    let q = c.requires in
    let os = c.args.outputs.now in
    let fs = c.in_ok-falling.falling in
    let falling : AreFallingTo a b node.terms.now (last_sum os) c.args.k fs = subst (λ (n : ℕ). AreFallingTo a b node.terms.now n c.args.k fs) c.last_sum.ensures made.falling in
    let ready_b = ready_later a b q.may.ready made.recorded.continues made.recorded.whole in
    extended_later a b d ready_b c.in_ok-tie.ensures.recorded.continues c.in_ok-tie.ensures.defines_none node.terms.now os c.args.k c.in_ok-all.all
    (subst (λ (all : List SumOutput). AreExtended a b node.terms.now os c.args.k all) (sym c.in_ok-all.ensures)
    (are_extended a b q.may.ready made.recorded.continues node.terms.now (node_weights a q.may.ready node q.may.inner.children) os fs c.args.k q.may.from_one q.outputs.outputs q.outputs.defined q.gapless falling made.defined))
