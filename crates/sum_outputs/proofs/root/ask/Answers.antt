-- The output is there, or it is made.
use Rattle.std.proofs.Common.{ℕ, List, refl, sym, subst, arith}
use Rattle.std.proofs.Math.ListN.{set}
use Rattle.proof_rules.specs.Recording.{Snapshot}
use Rattle.sum_outputs.specs.Totals.{IsLeastSum}
use Rattle.sum_outputs.specs.Adding.{IsReady}
use Rattle.sum_outputs.specs.Joining.{IsInnerAt}
use Rattle.sum_outputs.specs.Sums.{IsLeastOf}
use Rattle.sum_outputs.specs.Falling.{IsAsked}
use Rattle.sum_outputs.specs.declared.sum_output.SumOutput.{SumOutput}
use Rattle.sum_outputs.specs.declared.inner.Inner.{Inner}
use Rattle.sum_outputs.proofs.LaterStates.{continues_again, memory_err, recorded_ok}
use Rattle.sum_outputs.proofs.AskedLists.{asked_again}
use Rattle.sum_outputs.proofs.FallingLines.{least_of_node}
use Rattle.sum_outputs.proofs.root.ask.Goals as goal

-- the sum that was found is the least of the node
least_found : (a : Snapshot) → IsReady a → (node : Inner) (k sum : ℕ) → IsInnerAt a node k → IsLeastOf node.first.outputs.now node.second.outputs.now k node.greatest sum → IsLeastSum node.terms.now k sum
least_found a ready node k sum inner least = least_of_node a ready node k k sum inner (omega arith)
    (subst (λ (n : ℕ). IsLeastOf node.first.outputs.now node.second.outputs.now k n sum) node.total least)

pub least_sum-sum-requires-clause-most : goal.least_sum-sum-requires-clause-most
least_sum-sum-requires-clause-most g c = let most = c.requires.most in let all = c.args.node.now.total in omega arith

pub place_of-place-requires : goal.place_of-place-requires
place_of-place-requires g c = let ready = c.requires.may.ready in (c.requires.outputs.outputs ready.state ready.reached).rising.rising

pub has_sum-requires-clause-rising : goal.has_sum-requires-clause-rising
has_sum-requires-clause-rising g c = let ready = c.requires.may.ready in (c.requires.outputs.outputs ready.state ready.reached).rising.rising

pub has_sum-requires-clause-place : goal.has_sum-requires-clause-place
has_sum-requires-clause-place g c = c.place_of-place.ensures

pub asked_again-requires : goal.asked_again-requires
asked_again-requires g c = let there = c.if-has_sum.ensures.there refl in there.0

pub least_sum-sum-requires-clause-rising : goal.least_sum-sum-requires-clause-rising
least_sum-sum-requires-clause-rising g c = (c.requires.may.inner.children c.requires.may.ready.state c.requires.may.ready.reached).of_first.rising

pub least_sum-sum-requires-clause-rising_too : goal.least_sum-sum-requires-clause-rising_too
least_sum-sum-requires-clause-rising_too g c = (c.requires.may.inner.children c.requires.may.ready.state c.requires.may.ready.reached).of_second.rising

pub returns-in_err-again-clause-recorded : goal.returns-in_err-again-clause-recorded
returns-in_err-again-clause-recorded g c =
    let R = g.R.Recorder in
    let a = R.seen c.args.rec.now in
    memory_err a a c.from_residual.result (continues_again a) c.from_residual.ensures.1

pub returns-then-has_sum-clause-recorded : goal.returns-then-has_sum-clause-recorded
returns-then-has_sum-clause-recorded g c =
    let R = g.R.Recorder in
    let a = R.seen c.args.rec.now in
    recorded_ok a a _ (continues_again a) c.requires.may.ready.whole

pub returns-then-has_sum-clause-asked : goal.returns-then-has_sum-clause-asked
returns-then-has_sum-clause-asked g c =
    let R = g.R.Recorder in
    let a = R.seen c.args.rec.now in
    let node = c.args.node.now in
    let q = c.requires in
    let os = c.args.outputs.now in
    let least = least_found a q.may.ready node c.args.k c.least_sum-sum.result q.may.inner c.least_sum-sum.ensures in
    let there = c.if-has_sum.ensures.there refl in
    let r = c.in_ok-again.again in
    let facts = c.in_ok-again.ensures r.0 in
    let made = asked_again a node.terms.now os q.outputs.outputs q.outputs.defined c.place_of-place.result c.args.k r.0 there.0
    (subst (λ (n : ℕ). IsLeastSum node.terms.now c.args.k n) (sym (there.1 r.0)) least) in
    subst (λ (all : List SumOutput). IsAsked a a node.terms.now os c.args.k r.0 all) (sym facts.1)
    (subst (λ (o : SumOutput). IsAsked a a node.terms.now os c.args.k o (set os c.place_of-place.result o)) (sym facts.0) made)

pub ask_anew-requires-clause-least : goal.ask_anew-requires-clause-least
ask_anew-requires-clause-least g c =
    let R = g.R.Recorder in
    least_found (R.seen c.args.rec.now) c.requires.may.ready c.args.node.now c.args.k c.least_sum-sum.result c.requires.may.inner c.least_sum-sum.ensures

pub ask_anew-requires-clause-may : goal.ask_anew-requires-clause-may
ask_anew-requires-clause-may g c = c.requires.may

pub ask_anew-requires-clause-outputs : goal.ask_anew-requires-clause-outputs
ask_anew-requires-clause-outputs g c = c.requires.outputs

pub ask_anew-requires-clause-place : goal.ask_anew-requires-clause-place
ask_anew-requires-clause-place g c = c.place_of-place.ensures

pub ask_anew-requires-clause-absent : goal.ask_anew-requires-clause-absent
ask_anew-requires-clause-absent g c = c.if-has_sum.ensures.absent refl

pub returns-clause-recorded : goal.returns-clause-recorded
returns-clause-recorded g c = c.ask_anew.ensures.recorded

pub returns-clause-asked : goal.returns-clause-asked
returns-clause-asked g c = c.ask_anew.ensures.asked
