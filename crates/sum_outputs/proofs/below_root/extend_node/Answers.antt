-- A node that has all outputs is complete as it is.
use Rattle.std.proofs.Common.{◌≡◌, ◌⊎◌, ◌+◌, ◌≤◌, List, length, get_or, refl, ap, subst, ◌∙◌, arith}
use Rattle.std.specs.Prelude.{min}
use Rattle.sum_outputs.specs.Sums.{last_sum}
use Rattle.sum_outputs.specs.declared.node.Node.{Node}
use Rattle.sum_outputs.specs.declared.sum_output.SumOutput.{SumOutput}
use Rattle.sum_outputs.proofs.LaterStates.{continues_again, recorded_ok}
use Rattle.sum_outputs.proofs.GrownOutputs.{extends_none}
use Rattle.sum_outputs.proofs.LackingNodes.{complete_node, lacking_node}
use Rattle.sum_outputs.proofs.below_root.extend_node.Goals as goal

pub returns-then-has_all-clause-recorded : goal.returns-then-has_all-clause-recorded
returns-then-has_all-clause-recorded g c =
    let R = g.R.Recorder in
    let a = R.seen c.args.rec.now in
    recorded_ok a a _ (continues_again a) c.requires.ready.whole

pub returns-then-has_all-clause-extends : goal.returns-then-has_all-clause-extends
returns-then-has_all-clause-extends g c =
    let R = g.R.Recorder in
    let a = R.seen c.args.rec.now in
    let q = c.requires in
    let nodes = c.args.nodes.now in
    let made = c.args.made.now in
    let at = c.args.at in
    let k = c.args.k in
    let x = c.index-nodes-at.result in
    let os = c.outputs_at.result.now in
    let Has : Node → List SumOutput → Type 0 = λ n ps. (length n.terms ≡ 1) ⊎ (min k n.total ≤ last_sum ps) in
    let has : Has (get_or nodes at x) (get_or made at os) =
    subst (λ (n : Node). Has n (get_or made at os)) c.index-nodes-at.is
    (subst (λ (ps : List SumOutput). Has x ps) (c.outputs_at.ensures os) (c.if-has_all.ensures.all refl)) in
    extends_none a q.ready nodes made (at + 1) k q.made
    (complete_node a q.ready.state nodes q.tree made at k (q.made q.ready.state q.ready.reached) q.below q.from_one x os has q.complete)

pub extend_inner-requires-clause-lacks : goal.extend_inner-requires-clause-lacks
extend_inner-requires-clause-lacks g c =
    let R = g.R.Recorder in
    let q = c.requires in
    let nodes = c.args.nodes.now in
    let made = c.args.made.now in
    let at = c.args.at in
    let x = c.index-nodes-at.result in
    let os = c.outputs_at.result.now in
    let lacks = c.if-has_all.ensures.lacks refl in
    let low = lacks.1 in
    let total = ap (λ (n : Node). n.total) c.index-nodes-at.is in
    let last = ap last_sum (c.outputs_at.ensures os) in
    lacking_node (R.seen c.args.rec.now) q.ready.state nodes q.tree made at c.args.k (q.made q.ready.state q.ready.reached) q.below q.from_one x os
    (λ one. lacks.0 (ap (λ (n : Node). length n.terms) c.index-nodes-at.is ∙ one)) (omega arith)
