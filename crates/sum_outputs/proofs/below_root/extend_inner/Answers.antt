-- A node's outputs, by those of its children in the tree.
use Rattle.std.proofs.Common.{◌≡◌, ℕ, ◌+◌, ◌<◌, List, [], length, get_or, sym, subst, arith}
use Rattle.cutting_planes.proofs.Terms.{Terms}
use Rattle.sum_outputs.specs.Joining.{AreDefinedNow}
use Rattle.sum_outputs.specs.Sums.{last_sum}
use Rattle.sum_outputs.specs.Falling.{AreAllBetween, AreExtended}
use Rattle.sum_outputs.specs.MadeOutputs.{ExtendsTo}
use Rattle.proof_rules.specs.Recording.{Snapshot}
use Rattle.sum_outputs.specs.Tree.{IsInnerOf}
use Rattle.sum_outputs.specs.declared.inner.Inner.{Inner}
use Rattle.sum_outputs.specs.declared.node.Node.{Node}
use Rattle.sum_outputs.specs.declared.sum_output.SumOutput.{SumOutput}
use Rattle.sum_outputs.proofs.MadeLists.{any_node, inner_of, inner_of_made, own_outputs}
use Rattle.sum_outputs.proofs.LackingNodes.{extends_inner}
use Rattle.sum_outputs.proofs.below_root.extend_inner.Goals as goal

-- what was made, said of the node in the tree
extended_there : (a b : Snapshot) (nodes : List Node) (made : List (List SumOutput)) (at k : ℕ) (all : List SumOutput) (node : Inner) (os : List SumOutput) → IsInnerOf nodes made (get_or nodes at any_node) node → os ≡ get_or made at [] →
    AreExtended a b node.terms.now os k all → AreExtended a b (get_or nodes at any_node).terms (get_or made at []) k all
extended_there a b nodes made at k all node os is here extended =
    subst (λ (ts : Terms). AreExtended a b ts (get_or made at []) k all) is.terms
    (subst (λ (ps : List SumOutput). AreExtended a b node.terms.now ps k all) here extended)

pub of-node-requires-clause-size : goal.of-node-requires-clause-size
of-node-requires-clause-size g c = let q = c.requires.may in (q.made q.ready.state q.ready.reached).size

pub extended-requires-clause-may : goal.extended-requires-clause-may
extended-requires-clause-may g c =
    let R = g.R.Recorder in
    let q = c.requires.may in
    let nodes = c.args.nodes.now in
    let short : c.args.at < length nodes = let w = q.below in omega arith in
    record {
      ready = q.ready;
      inner = inner_of_made nodes q.tree c.args.made.now c.args.at any_node short (inner_of nodes q.tree c.args.at any_node short (c.requires.lacks.long any_node))
          c.of-node.result (c.of-node.ensures any_node) (R.seen c.args.rec.now) c.args.k q.made q.complete;
      from_one = q.from_one;
    }

pub extended-requires-clause-outputs : goal.extended-requires-clause-outputs
extended-requires-clause-outputs g c =
    let R = g.R.Recorder in
    let a = R.seen c.args.rec.now in
    let q = c.requires.may in
    let nodes = c.args.nodes.now in
    let long = c.requires.lacks.long any_node in
    let short : c.args.at < length nodes = let w = q.below in omega arith in
    subst (λ (os : List SumOutput). AreDefinedNow a c.of-node.result.terms.now os) (sym (c.outputs_at.ensures []))
    (own_outputs nodes q.tree c.args.made.now c.args.at any_node short (inner_of nodes q.tree c.args.at any_node short long)
    c.of-node.result (c.of-node.ensures any_node) a q.made long)

pub extended-requires-clause-gapless : goal.extended-requires-clause-gapless
extended-requires-clause-gapless g c =
    let q = c.requires.may in
    let is = c.of-node.ensures any_node in
    subst (λ (ts : Terms). AreAllBetween ts 0 (last_sum c.outputs_at.result.now) c.outputs_at.result.now) (sym is.terms)
    (subst (λ (os : List SumOutput). AreAllBetween (get_or c.args.nodes.now c.args.at any_node).terms 0 (last_sum os) os) (sym (c.outputs_at.ensures []))
    ((q.made q.ready.state q.ready.reached).gapless c.args.at any_node [] q.below))

pub returns-clause-extends : goal.returns-clause-extends
returns-clause-extends g c =
    let R = g.R.Recorder in
    let a = R.seen c.args.rec.now in
    let b = R.seen c.extended.new.rec in
    let at = c.args.at in
    let call = c.in_ok-all.ensures in
    let there = extended_there a b c.args.nodes.now c.args.made.now at c.args.k c.in_ok-all.all c.of-node.result c.outputs_at.result.now (c.of-node.ensures any_node) (c.outputs_at.ensures []) call.extended in
    subst (λ (ms : List (List SumOutput)). ExtendsTo a b c.args.nodes.now c.args.made.now ms (at + 1) c.args.k) (sym c.set.ensures)
    (extends_inner a b c.args.nodes.now c.args.made.now at c.args.k c.in_ok-all.all c.requires.may c.requires.lacks call.recorded.continues there)
