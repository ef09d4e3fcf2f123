-- One node after the other.
use Rattle.std.proofs.Common.{◌≡◌, ℕ, ◌-◌, length, subst, arith}
use Rattle.sum_outputs.specs.MadeOutputs.{ExtendsTo}
use Rattle.sum_outputs.proofs.LaterStates.{handed_err}
use Rattle.sum_outputs.proofs.OutputsLater.{way_starts, way_ready, way_on}
use Rattle.sum_outputs.proofs.GrownOutputs.{extends_none, extends_more}
use Rattle.sum_outputs.proofs.below_root.extend_all.Goals as goal

pub loop-at-init : goal.loop-at-init
loop-at-init g c =
    let R = g.R.Recorder in
    let a = R.seen c.args.rec.now in
    record {
      way = way_starts a c.requires.ready;
      extends = extends_none a c.requires.ready c.args.nodes.now c.args.made.now 0 c.args.k c.requires.made (λ i n os less. absurd (omega arith));
    }

pub extend_node-requires : goal.extend_node-requires
extend_node-requires g c =
    let R = g.R.Recorder in
    let here = c.loop-at.invariant.extends in
    record {
      ready = way_ready (R.seen c.args.rec.now) (R.seen c.loop-at.rec) c.requires.ready c.loop-at.invariant.way;
      tree = c.requires.tree;
      below = omega arith;
      made = here.made;
      complete = here.complete;
      from_one = c.requires.from_one;
    }

pub returns-in_err-extend_node-clause-recorded : goal.returns-in_err-extend_node-clause-recorded
returns-in_err-extend_node-clause-recorded g c =
    let R = g.R.Recorder in
    handed_err (R.seen c.args.rec.now) (R.seen c.loop-at.rec) (R.seen c.extend_node.new.rec) c.in_err-extend_node.field-0.0
    c.from_residual.result c.loop-at.invariant.way.on c.in_err-extend_node.ensures.recorded c.from_residual.ensures.1

pub loop-at-preserved : goal.loop-at-preserved
loop-at-preserved g c =
    let R = g.R.Recorder in
    let a = R.seen c.args.rec.now in
    let b = R.seen c.loop-at.rec in
    let d = R.seen c.extend_node.new.rec in
    let way = c.loop-at.invariant.way in
    let call = c.in_ok-extend_node.ensures in
    record {
      way = way_on a b d way call.recorded.continues call.recorded.whole;
      extends = extends_more a b d way.on c.args.nodes.now c.args.made.now c.loop-at.made c.extend_node.new.made c.loop-at.at c.args.k (omega arith) c.loop-at.invariant.extends call.extends;
    }

pub returns-clause-extends : goal.returns-clause-extends
returns-clause-extends g c =
    let R = g.R.Recorder in
    let end = c.loop-at-test.false in
    subst (λ (count : ℕ). ExtendsTo (R.seen c.args.rec.now) (R.seen c.loop-at.rec) c.args.nodes.now c.args.made.now c.loop-at.made count c.args.k)
    (let e : c.loop-at.at ≡ length c.args.nodes.now - 1 = omega arith in e) c.loop-at.invariant.extends
