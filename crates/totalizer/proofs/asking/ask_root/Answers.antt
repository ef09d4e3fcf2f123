-- The root is asked with its children.
use Rattle.std.proofs.Common.{◌-◌, List, length, get_or, ap, arith}
use Rattle.std.proofs.lemmas.Result.{IfOk-weaker}
use Rattle.pb_lin.specs.Constraint.{total}
use Rattle.sum_outputs.specs.Falling.{IsAsked}
use Rattle.sum_outputs.specs.declared.sum_output.SumOutput.{SumOutput}
use Rattle.totalizer.specs.Totalizing.{root_terms}
use Rattle.totalizer.proofs.RootChildren.{in_nodes, long_root, root_terms_are, root_inner, root_outputs, asked_of}
use Rattle.totalizer.proofs.asking.ask_root.Goals as goal

pub of-root-requires-clause-size : goal.of-root-requires-clause-size
of-root-requires-clause-size g c = (c.requires.made c.requires.ready.state c.requires.ready.reached).size

pub of-root-requires-clause-at : goal.of-root-requires-clause-at
of-root-requires-clause-at g c = in_nodes c.args.nodes.now c.requires.rooted c.requires.long

pub of-root-requires-clause-long : goal.of-root-requires-clause-long
of-root-requires-clause-long g c = long_root c.args.nodes.now c.requires.rooted c.requires.long

pub ask-requires-clause-may : goal.ask-requires-clause-may
ask-requires-clause-may g c =
    let R = g.R.Recorder in
    let q = c.requires in
    record {
      ready = q.ready;
      inner = root_inner c.args.nodes.now q.rooted q.long (R.seen c.args.rec.now) c.args.made.now q.made
          c.of-root.result c.of-root.ensures c.args.k q.complete;
      from_one = q.from_one;
    }

pub ask-requires-clause-outputs : goal.ask-requires-clause-outputs
ask-requires-clause-outputs g c =
    let R = g.R.Recorder in
    let q = c.requires in
    root_outputs c.args.nodes.now q.rooted q.long (R.seen c.args.rec.now) c.args.made.now q.made
    c.of-root.result c.of-root.ensures _ _ c.at.ensures c.as_slice.ensures

pub ask-requires-clause-most : goal.ask-requires-clause-most
ask-requires-clause-most g c =
    let R = g.R.Recorder in
    let q = c.requires in
    let nodes = c.args.nodes.now in
    let terms = root_terms_are nodes q.rooted q.long (R.seen c.args.rec.now) c.args.made.now q.made
    c.of-root.result c.of-root.ensures in
    let whole = ap total terms in
    let most = q.most in
    omega arith

pub returns-clause-asked : goal.returns-clause-asked
returns-clause-asked g c =
    let R = g.R.Recorder in
    let a = R.seen c.args.rec.now in
    let b = R.seen c.ask.new.rec in
    let nodes = c.args.nodes.now in
    let made = c.args.made.now in
    let q = c.requires in
    let root = c.of-root.result in
    let os = c.as_slice.result.now in
    IfOk-weaker c.ask.result (λ r. IsAsked a b root.terms.now os c.args.k r.0 r.1)
    (λ r. (e : List SumOutput) → IsAsked a b (root_terms nodes) (get_or made (length nodes - 1) e) c.args.k r.0 r.1)
    (λ r asked. asked_of nodes q.rooted q.long a made q.made root c.of-root.ensures
    os _ c.at.ensures c.as_slice.ensures b c.args.k r.0 r.1 asked)
    c.ask.ensures.asked
