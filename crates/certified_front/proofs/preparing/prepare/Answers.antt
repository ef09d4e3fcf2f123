-- Hardening, and what an adviser proposes after it.
use Rattle.std.proofs.Common.{◌∙◌}
use Rattle.certified_front.proofs.AdvisedLines.{advised_keeps, keeps_then, prepared_then, stops_then}
use Rattle.certified_front.proofs.preparing.prepare.Goals as goal

pub take_proposals-requires-clause-problem : goal.take_proposals-requires-clause-problem
take_proposals-requires-clause-problem g c = c.in_ok-harden_by.ensures.keeps.problem ∙ c.requires.problem

pub returns-clause-planned : goal.returns-clause-planned
returns-clause-planned g c =
    let R = g.O.Recorder in
    prepared_then c.args.plan c.args.problem.now (R.seen c.harden_by.new.oracle) (R.seen c.take_proposals.new.oracle)
    c.take_proposals.result c.in_ok-harden_by.ensures.lines c.take_proposals.ensures.adds

pub returns-clause-stop : goal.returns-clause-stop
returns-clause-stop g c =
    let R = g.O.Recorder in
    stops_then (R.seen c.args.oracle.now) (R.seen c.harden_by.new.oracle) (R.seen c.take_proposals.new.oracle)
    c.take_proposals.result c.in_ok-harden_by.ensures.keeps c.take_proposals.ensures.stop

pub returns-clause-keeps : goal.returns-clause-keeps
returns-clause-keeps g c =
    let R = g.O.Recorder in
    keeps_then (R.seen c.args.oracle.now) (R.seen c.harden_by.new.oracle) (R.seen c.take_proposals.new.oracle)
    c.in_ok-harden_by.ensures.keeps
    (advised_keeps (R.seen c.harden_by.new.oracle) (R.seen c.take_proposals.new.oracle) c.take_proposals.ensures.adds)
