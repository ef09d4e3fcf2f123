-- What the tokens make may be recorded, and stays.
use Rattle.std.proofs.Common.{◌≡◌, ◌++◌, ◌∷◌, []}
use Rattle.sum_outputs.proofs.PolLines.{pol_leaves, pol_may_be_added_law}
use Rattle.search_base.proofs.Recordings.{if_on}
use Rattle.proof_laws.specs.declared.line.Line.TheVariants.{Pol}
use Rattle.proof_rules.specs.Recording.{IsNextId}
use Rattle.core_boosting.specs.Exchanging.{DerivesOwn}
use Rattle.core_boosting.proofs.exchanging.derive.Goals as goal

pub record-requires-clause-formed : goal.record-requires-clause-formed
record-requires-clause-formed g c =
    let s = c.requires.ready.state in
    let a = g.R.Recorder.seen c.args.rec.now in
    (c.requires.makes c.state.result.now c.state.ensures.replays c.vars-vars.ensures.state).1.formed

pub record-requires-clause-legal : goal.record-requires-clause-legal
record-requires-clause-legal g c =
    let a = g.R.Recorder.seen c.args.rec.now in
    let makes = c.requires.makes c.state.result.now c.state.ensures.replays c.vars-vars.ensures.state in
    (pol_may_be_added_law a c.state.result.now c.args.tokens makes.0 c.requires.ready c.state.ensures.replays makes.1).legal

pub returns-clause-own : goal.returns-clause-own
returns-clause-own g c =
    let a = g.R.Recorder.seen c.args.rec.now in
    let b = g.R.Recorder.seen c.record.new.rec in
    let call = c.record.ensures in
    if_on c.record.result (b.lines ≡ a.lines ++ Pol c.args.tokens ∷ []) (IsNextId a.problem a.lines) (DerivesOwn a b c.args.tokens)
    (λ id lines next s t d reached after value. pol_leaves a s c.args.tokens d reached value b t id call.recorded.continues.problem lines after next)
    call.added call.id
