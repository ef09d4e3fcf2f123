use Rattle.std.proofs.Common.{Ok, None, refl, ap, ◌∙◌}
use Rattle.sum_outputs.proofs.LaterStates.{continues_again, recorded_ok}
use Rattle.sum_outputs.specs.Laws.{AreTokensOf}
use Rattle.linear_lines.specs.Stating.{MakesNone}
use Rattle.linear_lines.proofs.Answering.{made_now, memory_handed, none_now}
use Rattle.linear_lines.proofs.adding.add_line.Goals as goal

pub returns-in_err-in_memory-clause-recorded : goal.returns-in_err-in_memory-clause-recorded
returns-in_err-in_memory-clause-recorded g c =
    let a = let R = g.R.Recorder in R.seen c.args.rec.now in
    memory_handed a a c.in_err-in_memory.field-0.0 c.from_residual.result (continues_again a)
    c.in_err-in_memory.ensures.fault c.from_residual.ensures.1

pub state_made-requires-clause-makes : goal.state_made-requires-clause-makes
state_made-requires-clause-makes g c =
    let a = let R = g.R.Recorder in R.seen c.args.rec.now in
    made_now MakesNone AreTokensOf a c.state-2.result.now c.state-2.ensures.replays c.as_slice.result.now c.args.tokens c.as_slice.ensures c.made_of.result c.made_of.ensures
    c.in-Some.made (c.in_ok-in_memory.ensures.ok ∙ ap (λ o. Ok o) c.in-Some.is)

pub returns-in-None-clause-recorded : goal.returns-in-None-clause-recorded
returns-in-None-clause-recorded g c =
    let a = let R = g.R.Recorder in R.seen c.args.rec.now in
    recorded_ok a a None (continues_again a) c.requires.ready.whole

pub returns-in-None-clause-line : goal.returns-in-None-clause-line
returns-in-None-clause-line g c =
    let a = let R = g.R.Recorder in R.seen c.args.rec.now in (
      refl,
      none_now MakesNone AreTokensOf a c.state-2.result.now c.state-2.ensures.replays c.as_slice.result.now c.args.tokens c.as_slice.ensures c.made_of.result c.made_of.ensures
          (c.in_ok-in_memory.ensures.ok ∙ ap (λ o. Ok o) c.in-None.is),
    )
