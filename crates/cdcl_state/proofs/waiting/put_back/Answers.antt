use Rattle.std.proofs.Common.{arith}
use Rattle.cdcl_state.proofs.PutBack.{put_back_all}
use Rattle.cdcl_state.proofs.waiting.put_back.Goals as goal

pub returns : goal.returns
returns c = put_back_all c.loop-place.order c.args.trail.now c.args.keep c.loop-place.place c.len-place-end.ensures.steps (omega (arith, c.loop-place-test.false, c.len-place-end.ensures.value)) c.loop-place.invariant
