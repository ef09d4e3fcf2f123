use Rattle.cdcl_state.proofs.PutBack.{IsPutBack}
use Rattle.cdcl_state.proofs.waiting.put_back.Given as goal

abbrev pub invariant-loop-place : goal.invariant-loop-place
invariant-loop-place l = IsPutBack l.order l.trail l.keep l.place
