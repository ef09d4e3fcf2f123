use Rattle.search_tests.specs.Asked.{IsAskable}
use Rattle.search_tests.proofs.totals.answers_so.Given as goal

abbrev pub invariant-loop-k : goal.invariant-loop-k
invariant-loop-k g l =
    let R = g.R.Recorder in
    IsAskable (R.seen l.rec) l.sum
