-- A search that found all leaves a good state, and the end of the proof logs nothing more.
use Rattle.std.proofs.lemmas.Result.{on_ok_weaker}
use Rattle.certified_front.proofs.EndLines.{stays_after, still_board}
use Rattle.certified_front.proofs.searching.search_to_the_end.Goals as goal

pub end_proof-requires-clause-ready : goal.end_proof-requires-clause-ready
end_proof-requires-clause-ready g c = let good = c.in-Ok.ensures.good tt in good.ready

pub returns-in-Ok-clause-entries : goal.returns-in-Ok-clause-entries
returns-in-Ok-clause-entries g c =
    let R = g.O.Recorder in
    let old = c.run_search.new.oracle in
    let new = c.end_proof.new.oracle in
    let good = c.in-Ok.ensures.good tt in
    let call = c.end_proof.ensures in
    on_ok_weaker c.end_proof.result
    (λ whole. still_board (R.seen old).problem (R.seen new).problem (R.seen old).lines (R.seen new).lines c.run_search.new.board call.stays.problem call.logged good.board)
    call.whole

pub returns-in-Ok-clause-stays : goal.returns-in-Ok-clause-stays
returns-in-Ok-clause-stays g c =
    let R = g.O.Recorder in
    stays_after (R.seen c.args.oracle.now) (R.seen c.run_search.new.oracle) (R.seen c.end_proof.new.oracle)
    c.in-Ok.ensures.goes_on c.end_proof.ensures.stays
