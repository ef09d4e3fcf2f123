use Rattle.std.proofs.Common.{◌≡◌, Some, subst}
use Rattle.std.specs.FinMap.{get}
use Rattle.pb_lin.specs.LineMap.{LineMap}
use Rattle.recording.proofs.Clauses.{clause_tested}
use Rattle.engine_search.proofs.EngineCores.{core_told}
use Rattle.engine_search.proofs.writing.core_at.Goals as goal

pub returns-in-Some : goal.returns-in-Some
returns-in-Some g c =
    let a = let R = g.R.Recorder in R.seen c.args.rec.now in
    let s = c.state.result.now in
    let line = c.in-Some.line.now in
    let live : get s.live c.args.id ≡ Some line = subst (λ (m : LineMap). get m c.args.id ≡ Some line) c.live.ensures c.in-Some.ensures in
    core_told a s c.args.assumed.now c.literals.result.now c.args.id line c.state.ensures.replays live
    (clause_tested line (c.is_clause.ensures.0 c.if-is_clause.true)) c.literals.ensures.value c.core_of.result c.core_of.ensures.id
    c.core_of.ensures.opposites c.core_of.ensures.among
