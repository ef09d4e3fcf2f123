-- A core is taken up.
use Rattle.std.proofs.Common.{List, sym, subst, ◌∙◌}
use Rattle.std.specs.Prelude.{Contains}
use Rattle.std.specs.List.{All}
use Rattle.scut_base.specs.Literal.{Literal}
use Rattle.pb_lin.specs.Constraint.{literals}
use Rattle.cutting_planes.proofs.Terms.{Terms}
use Rattle.sum_outputs.proofs.LaterStates.{continues_again, continues_twice, handed_err, ready_later, recorded_ok}
use Rattle.search_base.proofs.Recordings.{memory_handed}
use Rattle.core_boosting.specs.Counting.{CountsCore, HasCore}
use Rattle.core_boosting.specs.Exchanging.{AllWeigh, MayExchange}
use Rattle.core_boosting.proofs.Literals.{AreRising}
use Rattle.core_boosting.proofs.TakenUp.{core_rising, exactly_named, exactly_stays, has_core, may_exchange}
use Rattle.core_boosting.proofs.exchanging.take_up.Goals as goal

pub returns-in_err-lits-clause-recorded : goal.returns-in_err-lits-clause-recorded
returns-in_err-lits-clause-recorded g c =
    let a = g.R.Recorder.seen c.args.rec.now in
    memory_handed a a c.in_err-lits.field-0.0 c.from_residual.result (continues_again a)
    c.in_err-lits.ensures.fault c.from_residual.ensures.1

pub least_weight-weight-requires-clause-rising : goal.least_weight-weight-requires-clause-rising
least_weight-weight-requires-clause-rising g c =
    let a = g.R.Recorder.seen c.args.rec.now in
    let s = c.state-state.result.now in
    let reached = c.state-state.ensures.replays in
    let has = c.requires.core s reached in
    let read = rw c.in_ok-lits.ensures.ok at c.literals_of.ensures in
    subst AreRising (sym (c.as_slice-2.ensures ∙ read has.core.line has.core.live))
    (core_rising a s reached c.vars-vars.ensures.state c.args.reform.now.terms c.args.id has)

pub count_core-requires-clause-core : goal.count_core-requires-clause-core
count_core-requires-clause-core g c =
    let a = g.R.Recorder.seen c.args.rec.now in
    let s = c.state-state.result.now in
    let reached = c.state-state.ensures.replays in
    let has = c.requires.core s reached in
    let read = rw c.in_ok-lits.ensures.ok at c.literals_of.ensures in
    subst (λ (ls : List Literal). HasCore a ls c.args.id) (sym (c.as_slice-3.ensures ∙ read has.core.line has.core.live))
    (has_core a s reached c.vars-vars.ensures.state c.args.reform.now.terms c.args.id has)

pub exchange-requires-clause-ready : goal.exchange-requires-clause-ready
exchange-requires-clause-ready g c =
    let call = c.in_ok-counted.ensures in
    ready_later (g.R.Recorder.seen c.args.rec.now) (g.R.Recorder.seen c.count_core.new.rec) c.requires.ready
    call.recorded.continues call.recorded.whole

pub exchange-requires-clause-may : goal.exchange-requires-clause-may
exchange-requires-clause-may g c =
    let a = g.R.Recorder.seen c.args.rec.now in
    let b = g.R.Recorder.seen c.count_core.new.rec in
    let s = c.state-state.result.now in
    let reached = c.state-state.ensures.replays in
    let r = c.args.reform.now in
    let w = c.least_weight-weight.result in
    let counted = c.in_ok-counted.counted in
    let has = c.requires.core s reached in
    let read = rw c.in_ok-lits.ensures.ok at c.literals_of.ensures in
    let is = read has.core.line has.core.live in
    let call = c.in_ok-counted.ensures in
    let among : All (Contains (literals r.terms)) c.in_ok-lits.lits = subst (λ (ls : List Literal). All (Contains (literals r.terms)) ls) (sym is) has.core.among in
    let rising : AreRising c.in_ok-lits.lits = subst AreRising (sym is) (core_rising a s reached c.vars-vars.ensures.state r.terms c.args.id has) in
    let least : AllWeigh c.in_ok-lits.lits w r.terms =
    subst (λ (ts : Terms). AllWeigh c.in_ok-lits.lits w ts) c.as_slice.ensures
    (subst (λ (ls : List Literal). AllWeigh ls w c.as_slice.result.now) c.as_slice-2.ensures c.least_weight-weight.ensures.least) in
    let counts : CountsCore a b c.in_ok-lits.lits counted = subst (λ (ls : List Literal). CountsCore a b ls counted) c.as_slice-3.ensures call.counts in
    subst (λ (ls : List Literal). MayExchange b r ls counted w) (sym c.as_slice-4.ensures)
    (may_exchange a b c.requires.ready call.recorded.continues r c.requires.row c.in_ok-lits.lits w counted among rising
    c.least_weight-weight.ensures.some least counts)

pub returns-in_err-exchange-clause-recorded : goal.returns-in_err-exchange-clause-recorded
returns-in_err-exchange-clause-recorded g c =
    handed_err (g.R.Recorder.seen c.args.rec.now) (g.R.Recorder.seen c.count_core.new.rec) (g.R.Recorder.seen c.exchange.new.rec)
    c.in_err-exchange.field-0.0 c.from_residual-in_err-exchange.result c.in_ok-counted.ensures.recorded.continues
    c.in_err-exchange.ensures.recorded c.from_residual-in_err-exchange.ensures.1

pub upper_line-requires : goal.upper_line-requires
upper_line-requires g c =
    let a = g.R.Recorder.seen c.args.rec.now in
    let b = g.R.Recorder.seen c.count_core.new.rec in
    let e = g.R.Recorder.seen c.exchange.new.rec in
    let call = c.exchange.ensures.recorded in
    record {
      ready = ready_later b e (ready_later a b c.requires.ready c.in_ok-counted.ensures.recorded.continues c.in_ok-counted.ensures.recorded.whole)
          call.continues c.in_ok-exchange.ensures.recorded.whole;
    }

pub returns-in_err-reform-clause-recorded : goal.returns-in_err-reform-clause-recorded
returns-in_err-reform-clause-recorded g c =
    let a = g.R.Recorder.seen c.args.rec.now in
    let b = g.R.Recorder.seen c.count_core.new.rec in
    let e = g.R.Recorder.seen c.exchange.new.rec in
    handed_err a e (g.R.Recorder.seen c.upper_line.new.rec) c.in_err-reform.field-0.0 c.from_residual-in_err-reform.result
    (continues_twice a b e c.in_ok-counted.ensures.recorded.continues c.exchange.ensures.recorded.continues)
    c.in_err-reform.ensures.recorded c.from_residual-in_err-reform.ensures.1

pub returns-clause-recorded : goal.returns-clause-recorded
returns-clause-recorded g c =
    let a = g.R.Recorder.seen c.args.rec.now in
    let b = g.R.Recorder.seen c.count_core.new.rec in
    let e = g.R.Recorder.seen c.exchange.new.rec in
    let f = g.R.Recorder.seen c.upper_line.new.rec in
    let call = c.in_ok-reform.ensures.recorded in
    recorded_ok a f _
    (continues_twice a e f (continues_twice a b e c.in_ok-counted.ensures.recorded.continues c.exchange.ensures.recorded.continues) call.continues)
    call.whole

pub returns-clause-row : goal.returns-clause-row
returns-clause-row g c =
    let a = g.R.Recorder.seen c.args.rec.now in
    let b = g.R.Recorder.seen c.count_core.new.rec in
    let e = g.R.Recorder.seen c.exchange.new.rec in
    let f = g.R.Recorder.seen c.upper_line.new.rec in
    let now = c.exchange.new.reform in
    let counted = c.in_ok-counted.ensures.recorded in
    let ready = ready_later b e (ready_later a b c.requires.ready counted.continues counted.whole)
    c.exchange.ensures.recorded.continues c.in_ok-exchange.ensures.recorded.whole in
    λ row is. exactly_named f row now c.in_ok-reform.field-0
    (exactly_stays e f ready c.in_ok-reform.ensures.recorded.continues row now
    (c.in_ok-exchange.ensures.row row (exactly_stays a b c.requires.ready counted.continues row c.args.reform.now is)))
