-- Cores are taken up while there are some.
use Rattle.std.proofs.Common.{sym, subst}
use Rattle.std.specs.List.{All}
use Rattle.pb_lin.specs.Constraint.{IsVariable}
use Rattle.cutting_planes.proofs.Terms.{Terms}
use Rattle.core_boosting.specs.Boosting.{EndsBoosting, HasCoreLine}
use Rattle.core_boosting.proofs.Calls.{boosts_after, boosts_handed, boosts_recording}
use Rattle.core_boosting.proofs.EarnedLines.{still_boosts}
use Rattle.core_boosting.proofs.TakenCores.{none_found, of_row, takes_asked, takes_more, takes_none}
use Rattle.core_boosting.proofs.cores.take_up_cores.Goals as goal

pub loop-id-init : goal.loop-id-init
loop-id-init g c = takes_none (g.O.Recorder.seen c.args.oracle.now) c.args.reform.now c.requires.may

pub next_core-requires-clause-may : goal.next_core-requires-clause-may
next_core-requires-clause-may g c = c.loop-id.invariant.boosts.may tt

pub next_core-requires-clause-variables : goal.next_core-requires-clause-variables
next_core-requires-clause-variables g c =
    let a = g.O.Recorder.seen c.args.oracle.now in
    let b = g.O.Recorder.seen c.loop-id.oracle in
    let row = of_row a b c.args.reform.now c.loop-id.reform c.loop-id.invariant.keeps c.requires.row in
    λ s reached. subst (λ (ts : Terms). All (λ t. IsVariable s.vars t.0.var) ts) (sym c.as_slice.ensures)
    (row.1.reform s reached).variables

pub returns-in_err-id-clause-goes_on : goal.returns-in_err-id-clause-goes_on
returns-in_err-id-clause-goes_on g c =
    let a = g.O.Recorder.seen c.args.oracle.now in
    let b = g.O.Recorder.seen c.loop-id.oracle in
    let e = g.O.Recorder.seen c.next_core.new.oracle in
    boosts_after a b e tt c.from_residual.result c.loop-id.invariant.boosts
    (boosts_handed b e c.from_residual.result c.in_err-id.field-0.0 c.from_residual.ensures.1 c.in_err-id.ensures.goes_on)

pub take_up-requires-clause-ready : goal.take_up-requires-clause-ready
take_up-requires-clause-ready g c = (c.in_ok-id.ensures.goes_on.may tt).ready

pub take_up-requires-clause-row : goal.take_up-requires-clause-row
take_up-requires-clause-row g c =
    let a = g.O.Recorder.seen c.args.oracle.now in
    let b = g.O.Recorder.seen c.loop-id.oracle in
    let e = g.O.Recorder.seen c.next_core.new.oracle in
    let takes = takes_asked a b e _ c.args.reform.now c.loop-id.reform c.loop-id.invariant c.in_ok-id.ensures.goes_on in
    of_row a e c.args.reform.now c.loop-id.reform takes.keeps c.requires.row

pub loop-id-preserved : goal.loop-id-preserved
loop-id-preserved g c =
    let a = g.O.Recorder.seen c.args.oracle.now in
    let b = g.O.Recorder.seen c.loop-id.oracle in
    let e = g.O.Recorder.seen c.next_core.new.oracle in
    let f = g.O.Recorder.seen c.take_up.new.rec in
    let asked = c.in_ok-id.ensures.goes_on in
    let takes = takes_asked a b e _ c.args.reform.now c.loop-id.reform c.loop-id.invariant asked in
    let call = c.in_ok-take_up.ensures in
    takes_more a e f c.args.reform.now c.loop-id.reform c.take_up.new.reform takes call.recorded.continues
    (still_boosts e f call.recorded.continues (asked.may tt) call.recorded.whole) call.row

pub returns-in_err-take_up-clause-goes_on : goal.returns-in_err-take_up-clause-goes_on
returns-in_err-take_up-clause-goes_on g c =
    let a = g.O.Recorder.seen c.args.oracle.now in
    let b = g.O.Recorder.seen c.loop-id.oracle in
    let e = g.O.Recorder.seen c.next_core.new.oracle in
    let f = g.O.Recorder.seen c.take_up.new.rec in
    let takes = takes_asked a b e _ c.args.reform.now c.loop-id.reform c.loop-id.invariant c.in_ok-id.ensures.goes_on in
    let call = c.in_err-take_up.ensures in
    boosts_after a e f tt c.from_residual-in_err-take_up.result takes.boosts
    (boosts_recording e f c.from_residual-in_err-take_up.result c.in_err-take_up.field-0.0
    c.from_residual-in_err-take_up.ensures.1 call.recorded.fault call.recorded.continues)

pub returns-clause-row : goal.returns-clause-row
returns-clause-row g c =
    let a = g.O.Recorder.seen c.args.oracle.now in
    let b = g.O.Recorder.seen c.loop-id.oracle in
    let e = g.O.Recorder.seen c.next_core.new.oracle in
    (takes_asked a b e _ c.args.reform.now c.loop-id.reform c.loop-id.invariant c.in_ok-id.ensures.goes_on).keeps

pub returns-clause-ends : goal.returns-clause-ends
returns-clause-ends g c =
    let e = g.O.Recorder.seen c.next_core.new.oracle in
    λ s reached. subst (λ (ts : Terms). EndsBoosting e.problem ts s) c.as_slice.ensures
    (none_found c.in_ok-id.field-0 (EndsBoosting e.problem c.as_slice.result.now s) (λ id. HasCoreLine c.as_slice.result.now id s)
    (c.in_ok-id.ensures.core s reached) c.in_default.not-Some)

pub returns-clause-goes_on : goal.returns-clause-goes_on
returns-clause-goes_on g c =
    let a = g.O.Recorder.seen c.args.oracle.now in
    let b = g.O.Recorder.seen c.loop-id.oracle in
    let e = g.O.Recorder.seen c.next_core.new.oracle in
    (takes_asked a b e _ c.args.reform.now c.loop-id.reform c.loop-id.invariant c.in_ok-id.ensures.goes_on).boosts
