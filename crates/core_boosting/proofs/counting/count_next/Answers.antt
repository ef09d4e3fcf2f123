-- The next output, and the line that counts it.
use mir.Val.{to_z}
use mir.Syntax.{w64}
use Rattle.std.proofs.Common.{◌≡◌, ℕ, ◌+◌, ◌++◌, ◌∷◌, [], length, ap, ◌∙◌, arith, pos}
use Rattle.std.proofs.lemmas.Int.{to_z_pos}
use Rattle.std.proofs.lemmas.Result.{on_ok_weaker}
use Rattle.std.proofs.lemmas.List.{length-map}
use Rattle.scut_base.specs.Literal.{Literal}
use Rattle.pb_lin.specs.Constraint.{literals}
use Rattle.sum_outputs.proofs.LaterStates.{ready_later, recorded_after}
use Rattle.core_boosting.proofs.OkResults.{on_both}
use Rattle.totalizer.specs.Totalizing.{terms_of}
use Rattle.core_boosting.specs.Counting.{AddsOutput, CountsNow}
use Rattle.core_boosting.proofs.NextOutputs.{adds_output, counts_now, has_next, not_output}
use Rattle.core_boosting.proofs.counting.count_next.Goals as goal

pub returns-in_default : goal.returns-in_default
returns-in_default g c =
    let a = g.R.Recorder.seen c.args.rec.now in
    let b = g.R.Recorder.seen c.output.new.rec in
    let t = c.args.totalizer.now in
    let u = c.output.new.self in
    let before = c.args.counted.now in
    let lits = literals (terms_of t) in
    let so = c.requires.so in
    let more = c.requires.more in
    let few = so.few in
    let long = length-map (terms_of t) (λ (v : Literal × ℕ). v.0) in
    let is_len = c.len.ensures in
    let call = c.in_ok-lit.ensures in
    let asked : to_z w64 (c.len.result + 2) ≡ pos (length before.outputs + 2) =
    to_z_pos w64 (c.len.result + 2) (omega arith) ∙ ap (λ (k : ℕ). pos (k + 2)) is_len in
    absurd (not_output a b c.requires.ready t u before lits so (omega arith) call.recorded.continues call.nodes
    (to_z w64 (c.len.result + 2)) asked c.in_ok-lit.field-0 call.bound c.in_default.not-At)

pub count_by-requires-clause-ready : goal.count_by-requires-clause-ready
count_by-requires-clause-ready g c =
    let a = g.R.Recorder.seen c.args.rec.now in
    let b = g.R.Recorder.seen c.output.new.rec in
    let call = c.in_ok-lit.ensures in
    ready_later a b c.requires.ready call.recorded.continues call.recorded.whole

pub count_by-requires-clause-next : goal.count_by-requires-clause-next
count_by-requires-clause-next g c =
    let a = g.R.Recorder.seen c.args.rec.now in
    let b = g.R.Recorder.seen c.output.new.rec in
    let t = c.args.totalizer.now in
    let u = c.output.new.self in
    let before = c.args.counted.now in
    let lits = literals (terms_of t) in
    let so = c.requires.so in
    let more = c.requires.more in
    let few = so.few in
    let long = length-map (terms_of t) (λ (v : Literal × ℕ). v.0) in
    let is_len = c.len.ensures in
    let call = c.in_ok-lit.ensures in
    let asked : to_z w64 (c.len.result + 2) ≡ pos (length before.outputs + 2) =
    to_z_pos w64 (c.len.result + 2) (omega arith) ∙ ap (λ (k : ℕ). pos (k + 2)) is_len in (
      lits,
      has_next a b c.requires.ready t u before lits so (omega arith) call.recorded.continues call.nodes
          (to_z w64 (c.len.result + 2)) asked c.in_ok-lit.field-0 call.bound call.added c.in-At.lit c.in-At.lower_line c.in-At.is call.recorded.whole,
    )

pub returns-clause-recorded : goal.returns-clause-recorded
returns-clause-recorded g c =
    let a = g.R.Recorder.seen c.args.rec.now in
    let b = g.R.Recorder.seen c.output.new.rec in
    let e = g.R.Recorder.seen c.count_by.new.rec in
    recorded_after a b e c.count_by.result c.in_ok-lit.ensures.recorded.continues c.count_by.ensures.recorded

pub returns-clause-so : goal.returns-clause-so
returns-clause-so g c =
    let a = g.R.Recorder.seen c.args.rec.now in
    let b = g.R.Recorder.seen c.output.new.rec in
    let t = c.args.totalizer.now in
    let u = c.output.new.self in
    let before = c.args.counted.now in
    let lits = literals (terms_of t) in
    let so = c.requires.so in
    let more = c.requires.more in
    let few = so.few in
    let long = length-map (terms_of t) (λ (v : Literal × ℕ). v.0) in
    let is_len = c.len.ensures in
    let call = c.in_ok-lit.ensures in
    let asked : to_z w64 (c.len.result + 2) ≡ pos (length before.outputs + 2) =
    to_z_pos w64 (c.len.result + 2) (omega arith) ∙ ap (λ (k : ℕ). pos (k + 2)) is_len in
    let e = g.R.Recorder.seen c.count_by.new.rec in
    let d = c.count_by.new.counted in
    let next = c.count_by.ensures in
    let has = has_next a b c.requires.ready t u before lits so (omega arith) call.recorded.continues call.nodes
    (to_z w64 (c.len.result + 2)) asked c.in_ok-lit.field-0 call.bound call.added c.in-At.lit c.in-At.lower_line c.in-At.is call.recorded.whole in
    on_both c.count_by.result (d.outputs ≡ before.outputs ++ c.in-At.lit ∷ []) _ (CountsNow e lits u d)
    (λ outputs line. counts_now a b c.requires.ready t u before lits so (omega arith) call.recorded.continues call.nodes
    (to_z w64 (c.len.result + 2)) asked c.in_ok-lit.field-0 call.bound call.added c.in-At.lit c.in-At.lower_line c.in-At.is
    call.recorded.whole call.fits e next.recorded.continues d outputs (line lits has)) next.outputs next.line

pub returns-clause-added : goal.returns-clause-added
returns-clause-added g c =
    let a = g.R.Recorder.seen c.args.rec.now in
    let b = g.R.Recorder.seen c.output.new.rec in
    let t = c.args.totalizer.now in
    let u = c.output.new.self in
    let before = c.args.counted.now in
    let lits = literals (terms_of t) in
    let so = c.requires.so in
    let more = c.requires.more in
    let few = so.few in
    let long = length-map (terms_of t) (λ (v : Literal × ℕ). v.0) in
    let is_len = c.len.ensures in
    let call = c.in_ok-lit.ensures in
    let asked : to_z w64 (c.len.result + 2) ≡ pos (length before.outputs + 2) =
    to_z_pos w64 (c.len.result + 2) (omega arith) ∙ ap (λ (k : ℕ). pos (k + 2)) is_len in
    let d = c.count_by.new.counted in
    on_ok_weaker {P = d.outputs ≡ before.outputs ++ c.in-At.lit ∷ []} {Q = AddsOutput a before d} c.count_by.result
    (λ outputs. adds_output a b c.requires.ready t u before lits so (omega arith) call.recorded.continues call.nodes
    (to_z w64 (c.len.result + 2)) asked c.in_ok-lit.field-0 call.bound call.added c.in-At.lit c.in-At.lower_line c.in-At.is d outputs)
    c.count_by.ensures.outputs
