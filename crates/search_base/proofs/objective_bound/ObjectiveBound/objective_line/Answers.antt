-- The line is that of the output, that of the reform, one that was made before, or a new one.
use Rattle.std.proofs.Common.{ℕ, List, refl, subst}
use Rattle.std.specs.List.{Contains}
use Rattle.std.proofs.lemmas.List.Elements.{All-contains}
use Rattle.std.proofs.lemmas.Result.{on_ok_weaker}
use Rattle.proof_laws.specs.State.{IsState}
use Rattle.proof_laws.proofs.Replays.{replay_once}
use Rattle.sum_outputs.proofs.LaterStates.{continues_again, recorded_ok}
use Rattle.search_base.specs.CostBounds.{IsObjectiveLine}
use Rattle.search_base.specs.OneBound.{AddsObjectiveLine, IsPlaceFor}
use Rattle.search_base.specs.declared.objective_bound.ObjectiveLine.{ObjectiveLine}
use Rattle.search_base.proofs.ObjectiveLines.{defined_here, has_line, leaf_line_covers, made_line_covers, own_line_covers}
use Rattle.search_base.proofs.objective_bound.ObjectiveBound.objective_line.Goals as goal

pub returns-then-lower_line-eq0-clause-recorded : goal.returns-then-lower_line-eq0-clause-recorded
returns-then-lower_line-eq0-clause-recorded g c =
    let R = g.R.Recorder in
    let a = R.seen c.args.rec.now in
    recorded_ok a a c.args.output_line (continues_again a) c.requires.ready.whole

pub returns-then-lower_line-eq0-clause-covers : goal.returns-then-lower_line-eq0-clause-covers
returns-then-lower_line-eq0-clause-covers g c =
    let R = g.R.Recorder in
    let a = R.seen c.args.rec.now in
    λ row k is out s after.
    own_line_covers a s after row c.args.self.now k c.args.lit c.args.output_line is out
    (subst IsState (replay_once a.problem a.lines c.state.result.now s c.state.ensures.replays after)
    c.vars-vars.ensures.state) c.if-lower_line-eq0.true

pub returns-then-output_line-eq0-clause-recorded : goal.returns-then-output_line-eq0-clause-recorded
returns-then-output_line-eq0-clause-recorded g c =
    let R = g.R.Recorder in
    let a = R.seen c.args.rec.now in
    recorded_ok a a c.args.self.now.reform.lower_line (continues_again a) c.requires.ready.whole

pub returns-then-output_line-eq0-clause-covers : goal.returns-then-output_line-eq0-clause-covers
returns-then-output_line-eq0-clause-covers g c =
    let R = g.R.Recorder in
    let a = R.seen c.args.rec.now in
    λ row k is out s after.
    leaf_line_covers a s after row c.args.self.now k c.args.lit c.args.output_line is out
    (subst IsState (replay_once a.problem a.lines c.state.result.now s c.state.ensures.replays after)
    c.vars-vars.ensures.state) c.if-output_line-eq0.true

pub returns-then-output_line-eq0-clause-added : goal.returns-then-output_line-eq0-clause-added
returns-then-output_line-eq0-clause-added g c =
    let R = g.R.Recorder in
    let a = R.seen c.args.rec.now in
    let ready = c.requires.ready in
    record {
      there = λ long some. absurd (has_line a ready.state ready.reached c.requires.fits.0 c.args.self.now
          c.requires.output.0 c.args.lit c.args.output_line c.requires.fits.1 c.requires.output.1 long
          c.if-output_line-eq0.true);
      again = λ known. refl;
      defined = refl;
    }

pub returns-in-Ok-clause-recorded : goal.returns-in-Ok-clause-recorded
returns-in-Ok-clause-recorded g c =
    let R = g.R.Recorder in
    let a = R.seen c.args.rec.now in
    recorded_ok a a c.in-Ok.line (continues_again a) c.requires.ready.whole

pub returns-in-Ok-clause-covers : goal.returns-in-Ok-clause-covers
returns-in-Ok-clause-covers g c =
    let R = g.R.Recorder in
    let a = R.seen c.args.rec.now in
    let o = c.args.self.now in
    let made : ObjectiveLine = record { var = c.var.result; line = c.in-Ok.line } in
    let there : Contains o.objective_lines.items made =
    subst (λ (cs : List ObjectiveLine). Contains cs made) c.as_slice.ensures.value c.in-Ok.ensures in
    λ row k is out s after.
    made_line_covers a s after row o k c.args.lit c.args.output_line is out made c.if-output_line-eq0.false
    (All-contains (IsObjectiveLine a.problem a.lines s row o) o.objective_lines.items made (is.objective_lines s after) there)
    c.var.ensures.value

pub returns-in-Err-clause-added : goal.returns-in-Err-clause-added
returns-in-Err-clause-added g c =
    let R = g.R.Recorder in
    let a = R.seen c.args.rec.now in
    let b = R.seen c.new_objective_line.new.rec in
    let o = c.args.self.now in
    let l = c.args.lit in
    let ready = c.requires.ready in
    let long = (defined_here a ready.state ready.reached c.requires.fits.0 o c.requires.output.0 l c.args.output_line
    c.requires.fits.1 c.requires.output.1 c.if-output_line-eq0.false).0 in
    let place : IsPlaceFor o.objective_lines.items l.var c.in-Err.place =
    subst (λ (v : ℕ). IsPlaceFor o.objective_lines.items v c.in-Err.place) c.var.ensures.value
    (subst (λ (cs : List ObjectiveLine). IsPlaceFor cs c.var.result c.in-Err.place) c.as_slice.ensures.value
    c.in-Err.ensures) in
    on_ok_weaker c.new_objective_line.result
    (λ (adds : AddsObjectiveLine a b c.new_objective_line.new.self l.var). record {
      there = λ more some. adds.0;
      again = λ known. let has = known long c.if-lower_line-eq0.false in absurd (place.none has.0 has.1 has.2);
      defined = adds.1;
    })
    c.new_objective_line.ensures.added
