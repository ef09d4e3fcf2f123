-- The sum of the line below the objective and that of the output is recorded, and kept in its place.
use Rattle.std.proofs.Common.{◌≡◌, List, ℕ, refl, sym, subst}
use Rattle.std.specs.List.{insert, Contains}
use Rattle.search_base.specs.CostBounds.{IsObjectiveLine}
use Rattle.search_base.specs.OneBound.{IsPlaceFor}
use Rattle.search_base.specs.declared.objective_bound.ObjectiveLine.{ObjectiveLine}
use Rattle.search_base.proofs.AskedRows.{inserted_there, row_with_line}
use Rattle.search_base.proofs.ObjectiveLines.{defined_long, sum_objective_line, sum_line_covers, sum_lines}
use Rattle.search_base.proofs.RowStays.{row_stays}
use Rattle.search_base.proofs.TurnLines.{own_law, totalizer_lines}
use Rattle.search_base.proofs.objective_bound.ObjectiveBound.new_objective_line.Goals as goal

pub add_sum-requires-clause-fits : goal.add_sum-requires-clause-fits
add_sum-requires-clause-fits g c =
    let R = g.R.Recorder in
    let a = R.seen c.args.rec.now in
    let o = c.args.self.now in
    let row = c.requires.fits.0 in
    let is = c.requires.fits.1 in
    let k = c.requires.output.0 in
    let out = c.requires.output.1 in
    let long = c.requires.needs.0 in
    record {
      lines = λ t after state. sum_lines a t after row o k c.args.lit c.args.output_line is out long
          (defined_long a t after row o k c.args.lit c.args.output_line is out long) c.requires.needs.1 state;
    }

pub returns-clause-covers : goal.returns-clause-covers
returns-clause-covers g c =
    let R = g.R.Recorder in
    let a = R.seen c.args.rec.now in
    let b = R.seen c.add_sum.new.rec in
    let o = c.args.self.now in
    let l = c.args.lit in
    let id = c.args.output_line in
    let ready = c.requires.ready in
    let long = c.requires.needs.0 in
    λ row k is out t after.
    let defined = defined_long a ready.state ready.reached row o k l id is out long in
    let least = defined.least in
    sum_line_covers a ready.state ready.reached row o k l id is out long defined c.requires.needs.1 b c.in_ok-line.line
    c.in_ok-line.ensures.sum t after k least.reaches

pub returns-clause-added : goal.returns-clause-added
returns-clause-added g c =
    let made : ObjectiveLine = record { var = c.var-var.result; line = c.in_ok-line.line } in
    let old = c.args.self.now.objective_lines.items in
    let put : c.insert_line.new.lines.items ≡ insert old c.args.place made =
    rw c.in_ok-in_memory.ensures.ok at c.insert_line.ensures in (
      (
        made,
        subst (λ (cs : List ObjectiveLine). Contains cs made) (sym put) (inserted_there old made c.args.place),
        c.var-var.ensures.value,
      ),
      c.in_ok-line.ensures.defined,
    )

pub returns-clause-fits : goal.returns-clause-fits
returns-clause-fits g c =
    let R = g.R.Recorder in
    let a = R.seen c.args.rec.now in
    let b = R.seen c.add_sum.new.rec in
    let o = c.args.self.now in
    let l = c.args.lit in
    let id = c.args.output_line in
    let ready = c.requires.ready in
    let made : ObjectiveLine = record { var = c.var-var.result; line = c.in_ok-line.line } in
    let put : c.insert_line.new.lines.items ≡ insert o.objective_lines.items c.args.place made =
    rw c.in_ok-in_memory.ensures.ok at c.insert_line.ensures in
    let place : IsPlaceFor o.objective_lines.items c.var-var.result c.args.place =
    subst (λ (v : ℕ). IsPlaceFor o.objective_lines.items v c.args.place) (sym c.var-var.ensures.value) c.requires.place in
    let on = c.in_ok-line.ensures.recorded.continues in
    let keeps = own_law a.problem a.lines b.lines (totalizer_lines a b on) in
    let k = c.requires.output.0 in
    let long = c.requires.needs.0 in
    let out = c.requires.output.1 in
    λ row is.
    row_with_line b row o (record { reform = o.reform; totalizer = o.totalizer; objective_lines = c.insert_line.new.lines }) made
    c.args.place
    (row_stays c.own_lines_stay.ensures c.fitting_stays.ensures c.reform_stays.ensures a b ready.state on.problem keeps
    ready.reached row o is) (record { reform = refl; totalizer = refl }) put place
    (λ t after. subst (λ (v : ℕ). IsObjectiveLine b.problem b.lines t row o (record { var = v; line = c.in_ok-line.line }))
    (sym c.var-var.ensures.value)
    (sum_objective_line a ready.state ready.reached row o k l id is out long
    (defined_long a ready.state ready.reached row o k l id is out long) c.requires.needs.1 b c.in_ok-line.line
    c.in_ok-line.ensures.sum t after))
