-- A table after one more row.
use Rattle.std.proofs.Common.{◌∙◌, [], ◌+◌, ◌∷◌, ◌++◌, List, take, arith, sym, ap}
use Rattle.std.proofs.lemmas.List.{length-take, take_more}
use Rattle.pb_lin.specs.Constraint.{ConstraintValue}
use Rattle.harden.specs.Noted.{occurrence_in, with_row}
use Rattle.harden.proofs.Places.{rows_more}
use Rattle.harden.proofs.noting.note_rows.Goals as goal

pub loop-at-preserved : goal.loop-at-preserved
loop-at-preserved c =
    let rows = c.args.rows.now in
    let at = c.loop-at.at in
    let row = c.index-rows-at.result in
    let is = c.index-rows-at.is in
    let long = length-take at rows in
    record {
      places = c.in_ok-note_constraint.ensures.places ∙ c.loop-at.invariant.places;
      noted = λ m. c.in_ok-note_constraint.ensures.noted m
          ∙ ap (with_row row (at + 1) m) (c.loop-at.invariant.noted m)
          ∙ rows_more (take at rows) row (at + 1) m (omega arith)
          ∙ ap (λ (q : List ConstraintValue). occurrence_in q [] m) (sym (take_more rows at row c.loop-at-test.true ∙ ap (λ (d : ConstraintValue). take at rows ++ d ∷ []) (sym is)));
    }
