-- A table after one more term of a row.
use Rattle.std.proofs.Common.{◌≡◌, ◌∙◌, ℕ, List, length, length-set, arith, ap, subst}
use Rattle.std.specs.Prelude.{nat_lt}
use Rattle.std.proofs.lemmas.List.{take_all}
use Rattle.scut_base.specs.Literal.{Literal}
use Rattle.harden.specs.Noted.{in_row, occurrence_at, with_row}
use Rattle.harden.proofs.Places.{row_place, row_step}
use Rattle.harden.proofs.noting.note_constraint.Goals as goal

pub loop-at-preserved : goal.loop-at-preserved
loop-at-preserved c =
    let row = c.args.row.now in
    let table = c.loop-at.table.items in
    let code = c.literal_code.result in
    let inside = row_place (length c.args.table.now.items) row.terms c.loop-at.at c.term-term.result code c.requires c.term-term.ensures c.literal_code.ensures in
    let places = c.loop-at.invariant.places in
    record {
      places = length-set table code c.note_row.new.place ∙ places;
      noted = row_step row c.args.id c.loop-at.at c.term-term.result table (λ m. occurrence_at c.args.table.now.items m) code c.index_mut.result.now c.note_row.new.place
          c.degree-degree.ensures.normal.merged c.term-term.ensures c.literal_code.ensures (omega (arith, inside, places)) c.index_mut.ensures.value
          (c.in_ok-note_row.ensures ∙ ap (λ (d : ℕ). in_row (nat_lt c.term-term.result.1 d) c.args.id c.index_mut.result.now) c.degree-degree.ensures.value) c.loop-at.invariant.noted;
    }

pub returns-clause-noted : goal.returns-clause-noted
returns-clause-noted c = subst (λ (terms : List (Literal × ℕ)). (l : Literal) → occurrence_at c.loop-at.table.items l ≡ with_row (record { terms = terms; degree = c.args.row.now.degree }) c.args.id l (occurrence_at c.args.table.now.items l))
    (take_all c.loop-at.at c.args.row.now.terms (omega arith)) c.loop-at.invariant.noted
