use Rattle.std.proofs.Common.{length, refl, ap, sym, ◌∙◌, Some}
use Rattle.std.proofs.lemmas.Option.{slice_get_read}
use Rattle.hint_rup.proofs.ClauseFates.{quiet_where_true, quiet_where_two}
use Rattle.hint_rup.proofs.propagation.clause_fate.Goals as goal

pub returns-in-Some-true : goal.returns-in-Some-true
returns-in-Some-true c =
    let lits = c.args.lits.now in
    let l = c.lit-item.result in
    let is = slice_get_read lits (length lits) c.loop-lit.lit-index l refl c.loop-lit-test.true c.lit-item.is in
    quiet_where_true c.args.scratch.now lits c.loop-lit.lit-index l is (sym c.get.ensures ∙ c.in-Some-true.is ∙ ap Some c.in-Some-true.field-0-test)

pub returns-then-is_some : goal.returns-then-is_some
returns-then-is_some c =
    let lits = c.args.lits.now in
    let l = c.lit-item.result in
    let is = slice_get_read lits (length lits) c.loop-lit.lit-index l refl c.loop-lit-test.true c.lit-item.is in
    quiet_where_two c.args.scratch.now lits c.loop-lit.lit-index l c.loop-lit.unit is (sym c.get.ensures ∙ c.in-None.is) c.loop-lit.invariant.possible (sym c.is_some.ensures ∙ c.if-is_some.true)
