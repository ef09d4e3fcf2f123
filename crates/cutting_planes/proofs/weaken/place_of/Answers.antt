use Rattle.std.proofs.Common.{arith, ap, ◌∙◌}
use Rattle.std.proofs.lemmas.List.{get_or_default}
use Rattle.pb_lin.proofs.Places.{none_at_place}
use Rattle.cutting_planes.proofs.weaken.place_of.Goals as goal
use Rattle.cutting_planes.proofs.weaken.place_of.Goals.{else-place-terms-via-then-place-terms+else-var-2, else-place-terms-via-else-place-terms}

pub returns : goal.returns
returns c = none_at_place (λ t. t.0.var) c.args.terms.now c.args.var c.least_place-place.result c.requires c.least_place-place.ensures (λ d short e.
    elim c.else-place-terms.branch [
      | else-place-terms-via-then-place-terms+else-var-2 w ↦ w.if-var-2.false (w.var-then-place-terms.ensures.value ∙ ap (λ t. t.0.var) (get_or_default c.args.terms.now c.least_place-place.result w.index-terms-place.result d short) ∙ e)
      | else-place-terms-via-else-place-terms w ↦ absurd (omega arith)
    ])
