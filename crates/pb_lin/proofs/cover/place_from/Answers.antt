use Rattle.std.proofs.Common.{◌≤◌, arith, sym}
use Rattle.std.proofs.lemmas.Option.{get_or_from_slice_get}
use Rattle.pb_lin.proofs.Places.{IsPlace-from_step}
use Rattle.pb_lin.proofs.cover.place_from.Goals as goal

pub returns-else-var : goal.returns-else-var
returns-else-var c =
    let terms = c.args.c.now.terms in
    let least : c.args.var ≤ c.term.result.0.var = omega (arith, c.var.ensures.value) in
    IsPlace-from_step (λ t. t.0.var) terms c.args.var c.loop-place.place c.term.result c.len.ensures.normal.merged.rising (omega (arith, c.len.ensures.value)) c.loop-place.invariant.below (sym (get_or_from_slice_get terms c.loop-place.place c.term.result c.term.result c.term.ensures)) least
