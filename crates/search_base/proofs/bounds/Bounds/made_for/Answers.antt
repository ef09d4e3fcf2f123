-- The bounds of the objective are those of some row.
use mir.Syntax.{w64}
use Rattle.search_base.proofs.BoundRows.{row_of_bound}
use Rattle.std.proofs.Common.{◌<◌, List, MatchOption, get_or, length, ap, sym, subst, ◌∙◌, arith, ℤ}
use Rattle.std.proofs.lemmas.Int.{to_z-of_z}
use Rattle.std.proofs.lemmas.List.{get_or_default}
use Rattle.search_base.specs.CostBounds.{FitSome}
use Rattle.search_base.specs.Outputs.{IsMadeAt, IsUnmadeAt}
use Rattle.search_base.specs.declared.objective_bound.ObjectiveBound.{ObjectiveBound}
use Rattle.search_base.proofs.bounds.Bounds.made_for.Goals as goal

pub made_for-requires : goal.made_for-requires
made_for-requires c =
    let items = c.self.inside.bounds.items in
    let has = row_of_bound items c.args.objective c.index.result.now
    (subst FitSome (sym c.self.view_is) c.requires.fits) (omega (arith, ap length c.self.view_is, c.requires.there)) c.index.ensures in
    record { fits = (has.0, has.1.state, has.1.reached, has.3.fits) }

pub returns : goal.returns
returns c =
    let items = c.self.inside.bounds.items in
    let i = c.args.objective in
    let v = c.args.value in
    let o = c.index.result.now in
    let short : i < length items = omega (arith, ap length c.self.view_is, c.requires.there) in
    λ e. subst (λ (bs : List ObjectiveBound). MatchOption c.made_for.result (IsUnmadeAt (get_or bs i e) v)
    (λ q. IsMadeAt (get_or bs i e) v q.now)) c.self.view_is
    (subst (λ (p : ObjectiveBound). MatchOption c.made_for.result (IsUnmadeAt p v) (λ q. IsMadeAt p v q.now))
    (c.index.ensures ∙ get_or_default items i o e short)
    (subst (λ (w : ℤ). MatchOption c.made_for.result (IsUnmadeAt o w) (λ q. IsMadeAt o w q.now))
    (to_z-of_z w64 v c.ranges.value) c.made_for.ensures))
