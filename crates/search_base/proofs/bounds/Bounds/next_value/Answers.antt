use Rattle.search_base.proofs.BoundRows.{row_of_bound}
use Rattle.std.proofs.Common.{length, ap, sym, subst, arith}
use Rattle.search_base.specs.CostBounds.{FitSome}
use Rattle.search_base.proofs.bounds.Bounds.next_value.Goals as goal

pub next_value-requires-clause-fits : goal.next_value-requires-clause-fits
next_value-requires-clause-fits c =
    let items = c.self.inside.bounds.items in
    let has = row_of_bound items c.args.objective c.index.result.now
    (subst FitSome (sym c.self.view_is) c.requires.fits) (omega (arith, ap length c.self.view_is, c.requires.there)) c.index.ensures in
    (has.0, has.1.state, has.1.reached, has.3.fits)

pub next_value-requires-clause-weights : goal.next_value-requires-clause-weights
next_value-requires-clause-weights c =
    let items = c.self.inside.bounds.items in
    let has = row_of_bound items c.args.objective c.index.result.now
    (subst FitSome (sym c.self.view_is) c.requires.fits) (omega (arith, ap length c.self.view_is, c.requires.there)) c.index.ensures in
    (has.3.reform has.1.state has.1.reached).weights

pub next_value-requires-clause-terms : goal.next_value-requires-clause-terms
next_value-requires-clause-terms c =
    let items = c.self.inside.bounds.items in
    let has = row_of_bound items c.args.objective c.index.result.now
    (subst FitSome (sym c.self.view_is) c.requires.fits) (omega (arith, ap length c.self.view_is, c.requires.there)) c.index.ensures in
    has.3.terms

pub next_value-requires-clause-small : goal.next_value-requires-clause-small
next_value-requires-clause-small c =
    let items = c.self.inside.bounds.items in
    let has = row_of_bound items c.args.objective c.index.result.now
    (subst FitSome (sym c.self.view_is) c.requires.fits) (omega (arith, ap length c.self.view_is, c.requires.there)) c.index.ensures in
    (has.3.reform has.1.state has.1.reached).small
