-- The objective's own bounds are asked; the others stay as they are.
use mir.Syntax.{w64}
use Rattle.std.proofs.Common.{◌<◌, List, [], get_or, length, sym, subst, ◌∙◌, arith, ℤ, pos}
use Rattle.std.proofs.Math.ListN.{set}
use Rattle.std.proofs.lemmas.Int.{to_z-of_z}
use Rattle.std.proofs.lemmas.List.{get_or_default, get_or-set_same}
use Rattle.std.specs.Prelude.{IfOk}
use Rattle.std.proofs.lemmas.Result.{IfOk-weaker}
use Rattle.std.proofs.lemmas.Slice.Zip.{AllZip-long}
use Rattle.pb_lin.specs.CostRow.{CostRowValue}
use Rattle.search_base.specs.CostBounds.{AddsBound, BoundsRow, FitBounds, HasLiteral, IsAnswerFor, IsCostBound, KeepsOthers, reforms_of}
use Rattle.search_base.specs.OneBound.{HasOwnLiteral, KeepsRow}
use Rattle.search_base.specs.declared.objective_bound.ObjectiveBound.{ObjectiveBound}
use Rattle.search_base.proofs.AskedBounds.{fit_asked, has_literal, others_kept, outside_after}
use Rattle.search_base.proofs.BoundRows.{bound_at}
use Rattle.search_base.proofs.Recordings.{if_on_both, on_if}
use Rattle.search_base.proofs.bounds.Bounds.at_least.Goals as goal

pub index_mut-bound-requires : goal.index_mut-bound-requires
index_mut-bound-requires g c =
    let R = g.R.Recorder in
    let a = R.seen c.args.rec.now in
    let items = c.self.inside.bounds.items in
    let fit : FitBounds a items = subst (FitBounds a) (sym c.self.view_is) c.requires.fits in
    let same = AllZip-long (BoundsRow a) a.problem.costs items fit.rows in
    omega (arith, same, c.self.inside.bounds.ok.0, c.requires.there)

pub at_least-requires-clause-fits : goal.at_least-requires-clause-fits
at_least-requires-clause-fits g c =
    let R = g.R.Recorder in
    let a = R.seen c.args.rec.now in
    let items = c.self.inside.bounds.items in
    let fit : FitBounds a items = subst (FitBounds a) (sym c.self.view_is) c.requires.fits in
    let d : CostRowValue = record { terms = []; offset = pos 0 } in
    let bound = c.index_mut-bound in (
      get_or a.problem.costs c.args.objective d,
      bound_at a items c.args.objective d bound.result.now fit c.requires.there bound.ensures.value,
    )

pub returns-clause-bound : goal.returns-clause-bound
returns-clause-bound g c =
    let R = g.R.Recorder in
    let a = R.seen c.args.rec.now in
    let b = R.seen c.at_least.new.rec in
    let items = c.self.inside.bounds.items in
    let fit : FitBounds a items = subst (FitBounds a) (sym c.self.view_is) c.requires.fits in
    let i = c.args.objective in
    let o = c.index_mut-bound.result.now in
    IfOk-weaker c.at_least.result
    (λ bound. (row : CostRowValue) → BoundsRow a row o → IsCostBound b.problem b.lines row c.args.value bound)
    (λ bound. (d : CostRowValue) → IsCostBound b.problem b.lines (get_or a.problem.costs i d) c.args.value bound)
    (λ bound all d. all (get_or a.problem.costs i d) (bound_at a items i d o fit c.requires.there
    c.index_mut-bound.ensures.value))
    (subst (λ (v : ℤ). IfOk c.at_least.result (λ bound. (row : CostRowValue) → BoundsRow a row o
    → IsCostBound b.problem b.lines row v bound)) (to_z-of_z w64 c.args.value c.ranges.value) c.at_least.ensures.bound)

pub returns-clause-answer : goal.returns-clause-answer
returns-clause-answer g c =
    let R = g.R.Recorder in
    let a = R.seen c.args.rec.now in
    let items = c.self.inside.bounds.items in
    let fit : FitBounds a items = subst (FitBounds a) (sym c.self.view_is) c.requires.fits in
    let same = AllZip-long (BoundsRow a) a.problem.costs items fit.rows in
    let i = c.args.objective in
    let o = c.index_mut-bound.result.now in
    let short : i < length items = omega (arith, same, c.requires.there) in
    subst (λ (bs : List ObjectiveBound). IfOk c.at_least.result
    (λ bound. (e : ObjectiveBound) → IsAnswerFor (get_or bs i e).reform c.args.value bound)) c.self.view_is
    (IfOk-weaker c.at_least.result (IsAnswerFor o.reform c.args.value)
    (λ bound. (e : ObjectiveBound) → IsAnswerFor (get_or items i e).reform c.args.value bound)
    (λ bound is e. subst (λ (q : ObjectiveBound). IsAnswerFor q.reform c.args.value bound)
    (c.index_mut-bound.ensures.value ∙ get_or_default items i o e short) is)
    (subst (λ (v : ℤ). IfOk c.at_least.result (IsAnswerFor o.reform v)) (to_z-of_z w64 c.args.value c.ranges.value)
    c.at_least.ensures.answer))

pub returns-clause-literal : goal.returns-clause-literal
returns-clause-literal g c =
    let R = g.R.Recorder in
    let a = R.seen c.args.rec.now in
    let b = R.seen c.at_least.new.rec in
    let items = c.self.inside.bounds.items in
    let fit : FitBounds a items = subst (FitBounds a) (sym c.self.view_is) c.requires.fits in
    let same = AllZip-long (BoundsRow a) a.problem.costs items fit.rows in
    let i = c.args.objective in
    let o = c.index_mut-bound.result.now in
    let q = c.at_least.new.self in
    let is = c.index_mut-bound.ensures.value in
    let short : i < length items = omega (arith, same, c.requires.there) in
    let s = c.requires.ready.state in
    let reached = c.requires.ready.reached in
    let call = c.at_least.ensures in
    subst (λ (bs : List ObjectiveBound). IfOk c.at_least.result
    (λ bound. (e : ObjectiveBound) → HasLiteral (reforms_of bs) (get_or bs i e).reform bound)) c.self.view_is
    (if_on_both c.at_least.result (KeepsRow a b o q) (HasOwnLiteral q) (AddsBound a b c.args.value o q)
    (λ bound. (e : ObjectiveBound) → HasLiteral (reforms_of items) (get_or items i e).reform bound)
    (λ bound keeps has added e. subst (λ (p : ObjectiveBound). HasLiteral (reforms_of items) p.reform bound)
    (is ∙ get_or_default items i o e short)
    (has_literal a b s reached items i o q fit c.requires.there short is call.reform c.own_lines_stay.ensures
    c.fitting_stays.ensures c.reform_stays.ensures call.recorded.continues keeps
    (outside_after a b s reached items i o q fit c.requires.there short is call.reform c.args.value bound call.nodes added)
    bound has)) call.fits call.literal
    (subst (λ (v : ℤ). IfOk c.at_least.result (AddsBound a b v o q)) (to_z-of_z w64 c.args.value c.ranges.value)
    c.at_least.ensures.added))

pub returns-clause-added : goal.returns-clause-added
returns-clause-added g c =
    let R = g.R.Recorder in
    let a = R.seen c.args.rec.now in
    let b = R.seen c.at_least.new.rec in
    let items = c.self.inside.bounds.items in
    let fit : FitBounds a items = subst (FitBounds a) (sym c.self.view_is) c.requires.fits in
    let same = AllZip-long (BoundsRow a) a.problem.costs items fit.rows in
    let i = c.args.objective in
    let o = c.index_mut-bound.result.now in
    let q = c.at_least.new.self in
    let short : i < length items = omega (arith, same, c.requires.there) in
    subst (λ (bs : List ObjectiveBound). IfOk c.at_least.result
    (λ bound. (e : ObjectiveBound) → AddsBound a b c.args.value (get_or bs i e) (get_or (set items i q) i e) bound))
    c.self.view_is
    (IfOk-weaker c.at_least.result (AddsBound a b c.args.value o q)
    (λ bound. (e : ObjectiveBound) → AddsBound a b c.args.value (get_or items i e) (get_or (set items i q) i e) bound)
    (λ bound added e. subst (λ (p : ObjectiveBound). AddsBound a b c.args.value (get_or items i e) p bound)
    (sym (get_or-set_same items i q e short))
    (subst (λ (p : ObjectiveBound). AddsBound a b c.args.value p q bound)
    (c.index_mut-bound.ensures.value ∙ get_or_default items i o e short) added))
    (subst (λ (v : ℤ). IfOk c.at_least.result (AddsBound a b v o q)) (to_z-of_z w64 c.args.value c.ranges.value)
    c.at_least.ensures.added))

pub returns-clause-others : goal.returns-clause-others
returns-clause-others g c =
    let R = g.R.Recorder in
    let a = R.seen c.args.rec.now in
    let b = R.seen c.at_least.new.rec in
    let items = c.self.inside.bounds.items in
    let fit : FitBounds a items = subst (FitBounds a) (sym c.self.view_is) c.requires.fits in
    let same = AllZip-long (BoundsRow a) a.problem.costs items fit.rows in
    let i = c.args.objective in
    let o = c.index_mut-bound.result.now in
    let q = c.at_least.new.self in
    let short : i < length items = omega (arith, same, c.requires.there) in
    subst (λ (bs : List ObjectiveBound). KeepsOthers i bs (set items i q)) c.self.view_is
    (others_kept a b c.requires.ready.state c.requires.ready.reached items i o q fit c.requires.there short
    c.index_mut-bound.ensures.value c.at_least.ensures.reform)

pub returns-clause-fits : goal.returns-clause-fits
returns-clause-fits g c =
    let R = g.R.Recorder in
    let a = R.seen c.args.rec.now in
    let b = R.seen c.at_least.new.rec in
    let items = c.self.inside.bounds.items in
    let fit : FitBounds a items = subst (FitBounds a) (sym c.self.view_is) c.requires.fits in
    let same = AllZip-long (BoundsRow a) a.problem.costs items fit.rows in
    let i = c.args.objective in
    let o = c.index_mut-bound.result.now in
    let q = c.at_least.new.self in
    let is = c.index_mut-bound.ensures.value in
    let short : i < length items = omega (arith, same, c.requires.there) in
    let s = c.requires.ready.state in
    let reached = c.requires.ready.reached in
    let call = c.at_least.ensures in
    on_if c.at_least.result (KeepsRow a b o q) (AddsBound a b c.args.value o q) (FitBounds b (set items i q))
    (λ bound keeps added. fit_asked a b s reached items i o q fit c.requires.there short is call.reform
    c.own_lines_stay.ensures c.fitting_stays.ensures c.reform_stays.ensures call.recorded.continues keeps
    (outside_after a b s reached items i o q fit c.requires.there short is call.reform c.args.value bound call.nodes added))
    call.fits
    (subst (λ (v : ℤ). IfOk c.at_least.result (AddsBound a b v o q)) (to_z-of_z w64 c.args.value c.ranges.value)
    c.at_least.ensures.added)
