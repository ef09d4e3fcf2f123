-- Nothing is added where the number isn't above 0; else the number is asked for as one without a sign.
use Rattle.std.proofs.Common.{◌≡◌, ℤ, List, sym, subst, arith, unsigned_abs, to_z, of_z, w64, pos, IfOk, OnOk}
use Rattle.std.proofs.lemmas.Int.{ints}
use Rattle.sum_outputs.specs.declared.node.Node.{Node}
use Rattle.totalizer.specs.Meaning.{IsBound}
use Rattle.totalizer.specs.Totalizing.{TotalizerValue, root_terms, Fits}
use Rattle.totalizer.specs.Demanding.{AddsFor}
use Rattle.totalizer.proofs.AskedTotalizer.{totalizer_of}
use Rattle.sum_outputs.proofs.LaterStates.{continues_again, recorded_ok}
use Rattle.totalizer.proofs.totalizer.Totalizer.output.Goals as goal

pub returns-then-k-le0-clause-recorded : goal.returns-then-k-le0-clause-recorded
returns-then-k-le0-clause-recorded g c =
    let R = g.R.Recorder in
    let a = R.seen c.args.rec.now in
    recorded_ok a a _ (continues_again a) c.requires.ready.whole

pub bound_at-requires-clause-ready : goal.bound_at-requires-clause-ready
bound_at-requires-clause-ready g c = c.requires.ready

pub bound_at-requires-clause-fits : goal.bound_at-requires-clause-fits
bound_at-requires-clause-fits g c =
    let R = g.R.Recorder in
    let a = R.seen c.args.rec.now in
    subst (λ (ns : List Node). Fits a (totalizer_of ns c.self.inside.made)) (sym c.as_slice.ensures)
    (subst (λ (t : TotalizerValue). Fits a t) (sym c.self.view_is) c.requires.fits)

pub returns-clause-recorded : goal.returns-clause-recorded
returns-clause-recorded g c = c.bound_at.ensures.recorded

pub returns-clause-bound : goal.returns-clause-bound
returns-clause-bound g c =
    let R = g.R.Recorder in
    let b = R.seen c.bound_at.new.rec in
    let k = c.args.k in
    let n = unsigned_abs (to_z w64 (of_z w64 k)) in
    let same : pos n ≡ k = omega (arith, ints) in
    let out = c.bound_at.result in
    subst (λ (z : ℤ). IfOk out (IsBound b.problem b.lines (root_terms c.args.self.now.nodes) z)) same
    (subst (λ (t : TotalizerValue). IfOk out (IsBound b.problem b.lines (root_terms t.nodes) (pos n))) c.self.view_is
    (subst (λ (ns : List Node). IfOk out (IsBound b.problem b.lines (root_terms ns) (pos n))) c.as_slice.ensures
    c.bound_at.ensures.bound))

pub returns-clause-added : goal.returns-clause-added
returns-clause-added g c =
    let R = g.R.Recorder in
    let a = R.seen c.args.rec.now in
    let b = R.seen c.bound_at.new.rec in
    let k = c.args.k in
    let n = unsigned_abs (to_z w64 (of_z w64 k)) in
    let same : pos n ≡ k = omega (arith, ints) in
    let out = c.bound_at.result in
    let was = c.self.inside.made in
    let is = c.bound_at.new.made in
    let now = totalizer_of c.self.inside.nodes is in
    subst (λ (z : ℤ). IfOk out (AddsFor a b z c.args.self.now now)) same
    (subst (λ (t : TotalizerValue). IfOk out (AddsFor a b (pos n) t now)) c.self.view_is
    (subst (λ (ns : List Node). IfOk out (AddsFor a b (pos n) (totalizer_of ns was) (totalizer_of ns is)))
    c.as_slice.ensures c.bound_at.ensures.added))

pub returns-clause-fits : goal.returns-clause-fits
returns-clause-fits g c =
    let R = g.R.Recorder in
    let b = R.seen c.bound_at.new.rec in
    subst (λ (ns : List Node). OnOk c.bound_at.result (Fits b (totalizer_of ns c.bound_at.new.made)))
    c.as_slice.ensures c.bound_at.ensures.fits
