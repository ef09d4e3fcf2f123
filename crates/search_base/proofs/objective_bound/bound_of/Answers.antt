-- Below 1 every sum reaches k, and no weights sum as high as what isn't an i64.
use lib.Signed.{lt_z}
use mir.Val.{SFits, of_z, to_z}
use mir.Syntax.{w64, w128}
use Rattle.std.proofs.Common.{◌≡◌, false, ℤ, pos, sym, subst}
use Rattle.std.proofs.lemmas.Int.{to_z-of_z}
use Rattle.pb_lin.specs.Constraint.{total}
use Rattle.sum_outputs.proofs.LaterStates.{continues_again, recorded_ok}
use Rattle.totalizer.specs.Totalizing.{terms_of}
use Rattle.totalizer.specs.declared.bound.Bound.TheVariants.{Always, Never}
use Rattle.search_base.proofs.BoundRows.{above_all, total_small}
use Rattle.search_base.proofs.objective_bound.bound_of.Goals as goal

pub returns-then-k-lt1-clause-recorded : goal.returns-then-k-lt1-clause-recorded
returns-then-k-lt1-clause-recorded g c =
    let R = g.R.Recorder in
    let a = R.seen c.args.rec.now in
    recorded_ok a a (Always 0) (continues_again a) c.requires.ready.whole

pub returns-in_default-clause-recorded : goal.returns-in_default-clause-recorded
returns-in_default-clause-recorded g c =
    let R = g.R.Recorder in
    let a = R.seen c.args.rec.now in
    recorded_ok a a Never (continues_again a) c.requires.ready.whole

pub returns-in_default-clause-bound : goal.returns-in_default-clause-bound
returns-in_default-clause-bound g c =
    let R = g.R.Recorder in
    let a = R.seen c.args.rec.now in
    let same : to_z w128 (of_z w128 c.args.k) ≡ c.args.k = to_z-of_z w128 c.args.k c.ranges.k in
    above_all (total (terms_of c.args.totalizer.now)) c.args.k (total_small a c.args.totalizer.now c.requires.fits)
    (subst (λ (k : ℤ). lt_z k (pos 1) ≡ false) same c.if-k-lt1.false)
    (λ fits. c.in_default.ensures (subst (λ (k : ℤ). SFits w64 k) (sym same) fits))
