-- Where no i64 is above the limit, no cost is.
use mir.Syntax.{w64}
use mir.Val.{SFits, of_z, to_z}
use Rattle.std.proofs.Common.{rules, ◌^◌, get_or, subst, sym, arith, ℤ, pos, ◌+ℤ◌, ◌≤ℤ◌}
use Rattle.std.specs.Prelude.{◌<ℤ◌}
use Rattle.std.proofs.lemmas.Int.{by_lt_z, ints, to_z-of_z}
use Rattle.sum_outputs.proofs.LaterStates.{continues_again, recorded_ok}
use Rattle.totalizer.specs.declared.bound.Bound.TheVariants.{Never}
use Rattle.relaxations.proofs.Excesses.{cost_small}
use Rattle.relaxations.proofs.question.excess_of.Goals as goal

pub returns-in-None-clause-recorded : goal.returns-in-None-clause-recorded
returns-in-None-clause-recorded g c =
    let R = g.R.Recorder in
    let a = R.seen c.args.rec.now in
    recorded_ok a a Never (continues_again a) c.requires.ready.whole

-- what is one more doesn't fit 64 bits
greatest : (limit : ℤ) → SFits w64 limit → (SFits w64 (to_z w64 (of_z w64 limit) +ℤ pos 1) → ⊥)
    → pos (2 ^ 63) ≤ℤ (limit +ℤ pos 1)
greatest limit fits none = by_lt_z (limit +ℤ pos 1) (pos (2 ^ 63))
    (λ (less : (limit +ℤ pos 1) <ℤ pos (2 ^ 63)).
    let more : SFits w64 (limit +ℤ pos 1) = search rules in
    absurd (none (subst (λ (v : ℤ). SFits w64 (v +ℤ pos 1)) (sym (to_z-of_z w64 limit fits)) more)))
    (λ (more : pos (2 ^ 63) ≤ℤ (limit +ℤ pos 1)). more)

pub returns-in-None-clause-bound : goal.returns-in-None-clause-bound
returns-in-None-clause-bound g c = λ d s reached x rows kept.
    let R = g.R.Recorder in
    let a = R.seen c.args.rec.now in
    let row = get_or a.problem.costs c.args.objective d in
    let small = cost_small x row (c.requires.costs c.args.objective d c.requires.there) in
    let most = greatest c.args.limit c.ranges.limit c.in-None.ensures in
    omega (arith, ints)
