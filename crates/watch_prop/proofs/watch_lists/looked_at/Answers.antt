use Rattle.std.proofs.Common.{arith, subst}
use Rattle.scut_base.specs.Literal.{Literal}
use Rattle.clause_prop.specs.Steps.{IsPlaceOf}
use Rattle.watch_prop.proofs.WatchSteps.{before_place, consistent, false_of, never_false}
use Rattle.watch_prop.proofs.watch_lists.looked_at.Goals as goal

pub returns-then-is_true : goal.returns-then-is_true
returns-then-is_true c = λ p below.
    let t = c.args.trail.now in
    never_false t.vars t.steps c.args.lit c.len.ensures.steps (consistent t.vars t.steps c.args.lit c.len.ensures.steps (c.is_true.ensures.value.0 c.if-is_true.true)) p (omega (arith, below, c.len.ensures.value))

pub returns-in-Some : goal.returns-in-Some
returns-in-Some c =
    let t = c.args.trail.now in
    before_place t.vars t.steps c.args.lit c.in-Some.place c.is_true.ensures.steps (subst (λ (l : Literal). IsPlaceOf t.steps l.var c.in-Some.place) c.lit.ensures c.in-Some.ensures)

pub returns-in-None : goal.returns-in-None
returns-in-None c = λ p below.
    let t = c.args.trail.now in
    never_false t.vars t.steps c.args.lit c.len-in-None.ensures.steps (λ among. cc (c.in-None.ensures, c.lit.ensures, false_of t.vars t.steps c.args.lit c.len-in-None.ensures.steps among)) p (omega (arith, below, c.len-in-None.ensures.value))
