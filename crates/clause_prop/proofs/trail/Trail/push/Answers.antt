use Rattle.std.proofs.Common.{arith, ◌-◌, ap, sym, subst, set, not, Some}
use Rattle.scut_base.proofs.Tracking.{count_below}
use Rattle.clause_prop.specs.Steps.{TrailValue}
use Rattle.clause_prop.specs.Truths.{AreTruths}
use Rattle.clause_prop.proofs.Tables.{tables_pushed, value_open, pushed_view}
use Rattle.clause_prop.proofs.TruthTable.{truths_pushed}
use Rattle.clause_prop.proofs.trail.Trail.push.Goals as goal

pub index_mut-requires-3 : goal.index_mut-requires-3
index_mut-requires-3 c =
    let none = value_open _ _ _ _ c.args.self.now c.args.step.lit c.self.invariant.0 c.self.view_is c.requires.open in
    let vars = ap (λ (t : TrailValue). t.vars) c.self.view_is in
    let below = count_below c.self.inside.values.items (c.args.step.lit.var - 1) (omega (arith, vars, c.requires.within, c.var.ensures.from_one, c.var.ensures.value)) none in
    omega (arith, below, c.self.invariant.0.counted, c.self.invariant.0.room)

pub invariant_of-self : goal.invariant_of-self
invariant_of-self c =
    let i = c.self.inside in
    let lit = c.args.step.lit in
    let none = value_open _ _ _ _ c.args.self.now lit c.self.invariant.0 c.self.view_is c.requires.open in
    let vars = ap (λ (t : TrailValue). t.vars) c.self.view_is in
    let told = subst (AreTruths (set i.values.items (lit.var - 1) (Some (not lit.neg)))) (sym c.set_truths.ensures)
    (truths_pushed i.values.items i.truths.items lit c.self.invariant.1 (omega (arith, c.var.ensures.from_one, c.var.ensures.value)) (omega (arith, vars, c.requires.within))) in
    rw (c.var.ensures.value, c.is_neg.ensures)
    (tables_pushed i.values.items i.places.items i.steps.items i.count c.args.step c.self.invariant.0 (omega (arith, c.var.ensures.from_one, c.var.ensures.value)) (omega (arith, vars, c.requires.within)) none, told)

pub returns : goal.returns
returns c =
    let none = value_open _ _ _ _ c.args.self.now c.args.step.lit c.self.invariant.0 c.self.view_is c.requires.open in
    let vars = ap (λ (t : TrailValue). t.vars) c.self.view_is in
    rw (c.var.ensures.value)
    (pushed_view _ _ _ _ _ _ c.args.step c.args.self.now c.self.invariant.0 (omega (arith, c.var.ensures.from_one, c.var.ensures.value, vars, c.requires.within)) none c.self.view_is)
