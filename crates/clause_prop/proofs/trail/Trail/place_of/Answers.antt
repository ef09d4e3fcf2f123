use Rattle.std.proofs.Common.{arith, ◌∙◌, ap, sym, subst, List, ℕ, take}
use Rattle.clause_prop.specs.Steps.{TrailValue, IsPlaceOf}
use Rattle.clause_prop.specs.declared.step.Step.{Step}
use Rattle.clause_prop.proofs.Tables.{place_found}
use Rattle.clause_prop.proofs.trail.Trail.place_of.Goals as goal

pub returns-in-Some : goal.returns-in-Some
returns-in-Some c =
    let vars = ap (λ (t : TrailValue). t.vars) c.self.view_is in
    let from_one = c.var.ensures.from_one in
    let value = c.var.ensures.value in
    let within = c.requires in
    let some : Step = record { lit = c.args.lit; level = 0; reason = 0 } in
    let found = place_found _ _ _ _ c.var.result c.in-Some.field-0 some _ c.index-in-Some.result.now c.self.invariant.0 (omega arith) (omega arith) (sym c.index.ensures ∙ c.in-Some.is) in
    subst (λ (ss : List Step). IsPlaceOf ss c.args.lit.var c.index-in-Some.result.now) (ap (λ (t : TrailValue). t.steps) c.self.view_is)
    (subst (λ (v : ℕ). IsPlaceOf (take c.self.inside.count c.self.inside.steps.items) v c.index-in-Some.result.now) value
    (subst (IsPlaceOf (take c.self.inside.count c.self.inside.steps.items) c.var.result) (sym c.index-in-Some.ensures) found))
