use Rattle.std.proofs.Common.{Bool, List, ℕ, ◌++◌, false, replicate, arith, ap, refl, sym, ◌∙◌}
use Rattle.cdcl_state.specs.Order.{OrderValue}
use Rattle.cdcl_state.proofs.OrderWaiting.{grown_order}
use Rattle.cdcl_state.proofs.order.VariableOrder.grow.Goals as goal

pub returns-clause-grown : goal.returns-clause-grown
returns-clause-grown c =
    let i = c.self.inside in
    let o = c.args.self.now in
    let phases = c.push_copies.ensures ∙ ap (λ (bs : List Bool). bs ++ replicate c.saturating_sub-more.result false) (ap (λ (x : OrderValue). x.phases) c.self.view_is) ∙ ap (λ (n : ℕ). o.phases ++ replicate n false) c.saturating_sub-more.ensures in
    grown_order i.heap c.grow.new.self o _ c.args.vars c.len.result
    (sym (ap (λ (x : OrderValue). x.waiting) c.self.view_is), c.self.invariant.room) (refl, c.grow.ensures.room)
    (sym (ap (λ (x : OrderValue). x.activities) c.self.view_is)) refl
    (omega (arith, c.len.ensures, c.self.inside.phases.ok.0, c.self.invariant.phased))
    phases (ap (λ (x : OrderValue). x.step) c.self.view_is) c.grow.ensures.grown
