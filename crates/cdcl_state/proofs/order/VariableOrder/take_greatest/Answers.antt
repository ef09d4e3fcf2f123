use Rattle.std.proofs.Common.{◌≡◌, ◌-◌, not, false, get_or, arith, ap, refl, sym, ◌∙◌}
use Rattle.std.proofs.lemmas.List.{get_or_default}
use Rattle.cdcl_state.specs.Order.{OrderValue, phase}
use Rattle.cdcl_state.proofs.OrderWaiting.{taken_choice}
use Rattle.cdcl_state.proofs.order.VariableOrder.take_greatest.Goals as goal

pub returns-clause-taken : goal.returns-clause-taken
returns-clause-taken c =
    let i = c.self.inside in
    let o = c.args.self.now in
    let var = c.in_ok-var.var in
    let taken = c.in_ok-var.ensures.taken in
    let positive = taken.positive in
    let own : c.index-phase.result.now ≡ get_or i.phases.items (var - 1) false = c.index-phase.ensures ∙ get_or_default i.phases.items (var - 1) c.index-phase.result.now false (omega (arith, taken.within, c.self.invariant.phased)) in
    let last : c.index-phase.result.now ≡ phase o var = own ∙ ap (λ (x : OrderValue). get_or x.phases (var - 1) false) c.self.view_is in
    taken_choice i.heap c.take_greatest.new.self o _ c.new.result var (sym (ap (λ (x : OrderValue). x.waiting) c.self.view_is), c.self.invariant.room) (refl, c.take_greatest.ensures.room)
    (sym (ap (λ (x : OrderValue). x.activities) c.self.view_is)) taken c.new.ensures.var (c.new.ensures.neg ∙ ap not last)
