use Rattle.std.proofs.Common.{◌≡◌, ℕ, Bool, List, Some, sym, subst}
use Rattle.std.specs.Prelude.{IfOk}
use Rattle.std.specs.FinMap.{get}
use Rattle.std.proofs.lemmas.Result.{IfOk-weaker}
use Rattle.pb_lin.specs.Constraint.{ConstraintValue, Holds}
use Rattle.clause_prop.specs.Propagating.{IsClosedFor}
use Rattle.cdcl_trail.specs.SearchTrail.{IsFull, IsOfSteps}
use Rattle.cdcl_state.specs.Searching.{SearchValue}
use Rattle.cdcl_state.proofs.search.Search.model.Goals as goal

-- the assignment makes every line of the search hold
abbrev AllHold : SearchValue → List Bool → Type 0
AllHold s a = (id : ℕ) (c : ConstraintValue) → get s.store id ≡ Some c → Holds a c

pub returns-clause-holds : goal.returns-clause-holds
returns-clause-holds g c =
    let s = c.self.inside in
    subst (λ (v : SearchValue). IfOk c.assignment_of.result (AllHold v)) c.self.view_is
    (IfOk-weaker c.assignment_of.result (IsOfSteps s.trail) (AllHold (record { store = s.store; trail = s.trail })) (λ a of_steps.
    c.closed_full_trail_is_a_model.ensures s.store s.trail a c.self.invariant.lines
    (subst (λ (v : SearchValue). IsClosedFor v.store v.trail) (sym c.self.view_is) c.requires.closed)
    (subst (λ (v : SearchValue). IsFull v.trail) (sym c.self.view_is) c.requires.full) of_steps)
    c.assignment_of.ensures.steps)
