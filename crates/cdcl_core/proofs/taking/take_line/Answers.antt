use Rattle.std.proofs.Common.{◌≡◌, ◌⊎◌, ◌≤◌, ◌+◌, length, sym, subst, ap, ◌∙◌, arith, inl, inr, true}
use Rattle.std.specs.FinMap.{get}
use Rattle.pb_lin.specs.Constraint.{ConstraintValue}
use Rattle.pb_lin.specs.LineMap.{LineMap}
use Rattle.proof_laws.specs.Refusal.{is_clause}
use Rattle.cdcl_trail.proofs.Stores.{get_other}
use Rattle.cdcl_laws.specs.StoredLines.{IsStored}
use Rattle.cdcl_state.specs.Searching.{SearchValue}
use Rattle.cdcl_core.proofs.HeldLines.{clause_test}
use Rattle.cdcl_core.proofs.taking.take_line.Goals as goal
use Rattle.cdcl_core.proofs.taking.take_line.Goals.{then-id-rows-via-then-id-rows, then-id-rows-via-else-id-rows+then-is_clause}

pub returns-in_ok-take-in-Some-clause-stored : goal.returns-in_ok-take-in-Some-clause-stored
returns-in_ok-take-in-Some-clause-stored g c p count stored =
    let line : ConstraintValue = c.in-Some.line.now in
    let kind : (c.args.id ≤ length p.rows) ⊎ (is_clause line ≡ true) = elim c.then-id-rows.branch [
      | then-id-rows-via-then-id-rows w ↦ inl (subst (λ n. c.args.id ≤ n) count w.if-id-rows.true)
      | then-id-rows-via-else-id-rows+then-is_clause w ↦ inr (clause_test line w.is_clause.result w.is_clause.ensures w.if-is_clause.true)
    ] in
    subst (λ (s : SearchValue). IsStored p c.args.state.now (c.args.id + 1) s.store) (sym c.in_ok-take-in-Some.ensures.ok)
    (c.line_is_taken.ensures.stored p c.args.state.now c.args.id c.args.search.now.store line stored (sym (ap (λ (m : LineMap). get m c.args.id) c.live.ensures) ∙ c.in-Some.ensures) c.requires.below c.requires.positive kind)

pub returns-in_ok-take-in-Some-clause-later : goal.returns-in_ok-take-in-Some-clause-later
returns-in_ok-take-in-Some-clause-later g c k later none =
    ap (λ (s : SearchValue). get s.store k) c.in_ok-take-in-Some.ensures.ok ∙ get_other c.args.search.now.store c.args.id k c.in-Some.line.now (λ e. let n : k ≡ c.args.id = e in omega arith) ∙ none
