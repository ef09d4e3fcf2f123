use Rattle.std.proofs.Common.{◌≡◌, ℕ, ◌+◌, ◌≤◌, Some, length, drop, arith, sym, ap, ◌∙◌}
use Rattle.proof_laws.specs.Refusal.{misplaced}
use Rattle.proof_rules.proofs.Models.{misplaced_beyond, misplaced_other, misplaced_later, misplaced_short}
use Rattle.proof_rules.proofs.solution.misplaced.Goals as goal
use Rattle.proof_rules.proofs.solution.misplaced.Goals.{then-place-vars-via-then-place-vars, then-place-vars-via-else-place-vars+then-var-place}

pub loop-at-preserved : goal.loop-at-preserved
loop-at-preserved c = record {
  same =
      c.loop-at.invariant.same
      ∙ misplaced_later c.args.vars c.args.model.now c.loop-at.at c.index-model-at.result c.index-model-at.result c.loop-at-test.true c.index-model-at.is c.if-place-vars.false (sym c.var.ensures.value ∙ c.if-var-place.false);
  within = omega arith;
}

pub returns-then-place-vars : goal.returns-then-place-vars
returns-then-place-vars c =
    let here : misplaced (c.loop-at.at + 1) c.args.vars (drop c.loop-at.at c.args.model.now) ≡ Some (c.loop-at.at + 1) = elim c.then-place-vars.branch [
      | then-place-vars-via-then-place-vars w ↦ misplaced_beyond c.args.vars c.args.model.now c.loop-at.at c.index-model-at.result c.index-model-at.result c.loop-at-test.true c.index-model-at.is w.if-place-vars.true
      | then-place-vars-via-else-place-vars+then-var-place w ↦ misplaced_other c.args.vars c.args.model.now c.loop-at.at c.index-model-at.result c.index-model-at.result c.loop-at-test.true c.index-model-at.is w.if-place-vars.false (λ e. w.if-var-place.true (w.var.ensures.value ∙ e))
    ] in
    sym (c.loop-at.invariant.same ∙ here)

pub returns-then-place-vars-2 : goal.returns-then-place-vars-2
returns-then-place-vars-2 c =
    let within = c.loop-at.invariant.within in
    let past = c.loop-at-test.false in
    let last : c.loop-at.at ≡ length c.args.model.now = omega arith in
    let inside : c.loop-at.at + 1 ≤ c.args.vars = omega (arith, c.if-place-vars-2.true) in
    sym (c.loop-at.invariant.same ∙ misplaced_short c.args.vars c.args.model.now c.loop-at.at past inside ∙ ap (λ (n : ℕ). Some (n + 1)) last)
