use Rattle.std.specs.Prelude.{ℕ, ◌≤◌}
use Rattle.std.proofs.Common.{arith}
use Rattle.std.proofs.lemmas.List.Elements.{All-map}
use Rattle.scut_base.specs.Literal.{Literal}
use Rattle.pb_lin.specs.Constraint.{literals}
use Rattle.cdcl_state.proofs.Marking.{read_one}
use Rattle.cdcl_state.proofs.ForcedBy.{other_all, other_step}
use Rattle.cdcl_state.proofs.steps.first_forced.Goals as goal

pub earlier-first-requires : goal.earlier-first-requires
earlier-first-requires c =
    read_one (λ l. l.var ≤ c.args.trail.now.vars) (literals c.args.line.now.terms) c.literals-lit-items.result.now c.loop-lit.lit-index c.lit-item.result
    (All-map (λ (l : Literal). l.var ≤ c.args.trail.now.vars) (λ (t : Literal × ℕ). t.0) c.args.line.now.terms c.requires)
    c.literals-lit-items.ensures.value c.loop-lit-test.true c.lit-item.is

pub loop-lit-preserved : goal.loop-lit-preserved
loop-lit-preserved c = record {
  within = omega (arith, c.earlier-first.ensures.falls, c.loop-lit.invariant.within);
  others = other_step c.args.trail.now c.loop-lit.first c.earlier-first.result c.args.id (literals c.args.line.now.terms) c.literals-lit-items.result.now c.loop-lit.lit-index c.lit-item.result
      c.literals-lit-items.ensures.value c.loop-lit-test.true c.lit-item.is c.earlier-first.ensures.falls c.loop-lit.invariant.others c.earlier-first.ensures.other;
}

pub returns-clause-others : goal.returns-clause-others
returns-clause-others c =
    other_all c.args.trail.now c.loop-lit.first c.args.id (literals c.args.line.now.terms) c.literals-lit-items.result.now c.loop-lit.lit-index c.literals-lit-items.ensures.value c.loop-lit-test.false c.loop-lit.invariant.others
