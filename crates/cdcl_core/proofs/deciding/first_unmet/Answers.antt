use Rattle.std.proofs.Common.{◌≡◌, subst, Some, true, All}
use Rattle.std.proofs.lemmas.List.{take_all}
use Rattle.std.proofs.lemmas.List.Elements.{All-more}
use Rattle.scut_base.specs.Literal.{Literal}
use Rattle.scut_base.specs.Assignment.{partial_truth}
use Rattle.clause_prop.specs.Steps.{partial}
use Rattle.cdcl_core.proofs.deciding.first_unmet.Goals as goal

pub loop-lit-preserved : goal.loop-lit-preserved
loop-lit-preserved g c =
    let met : Literal → Type 0 = λ m. partial_truth (partial c.args.search.now.trail) m ≡ Some true in
    All-more met c.args.lits.now c.loop-lit.lit-index c.lit-item.result c.loop-lit-test.true c.loop-lit.invariant
    (subst met c.lit-item.is (c.is_true.ensures.met c.if-not-is_true.false))

pub returns-clause-met : goal.returns-clause-met
returns-clause-met g c =
    subst (All (λ (m : Literal). partial_truth (partial c.args.search.now.trail) m ≡ Some true)) (take_all c.loop-lit.lit-index c.args.lits.now c.loop-lit-test.false) c.loop-lit.invariant
