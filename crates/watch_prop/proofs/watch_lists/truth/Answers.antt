use Rattle.std.proofs.Common.{◌≡◌, ◌∙◌, ap, subst, sym, arith}
use Rattle.scut_base.specs.Literal.{Literal}
use Rattle.scut_base.specs.Assignment.{partial_truth}
use Rattle.clause_prop.specs.Steps.{partial}
use Rattle.watch_prop.specs.Watching.{IsValue, lits_of}
use Rattle.watch_prop.proofs.WatchSteps.{value_of}
use Rattle.watch_prop.proofs.watch_lists.truth.Goals as goal

pub returns-clause-told : goal.returns-clause-told
returns-clause-told c =
    let t = c.args.trail.now in
    let same : c.lit-full.result ≡ c.args.short = c.lit-full.ensures in
    subst (IsValue (lits_of t.steps) c.args.short) (sym (c.value.ensures.value ∙ ap (partial_truth (partial t)) same)) (value_of t.vars t.steps c.args.short c.value.ensures.steps (omega (arith, c.var-from_one.ensures.value, c.var-from_one.ensures.from_one, ap (λ (l : Literal). l.var) same)))
