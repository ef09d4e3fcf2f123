use Rattle.std.proofs.Common.{◌≡◌, ◌≢◌, ℕ, get_or, ap, sym, ◌∙◌, arith, ⊎_elim}
use Rattle.std.proofs.lemmas.Bool.{cases_eq}
use Rattle.scut_base.specs.LiteralCode.{code_of}
use Rattle.watch_prop.specs.Watching.{no_literal}
use Rattle.watch_prop.proofs.watch_lists.cover.Goals as goal

pub loop-place-preserved : goal.loop-place-preserved
loop-place-preserved c = record {
  same = λ k. c.reach.ensures.same k ∙ c.loop-place.invariant.same k;
  longer = omega (arith, c.loop-place.invariant.longer, c.reach.ensures.longer);
  covered = λ k below. ⊎_elim
      (λ (e : k ≡ c.loop-place.place).
      let is = ap (λ (i : ℕ). code_of (get_or c.args.clause.now i no_literal)) e ∙ ap code_of (c.at-lit.ensures.value no_literal) ∙ sym c.code.ensures in
      omega (arith, is, c.in_ok-reach.ensures.reached))
      (λ (other : k ≢ c.loop-place.place).
      let before = c.loop-place.invariant.covered k (omega (arith, below, other)) in
      omega (arith, before, c.reach.ensures.longer))
      (cases_eq k c.loop-place.place);
}
