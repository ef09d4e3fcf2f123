-- Each reform has bounds of its own, and at the end all have them.
use Rattle.std.proofs.Common.{◌≡◌, ◌++◌, ◌∷◌, [], List, length, arith, refl, ap, sym, subst, ◌∙◌, append_assoc, append-nil}
use Rattle.std.proofs.lemmas.Slice.Zip.{all_zipped_more}
use Rattle.totalizer.specs.declared.reform.Reform.{Reform}
use Rattle.search_base.specs.CostBounds.{AreReforms}
use Rattle.search_base.specs.OneBound.{IsNewBound}
use Rattle.search_base.specs.declared.objective_bound.ObjectiveBound.{ObjectiveBound}
use Rattle.search_base.proofs.BoundRows.{AreNew, new_fit, new_reforms}
use Rattle.search_base.proofs.bounds.Bounds.new.Goals as goal

pub loop-reform-preserved : goal.loop-reform-preserved
loop-reform-preserved c = record {
  whole = append_assoc c.loop-reform.yielded (c.in-Some.reform ∷ []) c.next.new.self.rest.items
      ∙ ap (λ (rs : List Reform). c.loop-reform.yielded ++ rs) (sym c.in-Some.ensures.steps.0)
      ∙ c.loop-reform.invariant.whole;
  new = subst (λ (bs : List ObjectiveBound). AreNew (c.loop-reform.yielded ++ c.in-Some.reform ∷ []) bs)
      (sym c.in_ok-push.ensures.items)
      (all_zipped_more IsNewBound c.loop-reform.yielded c.loop-reform.bounds.items c.in-Some.reform c.in_ok-new.field-0
      c.loop-reform.invariant.new c.in_ok-new.ensures);
}

nothing_left : (rs : List Reform) → length rs ≡ 0 → rs ≡ []
nothing_left [] none = refl
nothing_left (r ∷ rs) none = absurd (omega arith)

whole_is : (done rest all : List Reform) → done ++ rest ≡ all → length rest ≡ 0 → done ≡ all
whole_is done rest all whole none =
    sym (append-nil done) ∙ ap (λ (rs : List Reform). done ++ rs) (sym (nothing_left rest none)) ∙ whole

pub returns-clause-reforms : goal.returns-clause-reforms
returns-clause-reforms c =
    let rest = c.loop-reform.reform-iterator.rest in
    let all : c.loop-reform.yielded ≡ c.args.reforms.items =
    whole_is c.loop-reform.yielded rest.items c.args.reforms.items c.loop-reform.invariant.whole
    (sym rest.ok.0 ∙ c.in-None.ensures.steps.0) in
    new_reforms c.loop-reform.yielded c.loop-reform.bounds.items c.loop-reform.invariant.new ∙ all

pub returns-clause-fits : goal.returns-clause-fits
returns-clause-fits c =
    let rest = c.loop-reform.reform-iterator.rest in
    let all : c.loop-reform.yielded ≡ c.args.reforms.items =
    whole_is c.loop-reform.yielded rest.items c.args.reforms.items c.loop-reform.invariant.whole
    (sym rest.ok.0 ∙ c.in-None.ensures.steps.0) in
    λ a are. new_fit c.loop-reform.yielded c.loop-reform.bounds.items c.loop-reform.invariant.new a
    (subst (AreReforms a) (sym all) are)
