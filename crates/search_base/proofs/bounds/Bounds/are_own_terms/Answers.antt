-- All bounds were asked for the line of their reforms.
use Rattle.std.proofs.Common.{rules, tests, ◌≡◌, ◌≢◌, length, sym, subst, ◌∙◌, arith}
use Rattle.std.specs.List.{All}
use Rattle.std.proofs.lemmas.Bool.{MatchBool-at_true}
use Rattle.std.proofs.lemmas.Iterator.{YieldsList-from_slice, cases_from_all}
use Rattle.std.proofs.lemmas.Iterator.Search.{true_from_All}
use Rattle.std.proofs.lemmas.List.{get_or-map, length-map}
use Rattle.std.proofs.lemmas.List.Elements.{All-from_all_within, All-map}
use Rattle.totalizer.specs.declared.reform.Reform.{Reform}
use Rattle.search_base.specs.declared.objective_bound.ObjectiveBound.{ObjectiveBound}
use Rattle.search_base.proofs.bounds.Bounds.are_own_terms.Goals as goal

pub returns : goal.returns
returns c =
    let bounds = c.args.self.now in
    let answers = cases_from_all _ _ _ (λ (b : ObjectiveBound). b.reform.lower_line ≡ 0)
    (λ (b : ObjectiveBound). b.reform.lower_line ≢ 0) c.all.ensures.ran
    (YieldsList-from_slice bounds (c.iter.ensures.rest ∙ c.deref.ensures.value ∙ c.self.view_is))
    (λ x f called. search (rules, tests)) (λ x f called. search (rules, tests)) in (
      λ yes. All-map (λ (r : Reform). r.lower_line ≡ 0) (λ (b : ObjectiveBound). b.reform) bounds
          (All-from_all_within (λ (b : ObjectiveBound). b.reform.lower_line ≡ 0) bounds
          (MatchBool-at_true _ _ yes answers)),
      λ all. true_from_All (λ (b : ObjectiveBound). b.reform.lower_line ≡ 0)
          (λ (b : ObjectiveBound). b.reform.lower_line ≢ 0) _ bounds (λ b is other. other is) answers
          (λ k d short.
          let size = length-map bounds (λ (b : ObjectiveBound). b.reform) in
          subst (λ (r : Reform). r.lower_line ≡ 0)
          (get_or-map (λ (b : ObjectiveBound). b.reform) bounds k d d.reform short)
          (all k d.reform (omega arith))),
    )
