use Rattle.std.proofs.Common.{◌≡◌, List, [], ◌∷◌, ◌++◌, ap, sym, subst, ◌∙◌}
use Rattle.std.specs.List.{AllZip}
use Rattle.std.proofs.lemmas.List.{append-nil, append_assoc, nil_from_length}
use Rattle.std.proofs.lemmas.List.Elements.{AllZip-push}
use Rattle.totalizer.specs.declared.reform.Reform.{Reform}
use Rattle.certified_front.specs.Orders.{IsReordered}
use Rattle.certified_front.proofs.Reordering.{reordered_are_reforms}
use Rattle.certified_front.proofs.term_order.ordered.Goals as goal

pub loop-reform-preserved : goal.loop-reform-preserved
loop-reform-preserved c =
    let done = c.loop-reform.invariant.0 in
    let reform = c.in-Some.reform in
    let rest = c.next.new.self.rest.items in (
      done ++ reform ∷ [],
      c.loop-reform.invariant.1 ∙ ap (λ (rs : List Reform). done ++ rs) c.in-Some.ensures.steps.0 ∙ sym (append_assoc done (reform ∷ []) rest),
      subst (λ (rs : List Reform). AllZip IsReordered (done ++ reform ∷ []) rs) (sym c.in_ok-push.ensures.items)
          (AllZip-push IsReordered done c.loop-reform.ordered.items reform c.in_ok-reordered.field-0 c.loop-reform.invariant.2 c.in_ok-reordered.ensures),
    )

pub returns-clause-serve : goal.returns-clause-serve
returns-clause-serve c =
    let done = c.loop-reform.invariant.0 in
    let rest = c.loop-reform.reform-iterator.rest in
    let none : rest.items ≡ [] = nil_from_length rest.items (sym rest.ok.0 ∙ c.in-None.ensures.steps.0) in
    let all : c.args.reforms.items ≡ done = c.loop-reform.invariant.1 ∙ ap (λ (rs : List Reform). done ++ rs) none ∙ append-nil done in
    reordered_are_reforms c.args.reforms.items c.loop-reform.ordered.items
    (subst (λ (rs : List Reform). AllZip IsReordered rs c.loop-reform.ordered.items) (sym all) c.loop-reform.invariant.2)
