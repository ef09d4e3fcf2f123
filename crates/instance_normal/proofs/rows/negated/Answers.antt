use Rattle.std.proofs.Common.{◌≡◌, ◌<◌, ◌+◌, List, [], ◌∷◌, ◌++◌, map, take, neg_ℤ, ℤ, sym, ap, ap₂, ◌∙◌, subst, rules}
use Rattle.std.specs.Prelude.{All}
use Rattle.std.proofs.lemmas.List.{take_more, map-append}
use Rattle.std.proofs.lemmas.List.Elements.{All-push}
use Rattle.scut_base.specs.Literal.{Literal}
use Rattle.instance_normal.proofs.rows.negated.Goals as goal

pub loop-term-preserved : goal.loop-term-preserved
loop-term-preserved c =
    let t : ℤ × Literal = c.term-item.result in
    let turned : ℤ × Literal → ℤ × Literal = λ u. (neg_ℤ u.0, u.1) in
    let pushed : c.push.new.self.items ≡ c.loop-term.wide.items ++ c.negated_term.result ∷ [] = search rules in
    let longer : take (c.loop-term.term-index + 1) c.args.terms.now ≡ take c.loop-term.term-index c.args.terms.now ++ t ∷ [] = take_more c.args.terms.now c.loop-term.term-index t c.loop-term-test.true ∙ ap (λ (u : ℤ × Literal). take c.loop-term.term-index c.args.terms.now ++ u ∷ []) (sym c.term-item.is) in
    record {
      value = pushed ∙ ap₂ (λ (ts : List (ℤ × Literal)) (u : ℤ × Literal). ts ++ u ∷ []) c.loop-term.invariant.value c.negated_term.ensures.value ∙ sym (map-append turned (take c.loop-term.term-index c.args.terms.now) (t ∷ [])) ∙ ap (map turned) (sym longer);
      from_one = subst (All (λ (u : ℤ × Literal). 0 < u.1.var)) (sym pushed) (All-push (λ (u : ℤ × Literal). 0 < u.1.var) c.loop-term.wide.items c.negated_term.result c.loop-term.invariant.from_one c.negated_term.ensures.from_one);
    }
