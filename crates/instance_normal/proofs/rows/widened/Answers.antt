use Rattle.std.proofs.Common.{◌≡◌, ℕ, ◌<◌, ◌+◌, List, [], ◌∷◌, ◌++◌, take, ℤ, to_z, of_z, arith, sym, ap, ◌∙◌, subst}
use Rattle.std.specs.Int.{w128}
use Rattle.std.proofs.lemmas.Int.{ints}
use Rattle.std.specs.Prelude.{All}
use Rattle.std.proofs.lemmas.List.{take_more}
use Rattle.std.proofs.lemmas.List.Elements.{All-push}
use Rattle.scut_base.specs.Literal.{Literal}
use Rattle.instance_normal.proofs.rows.widened.Goals as goal

pub loop-term-preserved : goal.loop-term-preserved
loop-term-preserved c =
    let t : ℤ × Literal = c.term-item.result in
    let plain : to_z w128 (of_z w128 c.from.result) ≡ t.0 = omega (arith, ints) in
    let pushed : c.push.new.self.items ≡ c.loop-term.wide.items ++ t ∷ [] = c.in_ok-push.ensures.items ∙ ap (λ (z : ℤ). c.loop-term.wide.items ++ (z, t.1) ∷ []) plain in
    let longer : take (c.loop-term.term-index + 1) c.args.terms.now ≡ take c.loop-term.term-index c.args.terms.now ++ t ∷ [] = take_more c.args.terms.now c.loop-term.term-index t c.loop-term-test.true ∙ ap (λ (u : ℤ × Literal). take c.loop-term.term-index c.args.terms.now ++ u ∷ []) (sym c.term-item.is) in
    let one : 0 < t.1.var = subst (λ (n : ℕ). 0 < n) c.var-from_one.ensures.value c.var-from_one.ensures.from_one in
    record {
      value = pushed ∙ ap (λ (ts : List (ℤ × Literal)). ts ++ t ∷ []) c.loop-term.invariant.value ∙ sym longer;
      from_one = subst (All (λ (u : ℤ × Literal). 0 < u.1.var)) (sym pushed) (All-push (λ (u : ℤ × Literal). 0 < u.1.var) c.loop-term.wide.items t c.loop-term.invariant.from_one one);
    }
