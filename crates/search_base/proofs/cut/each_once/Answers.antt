use Rattle.std.proofs.Common.{◌≡◌, ◌↔◌, ◌+◌, ◌≤◌, List, [], ◌∷◌, ◌++◌, take, slice_index_or, sym, ap, ◌∙◌, subst, arith}
use Rattle.std.specs.Prelude.{Contains}
use Rattle.std.proofs.lemmas.List.{get_or_read, take_more, take_all}
use Rattle.std.proofs.lemmas.List.Elements.{All-weaker}
use Rattle.scut_base.specs.Literal.{Literal}
use Rattle.search_base.proofs.Cuts.{alike_next, together}
use Rattle.search_base.proofs.cut.each_once.Goals as goal

pub add_once-requires-clause-alike : goal.add_once-requires-clause-alike
add_once-requires-clause-alike c =
    alike_next c.args.sorted.now c.loop-lit.distinct c.loop-lit.lit-index c.lit-item.result c.requires.alike
    c.loop-lit-test.true c.lit-item.is c.loop-lit.invariant.same

pub loop-lit-preserved : goal.loop-lit-preserved
loop-lit-preserved c = record {
  rising = c.in_ok-add_once.ensures.rising;
  upto = λ k d h short.
      let order = c.requires.sorted c.loop-lit.lit-index k d (omega arith) short in
      let here = ap (λ (l : Literal). l.var)
      (get_or_read c.args.sorted.now c.loop-lit.lit-index c.lit-item.result c.loop-lit-test.true c.lit-item.is
      d) in
      All-weaker (λ (l : Literal). l.var ≤ c.lit-item.result.var)
      (λ (l : Literal). l.var ≤ (slice_index_or c.args.sorted.now k d).var) (λ l below. omega arith)
      c.add_once.new.distinct c.in_ok-add_once.ensures.upto;
  same =
      let longer : take (c.loop-lit.lit-index + 1) c.args.sorted.now ≡ take c.loop-lit.lit-index
      c.args.sorted.now ++ c.lit-item.result ∷ [] =
      take_more c.args.sorted.now c.loop-lit.lit-index c.lit-item.result c.loop-lit-test.true
      ∙ ap (λ (l : Literal). take c.loop-lit.lit-index c.args.sorted.now ++ l ∷ []) (sym c.lit-item.is) in
      together c.add_once.new.distinct c.loop-lit.distinct (take c.loop-lit.lit-index c.args.sorted.now)
      (take (c.loop-lit.lit-index + 1) c.args.sorted.now) c.lit-item.result c.in_ok-add_once.ensures.added
      c.loop-lit.invariant.same longer;
}

pub returns : goal.returns
returns c =
    let whole : take c.loop-lit.lit-index c.args.sorted.now ≡ c.args.sorted.now =
    take_all c.loop-lit.lit-index c.args.sorted.now c.loop-lit-test.false in
    record {
      rising = c.loop-lit.invariant.rising;
      same = λ l. subst (λ (xs : List Literal). Contains c.loop-lit.distinct l ↔ Contains xs l) whole
          (c.loop-lit.invariant.same l);
    }
