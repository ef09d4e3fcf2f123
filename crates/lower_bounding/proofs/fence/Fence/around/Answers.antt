-- The offsets are below the tops.
use Rattle.std.proofs.Common.{◌≡◌, List, length, map, take, ap, sym, subst, ◌∙◌, arith, ℤ}
use Rattle.std.proofs.lemmas.List.{take_all}
use Rattle.front_set.specs.Vector.{IsBelow}
use Rattle.pb_lin.specs.CostRow.{CostRowValue}
use Rattle.lower_bounding.specs.Fences.{greatest_cost}
use Rattle.lower_bounding.proofs.Vectors.{offsets_within}
use Rattle.lower_bounding.proofs.fence.Fence.around.Goals as goal

pub returns-clause-serves : goal.returns-clause-serves
returns-clause-serves c =
    let rows = c.args.problem.now.costs in
    let k = c.loop-row.row-index in
    let long = ap (λ (rs : List CostRowValue). length rs) c.costs-row-items.ensures in
    let all : take k rows ≡ rows = take_all k rows (omega (arith, c.loop-row-test.false)) in
    let fence : c.from_items.result ≡ map (λ r. r.offset) rows =
    c.from_items.ensures ∙ c.loop-row.invariant.fence ∙ ap (λ (rs : List CostRowValue). map (λ r. r.offset) rs) all in
    let tops : c.from_items-2.result ≡ map greatest_cost rows =
    c.from_items-2.ensures ∙ c.loop-row.invariant.tops ∙ ap (λ (rs : List CostRowValue). map greatest_cost rs) all in
    record {
      tops = tops;
      within = subst (λ (v : List ℤ). IsBelow v c.from_items-2.result) (sym fence)
          (subst (λ (v : List ℤ). IsBelow (map (λ r. r.offset) rows) v) (sym tops) (offsets_within rows));
    }
