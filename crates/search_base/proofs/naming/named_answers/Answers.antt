-- Each objective's answer is named after the others.
use mir.Val.{SFits, of_z, to_z}
use mir.Syntax.{w64}
use Rattle.std.proofs.Common.{◌≡◌, ℕ, ◌<◌, List, [], ◌∷◌, ◌++◌, length, get_or, sym, ap, ◌∙◌, subst, rules, arith, ℤ, pos}
use Rattle.std.proofs.lemmas.Int.{to_z-of_z}
use Rattle.std.proofs.lemmas.List.{get_or_default, length-append}
use Rattle.pb_lin.specs.CostRow.{CostRowValue}
use Rattle.totalizer.specs.declared.bound.Bound.{Bound}
use Rattle.search_base.specs.Cutting.{IsNamed, answered_literals}
use Rattle.search_base.proofs.NamedAnswers.{AreNamedSoFar, named_more}
use Rattle.search_base.proofs.naming.named_answers.Goals as goal

pub loop-objective-preserved : goal.loop-objective-preserved
loop-objective-preserved c =
    let p = c.args.problem.now in
    let vs = c.args.costs.now in
    let bs = c.args.answers.now in
    let n = c.loop-objective.objective in
    let named = c.loop-objective.named in
    let new = c.named_answer.result in
    let count : length named ≡ n = c.loop-objective.invariant.count in
    let pushed : c.push.new.self ≡ named ++ new ∷ [] = c.in_ok-push.ensures.ok in
    let sizes = length-append named (new ∷ []) in
    let items : length c.costs-row-items.result.now ≡ length p.costs =
    ap (λ (rs : List CostRowValue). length rs) c.costs-row-items.ensures in
    let short : n < length p.costs = omega (arith, c.loop-objective-test.true) in
    let row = c.row-item.result in
    let row_is : row ≡ get_or p.costs n row = c.row-item.is
    ∙ ap (λ (rs : List CostRowValue). get_or rs n row) c.costs-row-items.ensures in
    let w = get_or c.as_slice.result.now n (pos 0) in
    let fits : SFits w64 w = search rules in
    let v = get_or vs n (pos 0) in
    let value : to_z w64 (of_z w64 w) ≡ v = to_z-of_z w64 w fits
    ∙ ap (λ (us : List ℤ). get_or us n (pos 0)) c.as_slice.ensures in
    let value_is : v ≡ get_or vs n v = get_or_default vs n (pos 0) v (omega (arith, c.requires.costs)) in
    let answer = c.index-answers-objective.result in
    let is : IsNamed row v (answered_literals bs) answer new =
    subst (λ (u : ℤ). IsNamed row u (answered_literals bs) answer new) value c.named_answer.ensures in
    record {
      count = ap (λ (ds : List Bound). length ds) pushed ∙ omega arith;
      each = subst (λ (ds : List Bound). AreNamedSoFar p vs bs ds) (sym pushed)
          (named_more p vs bs named row v answer new c.loop-objective.invariant.each (omega arith)
          (omega (arith, c.requires.costs)) (omega (arith, c.requires.answers))
          (subst (λ (k : ℕ). row ≡ get_or p.costs k row) (sym count) row_is)
          (subst (λ (k : ℕ). v ≡ get_or vs k v) (sym count) value_is)
          (subst (λ (k : ℕ). answer ≡ get_or bs k answer) (sym count) c.index-answers-objective.is) is);
    }

pub returns : goal.returns
returns c =
    let items : length c.costs-row-items.result.now ≡ length c.args.problem.now.costs =
    ap (λ (rs : List CostRowValue). length rs) c.costs-row-items.ensures in
    record {
      count = omega (
        arith,
        c.requires.answers,
        c.loop-objective-test.false,
        c.loop-objective.auto.objective-end,
        c.loop-objective.invariant.count,
      );
      each = c.loop-objective.invariant.each;
    }
