use Rattle.std.proofs.Common.{◌≡◌, ℕ, ◌+◌, ◌<◌, List, [], ◌∷◌, ◌++◌, All, Vec, Global, length, get_or, ap, sym, subst, ◌∙◌, arith}
use Rattle.std.specs.List.{Contains}
use Rattle.std.proofs.lemmas.List.Elements.{All-push, Contains-append_left}
use Rattle.proof_rules.proofs.RowEntries.{ArePushed, pushed_all, pushed_more, pushed_same}
use Rattle.proof_rules.proofs.row_index.push_places.Goals as goal
use Rattle.proof_rules.proofs.row_index.push_places.Goals.{then-place-rows+in_ok-push, else-place-rows}

pub loop-at-preserved : goal.loop-at-preserved
loop-at-preserved c =
    let entries = c.args.entries.now in
    let rows = c.args.rows in
    let first = c.place_of-first.result in
    let at = c.loop-at.at in
    let places = c.loop-at.places.items in
    let place = (get_or entries at (0, 0)).1 in
    let bound = c.place_above-end.ensures.bound in
    let short : at < length entries = omega arith in
    let before = c.loop-at.invariant in
    elim c.if-place-rows.branch [
      | then-place-rows+in_ok-push w ↦ (
          let pushed : c.if-place-rows.places.items ≡ places ++ place ∷ [] = ap (λ (v : Vec ℕ Global). v.items) w.places-is ∙ w.in_ok-push.ensures.items in
          record {
            within = λ all. subst (All (λ k. k < rows)) (sym pushed) (All-push (λ k. k < rows) places place (before.within all) w.if-place-rows.true);
            kept = λ k there. subst (λ (ks : List ℕ). Contains ks k) (sym pushed) (Contains-append_left places (place ∷ []) k (before.kept k there));
            pushed = pushed_more entries rows first at places c.if-place-rows.places.items short pushed before.pushed;
          })
      | else-place-rows w ↦ (
          let same : c.if-place-rows.places.items ≡ places = ap (λ (v : Vec ℕ Global). v.items) w.places-is in
          record {
            within = λ all. subst (All (λ k. k < rows)) (sym same) (before.within all);
            kept = λ k there. subst (λ (ks : List ℕ). Contains ks k) (sym same) (before.kept k there);
            pushed = subst (ArePushed entries rows first (at + 1)) (sym same) (pushed_same entries rows first at places short w.if-place-rows.false before.pushed);
          })
    ]

pub returns-clause-pushed : goal.returns-clause-pushed
returns-clause-pushed c =
    pushed_all c.args.entries.now c.args.var c.args.rows c.place_of-first.result c.place_above-end.result c.loop-at.at c.loop-at.places.items
    c.place_of-first.ensures c.place_above-end.ensures c.loop-at-test.false c.loop-at.invariant.pushed
