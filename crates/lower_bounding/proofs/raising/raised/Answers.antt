-- Each number is put after the others.
use mir.Val.{SFits, of_z, to_z}
use mir.Syntax.{w64}
use Rattle.std.proofs.Common.{rules, ◌≡◌, ℕ, ◌+◌, ◌<◌, List, [], ◌∷◌, ◌++◌, length, get_or, ap, sym, subst, ◌∙◌, arith, ℤ, pos}
use Rattle.std.proofs.lemmas.Int.{to_z-of_z}
use Rattle.std.proofs.lemmas.List.{length_push}
use Rattle.relaxations.specs.Telling.{number_at, stands_at}
use Rattle.lower_bounding.specs.Raising.{RisesWhere}
use Rattle.lower_bounding.proofs.Vectors.{numbers_more}
use Rattle.lower_bounding.proofs.raising.raised.Goals as goal

pub loop-objective-preserved : goal.loop-objective-preserved
loop-objective-preserved c =
    let k = c.loop-objective.objective in
    let fence = c.args.fence.now in
    let stands = c.args.stands.now in
    let tops = c.as_slice-tops.result.now in
    let items = c.as_slice-number-items.result.now in
    let was = c.loop-objective.invariant in
    let now = c.raised_number.result in
    let one : SFits w64 (get_or items k (pos 0)) = search rules in
    let other : SFits w64 (get_or tops k (pos 0)) = search rules in
    let number : to_z w64 (of_z w64 (get_or items k (pos 0))) ≡ number_at fence k =
    to_z-of_z w64 (get_or items k (pos 0)) one ∙ ap (λ (v : List ℤ). number_at v k) c.as_slice-number-items.ensures in
    let top : to_z w64 (of_z w64 (get_or tops k (pos 0))) ≡ number_at tops k = to_z-of_z w64 (get_or tops k (pos 0)) other in
    let here : RisesWhere (stands_at stands k) (number_at fence k) (number_at tops k) now =
    subst (λ (f : ℤ). RisesWhere (stands_at stands k) f (number_at tops k) now) number
    (subst (λ (g : ℤ). RisesWhere (stands_at stands k) (to_z w64 (of_z w64 (get_or items k (pos 0)))) g now) top c.raised_number.ensures) in
    let pushed : c.push.new.self ≡ c.loop-objective.numbers ++ now ∷ [] = search rules in
    let longer = length_push c.loop-objective.numbers now in
    let long = ap (λ (v : List ℤ). length v) pushed in
    let count = was.count in
    record {
      count = omega arith;
      each = subst (λ (v : List ℤ). (i : ℕ) → i < k + 1 → RisesWhere (stands_at stands i) (number_at fence i) (number_at tops i) (number_at v i)) (sym pushed)
          (numbers_more (λ i n. RisesWhere (stands_at stands i) (number_at fence i) (number_at tops i) n) k c.loop-objective.numbers now
          was.count was.each here);
    }
