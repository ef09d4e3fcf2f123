-- What keeps to the limits meets the aim, and the other way round.
use mir.Val.{SFits, of_z, to_z}
use mir.Syntax.{w64}
use Rattle.std.proofs.Common.{rules, ◌≡◌, ◌-◌, ◌^◌, [], ◌∷◌, sym, subst, ◌∙◌, ℤ, pos}
use Rattle.std.proofs.lemmas.Int.{to_z-of_z}
use Rattle.std.proofs.lemmas.Option.{get_or_from_slice_get}
use Rattle.std.proofs.lemmas.Result.{IfOk-weaker}
use Rattle.proof_rules.specs.Recording.{Snapshot}
use Rattle.relaxations.specs.Wanting.{HasCostRows, TellsOf}
use Rattle.relaxations.specs.declared.below.Below.{Below}
use Rattle.relaxations.specs.declared.wanted.Wanted.{Wanted}
use Rattle.relaxations.specs.declared.wanted.Wanted.TheVariants.{Within}
use Rattle.bioptsat.specs.declared.aim.Aim.{Aim}
use Rattle.bioptsat.specs.Aims.{Serves, first, second}
use Rattle.bioptsat.specs.Asking.{IsOneLess, TellsOfAim}
use Rattle.bioptsat.proofs.Aiming.{told_first, told_second}
use Rattle.bioptsat.proofs.aim.AimAims.wanted.Goals as goal

abbrev Telling : Aim → Wanted → Type 0
Telling aim wanted =
    (b : Snapshot) (below : Below) → Serves aim b.problem → HasCostRows b.problem → TellsOf b wanted below
    → TellsOfAim b aim below

pub returns-in-First-clause-tells : goal.returns-in-First-clause-tells
returns-in-First-clause-tells c =
    let aim = c.args.self.now in
    let v = c.in-First.costs in
    let limit = c.one_less.result in
    let fits : SFits w64 c.get.result = search rules in
    let number : to_z w64 (of_z w64 c.get.result) ≡ first v =
    to_z-of_z w64 c.get.result fits ∙ sym (get_or_from_slice_get v 0 c.get.result (pos 0) c.get.ensures) in
    let less : IsOneLess (first v) limit = subst (λ (n : ℤ). IsOneLess n limit) number c.one_less.ensures in
    let limit_fits : SFits w64 limit = search rules in
    IfOk-weaker c.within.result (λ wanted. wanted ≡ Within (to_z w64 (of_z w64 limit) ∷ pos (2 ^ 63 - 1) ∷ []))
    (Telling aim)
    (λ wanted is b below serves rows tells.
    subst (λ (a : Aim). TellsOfAim b a below) (sym c.in-First.is) (told_first b v rows serves.count limit below less
    (subst (λ (n : ℤ). TellsOf b (Within (n ∷ pos (2 ^ 63 - 1) ∷ [])) below) (to_z-of_z w64 limit limit_fits)
    (subst (λ (w : Wanted). TellsOf b w below) is tells))))
    c.within.ensures

pub returns-in-Second-clause-tells : goal.returns-in-Second-clause-tells
returns-in-Second-clause-tells c =
    let aim = c.args.self.now in
    let v = c.in-Second.costs in
    let limit = c.one_less-in-Second.result in
    let most_fits : SFits w64 c.get-in-Second.result = search rules in
    let most : to_z w64 (of_z w64 c.get-in-Second.result) ≡ first v =
    to_z-of_z w64 c.get-in-Second.result most_fits
    ∙ sym (get_or_from_slice_get v 0 c.get-in-Second.result (pos 0) c.get-in-Second.ensures) in
    let fits : SFits w64 c.get-in-Second-2.result = search rules in
    let number : to_z w64 (of_z w64 c.get-in-Second-2.result) ≡ second v =
    to_z-of_z w64 c.get-in-Second-2.result fits
    ∙ sym (get_or_from_slice_get v 1 c.get-in-Second-2.result (pos 0) c.get-in-Second-2.ensures) in
    let less : IsOneLess (second v) limit = subst (λ (n : ℤ). IsOneLess n limit) number c.one_less-in-Second.ensures in
    let limit_fits : SFits w64 limit = search rules in
    IfOk-weaker c.within-in-Second.result
    (λ wanted. wanted ≡ Within (to_z w64 (of_z w64 c.get-in-Second.result) ∷ to_z w64 (of_z w64 limit) ∷ [])) (Telling aim)
    (λ wanted is b below serves rows tells.
    subst (λ (a : Aim). TellsOfAim b a below) (sym c.in-Second.is) (told_second b v rows serves.count limit below less
    (subst (λ (n : ℤ). TellsOf b (Within (first v ∷ n ∷ [])) below) (to_z-of_z w64 limit limit_fits)
    (subst (λ (n : ℤ). TellsOf b (Within (n ∷ to_z w64 (of_z w64 limit) ∷ [])) below) most
    (subst (λ (w : Wanted). TellsOf b w below) is tells)))))
    c.within-in-Second.ensures
