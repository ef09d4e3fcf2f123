-- The next value exceeds the number, and so does its top.
use mir.Val.{SFits, of_z, to_z}
use mir.Syntax.{w64}
use Rattle.std.proofs.Common.{rules, ◌≡◌, ℤ, ap, sym, subst, ◌∙◌}
use Rattle.std.specs.Int.{int_min}
use Rattle.std.specs.Prelude.{slice_index_or}
use Rattle.std.proofs.lemmas.Int.{to_z-of_z}
use Rattle.search_base.specs.CostBounds.{IsNextValue}
use Rattle.search_base.specs.declared.objective_bound.ObjectiveBound.{ObjectiveBound}
use Rattle.lower_bounding.specs.Raising.{RisesWhere}
use Rattle.lower_bounding.proofs.Raised.{next_above, rises_to}
use Rattle.lower_bounding.proofs.raising.raised_number.Goals as goal

pub returns-in-Some : goal.returns-in-Some
returns-in-Some c =
    let fits : SFits w64 c.min.result = search rules in
    let read : SFits w64 c.args.number = search rules in
    let same = to_z-of_z w64 c.args.number read in
    let next : (e : ObjectiveBound) → IsNextValue (slice_index_or c.args.bounds.now c.args.objective e).reform c.args.number c.in-Some.next =
    subst (λ (n : ℤ). (e : ObjectiveBound) → IsNextValue (slice_index_or c.args.bounds.now c.args.objective e).reform n c.in-Some.next) same
    c.in-Some.ensures in
    let next_fits : SFits w64 c.in-Some.next = search rules in
    let top_fits : SFits w64 c.args.top = search rules in
    let least : c.min.result ≡ int_min c.in-Some.next c.args.top =
    c.min.ensures.value
    ∙ ap (λ (n : ℤ). int_min n (to_z w64 (of_z w64 c.args.top))) (to_z-of_z w64 c.in-Some.next next_fits)
    ∙ ap (λ (n : ℤ). int_min c.in-Some.next n) (to_z-of_z w64 c.args.top top_fits) in
    subst (λ (n : ℤ). RisesWhere c.args.stands c.args.number c.args.top n) (sym (to_z-of_z w64 c.min.result fits))
    (rises_to c.args.stands c.args.number c.args.top c.in-Some.next c.min.result c.if-not-stands.false c.requires.below
    (next_above c.args.bounds.now c.args.objective c.args.number c.in-Some.next c.requires.there next)
    least)
