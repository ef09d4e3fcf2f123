-- Below the offset it is the offset, and else it is by the output that stands for what is missing.
use lib.Signed.{lt_z}
use mir.Val.{SFits, of_z, to_z}
use mir.Syntax.{w64, w128}
use Rattle.std.proofs.Common.{◌≡◌, ◌∙◌, true, ℕ, Option, MatchOption, List, sym, subst, rules, arith, ℤ, pos, ◌+ℤ◌, ◌-ℤ◌, ◌<ℤ◌}
use Rattle.std.proofs.lemmas.Int.{ints, to_z-of_z}
use Rattle.scut_base.specs.Literal.{Literal}
use Rattle.sum_outputs.specs.Totals.{IsLeastSum}
use Rattle.search_base.specs.CostBounds.{IsNextUnmade, IsNextValue}
use Rattle.search_base.proofs.NextValues.{far_above, missing, no_number, not_less, number_of, offset_next, sum_fits, sum_is, sum_next, sum_small, unmade_far, unmade_next, value_fits}
use Rattle.search_base.proofs.objective_bound.ObjectiveBound.next_value.Goals as goal

less_as_tested : (value offset v o : ℤ) → SFits w64 value → SFits w64 offset → v ≡ to_z w64 (of_z w64 value) →
    o ≡ to_z w64 (of_z w64 offset) → lt_z (to_z w128 (of_z w128 v)) (to_z w128 (of_z w128 o)) ≡ true → value <ℤ offset
less_as_tested value offset v o first second e f less = omega (arith, ints)

pub returns-then-from-offset : goal.returns-then-from-offset
returns-then-from-offset c =
    let r = c.args.self.now.reform in
    let in_range : SFits w64 r.offset = search rules in
    subst (IsNextValue r c.args.value) (sym (to_z-of_z w64 r.offset in_range))
    (offset_next r c.args.value c.requires.weights
    (less_as_tested c.args.value r.offset c.from.result c.from-offset.result c.ranges.value in_range c.from.ensures
    c.from-offset.ensures c.if-from-offset.true))

pub overflow_add-result : goal.overflow_add-result
overflow_add-result c =
    let r = c.args.self.now.reform in
    let in_range : SFits w64 r.offset = search rules in
    let least : IsLeastSum r.terms c.in_ok-k.k c.in_ok-output.output.now.sum =
    subst (λ (ts : List (Literal × ℕ)). IsLeastSum ts c.in_ok-k.k c.in_ok-output.output.now.sum) c.requires.terms
    c.in_ok-output.ensures.1 in
    sum_fits r.offset c.from-offset.result c.from-3.result c.in_ok-output.output.now.sum in_range c.from-offset.ensures
    c.from-3.ensures (sum_small r c.in_ok-k.k c.in_ok-output.output.now.sum c.requires.weights least)

pub returns-in_err-k : goal.returns-in_err-k
returns-in_err-k c =
    let b = c.args.self.now in
    let v = c.args.value in
    let in_range : SFits w64 b.reform.offset = search rules in
    let least = not_less v b.reform.offset c.from.result c.from-offset.result c.ranges.value in_range c.from.ensures
    c.from-offset.ensures c.if-from-offset.false in
    let none = no_number c.try_from.result _ _ c.try_from.ensures (sym (c.in_err-k.was {u = tt}) ∙ c.ok.ensures.value) in
    subst (λ (o : Option ℤ). MatchOption o (IsNextUnmade b v) (IsNextValue b.reform v)) (sym c.from_residual.ensures)
    (unmade_far b v c.requires.fits
    (far_above v b.reform.offset c.from-2.result c.from-offset.result c.ranges.value in_range c.from-2.ensures
    c.from-offset.ensures least none))

pub returns-in_err-output : goal.returns-in_err-output
returns-in_err-output c =
    let b = c.args.self.now in
    let v = c.args.value in
    let in_range : SFits w64 b.reform.offset = search rules in
    let number = number_of c.try_from.result _ _ c.in_ok-k.k c.try_from.ensures c.in_ok-k.ensures.value in
    let k_is : pos c.in_ok-k.k ≡ (v -ℤ b.reform.offset) +ℤ pos 1 =
    missing v b.reform.offset c.from-2.result c.from-offset.result c.in_ok-k.k c.ranges.value in_range c.from-2.ensures
    c.from-offset.ensures number.0 number.1 in
    let least = not_less v b.reform.offset c.from.result c.from-offset.result c.ranges.value in_range c.from.ensures
    c.from-offset.ensures c.if-from-offset.false in
    subst (λ (o : Option ℤ). MatchOption o (IsNextUnmade b v) (IsNextValue b.reform v))
    (sym c.from_residual-in_err-output.ensures)
    (unmade_next b v c.in_ok-k.k k_is least c.in_err-output.ensures)

pub overflow_cast-result : goal.overflow_cast-result
overflow_cast-result c =
    let r = c.args.self.now.reform in
    let n = c.in_ok-output.output.now.sum in
    let in_range : SFits w64 r.offset = search rules in
    let least : IsLeastSum r.terms c.in_ok-k.k n =
    subst (λ (ts : List (Literal × ℕ)). IsLeastSum ts c.in_ok-k.k n) c.requires.terms c.in_ok-output.ensures.1 in
    let small = sum_small r c.in_ok-k.k n c.requires.weights least in
    subst (λ (z : ℤ). SFits w64 z) (sym (sum_is r.offset c.from-offset.result c.from-3.result n in_range
    c.from-offset.ensures c.from-3.ensures small))
    (value_fits r c.in_ok-k.k n in_range least c.requires.small)

pub returns : goal.returns
returns c =
    let r = c.args.self.now.reform in
    let v = c.args.value in
    let n = c.in_ok-output.output.now.sum in
    let in_range : SFits w64 r.offset = search rules in
    let least : IsLeastSum r.terms c.in_ok-k.k n =
    subst (λ (ts : List (Literal × ℕ)). IsLeastSum ts c.in_ok-k.k n) c.requires.terms c.in_ok-output.ensures.1 in
    let small = sum_small r c.in_ok-k.k n c.requires.weights least in
    let number = number_of c.try_from.result _ _ c.in_ok-k.k c.try_from.ensures c.in_ok-k.ensures.value in
    let k_is : pos c.in_ok-k.k ≡ (v -ℤ r.offset) +ℤ pos 1 =
    missing v r.offset c.from-2.result c.from-offset.result c.in_ok-k.k c.ranges.value in_range c.from-2.ensures
    c.from-offset.ensures number.0 number.1 in
    let sum = sum_is r.offset c.from-offset.result c.from-3.result n in_range c.from-offset.ensures
    c.from-3.ensures small in
    subst (λ (z : ℤ). IsNextValue r v (to_z w64 (of_z w64 z))) (sym sum)
    (subst (IsNextValue r v) (sym (to_z-of_z w64 (r.offset +ℤ pos n)
    (value_fits r c.in_ok-k.k n in_range least c.requires.small)))
    (sum_next r v c.in_ok-k.k n k_is least))
