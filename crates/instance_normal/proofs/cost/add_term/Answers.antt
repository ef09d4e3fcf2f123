use Rattle.std.proofs.Common.{ℕ, ◌+◌, ◌<◌, ◌≤◌, ◌^◌, ◌≡◌, ◌==◌, Bool, true, false, not, List, [], ◌∷◌, ◌++◌, arith, refl, ℤ, pos, ◌+ℤ◌, unsigned_abs, to_z, of_z, if◌then◌else◌, ap, sym, subst, ◌∙◌}
use Rattle.std.specs.Int.{w64}
use Rattle.std.specs.List.{list_any}
use Rattle.std.proofs.lemmas.List.{map-append}
use Rattle.std.proofs.lemmas.Int.{to_z-of_z}
use Rattle.std.proofs.lemmas.List.Sums.{sum_by_push}
use Rattle.scut_base.specs.Assignment.{value_of}
use Rattle.instance_normal.specs.Merging.{sums_magnitude, sums_value, variables}
use Rattle.instance_normal.proofs.Merging.{sums-push}
use Rattle.instance_normal.proofs.cost.add_term.Goals as goal

pub returns-in_ok-push-clause-value : goal.returns-in_ok-push-clause-value
returns-in_ok-push-clause-value c = λ a. ap (sums_value a) c.in_ok-push.ensures.items ∙ sums-push a c.args.sums.now.items (c.args.var, to_z w64 (of_z w64 c.args.by)) ∙ ap (λ (z : ℤ). sums_value a c.args.sums.now.items +ℤ (if value_of a c.args.var then z else pos 0)) (to_z-of_z _ _ c.ranges.by)

pub returns-in_ok-push-clause-magnitude : goal.returns-in_ok-push-clause-magnitude
returns-in_ok-push-clause-magnitude c =
    let pushed = ap sums_magnitude c.in_ok-push.ensures.items in
    let sum = sum_by_push (λ (s : ℕ × ℤ). unsigned_abs s.1) c.args.sums.now.items (c.args.var, to_z w64 (of_z w64 c.args.by)) in
    let plain = ap unsigned_abs (to_z-of_z _ _ c.ranges.by) in
    omega arith

pub add_at-requires-clause-small : goal.add_at-requires-clause-small
add_at-requires-clause-small c = subst (λ (z : ℤ). sums_magnitude c.args.sums.now.items + unsigned_abs z < 2 ^ 63) (sym (to_z-of_z _ _ c.ranges.by)) c.requires.small

pub returns-else-added-clause-magnitude : goal.returns-else-added-clause-magnitude
returns-else-added-clause-magnitude c = subst (λ (z : ℤ). sums_magnitude c.add_at.new.sums.items ≤ sums_magnitude c.args.sums.now.items + unsigned_abs z) (to_z-of_z _ _ c.ranges.by) c.add_at.ensures.magnitude

otherwise : (b : Bool) (xs ys : List ℕ) → not b ≡ true → (if b then xs else ys) ≡ ys
otherwise true xs ys fails = cc
otherwise false xs ys fails = refl

pub returns-in_ok-push-clause-keys : goal.returns-in_ok-push-clause-keys
returns-in_ok-push-clause-keys c =
    let keys : List ℕ = c.args.seen.now.keys in
    let fresh : not (list_any (λ v. c.args.var == v) keys) ≡ true = sym c.in_ok-at.ensures.added ∙ c.if-added.true in
    ap variables c.in_ok-push.ensures.items
    ∙ map-append (λ (s : ℕ × ℤ). s.0) c.args.sums.now.items ((c.args.var, to_z w64 (of_z w64 c.args.by)) ∷ [])
    ∙ ap (λ (ks : List ℕ). ks ++ c.args.var ∷ []) c.requires.keys
    ∙ sym (otherwise (list_any (λ v. c.args.var == v) keys) keys (keys ++ c.args.var ∷ []) fresh)
    ∙ sym c.in_ok-at.ensures.keys
