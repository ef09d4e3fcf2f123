use Rattle.std.proofs.Common.{◌≡◌, ℕ, ◌<◌, Bool, true, false, List, set, get_or, length, Some, if◌then◌else◌, sym, ap, ◌∙◌, ℤ, pos, ◌+ℤ◌, to_z, of_z, unsigned_abs, arith}
use Rattle.std.specs.Prelude.{slice_get}
use Rattle.std.specs.Int.{w64}
use Rattle.std.proofs.lemmas.Int.{ints}
use Rattle.std.proofs.lemmas.List.{get_or-map}
use Rattle.std.proofs.lemmas.Option.{get_or_from_slice_get}
use Rattle.scut_base.specs.Assignment.{value_of}
use Rattle.instance_normal.specs.Merging.{variables, variable_value, sums_value}
use Rattle.instance_normal.proofs.Merging.{changed_value, changed_variables, magnitude_at}
use Rattle.instance_normal.proofs.cost.add_at.Goals as goal

pub returns-clause-keys : goal.returns-clause-keys
returns-clause-keys c = changed_variables c.args.sums.now.items c.args.at (c.index_mut.result.now.0, to_z w64 (of_z w64 (to_z w64 (of_z w64 c.index_mut.result.now.1) +ℤ to_z w64 (of_z w64 c.args.by)))) c.index_mut.result.now c.requires.within (ap (λ (s : ℕ × ℤ). s.0) c.index_mut.ensures.value)

value : (a : List Bool) (sums : List (ℕ × ℤ)) (at : ℕ) (s : ℕ × ℤ) (y by : ℤ) (var : ℕ) → at < length sums → s ≡ get_or sums at s → y ≡ s.1 +ℤ by → slice_get (variables sums) at ≡ Some var → sums_value a (set sums at (s.0, y)) ≡ sums_value a sums +ℤ (if value_of a var then by else pos 0)
value a sums at s y by var short is plain there =
    let changed = changed_value (variable_value a) sums at (s.0, y) s short in
    let here : variable_value a (get_or sums at s) ≡ variable_value a s = ap (variable_value a) (sym is) in
    let own : var ≡ s.0 = sym (get_or_from_slice_get (variables sums) at var 0 there) ∙ get_or-map (λ (x : ℕ × ℤ). x.0) sums at s 0 short ∙ ap (λ (x : ℕ × ℤ). x.0) (sym is) in
    let one = cases (value_of a s.0) in
    let same = ap (λ (v : ℕ). if value_of a v then by else pos 0) own in
    omega (arith, ints)
  where
    cases : (b : Bool) → (if b then y else pos 0) ≡ (if b then s.1 else pos 0) +ℤ (if b then by else pos 0)
    cases true = plain
    cases false = omega (arith, ints)

pub returns-clause-value : goal.returns-clause-value
returns-clause-value c =
    let s : ℕ × ℤ = c.index_mut.result.now in
    let most = magnitude_at c.args.sums.now.items c.args.at s c.requires.within in
    let is = ap (λ (x : ℕ × ℤ). unsigned_abs x.1) c.index_mut.ensures.value in
    let plain : to_z w64 (of_z w64 (to_z w64 (of_z w64 s.1) +ℤ to_z w64 (of_z w64 c.args.by))) ≡ s.1 +ℤ c.args.by = omega (arith, ints, c.requires.small) in
    λ a var there. value a c.args.sums.now.items c.args.at s (to_z w64 (of_z w64 (to_z w64 (of_z w64 s.1) +ℤ to_z w64 (of_z w64 c.args.by)))) c.args.by var c.requires.within c.index_mut.ensures.value plain there
