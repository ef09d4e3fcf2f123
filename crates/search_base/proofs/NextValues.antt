-- The least value above a given one that a reform can have.
use lib.IntN.{nat_abs}
use lib.Signed.{lt_z}
use mir.Val.{SFits, of_z, to_z}
use mir.Syntax.{w64, w128}
use Rattle.std.proofs.Common.{rules, ◌≡◌, ⊎_elim, false, ℕ, zero, suc, ◌+◌, ◌-◌, None, Some, Result, Ok, Err, List, [], length, ◌<◌, ◌≤◌, ◌^◌, refl, sym, subst, ◌∙◌, arith, ℤ, pos, negsuc, ◌+ℤ◌, ◌-ℤ◌, ◌<ℤ◌, ◌≤ℤ◌}
use Rattle.std.specs.Prelude.{OkIff}
use Rattle.std.specs.List.{All}
use Rattle.std.specs.Int.{FitsUnsigned}
use Rattle.std.specs.Result.{result_ok}
use Rattle.std.proofs.lemmas.Bool.{cases_lt}
use Rattle.std.proofs.lemmas.Int.{ints}
use Rattle.std.proofs.lemmas.List.{get_or_past}
use Rattle.std.proofs.lemmas.List.Elements.{All-nil}
use Rattle.sum_outputs.specs.Totals.{AreWeights, IsLeastSum}
use Rattle.sum_outputs.proofs.Glue.{bound, bound_within, none_true, value-le-total}
use Rattle.sum_outputs.specs.declared.sum_output.SumOutput.{SumOutput}
use Rattle.totalizer.specs.declared.reform.Reform.{Reform}
use Rattle.totalizer.specs.Knowing.{IsUnmade, root_outputs}
use Rattle.totalizer.specs.Totalizing.{FitsSome, TotalizerValue}
use Rattle.totalizer.proofs.RootOutputs.{root_are}
use Rattle.search_base.specs.CostBounds.{IsNextUnmade, IsNextValue, greatest_of}
use Rattle.search_base.specs.declared.objective_bound.ObjectiveBound.{ObjectiveBound}

-- below the offset it is the offset
pub offset_next : (r : Reform) (v : ℤ) → AreWeights r.terms → v <ℤ r.offset → IsNextValue r v r.offset
offset_next r v weights less = record {
  is = (0, omega (arith, ints), none_true (bound r.terms) r.terms weights.apart (bound_within r.terms weights.from_one));
  above = less;
  least = λ n has more. let at = has.1 in omega (arith, ints);
}

-- and else by the least sum of at least what is missing
pub sum_next : (r : Reform) (v : ℤ) (k n : ℕ) → pos k ≡ (v -ℤ r.offset) +ℤ pos 1 → IsLeastSum r.terms k n →
    IsNextValue r v (r.offset +ℤ pos n)
sum_next r v k n is least = record {
  is = (n, omega (arith, ints), least.attainable);
  above = let reaches = least.reaches in omega (arith, ints);
  least = λ m has more.
      let at = has.1 in
      let le = least.least has.0 has.2 (omega (arith, ints)) in
      omega (arith, ints);
}

-- no output stands for more than all sums
none_above : (t : TotalizerValue) (k : ℕ) → FitsSome t → 2 ^ 63 ≤ k → IsUnmade t k
none_above t k (a, s, reached, fits) many = ⊎_elim
    (λ (none : length t.nodes < 1).
    let size = (fits.made s reached).size in
    let empty : root_outputs t ≡ [] = get_or_past t.made (length t.nodes - 1) [] (omega arith) in
    subst (λ (os : List SumOutput). All (λ o. o.from ≤ k → o.sum < k) os) (sym empty)
    (All-nil (λ o. o.from ≤ k → o.sum < k)))
    (λ (some : 1 ≤ length t.nodes).
    let small = (root_are a t fits (omega arith) s reached).rising.small in
    λ i d short from. let below = small i d short in omega arith)
    (cases_lt (length t.nodes) 1)

-- no output stands for more than is missing
pub unmade_next : (b : ObjectiveBound) (v : ℤ) (k : ℕ) → pos k ≡ (v -ℤ b.reform.offset) +ℤ pos 1 → b.reform.offset ≤ℤ v →
    IsUnmade b.totalizer k → IsNextUnmade b v
unmade_next b v zero is least none = absurd (omega (arith, ints))
unmade_next b v (suc k) is least none =
    (k, omega (arith, ints), subst (IsUnmade b.totalizer) (let same : suc k ≡ k + 1 = omega arith in same) none)

pub unmade_far : (b : ObjectiveBound) (v : ℤ) → FitsSome b.totalizer →
    (k : ℕ) × (v ≡ pos k +ℤ b.reform.offset) × (2 ^ 63 ≤ k) → IsNextUnmade b v
unmade_far b v fits (k, is, many) = (k, is, none_above b.totalizer (k + 1) fits (omega arith))

pub sum_small : (r : Reform) (k n : ℕ) → AreWeights r.terms → IsLeastSum r.terms k n → n < 2 ^ 63
sum_small r k n weights least =
    let attainable = least.attainable in
    let most = value-le-total attainable.0 r.terms in
    let exact = attainable.1 in
    let small = weights.small in
    omega arith

-- ---- numbers of the code

pub number_of : {E : Type 0} (r : Result ℕ E) (P : Type 0) (v k : ℕ) → OkIff r P v → Some k ≡ result_ok r → P × (k ≡ v)
number_of (Ok x) P v k is e = let same : k ≡ x = cc in (is.0, same ∙ is.1)
number_of (Err d) P v k is e = cc

pub no_number : {E : Type 0} (r : Result ℕ E) (P : Type 0) (v : ℕ) → OkIff r P v → None ≡ result_ok r → P → ⊥
no_number (Ok x) P v is e p = cc
no_number (Err d) P v is e p = is p

abbrev wide : ℤ → ℤ
wide z = to_z w128 (of_z w128 z)

pub missing : (value offset v o : ℤ) (k : ℕ) → SFits w64 value → SFits w64 offset →
    v ≡ to_z w64 (of_z w64 value) → o ≡ to_z w64 (of_z w64 offset) →
    FitsUnsigned w64 (wide (wide (wide v -ℤ wide o) +ℤ pos 1)) →
    k ≡ nat_abs (wide (wide (wide v -ℤ wide o) +ℤ pos 1)) → pos k ≡ (value -ℤ offset) +ℤ pos 1
missing value offset v o k first second e f fits is = omega (arith, ints)

-- where that doesn't fit 64 bits, it is above all sums
pub far_above : (value offset v o : ℤ) → SFits w64 value → SFits w64 offset →
    v ≡ to_z w64 (of_z w64 value) → o ≡ to_z w64 (of_z w64 offset) → offset ≤ℤ value →
    (FitsUnsigned w64 (wide (wide (wide v -ℤ wide o) +ℤ pos 1)) → ⊥) → (k : ℕ) × (value ≡ pos k +ℤ offset) × (2 ^ 63 ≤ k)
far_above value offset v o first second e f more none = by (value -ℤ offset) refl
  where
    by : (above : ℤ) → value -ℤ offset ≡ above → (k : ℕ) × (value ≡ pos k +ℤ offset) × (2 ^ 63 ≤ k)
    by (pos n) is = (
      n,
      omega (arith, ints),
      ⊎_elim
          (λ (less : n < 2 ^ 63).
          let sum : wide (wide (wide v -ℤ wide o) +ℤ pos 1) ≡ pos (n + 1) = omega (arith, ints) in
          let small : n + 1 < 2 ^ 64 = omega arith in
          let fits : FitsUnsigned w64 (pos (n + 1)) = search rules in
          absurd (none (subst (λ (z : ℤ). FitsUnsigned w64 z) (sym sum) fits)))
          (λ (many : 2 ^ 63 ≤ n). many)
          (cases_lt n (2 ^ 63)),
    )
    by (negsuc n) is = absurd (omega (arith, ints))

pub not_less : (value offset v o : ℤ) → SFits w64 value → SFits w64 offset → v ≡ to_z w64 (of_z w64 value) →
    o ≡ to_z w64 (of_z w64 offset) → lt_z (wide v) (wide o) ≡ false → offset ≤ℤ value
not_less value offset v o first second e f more = omega (arith, ints)

pub sum_fits : (offset o q : ℤ) (n : ℕ) → SFits w64 offset → o ≡ to_z w64 (of_z w64 offset) → q ≡ pos n → n < 2 ^ 63 →
    SFits w128 (wide o +ℤ wide q)
sum_fits offset o q n fits e f small = omega (arith, ints)

pub sum_is : (offset o q : ℤ) (n : ℕ) → SFits w64 offset → o ≡ to_z w64 (of_z w64 offset) → q ≡ pos n → n < 2 ^ 63 →
    wide (wide o +ℤ wide q) ≡ offset +ℤ pos n
sum_is offset o q n fits e f small = omega (arith, ints)

-- a sum that is at most all that the reform can be fits 64 bits
pub value_fits : (r : Reform) (k n : ℕ) → SFits w64 r.offset → IsLeastSum r.terms k n → greatest_of r <ℤ pos (2 ^ 63) →
    SFits w64 (r.offset +ℤ pos n)
value_fits r k n fits least small =
    let attainable = least.attainable in
    let most = value-le-total attainable.0 r.terms in
    let exact = attainable.1 in
    let below : (r.offset +ℤ pos n) <ℤ pos (2 ^ 63) = omega (arith, ints) in
    search rules
