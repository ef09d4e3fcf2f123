-- When a restart is due, and when a reduction is.
use Rattle.std.proofs.Common.{◌≡◌, ◌↔◌, ℕ, ◌+◌, ◌-◌, ◌*◌, ◌%◌, ◌<◌, ◌≤◌, ◌^◌, Fits, w64, nat_eq, arith, ap, sym, ◌∙◌}
use Rattle.std.specs.Bool.{IsTrue}
use Rattle.std.proofs.Math.Pow.{pow_mono}
use Rattle.std.proofs.Math.Nat.{mod-eq_of_lt}
use Rattle.std.proofs.lemmas.Bool.{eqb-true, eq-eqb}

small : (done : ℕ) → done < 50 → 100 * 2 ^ (done + 1) % 18446744073709551616 ≡ 100 * 2 ^ (done + 1)
small done less =
    let top : 2 ^ (done + 1) ≤ 2 ^ 50 = pow_mono {i = done + 1} {j = 50} (omega arith) in
    mod-eq_of_lt {n = 100 * 2 ^ (done + 1)} {m = 18446744073709551616} (omega (arith, top))

pub due_law : (since done : ℕ) → done < 50 → IsTrue (nat_eq since (100 * 2 ^ (done + 1) % 18446744073709551616)) ↔ ((done < 50) × (since ≡ 100 * 2 ^ (done + 1)))
due_law since done less = (
  (λ test. (less, eqb-true since _ test ∙ small done less)),
  (λ is. eq-eqb since _ (is.1 ∙ sym (small done less))),
)

-- ---- reductions

power_small : (done : ℕ) → done < 40 → 2 ^ (done + 1) ≤ 2 ^ 40
power_small done less = pow_mono {i = done + 1} {j = 40} (omega arith)

power_same : (done : ℕ) → done < 40 → 1 * 2 ^ (done + 1) % 18446744073709551616 ≡ 2 ^ (done + 1)
power_same done less =
    let top = power_small done less in
    let same : 1 * 2 ^ (done + 1) % 18446744073709551616 ≡ 1 * 2 ^ (done + 1) = mod-eq_of_lt {n = 1 * 2 ^ (done + 1)} {m = 18446744073709551616} (omega (arith, top)) in
    omega (arith, same)

pub reduce_fits : (done : ℕ) → done < 40 → Fits w64 (1000 * (1 * 2 ^ (done + 1) % 18446744073709551616 - 1))
reduce_fits done less = let top = power_small done less in let same = power_same done less in omega (arith, top, same)

pub reduce_law : (learned done : ℕ) → done < 40
    → IsTrue (nat_eq learned (1000 * (1 * 2 ^ (done + 1) % 18446744073709551616 - 1))) ↔ ((done < 40) × (learned ≡ 1000 * (2 ^ (done + 1) - 1)))
reduce_law learned done less =
    let same : 1000 * (1 * 2 ^ (done + 1) % 18446744073709551616 - 1) ≡ 1000 * (2 ^ (done + 1) - 1) = ap (λ (n : ℕ). 1000 * (n - 1)) (power_same done less) in (
      (λ test. (less, eqb-true learned _ test ∙ same)),
      (λ is. eq-eqb learned _ (is.1 ∙ sym same)),
    )
