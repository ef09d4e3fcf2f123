use Rattle.std.proofs.Common.{◌≡◌, ℕ, List, [], Bor, map, true, arith, subst, sym}
use Rattle.command_base.specs.FileWords.{all_differ}
use Rattle.command_base.proofs.FileWords.{last_differ}
use Rattle.command_upgrade.proofs.upgrade_of.Goals as goal

pub invariant_of-result : goal.invariant_of-result
invariant_of-result c =
    let other : Bor (List ℕ) = record { ref_ptr = (0, 0); now = [] } in
    let differ : all_differ (map (λ s. s.now) c.as_slice.result.now) ≡ true =
    subst (λ (names : List (Bor (List ℕ))). all_differ (map (λ s. s.now) names) ≡ true) (sym c.as_slice.ensures.value) c.requires in
    last_differ c.as_slice.result.now other differ (omega (arith, c.in-len3.len_at_least))
