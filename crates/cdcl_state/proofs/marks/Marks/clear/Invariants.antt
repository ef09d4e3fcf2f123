use Rattle.std.proofs.Common.{◌≡◌, ℕ, ◌<◌, ◌≤◌, true, length}
use Rattle.std.specs.Prelude.{All, Contains}
use Rattle.cdcl_state.specs.Walking.{IsMore, is_marked}
use Rattle.cdcl_state.proofs.marks.Marks.clear.Given as goal

abbrev pub invariant-loop-place : goal.invariant-loop-place
invariant-loop-place l = record {
  listed : (p : ℕ) → is_marked l.self.seen.items p ≡ true → Contains l.self.places p;
  known : IsMore l.self.on.items l.self.seen.items;
  within : All (λ p. p < length l.self.on.items) l.self.places;
  room : length l.self.on.items ≡ length l.fn.self.on.items;
  wide : length l.self.on.items ≤ length l.self.seen.items;
}

abbrev pub decreases-loop-place : goal.decreases-loop-place
decreases-loop-place l = length l.self.places
