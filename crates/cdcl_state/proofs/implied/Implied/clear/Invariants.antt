use Rattle.std.proofs.Common.{◌≡◌, ◌⊎◌, ℕ, ◌<◌, None, length}
use Rattle.std.specs.Prelude.{All, Contains, slice_index_or}
use Rattle.cdcl_state.proofs.implied.Implied.clear.Given as goal

abbrev pub invariant-loop-place : goal.invariant-loop-place
invariant-loop-place l = record {
  listed : (p : ℕ) → (slice_index_or l.self.memo.items p None ≡ None) ⊎ Contains l.self.judged p;
  within : All (λ p. p < length l.self.memo.items) l.self.judged;
  room : length l.self.memo.items ≡ length l.fn.self.memo.items;
}

abbrev pub decreases-loop-place : goal.decreases-loop-place
decreases-loop-place l = length l.self.judged
