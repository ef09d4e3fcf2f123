-- The search for steps that marked ones imply: its memo and its stack.
use Rattle.std.specs.Prelude.{◌≡◌, ℕ, ◌+◌, ◌*◌, ◌<◌, ◌≤◌, ◌⊎◌, None, [], length, slice_index_or, All, Contains}
use Rattle.cdcl_state.specs.declared.implied.Implied.{Implied}
use Rattle.cdcl_state.specs.declared.implied.Verdict.{Verdict}
use Rattle.cdcl_state.specs.declared.implied.Verdict.TheVariants.{Implied as IsImplied, Free, Unknown}

-- nothing is known
pub record IsIdle (m : Implied) : Type 0 where
  pub unjudged : (p : ℕ) → slice_index_or m.memo.items p None ≡ None
  pub judged : m.judged ≡ []
  pub stack : m.stack ≡ []
  pub places : m.places ≡ []

-- what is known is listed, and all places are of the first n
pub record IsBusy (n : ℕ) (m : Implied) : Type 0 where
  pub listed : (p : ℕ) → (slice_index_or m.memo.items p None ≡ None) ⊎ Contains m.judged p
  pub judged : All (λ p. p < n) m.judged
  pub stack : All (λ v. v.place < n) m.stack
  pub places : All (λ p. p < n) m.places
  pub long : n ≤ length m.memo.items

-- a verdict that speaks of one of the first n places, where of one
abbrev pub IsVerdict : ℕ → Verdict → Type 0
IsVerdict n IsImplied = Unit {0}
IsVerdict n Free = Unit {0}
IsVerdict n (Unknown place) = place < n

-- what the search may still do, where `left` steps more may be read
abbrev pub effort : ℕ → Implied → ℕ
effort left m = 2 * left + length m.stack
