-- When the counters are in step with a store and a trail.
use Rattle.std.specs.Prelude.{◌≡◌, ℕ, Some, List, All, slice_get, ◌<◌, length, nat_eq}
use Rattle.scut_base.specs.LiteralCode.{code_of}
use Rattle.std.specs.Map.{lookup}
use Rattle.pb_lin.specs.Constraint.{ConstraintValue, opposite}
use Rattle.pb_lin.specs.LineMap.{LineMap}
use Rattle.clause_prop.specs.Steps.{TrailValue}
use Rattle.watch_prop.specs.Counting.{AreKept, AreQuiet, IsGone, IsWaiting, coefficient_at, line_at, list_at, listed, no_line}
use Rattle.clause_prop.specs.declared.step.Step.{Step}
use Rattle.watch_prop.specs.declared.counters.Counters.{Counters}

unfoldable pub AreCounters : Counters → LineMap → TrailValue → Type 0
AreCounters w store t = AreKept w.lines.items w.lists (λ id. lookup (nat_eq id) w.slots.entries) w.counted w.ends.items w.fresh.items w.done store t

-- only the sums and how many steps they count have changed
pub record IsOnlyCounted (old new : Counters) : Type 0 where
  pub lists : new.lists ≡ old.lists
  pub ends : new.ends.items ≡ old.ends.items
  pub fresh : new.fresh.items ≡ old.fresh.items
  pub done : new.done ≡ old.done

-- the slot isn't in use; its occurrences are those of the line, and it waits
pub record IsNewSlot (w : Counters) (line : ConstraintValue) (slot : ℕ) : Type 0 where
  pub short : slot < length w.lines.items
  pub dead : line_at w.lines.items slot ≡ no_line
  pub occurs : (code : ℕ) → listed slot (list_at w.lists code) ≡ coefficient_at line.terms code
  pub waits : IsWaiting w.fresh.items w.done slot

-- the lines that have the opposite of the step at this place are quiet
abbrev pub IsQuietStep : Counters → List Step → ℕ → Type 0
IsQuietStep w steps place = (s : Step) → slice_get steps place ≡ Some s → AreQuiet w.lines.items (list_at w.lists (code_of (opposite s.lit)))

-- the lines that have the opposite of the step at this place were gone through
abbrev pub IsGoneStep : Counters → LineMap → TrailValue → ℕ → Type 0
IsGoneStep w store t place = (s : Step) → slice_get t.steps place ≡ Some s → All (λ e. IsGone store t (line_at w.lines.items e.slot)) (list_at w.lists (code_of (opposite s.lit)))
