-- Outputs that were made for bounds of objectives.
use Rattle.std.specs.Prelude.{◌≡◌, ℕ, ℤ, pos, ◌+ℤ◌}
use Rattle.sum_outputs.specs.declared.sum_output.SumOutput.{SumOutput}
use Rattle.totalizer.specs.Knowing.{IsMadeFor, IsUnmade}
use Rattle.search_base.specs.declared.objective_bound.ObjectiveBound.{ObjectiveBound}

-- the output stands for "the reform is at least value": its sum is the least that makes it so
abbrev pub IsMadeAt : ObjectiveBound → ℤ → SumOutput → Type 0
IsMadeAt b value o = (k : ℕ) × (value ≡ pos k +ℤ b.reform.offset) × IsMadeFor b.totalizer k o

-- no output that was made does
abbrev pub IsUnmadeAt : ObjectiveBound → ℤ → Type 0
IsUnmadeAt b value = (k : ℕ) → value ≡ pos k +ℤ b.reform.offset → IsUnmade b.totalizer k
