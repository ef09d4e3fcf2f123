-- Objectives whose terms stand in another order.
use Rattle.std.specs.Prelude.{◌≡◌}
use Rattle.std.specs.List.Sorted.{IsPermutation}
use Rattle.totalizer.specs.declared.reform.Reform.{Reform}

-- the same objective, with its terms in some order
pub record IsReordered (old new : Reform) : Type 0 where
  pub offset : new.offset ≡ old.offset
  pub terms : IsPermutation old.terms new.terms
  pub line : new.lower_line ≡ old.lower_line
  pub upper : new.upper_line ≡ old.upper_line
