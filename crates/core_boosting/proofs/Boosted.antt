-- Lines that begin with boosted ones, or with ones that end early.
use Rattle.std.proofs.Common.{◌⊎◌, inl, inr, ◌^◌, ◌<◌, List, ◌++◌, ap, ◌∙◌, append_assoc}
use Rattle.pb_lin.specs.Problem.{ProblemValue}
use Rattle.proof_laws.specs.State.{StateValue}
use Rattle.proof_laws.specs.Earned.{HasBoosted, IsBoosted}
use Rattle.proof_laws.specs.declared.line.Line.{Line}
use Rattle.core_boosting.specs.Boosting.{BoostedStays, EndsEarly, IsContradicted}

pub boosted_stays_law : BoostedStays
boosted_stays_law p lines more (before, after, s, is, none, reached, has) = (
  before,
  after ++ more,
  s,
  ap (λ (ls : List Line). ls ++ more) is ∙ append_assoc before after more,
  none,
  reached,
  has,
)

pub early_stays : (p : ProblemValue) (lines more : List Line) → EndsEarly p lines → EndsEarly p (lines ++ more)
early_stays p lines more (before, after, s, is, none, reached, early) = (
  before,
  after ++ more,
  s,
  ap (λ (ls : List Line). ls ++ more) is ∙ append_assoc before after more,
  none,
  reached,
  early,
)

pub early_is_boosted : (p : ProblemValue) (lines : List Line) → EndsEarly p lines → IsBoosted p lines
early_is_boosted p lines (before, after, s, is, none, reached, early) = (before, after, s, is, none, reached, has early)
  where
    has : IsContradicted s ⊎ (2 ^ 40 < s.vars) → HasBoosted p s
    has (inl empty) = inl empty
    has (inr many) = inr (inl many)
