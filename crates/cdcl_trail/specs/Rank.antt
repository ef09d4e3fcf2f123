-- The steps of a trail, level by level, as one number: why a search returns.
use Rattle.std.specs.Prelude.{ℕ, ◌+◌, ◌*◌, ◌-◌, ◌^◌, sum_by}
use Rattle.clause_prop.specs.Steps.{TrailValue}
use Rattle.clause_prop.specs.declared.step.Step.{Step}

-- what a step counts: more than all that can stand above its level
abbrev pub weight : ℕ → Step → ℕ
weight n s = (n + 1) ^ (n - s.level)

-- the numbers of steps per level, from level 0 on, as the digits of a number in base n + 1
unfoldable pub rank : TrailValue → ℕ
rank t = sum_by (weight t.vars) t.steps

-- no trail over n variables has a greater rank
abbrev pub rank_limit : ℕ → ℕ
rank_limit n = (n + 1) ^ (n + 1)

-- what a search may still do: restarts first, and between them rising ranks
unfoldable pub rest : ℕ → TrailValue → ℕ
rest restarts_left t = restarts_left * (rank_limit t.vars + 1) + (rank_limit t.vars - rank t)
