-- The words of `models IN LIST K BASE`.
use Rattle.std.specs.Prelude.{ℕ, List, codes, Option}
use Rattle.command_check_models.specs.Words.{ModelsAsked, models_asked_by}

-- What the words ask for, of which the first is `models`; nothing where clap, the names or the number refuse them.
abbrev pub models_asked : List (List ℕ) → Option ModelsAsked
models_asked words = models_asked_by (codes "models") words
