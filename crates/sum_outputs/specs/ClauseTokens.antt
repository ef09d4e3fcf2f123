-- The tokens of a totalizer's clauses.
use Rattle.std.specs.Prelude.{ℕ, ◌==◌, nat_lt, not, if◌then◌else◌, List, [], ◌∷◌, ◌++◌, map, pos}
use Rattle.std.specs.List.{filter}
use Rattle.scut_base.specs.Literal.{Literal}
use Rattle.cutting_planes.specs.declared.token.PolToken.{PolToken}
use Rattle.cutting_planes.specs.declared.token.PolToken.TheVariants.{Id, Add, Div, Saturate, Weaken}

-- lines added to what is there
abbrev pub added : List ℕ → List PolToken
added [] = []
added (id ∷ ids) = Id id ∷ Add ∷ added ids

-- lines that are summed
abbrev pub summed : List ℕ → List PolToken
summed [] = []
summed (id ∷ ids) = Id id ∷ added ids

-- variables that are weakened
abbrev pub weakens : List (Literal × ℕ) → List PolToken
weakens terms = map (λ t. Weaken t.0.var) terms

-- a clause is made of what has this degree
abbrev pub cuts : ℕ → List PolToken
cuts degree = Saturate ∷ (if nat_lt 1 degree then Div (pos degree) ∷ [] else [])

-- the ids that aren't 0
abbrev pub named : List ℕ → List ℕ
named ids = filter (λ id. not (id == 0)) ids

-- the lines are summed, variables are weakened, and a clause is made of what is left
abbrev pub clause_tokens : List ℕ → ℕ → List (Literal × ℕ) → ℕ → List PolToken
clause_tokens lowers upper weakened degree = summed (named lowers ++ upper ∷ []) ++ (weakens weakened ++ cuts degree)
