-- Which limits stand in a core.
use Rattle.std.specs.Prelude.{◌≡◌, ◌≢◌, ℕ, ◌-◌, Bool, true, false, List, [], ◌∷◌, ◌++◌, length, map, replicate}
use Rattle.scut_base.specs.Literal.{Literal}
use Rattle.pb_lin.specs.Constraint.{opposite}
use Rattle.pb_lin.specs.Restriction.{is_among}
use Rattle.totalizer.specs.declared.bound.Bound.{Bound}
use Rattle.totalizer.specs.declared.bound.Bound.TheVariants.{Always, Never, At}
use Rattle.relaxations.specs.declared.below.Below.{Below}
use Rattle.relaxations.specs.declared.below.Below.TheVariants.{Model, End, Above}

-- whether the limit of this excess stands in a core of these literals
abbrev pub stands_in : Bound → List Literal → Bool
stands_in (Always id) core = true
stands_in Never core = false
stands_in (At l id) core = is_among core (opposite l)

-- the same for each of n objectives; those that weren't asked for don't
abbrev pub are_standing : List Bound → List Literal → ℕ → List Bool
are_standing excesses core n = map (λ b. stands_in b core) excesses ++ replicate (n - length excesses) false

-- the literals of a clash: the last bound's, and its opposite
abbrev pub clash_in : Bound → List Literal
clash_in (At l id) = l ∷ opposite l ∷ []
clash_in bound = []

-- an empty core leaves nothing, and another one has these limits in it
abbrev pub IsToldByCore : List Bound → List Literal → ℕ → ℕ → Below → Type 0
IsToldByCore excesses core id n (Model x) = ⊥
IsToldByCore excesses core id n (End end) = (core ≡ []) × (end ≡ id)
IsToldByCore excesses core id n (Above stands) = (core ≢ []) × (stands ≡ are_standing excesses core n)
