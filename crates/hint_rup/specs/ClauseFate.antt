-- What becomes of a clause under a partial assignment; nothing of it has to be believed.
use Rattle.std.specs.Prelude.{◌≡◌, ◌<◌, ℕ, Bool, Option, List, [], ◌∷◌, sum_by}
use Rattle.std.specs.Option.{is_none}
use Rattle.std.specs.List.{filter}
use Rattle.scut_base.specs.Literal.{Literal}
use Rattle.scut_base.specs.Assignment.{partial_truth}
use Rattle.pb_lin.specs.Constraint.{unless_false}
use Rattle.hint_rup.specs.declared.propagation.Fate.{Fate}
use Rattle.hint_rup.specs.declared.propagation.Fate.TheVariants.{Falsified, Unit, Quiet}

-- how many of the literals aren't false
abbrev pub possible_count : List (Option Bool) → List Literal → ℕ
possible_count p lits = sum_by (λ l. unless_false (partial_truth p l) 1) lits

abbrev pub open_literals : List (Option Bool) → List Literal → List Literal
open_literals p lits = filter (λ l. is_none (partial_truth p l)) lits

-- all are false; only one isn't, and is open; or not all are false, and where only one isn't, none is open
abbrev pub IsFate : List (Option Bool) → List Literal → Fate → Type 0
IsFate p lits Falsified = possible_count p lits ≡ 0
IsFate p lits (Unit l) = (possible_count p lits ≡ 1) × (open_literals p lits ≡ l ∷ [])
IsFate p lits Quiet = (0 < possible_count p lits) × (possible_count p lits ≡ 1 → open_literals p lits ≡ [])
