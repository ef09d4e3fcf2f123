-- Propagation of a list of constraints, each once.
use Rattle.std.specs.Prelude.{◌≡◌, ◌↔◌, ◌-◌, Bool, false, not, Option, Some, List, [], ◌∷◌, fold, slice_set, pos, ◌<ℤ◌, Any, IsTrue}
use Rattle.std.specs.List.{filter, zip}
use Rattle.scut_base.specs.Literal.{Literal}
use Rattle.pb_lin.specs.Constraint.{ConstraintValue, slack}
use Rattle.pb_lin.specs.Propagation.{is_forced}

-- the same with this literal true
abbrev pub with_true : List (Option Bool) → Literal → List (Option Bool)
with_true p l = slice_set p (l.var - 1) (Some (not l.neg))

-- the same with every literal true that the constraint forces
unfoldable pub forced : List (Option Bool) → ConstraintValue → List (Option Bool)
forced p c = fold (λ q t. with_true q t.0) p (filter (is_forced p c) c.terms)

-- what the propagation of a constraint answers: whether it is in conflict, and where not, what stands after it
abbrev pub Propagates : List (Option Bool) → List (Option Bool) → ConstraintValue → Bool → Type 0
Propagates old new c violated = (IsTrue violated ↔ slack old c <ℤ pos 0) × (violated ≡ false → new ≡ forced old c)

-- the same of a constraint that may be missing
abbrev pub PropagatesSome : List (Option Bool) → List (Option Bool) → Option ConstraintValue → Bool → Type 0
PropagatesSome old new line violated = (c : ConstraintValue) × (line ≡ Some c) × Propagates old new c violated

-- the partial assignment before each constraint
abbrev pub partials : List (Option Bool) → List ConstraintValue → List (List (Option Bool))
partials p [] = []
partials p (c ∷ cs) = p ∷ partials (forced p c) cs

-- some constraint has a negative slack under the partial assignment that stands before it
unfoldable pub Conflicts : List (Option Bool) → List ConstraintValue → Type 0
Conflicts p cs = Any (λ x. slack x.0 x.1 <ℤ pos 0) (zip (partials p cs) cs)
