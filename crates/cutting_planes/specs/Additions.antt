-- Tokens that push, multiply and add; nothing of it has to be believed.
use Rattle.std.specs.Prelude.{◌≡◌, ℕ, ◌<◌, ◌≤◌, int_lt, unsigned_abs, false, List, ◌∷◌, length, slice_index_or, pos, Some}
use Rattle.std.specs.FinMap.{get}
use Rattle.pb_lin.specs.Constraint.{ConstraintValue}
use Rattle.pb_lin.specs.Given.{Given}
use Rattle.cutting_planes.specs.Runs.{LeadsTo}
use Rattle.cutting_planes.specs.declared.token.PolToken.{PolToken}
use Rattle.cutting_planes.specs.declared.token.PolToken.TheVariants.{Id, Negated, Denied, Add, Mul}

-- the token pushes this constraint, which it names
abbrev pub Pushes : Given → PolToken → ConstraintValue → Type 0
Pushes given (Id id) c = get given.lines id ≡ Some c
Pushes given Negated c = given.negated ≡ Some c
Pushes given Denied c = given.denied ≡ Some c
Pushes given token c = ⊥

-- the first n tokens add k times what the first of them pushes
abbrev pub IsAddition : List PolToken → ℕ → ℕ → Type 0
IsAddition (push ∷ Add ∷ tokens) k n = (k ≡ 1) × (n ≡ 2)
IsAddition (push ∷ Mul factor ∷ Add ∷ tokens) k n = (int_lt factor (pos 1) ≡ false) × (k ≡ unsigned_abs factor) × (n ≡ 3)
IsAddition tokens k n = ⊥

-- the first n tokens add k times the constraint
pub record IsAddend (given : Given) (tokens : List PolToken) (c : ConstraintValue) (k n : ℕ) : Type 0 where
  pub pushes : (d : PolToken) → Pushes given (slice_index_or tokens 0 d) c
  pub adds : IsAddition tokens k n

-- the first n tokens make the one constraint of the other, whatever lies below it on the stack
pub record IsSummed (given : Given) (tokens : List PolToken) (old new : ConstraintValue) (n : ℕ) : Type 0 where
  pub some : 0 < n
  pub bound : n ≤ length tokens
  pub leads : (stack : List ConstraintValue) → LeadsTo given tokens (old ∷ stack) n (new ∷ stack)
