-- The lines that hints name, and what is answered for them.
use Rattle.std.specs.Prelude.{◌≡◌, ℕ, Option, Some, None, option_map, List, [], ◌∷◌, All, IfSome, Result, Ok, Err, replicate}
use Rattle.std.specs.Option.{is_none}
use Rattle.std.specs.List.{find}
use Rattle.std.specs.FinMap.{get}
use Rattle.pb_lin.specs.Constraint.{ConstraintValue, UpTo}
use Rattle.pb_lin.specs.Given.{Given}
use Rattle.hint_rup.specs.Propagation.{Conflicts}
use Rattle.hint_rup.specs.declared.hint.Hint.{Hint}
use Rattle.hint_rup.specs.declared.hint.Hint.TheVariants.{Id, Negated, Denied}
use Rattle.hint_rup.specs.declared.hint.RupFault.{RupFault}
use Rattle.hint_rup.specs.declared.hint.RupFault.TheVariants.{NoSuchId, Open}

-- the line that a hint names
abbrev pub line_of : Given → Hint → Option ConstraintValue
line_of given (Id id) = get given.lines id
line_of given Negated = given.negated
line_of given Denied = given.denied

-- the id of a hint, or 0
abbrev pub id_of : Hint → ℕ
id_of (Id id) = id
id_of Negated = 0
id_of Denied = 0

-- a line before others, or nothing where there is none
abbrev pub before : Option ConstraintValue → List ConstraintValue → List ConstraintValue
before None cs = []
before (Some c) cs = c ∷ cs

-- the lines of the hints, up to the first that names none
unfoldable pub named : Given → List Hint → List ConstraintValue
named given [] = []
named given (h ∷ hs) = before (line_of given h) (named given hs)

-- the id of the first hint that names no line
unfoldable pub unnamed : Given → List Hint → Option ℕ
unnamed given hints = option_map id_of (find (λ h. is_none (line_of given h)) hints)

-- no variable of a line that a hint names is above n
abbrev pub HintsUpTo : ℕ → Given → List Hint → Type 0
HintsUpTo n given hints = All (λ h. IfSome (line_of given h) (UpTo n)) hints

-- What is answered: Ok exactly where there is a conflict, and else the id of the first hint that names no line, or Open where there is none.
abbrev pub IsAnswer : {T : Type 0} → Result T RupFault → Type 0 → Option ℕ → Type 0
IsAnswer (Ok x) Conflict first = Conflict
IsAnswer (Err (NoSuchId id)) Conflict first = (Conflict → ⊥) × (first ≡ Some id)
IsAnswer (Err Open) Conflict first = (Conflict → ⊥) × (first ≡ None)

-- the answer for a constraint and then the lines of the hints, from n open variables on
abbrev pub IsReplayed : {T : Type 0} → ℕ → ConstraintValue → Given → List Hint → Result T RupFault → Type 0
IsReplayed n first given hints result = IsAnswer result (Conflicts (replicate n None) (first ∷ named given hints)) (unnamed given hints)
