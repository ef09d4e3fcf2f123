-- The two kinds of lines: clauses, which are watched, and all others, which are counted.
use Rattle.std.specs.Prelude.{◌≡◌, ℕ, Bool, true, false, ◌&&◌, nat_eq, nat_le, List, [], ◌∷◌, length, Some}
use Rattle.std.specs.FinMap.{get}
use Rattle.scut_base.specs.Literal.{Literal}
use Rattle.pb_lin.specs.Constraint.{ConstraintValue}
use Rattle.pb_lin.specs.LineMap.{LineMap}
use Rattle.pb_lin.specs.Propagation.{IsClosedUnder}
use Rattle.clause_prop.specs.Steps.{TrailValue, partial}

-- whether all coefficients are 1
unfoldable pub are_ones : List (Literal × ℕ) → Bool
are_ones [] = true
are_ones (t ∷ terms) = nat_eq t.1 1 && are_ones terms

-- a clause of two literals or more: coefficients 1, degree 1
abbrev pub is_watched : ConstraintValue → Bool
is_watched c = are_ones c.terms && (nat_eq c.degree 1 && nat_le 2 (length c.terms))

-- no clause of two literals or more is violated or forces a literal
abbrev pub IsClosedForWatched : LineMap → TrailValue → Type 0
IsClosedForWatched store t = (id : ℕ) (c : ConstraintValue) → get store id ≡ Some c → is_watched c ≡ true → IsClosedUnder (partial t) c

-- no other line is violated or forces a literal
abbrev pub IsClosedForCounted : LineMap → TrailValue → Type 0
IsClosedForCounted store t = (id : ℕ) (c : ConstraintValue) → get store id ≡ Some c → is_watched c ≡ false → IsClosedUnder (partial t) c
