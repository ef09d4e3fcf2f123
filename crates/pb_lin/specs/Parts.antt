-- The parts of a constraint, and how they are stored; nothing of it has to be believed.
use Rattle.std.specs.Prelude.{ℕ, ◌+◌, ◌*◌, ◌^◌, ◌≤◌, List, [], take}
use Rattle.scut_base.specs.Literal.{Literal}
use Rattle.pb_lin.specs.declared.parts.Kind.{Kind}
use Rattle.pb_lin.specs.declared.parts.Kind.TheVariants.{Short, Ones, Mixed}

pub record PartsValue : Type 0 where
  pub lits : List Literal
  pub coefs : List ℕ
  pub degree : ℕ

-- the first literals and a degree of 1, or no coefficients and a degree in two halves, or all as they are
abbrev pub parts_of : Kind → PartsValue
parts_of (Short len lits) = record { lits = take len lits; coefs = []; degree = 1 }
parts_of (Ones lits low high) = record { lits = lits; coefs = []; degree = high * 2 ^ 64 + low }
parts_of (Mixed lits weights) = record { lits = lits; coefs = weights.value.coefs; degree = weights.value.degree }

-- a short clause has no more literals than there is room for
abbrev pub IsInRoom : Kind → Type 0
IsInRoom (Short len lits) = len ≤ 4
IsInRoom (Ones lits low high) = Unit {0}
IsInRoom (Mixed lits weights) = Unit {0}
