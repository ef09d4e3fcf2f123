-- A constraint with some literals true.
use Rattle.std.specs.Prelude.{ℕ, ◌-◌, ◌==◌, ◌&&◌, Bool, not, if◌then◌else◌, List, sum_by}
use Rattle.std.proofs.Math.Bool.{beq}
use Rattle.std.specs.List.{filter, list_any}
use Rattle.scut_base.specs.Literal.{Literal}
use Rattle.pb_lin.specs.Constraint.{ConstraintValue}

-- whether one of the literals is of this variable
abbrev pub is_set : List Literal → ℕ → Bool
is_set truths var = list_any (λ l. l.var == var) truths

-- whether this is one of the literals
abbrev pub is_among : List Literal → Literal → Bool
is_among truths l = list_any (λ m. m.var == l.var && beq m.neg l.neg) truths

-- the coefficient where the literal is one of those, and else 0
abbrev pub met_value : List Literal → Literal × ℕ → ℕ
met_value truths t = if is_among truths t.0 then t.1 else 0

-- the terms of the other variables; the degree is lowered by the coefficients that are met, to no less than 0
abbrev pub restriction : ConstraintValue → List Literal → ConstraintValue
restriction c truths = record { terms = filter (λ t. not (is_set truths t.0.var)) c.terms; degree = c.degree - sum_by (met_value truths) c.terms }
