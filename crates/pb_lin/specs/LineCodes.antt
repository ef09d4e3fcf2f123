-- What proofs tell maps of constraints apart by: the fields of their constraints; nothing of it has to be believed.
use Rattle.std.specs.Prelude.{ℕ, Bool, List, refl}
use Rattle.std.specs.Coded.{Coded, code_by, coded×, coded_ℕ, coded_bool, coded_list}
use Rattle.std.specs.FinMap.{code}
use Rattle.scut_base.specs.Literal.{Literal}
use Rattle.pb_lin.specs.Constraint.{ConstraintValue}
use Rattle.pb_lin.specs.LineMap.{LineMap}

abbrev coded_literal : Coded Literal
coded_literal = code_by (ℕ × Bool) (coded× coded_ℕ coded_bool) (λ l. (l.var, l.neg)) (λ t. record { var = t.0; neg = t.1 }) (λ _. refl)

abbrev coded_constraint : Coded ConstraintValue
coded_constraint = code_by (List (Literal × ℕ) × ℕ) (coded× (coded_list (coded× coded_literal coded_ℕ)) coded_ℕ) (λ c. (c.terms, c.degree)) (λ t. record { terms = t.0; degree = t.1 }) (λ _. refl)

abbrev pub line_code : Coded LineMap
line_code = code coded_ℕ coded_constraint
