-- The cost box: all vectors between each objective's least and greatest sum. A vector is uncovered where no logged one
-- is below it.
use Rattle.std.specs.Prelude.{ℕ, ◌+◌, not, Bool, List, [], ◌∷◌, map, ℤ, pos, ◌+ℤ◌}
use Rattle.std.specs.List.{count_by, flat_map, list_any, range_with_len}
use Rattle.front_set.specs.Vector.{is_below}
use Rattle.pb_lin.specs.Constraint.{total}
use Rattle.pb_lin.specs.CostRow.{CostRowValue}
use Rattle.pb_lin.specs.Problem.{ProblemValue}
use Rattle.proof_laws.specs.declared.line.Line.{Line}
use Rattle.search_base.specs.Logged.{logged}

-- the whole numbers from an objective's offset to its greatest sum
abbrev pub values_of : CostRowValue → List ℤ
values_of r = map (λ k. pos k +ℤ r.offset) (range_with_len 0 (total r.terms + 1))

abbrev pub cost_box : List CostRowValue → List (List ℤ)
cost_box [] = [] ∷ []
cost_box (r ∷ rows) = flat_map (λ x. map (λ v. x ∷ v) (cost_box rows)) (values_of r)

abbrev pub is_covered : List (List ℤ) → List ℤ → Bool
is_covered vectors v = list_any (λ u. is_below u v) vectors

-- how many vectors of the cost box are uncovered
abbrev pub uncovered : ProblemValue → List Line → ℕ
uncovered p lines = count_by (λ v. not (is_covered (logged p lines) v)) (cost_box p.costs)
