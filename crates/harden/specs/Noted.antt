-- Where each literal of a problem occurs, in a table with a place for each literal.
use Rattle.std.specs.Prelude.{◌≡◌, ℕ, ◌+◌, ◌*◌, ◌<◌, ◌||◌, Bool, true, false, if◌then◌else◌, List, [], ◌∷◌, ◌++◌, length, slice_index_or, All}
use Rattle.std.specs.List.{list_any}
use Rattle.scut_base.specs.Literal.{Literal}
use Rattle.scut_base.specs.LiteralCode.{code_of}
use Rattle.pb_lin.specs.Constraint.{ConstraintValue}
use Rattle.pb_lin.specs.CostRow.{CostRowValue}
use Rattle.pb_lin.specs.Problem.{ProblemValue}
use Rattle.proof_laws.specs.State.{numbered}
use Rattle.harden.specs.Hardened.{occurs, open_rows, stays_open}
use Rattle.harden.specs.declared.occurrence.Occurrence.{Occurrence}

-- of a literal that is nowhere
abbrev pub no_occurrence : Occurrence
no_occurrence = record { in_rows = false; in_costs = false; open_rows = [] }

-- what the table says of a literal
abbrev pub occurrence_at : List Occurrence → Literal → Occurrence
occurrence_at table l = slice_index_or table (code_of l) no_occurrence

-- what there is to say of it in these rows and objectives
abbrev pub occurrence_in : List ConstraintValue → List CostRowValue → Literal → Occurrence
occurrence_in rows costs l = record {
  in_rows = list_any (λ c. occurs l c.terms) rows;
  in_costs = list_any (λ r. occurs l r.terms) costs;
  open_rows = open_rows l (numbered 1 rows);
}

-- the table has a place for each literal of n variables
abbrev pub HasPlaces : ℕ → List Occurrence → Type 0
HasPlaces n table = length table ≡ 2 * n + 2

-- a table of so many places has one for each of these terms
abbrev pub AreWithin : ℕ → List (Literal × ℕ) → Type 0
AreWithin places terms = All (λ t. code_of t.0 < places) terms

-- each literal with where it occurs
pub record AreNoted (p : ProblemValue) (table : List Occurrence) : Type 0 where
  pub places : HasPlaces p.vars table
  pub each : (l : Literal) → occurrence_at table l ≡ occurrence_in p.rows p.costs l

-- ---- one more

-- a row that stays open is named
abbrev pub named_if : Bool → ℕ → List ℕ
named_if left id = if left then id ∷ [] else []

-- the literal stands in a row, of this id
abbrev pub in_row : Bool → ℕ → Occurrence → Occurrence
in_row left id o = record o { in_rows = true; open_rows = o.open_rows ++ named_if left id }

-- what a row adds of a literal
abbrev pub with_row : ConstraintValue → ℕ → Literal → Occurrence → Occurrence
with_row c id l o = record o { in_rows = o.in_rows || occurs l c.terms; open_rows = o.open_rows ++ named_if (stays_open l c) id }

-- what the terms of an objective add of a literal
abbrev pub with_cost : List (Literal × ℕ) → Literal → Occurrence → Occurrence
with_cost terms l o = record o { in_costs = o.in_costs || occurs l terms }

-- what objectives add of it
abbrev pub with_costs : List CostRowValue → Literal → Occurrence → Occurrence
with_costs costs l o = record o { in_costs = o.in_costs || list_any (λ r. occurs l r.terms) costs }
