-- Hardening: the literals of a problem that may as well be false, and the lines that make them so.
use Rattle.std.specs.Prelude.{ℕ, ◌&&◌, ◌||◌, nat_lt, not, Bool, true, false, if◌then◌else◌, Option, List, [], ◌∷◌, ◌++◌, map}
use Rattle.std.specs.List.{filter, filter_map, find, list_any, range_with_len}
use Rattle.scut_base.specs.Literal.{Literal, is_same}
use Rattle.pb_lin.specs.Constraint.{ConstraintValue, opposite}
use Rattle.pb_lin.specs.Problem.{ProblemValue}
use Rattle.pb_lin.specs.Substitution.{Images}
use Rattle.pb_lin.specs.declared.witness.Image.{Image}
use Rattle.pb_lin.specs.declared.witness.Image.TheVariants.{Zero, One}
use Rattle.cutting_planes.specs.declared.token.PolToken.{PolToken}
use Rattle.cutting_planes.specs.declared.token.PolToken.TheVariants.{Id, Negated, Add}
use Rattle.hint_rup.specs.declared.hint.Hint.TheVariants.{Denied}
use Rattle.proof_laws.specs.State.{numbered}
use Rattle.proof_laws.specs.declared.goal.Goal.{Goal}
use Rattle.proof_laws.specs.declared.goal.Goal.TheVariants.{Row, Strict}
use Rattle.proof_laws.specs.declared.goal.GoalProof.{GoalProof}
use Rattle.proof_laws.specs.declared.goal.GoalProof.TheVariants.{Rup as ByRup, Pol as ByPol}
use Rattle.proof_laws.specs.declared.line.Line.{Line}
use Rattle.proof_laws.specs.declared.line.Line.TheVariants.{Red, Dom}

-- ---- the literals

-- whether the literal stands among the terms
abbrev pub occurs : Literal → List (Literal × ℕ) → Bool
occurs l terms = list_any (λ t. is_same l t.0) terms

abbrev pub in_rows : ProblemValue → Literal → Bool
in_rows p l = list_any (λ c. occurs l c.terms) p.rows

abbrev pub in_costs : ProblemValue → Literal → Bool
in_costs p l = list_any (λ r. occurs l r.terms) p.costs

-- no row wants the literal to be true, and no objective minds that it is false
abbrev pub can_fix : ProblemValue → Literal → Bool
can_fix p l = not (in_rows p l) && not (in_costs p (opposite l))

-- whether it is made false: it can be, and that saves costs or helps a row
abbrev pub is_fixed : ProblemValue → Literal → Bool
is_fixed p l = can_fix p l && (in_costs p l || in_rows p (opposite l))

-- the literal of a variable that is made false, if one is: the positive one goes first
abbrev pub first_fixed : ProblemValue → ℕ → Option Literal
first_fixed p var = find (is_fixed p) (record { var = var; neg = false } ∷ record { var = var; neg = true } ∷ [])

-- the literals that are made false, of the variables from 1 to n
abbrev pub fixed_upto : ProblemValue → ℕ → List Literal
fixed_upto p n = filter_map (first_fixed p) (range_with_len 1 n)

-- all of them, in rising order of their variables
abbrev pub fixed : ProblemValue → List Literal
fixed p = fixed_upto p p.vars

-- ---- the lines

-- the literal is false
abbrev pub fixing : Literal → ConstraintValue
fixing l = record { terms = (opposite l, 1) ∷ []; degree = 1 }

abbrev pub false_image : Bool → Image
false_image true = One
false_image false = Zero

-- the substitution that makes it false
abbrev pub falsified : Literal → Images
falsified l = (l.var, false_image l.neg) ∷ []

-- whether a literal stands among the terms with a coefficient below the degree, so that the constraint says
-- something also where the literal is true
abbrev pub stays_open : Literal → ConstraintValue → Bool
stays_open l c = list_any (λ t. is_same l t.0 && nat_lt t.1 c.degree) c.terms

-- the ids of the rows of which that is so
abbrev pub open_rows : Literal → List (ℕ × ConstraintValue) → List ℕ
open_rows l rows = map (λ e. e.0) (filter (λ e. stays_open l e.1) rows)

-- the row and the negation of what is left of it are contradictory
abbrev pub row_tokens : ℕ → List PolToken
row_tokens id = Id id ∷ Negated ∷ Add ∷ []

abbrev pub row_proof : ℕ → Goal × GoalProof
row_proof id = (Row id, ByPol (row_tokens id))

-- the proofs of the rows in which something is left where the literal is false
abbrev pub row_proofs : Literal → List (ℕ × ConstraintValue) → List (Goal × GoalProof)
row_proofs l rows = map row_proof (open_rows (opposite l) rows)

abbrev pub strict_proof : List (Goal × GoalProof)
strict_proof = (Strict, ByRup (Denied ∷ [])) ∷ []

abbrev pub dom_line : ProblemValue → Literal → Line
dom_line p l = Dom (fixing l) (falsified l) (row_proofs l (numbered 1 p.rows) ++ strict_proof)

abbrev pub red_line : ProblemValue → Literal → Line
red_line p l = Red (fixing l) (falsified l) (row_proofs l (numbered 1 p.rows))

-- the line that makes a literal false: by dominance where it costs something, else by redundance
abbrev pub fixing_line : ProblemValue → Literal → Line
fixing_line p l = if in_costs p l then dom_line p l else red_line p l

-- the lines of all literals that are made false, in their order
abbrev pub hardened : ProblemValue → List Line
hardened p = map (fixing_line p) (fixed p)
