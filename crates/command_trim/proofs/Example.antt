-- The worked row of the trimmer, computed.
use Rattle.std.specs.Prelude.{◌≡◌, ℕ, Bool, true, false, List, [], ◌∷◌, pos, refl}
use Rattle.scut_base.specs.Literal.{Literal}
use Rattle.pb_lin.specs.Constraint.{ConstraintValue}
use Rattle.pb_lin.specs.Problem.{ProblemValue}
use Rattle.cutting_planes.specs.declared.token.PolToken.TheVariants.{Id as IdToken, Axiom, Add, Mul}
use Rattle.hint_rup.specs.declared.hint.Hint.TheVariants.{Id as IdHint}
use Rattle.proof_laws.specs.declared.line.Line.{Line}
use Rattle.proof_laws.specs.declared.line.Line.TheVariants.{Pol, Rup, Sol, Del, End}
use Rattle.command_trim.specs.Trimmed.{needed_ids, needed, kept_lines, trimmed}

abbrev lit : ℕ → Bool → Literal
lit v n = record { var = v; neg = n }

abbrev problem : ProblemValue
problem = record { vars = 2; rows = record { terms = (lit 1 false, 1) ∷ (lit 2 false, 1) ∷ []; degree = 1 } ∷ []; costs = [] }

abbrev never : ConstraintValue
never = record { terms = []; degree = 1 }

abbrev first : Line
first = Sol (lit 1 true ∷ lit 2 false ∷ []) (lit 2 true ∷ []) (0 ∷ 0 ∷ [])

abbrev second : Line
second = Sol (lit 1 false ∷ lit 2 true ∷ []) (lit 1 true ∷ []) (0 ∷ 0 ∷ [])

abbrev long : List Line
long =
    Pol (IdToken 1 ∷ Mul (pos 2) ∷ []) ∷ first ∷ Pol (IdToken 3 ∷ Axiom (lit 1 false) ∷ Add ∷ []) ∷ Del (2 ∷ 4 ∷ []) ∷ second
    ∷ Rup never (IdHint 3 ∷ IdHint 5 ∷ IdHint 1 ∷ []) ∷ End 6 ∷ []

abbrev short : List Line
short = first ∷ second ∷ Rup never (IdHint 2 ∷ IdHint 3 ∷ IdHint 1 ∷ []) ∷ End 4 ∷ []

pub worked_row : trimmed problem long ≡ short
unfolding needed_ids needed kept_lines
worked_row = refl
