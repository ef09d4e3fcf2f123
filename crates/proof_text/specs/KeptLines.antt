-- What kept lines stand for.
use Rattle.std.specs.Prelude.{ℕ, zero, suc, pos, ◌/◌, ◌%◌, ◌≡◌, List, map}
use Rattle.scut_base.specs.Literal.{Literal}
use Rattle.scut_base.specs.LiteralCode.{literal_of}
use Rattle.pb_lin.specs.Constraint.{ConstraintValue, ones}
use Rattle.hint_rup.specs.declared.hint.Hint.{Hint}
use Rattle.hint_rup.specs.declared.hint.Hint.TheVariants.{Id, Negated, Denied}
use Rattle.cutting_planes.specs.declared.token.PolToken.{PolToken}
use Rattle.cutting_planes.specs.declared.token.PolToken.TheVariants.{Id as PushId, Axiom, Negated as PushNegated, Add, Mul, Div, Saturate, Weaken}
use Rattle.proof_laws.specs.Refusal.{literals_at}
use Rattle.proof_laws.specs.declared.line.Line.{Line}
use Rattle.proof_laws.specs.declared.line.Line.TheVariants.{Learn, Pol, Rup, Sol}
use Rattle.proof_text.specs.declared.kept_lines.KeptLine.{KeptLine}
use Rattle.proof_text.specs.declared.kept_lines.KeptLine.TheVariants.{Learned, Implied, Combined, Logged, Whole}
use Rattle.proof_text.specs.declared.kept_lines.ShortModel.{ShortModel}
use Rattle.proof_text.specs.declared.kept_lines.ShortProof.{ShortProof}

-- the hint of a number
abbrev pub hint_of : ℕ → Hint
hint_of zero = Negated
hint_of (suc zero) = Denied
hint_of (suc (suc id)) = Id id

-- the clause of these codes
abbrev pub clause_of : List ℕ → ConstraintValue
clause_of codes = record { terms = ones (map literal_of codes); degree = 1 }

-- this goal and these hints are kept so
pub record IsProofOf (goal : ConstraintValue) (hints : List Hint) (kept : ShortProof) : Type 0 where
  pub clause : clause_of kept.codes ≡ goal
  pub proof : map hint_of kept.numbers ≡ hints

-- this model with its cut and rows is kept so
pub record IsModelOf (model cut : List Literal) (rows : List ℕ) (kept : ShortModel) : Type 0 where
  pub lits : literals_at 1 kept.values ≡ model
  pub same_cut : kept.cut ≡ cut
  pub same_rows : kept.rows ≡ rows

-- the token of a kind, with a number
abbrev pub token_by : ℕ → ℕ → PolToken
token_by zero n = PushId n
token_by (suc zero) n = Add
token_by (suc (suc zero)) n = Saturate
token_by (suc (suc (suc zero))) n = Mul (pos n)
token_by (suc (suc (suc (suc zero)))) n = Div (pos n)
token_by (suc (suc (suc (suc (suc zero))))) n = Weaken n
token_by (suc (suc (suc (suc (suc (suc zero)))))) n = Axiom (literal_of n)
token_by (suc (suc (suc (suc (suc (suc (suc more))))))) n = PushNegated

-- the token of a number: the rest by 8 is its kind
abbrev pub token_of : ℕ → PolToken
token_of n = token_by (n % 8) (n / 8)

-- the line that is kept so
abbrev pub line_of : KeptLine → Line
line_of (Learned proof) = Learn (clause_of proof.codes) (map hint_of proof.numbers)
line_of (Implied proof) = Rup (clause_of proof.codes) (map hint_of proof.numbers)
line_of (Combined numbers) = Pol (map token_of numbers)
line_of (Logged model) = Sol (literals_at 1 model.value.values) model.value.cut model.value.rows
line_of (Whole line) = line.value
