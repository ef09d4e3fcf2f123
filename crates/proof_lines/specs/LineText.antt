-- The text of a line of a log: words with one space between each two. Its ids are spelled as the log's version asks.
use Rattle.std.specs.Prelude.{◌≡◌, ℕ, if◌then◌else◌, List, [], ◌∷◌, ◌++◌, map, codes}
use Rattle.std.specs.List.{flat_map}
use Rattle.std.specs.Fmt.{decimal, signed_decimal}
use Rattle.scut_base.specs.Bytes.{newline, space}
use Rattle.scut_base.specs.Literal.{Literal}
use Rattle.pb_lin.specs.Constraint.{ConstraintValue}
use Rattle.pb_lin.specs.declared.witness.Image.{Image}
use Rattle.pb_lin.specs.declared.witness.Image.TheVariants.{Zero, One, Lit}
use Rattle.cutting_planes.specs.declared.token.PolToken.{PolToken}
use Rattle.cutting_planes.specs.declared.token.PolToken.TheVariants.{Id as IdToken, Axiom, Negated as NegatedToken, Denied as DeniedToken, Add, Mul, Div, Saturate, Weaken}
use Rattle.hint_rup.specs.declared.hint.Hint.{Hint}
use Rattle.hint_rup.specs.declared.hint.Hint.TheVariants.{Id as IdHint, Negated as NegatedHint, Denied as DeniedHint}
use Rattle.proof_laws.specs.declared.goal.Goal.{Goal}
use Rattle.proof_laws.specs.declared.goal.Goal.TheVariants.{Row, Itself, Objective, Strict}
use Rattle.proof_laws.specs.declared.goal.GoalProof.{GoalProof}
use Rattle.proof_laws.specs.declared.goal.GoalProof.TheVariants.{Rup as ByRup, Pol as ByPol}
use Rattle.proof_laws.specs.declared.line.Line.{Line}
use Rattle.proof_laws.specs.declared.line.Line.TheVariants.{Pol, Rup, Learn, Def, Red, Dom, Sol, Del, Reduce, End}
use Rattle.proof_laws.specs.WellFormed.{IsWellFormed}
use Rattle.proof_lines.specs.declared.spelling.Spelling.{Spelling}
use Rattle.proof_lines.specs.Ids.{FitsNext, deleted_words, id_word}

-- ---- words

-- `x3`
abbrev pub variable_word : ℕ → List ℕ
variable_word var = codes "x" ++ decimal var

-- `x3` or `~x3`
abbrev pub literal_word : Literal → List ℕ
literal_word l = if l.neg then codes "~" ++ variable_word l.var else variable_word l.var

-- `2 x1 1 ~x3 >= 2`
abbrev pub constraint_words : ConstraintValue → List (List ℕ)
constraint_words c = flat_map (λ t. decimal t.1 ∷ literal_word t.0 ∷ []) c.terms ++ codes ">=" ∷ decimal c.degree ∷ []

abbrev pub token_words : Spelling → PolToken → List (List ℕ)
token_words spelling (IdToken id) = id_word spelling id ∷ []
token_words spelling (Axiom l) = literal_word l ∷ []
token_words spelling NegatedToken = codes "~" ∷ []
token_words spelling DeniedToken = codes "!" ∷ []
token_words spelling Add = codes "+" ∷ []
token_words spelling (Mul k) = signed_decimal k ∷ codes "*" ∷ []
token_words spelling (Div k) = signed_decimal k ∷ codes "d" ∷ []
token_words spelling Saturate = codes "s" ∷ []
token_words spelling (Weaken var) = variable_word var ∷ codes "w" ∷ []

abbrev pub hint_word : Spelling → Hint → List ℕ
hint_word spelling (IdHint id) = id_word spelling id
hint_word spelling NegatedHint = codes "~"
hint_word spelling DeniedHint = codes "!"

abbrev pub image_word : Image → List ℕ
image_word Zero = codes "0"
image_word One = codes "1"
image_word (Lit l) = literal_word l

-- `x1 0`
abbrev pub image_words : ℕ × Image → List (List ℕ)
image_words i = variable_word i.0 ∷ image_word i.1 ∷ []

abbrev pub goal_word : Spelling → Goal → List ℕ
goal_word spelling (Row id) = id_word spelling id
goal_word spelling Itself = codes "c"
goal_word spelling (Objective i) = codes "o" ++ decimal i
goal_word spelling Strict = codes "s"

abbrev pub proof_words : Spelling → GoalProof → List (List ℕ)
proof_words spelling (ByRup hints) = codes "rup" ∷ map (hint_word spelling) hints
proof_words spelling (ByPol tokens) = codes "pol" ∷ flat_map (token_words spelling) tokens

-- `: o1 pol 1 ~ +`
abbrev pub goal_words : Spelling → Goal × GoalProof → List (List ℕ)
goal_words spelling q = codes ":" ∷ goal_word spelling q.0 ∷ proof_words spelling q.1

-- the words of a constraint, and of the hints that lead to it
abbrev pub hinted_words : Spelling → ConstraintValue → List Hint → List (List ℕ)
hinted_words spelling goal hints = constraint_words goal ++ codes ":" ∷ map (hint_word spelling) hints

-- the words of a constraint, of a witness, and of the proofs of goals
abbrev pub witnessed_words : Spelling → ConstraintValue → List (ℕ × Image) → List (Goal × GoalProof) → List (List ℕ)
witnessed_words spelling goal witness proofs = constraint_words goal ++ codes ":" ∷ flat_map image_words witness ++ flat_map (goal_words spelling) proofs

-- ---- lines

abbrev pub line_words : Spelling → Line → List (List ℕ)
line_words spelling (Pol tokens) = codes "pol" ∷ flat_map (token_words spelling) tokens
line_words spelling (Rup goal hints) = codes "rup" ∷ hinted_words spelling goal hints
line_words spelling (Learn goal hints) = codes "learn" ∷ hinted_words spelling goal hints
line_words spelling (Def var sum) = codes "def" ∷ variable_word var ∷ codes ":" ∷ constraint_words sum
line_words spelling (Red goal witness proofs) = codes "red" ∷ witnessed_words spelling goal witness proofs
line_words spelling (Dom goal witness proofs) = codes "dom" ∷ witnessed_words spelling goal witness proofs
line_words spelling (Sol model cut rows) = codes "sol" ∷ map literal_word model ++ codes ":" ∷ map literal_word cut ++ codes ":" ∷ map (id_word spelling) rows
line_words spelling (Del ids) = codes "del" ∷ deleted_words spelling ids
line_words spelling (Reduce ids) = codes "reduce" ∷ deleted_words spelling ids
line_words spelling (End id) = codes "end" ∷ id_word spelling id ∷ []

-- words with one space between each two
abbrev pub spaced : List (List ℕ) → List ℕ
spaced [] = []
spaced (word ∷ words) = word ++ flat_map (λ w. space ∷ w) words

-- the text of a line, without its line feed
abbrev pub line_text : Spelling → Line → List ℕ
line_text spelling line = spaced (line_words spelling line)

-- the text is that of this line, which makes no id that is too large for the spelling
pub record SpellsLine (spelling : Spelling) (text : List ℕ) (line : Line) : Type 0 where
  pub formed : IsWellFormed line
  pub fits : FitsNext spelling line
  pub is : text ≡ line_text spelling line

-- no line has this text
abbrev pub SpellsNoLine : Spelling → List ℕ → Type 0
SpellsNoLine spelling text = (line : Line) → SpellsLine spelling text line → ⊥

-- the text of a line with its line feed
abbrev pub printed : Spelling → Line → List ℕ
printed spelling line = line_text spelling line ++ newline ∷ []
