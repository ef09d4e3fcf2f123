-- The kinds of lines, and what the reader of each answers. No public contract stands on it.
use Rattle.std.specs.Prelude.{◌≡◌, ℕ, ◌+◌, ◌≤◌, ◌^◌, List, [], ◌∷◌, map, All, codes, Result, Ok, Err}
use Rattle.std.specs.List.{flat_map}
use Rattle.proof_lines.specs.Ids.{deleted_words, id_word, piece_word, spelled_pieces}
use Rattle.scut_base.specs.Literal.{Literal}
use Rattle.pb_lin.specs.Constraint.{ConstraintValue}
use Rattle.pb_lin.specs.Substitution.{Images}
use Rattle.cutting_planes.specs.declared.token.PolToken.{PolToken}
use Rattle.hint_rup.specs.declared.hint.Hint.{Hint}
use Rattle.proof_laws.specs.declared.goal.Goal.{Goal}
use Rattle.proof_laws.specs.declared.goal.GoalProof.{GoalProof}
use Rattle.proof_laws.specs.declared.line.Line.{Line}
use Rattle.proof_laws.specs.WellFormed.{AreTokens, AreRisingIds, AreRisingLiterals, AreProofs, IsConstraint, IsHint, IsId, IsSubstitution, IsVariable, IsWellFormed}
use Rattle.proof_lines.specs.LineText.{token_words, hinted_words, witnessed_words, line_words}
use Rattle.proof_lines.specs.Spaces.{definition_words, solution_words}
use Rattle.proof_lines.specs.declared.kind.Kind.{Kind}
use Rattle.proof_lines.specs.declared.kind.Kind.TheVariants.{Pol, Rup, Learn, Def, Red, Dom, Sol, Del, Reduce, End}
use Rattle.proof_lines.specs.declared.reader.LineFault.{LineFault}
use Rattle.proof_lines.specs.declared.reader.LineFault.TheVariants.{Syntax, NoMemory}
use Rattle.proof_lines.specs.declared.spelling.Spelling.{Spelling}
use Rattle.proof_lines.specs.declared.spelling.Spelling.TheVariants.{Plain, Relative}

-- the word that lines of a kind begin with
abbrev pub word_of : Kind → List ℕ
word_of Pol = codes "pol"
word_of Rup = codes "rup"
word_of Learn = codes "learn"
word_of Def = codes "def"
word_of Red = codes "red"
word_of Dom = codes "dom"
word_of Sol = codes "sol"
word_of Del = codes "del"
word_of Reduce = codes "reduce"
word_of End = codes "end"

-- ---- words that are no line's after its first

abbrev pub NoIds : Spelling → List (List ℕ) → Type 0
NoIds spelling words = (ids : List ℕ) → AreRisingIds ids → words ≡ deleted_words spelling ids → ⊥

abbrev pub NoHinted : Spelling → List (List ℕ) → Type 0
NoHinted spelling words = (goal : ConstraintValue) (hints : List Hint) → IsConstraint goal → All IsHint hints → words ≡ hinted_words spelling goal hints → ⊥

abbrev pub NoWitnessed : Spelling → List (List ℕ) → Type 0
NoWitnessed spelling words = (goal : ConstraintValue) (witness : Images) (proofs : List (Goal × GoalProof)) → IsConstraint goal → IsSubstitution witness → AreProofs proofs → words ≡ witnessed_words spelling goal witness proofs → ⊥

-- the words are those of no line of a kind, after its first word
abbrev pub IsNoBody : Spelling → Kind → List (List ℕ) → Type 0
IsNoBody spelling Pol words = (tokens : List PolToken) → AreTokens tokens → words ≡ flat_map (token_words spelling) tokens → ⊥
IsNoBody spelling Rup words = NoHinted spelling words
IsNoBody spelling Learn words = NoHinted spelling words
IsNoBody spelling Def words = (var : ℕ) (sum : ConstraintValue) → IsVariable var → IsConstraint sum → words ≡ definition_words var sum → ⊥
IsNoBody spelling Red words = NoWitnessed spelling words
IsNoBody spelling Dom words = NoWitnessed spelling words
IsNoBody spelling Sol words = (model cut : List Literal) (rows : List ℕ) → All (λ l. IsVariable l.var) model → AreRisingLiterals cut → All IsId rows → words ≡ solution_words spelling model cut rows → ⊥
IsNoBody spelling Del words = NoIds spelling words
IsNoBody spelling Reduce words = NoIds spelling words
IsNoBody spelling End words = (id : ℕ) → IsId id → words ≡ id_word spelling id ∷ [] → ⊥

-- the line of a kind whose words after its first these are
abbrev pub ReadsBody : Spelling → Kind → List (List ℕ) → Result Line LineFault → Type 0
ReadsBody spelling kind words (Ok line) = IsWellFormed line × (word_of kind ∷ words ≡ line_words spelling line)
ReadsBody spelling kind words (Err Syntax) = IsNoBody spelling kind words
ReadsBody spelling kind words (Err NoMemory) = Unit {0}

-- ---- words that several kinds have

abbrev pub ReadsHinted : Spelling → List (List ℕ) → Result (ConstraintValue × List Hint) LineFault → Type 0
ReadsHinted spelling words (Ok p) = IsConstraint p.0 × All IsHint p.1 × (words ≡ hinted_words spelling p.0 p.1)
ReadsHinted spelling words (Err Syntax) = NoHinted spelling words
ReadsHinted spelling words (Err NoMemory) = Unit {0}

-- one id after another, which rise
abbrev pub ReadsIds : Spelling → List (List ℕ) → Result (List ℕ) LineFault → Type 0
ReadsIds spelling words (Ok ids) = AreRisingIds ids × (words ≡ deleted_words spelling ids)
ReadsIds spelling words (Err Syntax) = NoIds spelling words
ReadsIds spelling words (Err NoMemory) = Unit {0}

-- the same where ids that follow one another are cut into runs
abbrev pub ReadsRuns : Spelling → List (List ℕ) → Result (List ℕ) LineFault → Type 0
ReadsRuns spelling words (Ok ids) = AreRisingIds ids × (words ≡ map (piece_word spelling) (spelled_pieces ids))
ReadsRuns spelling words (Err Syntax) = (ids : List ℕ) → AreRisingIds ids → words ≡ map (piece_word spelling) (spelled_pieces ids) → ⊥
ReadsRuns spelling words (Err NoMemory) = Unit {0}

-- ---- ids that lines of a kind make

abbrev pub made_by : Kind → ℕ
made_by Def = 2
made_by Del = 0
made_by Reduce = 0
made_by End = 0
made_by kind = 1

-- they are below 2^63, where ids are counted
abbrev pub HasRoom : Spelling → Kind → Type 0
HasRoom Plain kind = Unit {0}
HasRoom (Relative rows next) kind = next + made_by kind ≤ 2 ^ 63
