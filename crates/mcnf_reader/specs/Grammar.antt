-- Which text spells which instance. Each line spells a statement; the statements of all lines make the instance.
use Rattle.std.specs.Prelude.{◌≡◌, ℕ, ◌<◌, ◌==◌, max, if◌then◌else◌, List, [], ◌∷◌, ◌++◌, map, drop, slice_index, codes, pos}
use Rattle.std.specs.List.{AllZip, range_with_len}
use Rattle.std.specs.Str.Parse.{starts_with_minus}
use Rattle.scut_base.specs.Literal.{Literal}
use Rattle.scut_base.specs.Number.{IsNatural, natural_value, IsInteger, magnitude_text}
use Rattle.instance.specs.declared.objective.Soft.{Soft}
use Rattle.instance.specs.declared.objective.Objective.{Objective}
use Rattle.instance.specs.declared.objective.Sense.TheVariants.{Min}
use Rattle.instance.specs.Shape.{InstanceValue, IsWithinLimits}
use Rattle.mcnf_reader.specs.declared.statement.Statement.{Statement}
use Rattle.mcnf_reader.specs.declared.statement.Statement.TheVariants.{Nothing, Hard, Soft as SoftIn}
use Rattle.mcnf_reader.specs.Words.{letter_c, letter_o, lines_of, words_of}

-- a number above 0, or a minus and a number above 0
pub record SpellsLiteral (word : List ℕ) (l : Literal) : Type 0 where
  pub number : IsInteger word
  pub variable : natural_value (magnitude_text word) ≡ l.var
  pub sign : starts_with_minus word ≡ l.neg
  pub positive : 0 < l.var

-- the terminator: digits of value 0
abbrev pub SpellsZero : List ℕ → Type 0
SpellsZero word = IsNatural word × (natural_value word ≡ 0)

-- literals, and then the terminator
abbrev pub SpellsClause : List (List ℕ) → List Literal → Type 0
SpellsClause [] lits = ⊥
SpellsClause (word ∷ []) [] = SpellsZero word
SpellsClause (word ∷ words) [] = ⊥
SpellsClause (word ∷ words) (l ∷ lits) = SpellsLiteral word l × SpellsClause words lits

-- an `o` and the number of an objective, from 1
pub record SpellsObjective (word : List ℕ) (objective : ℕ) : Type 0 where
  pub letter : slice_index word 0 ≡ letter_o
  pub number : IsNatural (drop 1 word)
  pub value : natural_value (drop 1 word) ≡ objective
  pub positive : 0 < objective

-- a weight: digits alone
abbrev pub SpellsWeight : List ℕ → ℕ → Type 0
SpellsWeight word weight = IsNatural word × (natural_value word ≡ weight)

-- no words, or a first word that begins with `c`
abbrev pub IsIgnored : List (List ℕ) → Type 0
IsIgnored [] = Unit {0}
IsIgnored (word ∷ words) = slice_index word 0 ≡ letter_c

-- which words spell which statement
abbrev pub SpellsStatement : List (List ℕ) → Statement → Type 0
SpellsStatement words Nothing = IsIgnored words
SpellsStatement (word ∷ words) (Hard lits) = (word ≡ codes "h") × SpellsClause words lits
SpellsStatement [] (Hard lits) = ⊥
SpellsStatement (first ∷ second ∷ words) (SoftIn objective weight lits) = SpellsObjective first objective × SpellsWeight second weight × SpellsClause words lits
SpellsStatement (first ∷ []) (SoftIn objective weight lits) = ⊥
SpellsStatement [] (SoftIn objective weight lits) = ⊥

-- the literals that a statement writes
abbrev pub literals_of : Statement → List Literal
literals_of Nothing = []
literals_of (Hard lits) = lits
literals_of (SoftIn objective weight lits) = lits

-- the largest variable of the literals, or 0
abbrev pub largest_of : List Literal → ℕ
largest_of [] = 0
largest_of (l ∷ lits) = max l.var (largest_of lits)

abbrev pub largest_variable : List Statement → ℕ
largest_variable [] = 0
largest_variable (s ∷ statements) = max (largest_of (literals_of s)) (largest_variable statements)

-- the objective that a statement names, or 0
abbrev pub objective_of : Statement → ℕ
objective_of Nothing = 0
objective_of (Hard lits) = 0
objective_of (SoftIn objective weight lits) = objective

abbrev pub objective_count : List Statement → ℕ
objective_count [] = 0
objective_count (s ∷ statements) = max (objective_of s) (objective_count statements)

abbrev pub hard_clauses : List Statement → List (List Literal)
hard_clauses [] = []
hard_clauses (Nothing ∷ statements) = hard_clauses statements
hard_clauses (Hard lits ∷ statements) = lits ∷ hard_clauses statements
hard_clauses (SoftIn objective weight lits ∷ statements) = hard_clauses statements

-- the soft clause of a statement, if it has one in this objective
abbrev pub soft_of : ℕ → Statement → List Soft
soft_of k Nothing = []
soft_of k (Hard lits) = []
soft_of k (SoftIn objective weight lits) = if objective == k then record { weight = weight; lits = lits } ∷ [] else []

abbrev pub softs_of : ℕ → List Statement → List Soft
softs_of k [] = []
softs_of k (s ∷ statements) = soft_of k s ++ softs_of k statements

-- objective k is minimised and has the soft clauses that name it, in order
abbrev pub objective_at : List Statement → ℕ → Objective
objective_at statements k = record { sense = Min; softs = softs_of k statements; terms = []; offset = pos 0 }

-- objective 1 to the largest that occurs
abbrev pub objectives_of : List Statement → List Objective
objectives_of statements = map (objective_at statements) (range_with_len 1 (objective_count statements))

-- The text spells the instance: its lines spell statements that make the instance, which is within its limits.
pub record Spells (text : List ℕ) (i : InstanceValue) : Type 0 where
  pub statements : List Statement
  pub lines : AllZip SpellsStatement (map words_of (lines_of text)) statements
  pub variables : i.vars ≡ largest_variable statements
  pub clauses : i.clauses ≡ hard_clauses statements
  pub rows : i.linear ≡ []
  pub objectives : i.objectives ≡ objectives_of statements
  pub limits : IsWithinLimits i
