-- The text of an instance of hard and soft clauses: a line for each statement.
use Rattle.std.specs.Prelude.{◌≡◌, ℕ, ◌+◌, ◌<◌, ◌^◌, Bool, true, false, List, [], ◌∷◌, ◌++◌, length, map, codes, pos, All}
use Rattle.std.specs.List.{flat_map}
use Rattle.std.specs.Fmt.{decimal}
use Rattle.scut_base.specs.Literal.{Literal}
use Rattle.instance.specs.declared.objective.Soft.{Soft}
use Rattle.instance.specs.declared.objective.Objective.{Objective}
use Rattle.instance.specs.declared.objective.Sense.TheVariants.{Min}
use Rattle.instance.specs.Shape.{InstanceValue}
use Rattle.mcnf_reader.specs.declared.statement.Statement.{Statement}
use Rattle.mcnf_reader.specs.declared.statement.Statement.TheVariants.{Hard, Soft as SoftIn}
use Rattle.mcnf_reader.specs.Grammar.{largest_variable, objective_count}

-- ---- what is printed

-- a minus before a negated variable
abbrev pub sign_text : Bool → List ℕ
sign_text true = 45 ∷ []
sign_text false = []

-- a literal after a blank
abbrev pub literal_text : Literal → List ℕ
literal_text l = 32 ∷ sign_text l.neg ++ decimal l.var

-- the literals, and then the terminator and a line feed
abbrev pub clause_text : List Literal → List ℕ
clause_text lits = flat_map literal_text lits ++ codes " 0" ++ 10 ∷ []

abbrev pub hard_line : List Literal → List ℕ
hard_line lits = codes "h" ++ clause_text lits

-- a weight in objective k
abbrev pub weight_text : ℕ → ℕ → List ℕ
weight_text k weight = codes "o" ++ decimal k ++ 32 ∷ decimal weight

-- a soft clause of objective k
abbrev pub soft_line : ℕ → Soft → List ℕ
soft_line k soft = weight_text k soft.weight ++ clause_text soft.lits

-- the soft clauses of objectives that are counted from k on
abbrev pub soft_lines : ℕ → List Objective → List ℕ
soft_lines k [] = []
soft_lines k (o ∷ objectives) = flat_map (soft_line k) o.softs ++ soft_lines (k + 1) objectives

-- the hard clauses, and then the soft ones, objective by objective
abbrev pub mcnf_text : InstanceValue → List ℕ
mcnf_text i = flat_map hard_line i.clauses ++ soft_lines 1 i.objectives

-- ---- numbers that are printed

abbrev pub IsVariable : Literal → Type 0
IsVariable l = (0 < l.var) × (l.var < 2 ^ 63)

abbrev pub AreVariables : List Literal → Type 0
AreVariables lits = All IsVariable lits

pub record IsPrintable (soft : Soft) : Type 0 where
  pub weight : soft.weight < 2 ^ 64
  pub lits : AreVariables soft.lits

-- ---- which instances such a text can spell

-- nothing but soft clauses, which are costs
pub record IsPlainObjective (o : Objective) : Type 0 where
  pub sense : o.sense ≡ Min
  pub terms : o.terms ≡ []
  pub offset : o.offset ≡ pos 0

-- hard and soft clauses alone
pub record IsPlain (i : InstanceValue) : Type 0 where
  pub rows : i.linear ≡ []
  pub objectives : All IsPlainObjective i.objectives

-- the statements of objectives that are counted from k on
abbrev pub soft_statements : ℕ → List Objective → List Statement
soft_statements k [] = []
soft_statements k (o ∷ objectives) = map (λ soft. SoftIn k soft.weight soft.lits) o.softs ++ soft_statements (k + 1) objectives

abbrev pub statements_of : InstanceValue → List Statement
statements_of i = map Hard i.clauses ++ soft_statements 1 i.objectives

-- The largest variable occurs, and so does the last objective: a text tells of no others.
pub record AllOccur (i : InstanceValue) : Type 0 where
  pub variable : largest_variable (statements_of i) ≡ i.vars
  pub objective : objective_count (statements_of i) ≡ length i.objectives
