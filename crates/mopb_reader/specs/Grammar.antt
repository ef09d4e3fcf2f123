-- Which text spells which instance. Its tokens spell objectives, and then rows. What is spelled is
-- seen at the leading tokens; of what follows a predicate `P` is said.
use Rattle.std.specs.Prelude.{◌≡◌, ℕ, Bool, false, max, List, [], ◌∷◌, ℤ, pos, Some}
use Rattle.scut_base.specs.Literal.{Literal as Lit}
use Rattle.scut_base.specs.Number.{signed_value}
use Rattle.instance.specs.declared.row.Linear.{Linear}
use Rattle.instance.specs.declared.row.Rel.{Rel}
use Rattle.instance.specs.declared.objective.Objective.{Objective}
use Rattle.instance.specs.declared.objective.Sense.{Sense}
use Rattle.instance.specs.Shape.{InstanceValue, IsWithinLimits}
use Rattle.mopb_reader.specs.Tokens.{tokens_of}
use Rattle.mopb_reader.specs.declared.token.Token.{Token}
use Rattle.mopb_reader.specs.declared.token.Token.TheVariants.{Sign, Number, Literal, Head, Relation, Semicolon}

-- a coefficient and a literal
abbrev pub Term : Type 0
Term = ℤ × Lit

-- the term of a sign, a magnitude and a literal
abbrev pub term_of : Bool → ℕ → ℕ → Bool → Term
term_of minus magnitude var neg = (signed_value minus magnitude, record { var = var; neg = neg })

-- Terms, each with a sign or digits, and then tokens that `P` holds of. A missing sign is a plus,
-- missing digits are 1.
abbrev pub FurtherTerms : (List Token → Type 0) → List Token → List Term → Type 0
FurtherTerms P tokens [] = P tokens
FurtherTerms P (Number (Some n) ∷ Literal (Some v) neg ∷ tokens) (t ∷ terms) =
    (t ≡ term_of false n v neg) × FurtherTerms P tokens terms
FurtherTerms P (Sign minus ∷ Literal (Some v) neg ∷ tokens) (t ∷ terms) =
    (t ≡ term_of minus 1 v neg) × FurtherTerms P tokens terms
FurtherTerms P (Sign minus ∷ Number (Some n) ∷ Literal (Some v) neg ∷ tokens) (t ∷ terms) =
    (t ≡ term_of minus n v neg) × FurtherTerms P tokens terms
FurtherTerms P tokens (t ∷ terms) = ⊥

-- the same, where the first term may be a literal by itself
abbrev pub TermsThen : (List Token → Type 0) → List Token → List Term → Type 0
TermsThen P tokens [] = P tokens
TermsThen P (Literal (Some v) neg ∷ tokens) (t ∷ terms) =
    (t ≡ term_of false 1 v neg) × FurtherTerms P tokens terms
TermsThen P tokens (t ∷ terms) = FurtherTerms P tokens (t ∷ terms)

-- the objective of this sense and these terms
abbrev pub objective_of : Sense → List Term → Objective
objective_of sense terms = record { sense = sense; softs = []; terms = terms; offset = pos 0 }

-- `min:` where the objective is minimised, `max:` where it is maximised, and terms; and then tokens
-- that `P` holds of
abbrev pub ObjectiveThen : (List Token → Type 0) → List Token → Objective → Type 0
ObjectiveThen P (Head sense ∷ tokens) o =
    (o ≡ objective_of sense o.terms) × TermsThen P tokens o.terms
ObjectiveThen P tokens o = ⊥

-- a relation and a bound, which is an optional sign and digits; and then tokens that `P` holds of
abbrev pub BoundThen : Rel → ℤ → (List Token → Type 0) → List Token → Type 0
BoundThen rel bound P (Relation r ∷ Number (Some n) ∷ tokens) =
    (rel ≡ r) × (bound ≡ signed_value false n) × P tokens
BoundThen rel bound P (Relation r ∷ Sign minus ∷ Number (Some n) ∷ tokens) =
    (rel ≡ r) × (bound ≡ signed_value minus n) × P tokens
BoundThen rel bound P tokens = ⊥

-- terms, a relation and a bound; and then tokens that `P` holds of
abbrev pub RowThen : (List Token → Type 0) → List Token → Linear → Type 0
RowThen P tokens row = TermsThen (BoundThen row.rel row.bound P) tokens row.terms

-- a semicolon, and then tokens that `P` holds of
abbrev pub EndThen : (List Token → Type 0) → List Token → Type 0
EndThen P (Semicolon ∷ tokens) = P tokens
EndThen P tokens = ⊥

-- rows and nothing more, each with its semicolon
abbrev pub SpellsRows : List Linear → List Token → Type 0
SpellsRows [] tokens = tokens ≡ []
SpellsRows (row ∷ rows) tokens = RowThen (EndThen (SpellsRows rows)) tokens row

-- objectives, each with its semicolon, and then rows
abbrev pub SpellsStatements : List Objective → List Linear → List Token → Type 0
SpellsStatements [] rows tokens = SpellsRows rows tokens
SpellsStatements (o ∷ objectives) rows tokens =
    ObjectiveThen (EndThen (SpellsStatements objectives rows)) tokens o

-- the largest variable of the terms, or 0
abbrev pub largest_of : List Term → ℕ
largest_of [] = 0
largest_of (t ∷ terms) = max t.1.var (largest_of terms)

abbrev pub largest_in_objectives : List Objective → ℕ
largest_in_objectives [] = 0
largest_in_objectives (o ∷ objectives) = max (largest_of o.terms) (largest_in_objectives objectives)

abbrev pub largest_in_rows : List Linear → ℕ
largest_in_rows [] = 0
largest_in_rows (row ∷ rows) = max (largest_of row.terms) (largest_in_rows rows)

-- The text spells the instance: its tokens are the objectives' statements and then the rows'.
pub record Spells (text : List ℕ) (i : InstanceValue) : Type 0 where
  pub statements : SpellsStatements i.objectives i.linear (tokens_of text)
  pub clauses : i.clauses ≡ []
  pub variables : i.vars ≡ max (largest_in_objectives i.objectives) (largest_in_rows i.linear)
  pub limits : IsWithinLimits i

abbrev pub IsSpelled : List ℕ → Type 0
IsSpelled text = (i : InstanceValue) × Spells text i
