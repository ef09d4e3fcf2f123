-- A text spells one instance at most.
use Rattle.std.proofs.Common.{◌≡◌, ℕ, List, [], ◌∷◌, Some, refl, sym, ap, ◌∙◌, ℤ, arith}
use Rattle.scut_base.specs.Literal.{Literal as Lit}
use Rattle.instance.specs.declared.row.Linear.{Linear}
use Rattle.instance.specs.declared.row.Rel.{Rel}
use Rattle.instance.specs.declared.objective.Objective.{Objective}
use Rattle.instance.specs.declared.objective.Sense.{Sense}
use Rattle.instance.specs.Shape.{InstanceValue}
use Rattle.mopb_reader.specs.Tokens.{tokens_of}
use Rattle.mopb_reader.specs.Grammar.{Term, FurtherTerms, TermsThen, BoundThen, RowThen, objective_of, Spells, largest_in_objectives, largest_in_rows, EndThen, SpellsRows, SpellsStatements}
use Rattle.mopb_reader.specs.declared.token.Token.{Token}
use Rattle.mopb_reader.specs.declared.token.Token.TheVariants.{Sign, Number, Literal, Head, Relation, Semicolon}

-- the tokens begin no term
abbrev BeginsNoTerm : List Token → Type 0
BeginsNoTerm (Sign minus ∷ tokens) = ⊥
BeginsNoTerm (Number n ∷ tokens) = ⊥
BeginsNoTerm (Literal v neg ∷ tokens) = ⊥
BeginsNoTerm tokens = Unit {0}

abbrev EndsTerms : (List Token → Type 0) → Type 0
EndsTerms P = (tokens : List Token) → P tokens → BeginsNoTerm tokens

-- the same tokens are left
abbrev Left : (P Q : List Token → Type 0) → Type 0
Left P Q = (rest : List Token) × P rest × Q rest

-- the same terms were read, and the same tokens are left
abbrev Same : (P Q : List Token → Type 0) → List Term → List Term → Type 0
Same P Q s t = (s ≡ t) × Left P Q

one_more : (s t x : Term) (ss ts : List Term) → s ≡ x → t ≡ x → ss ≡ ts → s ∷ ss ≡ t ∷ ts
one_more s t x ss ts left right rest = ap (λ u. u ∷ ss) (left ∙ sym right) ∙ ap (λ us. t ∷ us) rest

ended_further : (P : List Token → Type 0) (tokens : List Token) (t : Term) (ts : List Term) → BeginsNoTerm tokens
    → FurtherTerms P tokens (t ∷ ts) → ⊥
ended_further P (Sign minus ∷ tokens) t ts none is = none
ended_further P (Number n ∷ tokens) t ts none is = none
ended_further P tokens t ts none is = is

further_same : (P Q : List Token → Type 0) → EndsTerms P → EndsTerms Q → (tokens : List Token) (s t : List Term)
    → FurtherTerms P tokens s → FurtherTerms Q tokens t → Same P Q s t
further_same P Q p q tokens [] [] left right = (refl, (tokens, left, right))
further_same P Q p q tokens [] (t ∷ ts) left right = absurd (ended_further Q tokens t ts (p tokens left) right)
further_same P Q p q tokens (s ∷ ss) [] left right = absurd (ended_further P tokens s ss (q tokens right) left)
further_same P Q p q (Number (Some n) ∷ Literal (Some v) neg ∷ tokens) (s ∷ ss) (t ∷ ts) left right =
    let rest = further_same P Q p q tokens ss ts left.1 right.1 in
    (one_more s t _ ss ts left.0 right.0 rest.0, rest.1)
further_same P Q p q (Sign minus ∷ Literal (Some v) neg ∷ tokens) (s ∷ ss) (t ∷ ts) left right =
    let rest = further_same P Q p q tokens ss ts left.1 right.1 in
    (one_more s t _ ss ts left.0 right.0 rest.0, rest.1)
further_same P Q p q (Sign minus ∷ Number (Some n) ∷ Literal (Some v) neg ∷ tokens) (s ∷ ss) (t ∷ ts) left right =
    let rest = further_same P Q p q tokens ss ts left.1 right.1 in
    (one_more s t _ ss ts left.0 right.0 rest.0, rest.1)
further_same P Q p q tokens (s ∷ ss) (t ∷ ts) left right = absurd left

ended_terms : (P : List Token → Type 0) (tokens : List Token) (t : Term) (ts : List Term) → BeginsNoTerm tokens
    → TermsThen P tokens (t ∷ ts) → ⊥
ended_terms P (Literal v neg ∷ tokens) t ts none is = none
ended_terms P tokens t ts none is = ended_further P tokens t ts none is

terms_same : (P Q : List Token → Type 0) → EndsTerms P → EndsTerms Q → (tokens : List Token) (s t : List Term)
    → TermsThen P tokens s → TermsThen Q tokens t → Same P Q s t
terms_same P Q p q tokens [] [] left right = (refl, (tokens, left, right))
terms_same P Q p q tokens [] (t ∷ ts) left right = absurd (ended_terms Q tokens t ts (p tokens left) right)
terms_same P Q p q tokens (s ∷ ss) [] left right = absurd (ended_terms P tokens s ss (q tokens right) left)
terms_same P Q p q (Literal (Some v) neg ∷ tokens) (s ∷ ss) (t ∷ ts) left right =
    let rest = further_same P Q p q tokens ss ts left.1 right.1 in
    (one_more s t _ ss ts left.0 right.0 rest.0, rest.1)
terms_same P Q p q tokens (s ∷ ss) (t ∷ ts) left right = further_same P Q p q tokens (s ∷ ss) (t ∷ ts) left right

-- what ends a statement
end_ends : (P : List Token → Type 0) → EndsTerms (EndThen P)
end_ends P (Semicolon ∷ tokens) is = tt
end_ends P tokens is = absurd is

bound_ends : (rel : Rel) (bound : ℤ) (P : List Token → Type 0) → EndsTerms (BoundThen rel bound P)
bound_ends rel bound P (Relation r ∷ tokens) is = tt
bound_ends rel bound P tokens is = absurd is

end_same : (P Q : List Token → Type 0) (tokens : List Token) → EndThen P tokens → EndThen Q tokens
    → Left P Q
end_same P Q (Semicolon ∷ tokens) left right = (tokens, left, right)
end_same P Q tokens left right = absurd left

bound_same : (r s : Rel) (b d : ℤ) (P Q : List Token → Type 0) (tokens : List Token) → BoundThen r b P tokens
    → BoundThen s d Q tokens → (r ≡ s) × (b ≡ d) × Left P Q
bound_same r s b d P Q (Relation rel ∷ Number (Some n) ∷ tokens) left right =
    (left.0 ∙ sym right.0, left.1 ∙ sym right.1, (tokens, left.2, right.2))
bound_same r s b d P Q (Relation rel ∷ Sign minus ∷ Number (Some n) ∷ tokens) left right =
    (left.0 ∙ sym right.0, left.1 ∙ sym right.1, (tokens, left.2, right.2))
bound_same r s b d P Q tokens left right = absurd left

-- the rows
abbrev row_from : List Term → Rel → ℤ → Linear
row_from terms rel bound = record { terms = terms; rel = rel; bound = bound }

row_same : (r s : Linear) (P Q : List Token → Type 0) (tokens : List Token) → RowThen (EndThen P) tokens r
    → RowThen (EndThen Q) tokens s → (r ≡ s) × Left P Q
row_same r s P Q tokens left right =
    let terms = terms_same (BoundThen r.rel r.bound (EndThen P)) (BoundThen s.rel s.bound (EndThen Q))
    (bound_ends r.rel r.bound (EndThen P)) (bound_ends s.rel s.bound (EndThen Q)) tokens r.terms s.terms left right in
    let bound = bound_same r.rel s.rel r.bound s.bound (EndThen P) (EndThen Q) terms.1.0 terms.1.1 terms.1.2 in
    let end = end_same P Q bound.2.0 bound.2.1 bound.2.2 in (
      ap (λ x. row_from x r.rel r.bound) terms.0 ∙ ap (λ x. row_from s.terms x r.bound) bound.0 ∙ ap (row_from s.terms s.rel) bound.1,
      end,
    )

no_row : (row : Linear) (P : List Token → Type 0) (t : Token) (tokens : List Token) → BeginsNoTerm (t ∷ tokens)
    → (BoundThen row.rel row.bound P (t ∷ tokens) → ⊥) → RowThen P (t ∷ tokens) row → ⊥
no_row row P t tokens none other is = by row.terms is
  where
    by : (terms : List Term) → TermsThen (BoundThen row.rel row.bound P) (t ∷ tokens) terms → ⊥
    by [] found = other found
    by (term ∷ terms) found = ended_terms (BoundThen row.rel row.bound P) (t ∷ tokens) term terms none found

nothing_row : (row : Linear) (P : List Token → Type 0) (tokens : List Token) → tokens ≡ [] → RowThen P tokens row → ⊥
nothing_row row P (t ∷ tokens) none is = absurd cc
nothing_row row P [] none is = by row.terms is
  where
    by : (terms : List Term) → TermsThen (BoundThen row.rel row.bound P) [] terms → ⊥
    by [] found = found
    by (term ∷ terms) found = found

rows_same : (rows lines : List Linear) (tokens : List Token) → SpellsRows rows tokens → SpellsRows lines tokens → rows ≡ lines
rows_same [] [] tokens left right = refl
rows_same [] (line ∷ lines) tokens left right = absurd (nothing_row line (EndThen (SpellsRows lines)) tokens left right)
rows_same (row ∷ rows) [] tokens left right = absurd (nothing_row row (EndThen (SpellsRows rows)) tokens right left)
rows_same (row ∷ rows) (line ∷ lines) tokens left right =
    let same = row_same row line (SpellsRows rows) (SpellsRows lines) tokens left right in
    ap (λ x. x ∷ rows) same.0 ∙ ap (λ xs. line ∷ xs) (rows_same rows lines same.1.0 same.1.1 same.1.2)

-- the objectives before them
no_head : (rows : List Linear) (sense : Sense) (tokens : List Token) → SpellsRows rows (Head sense ∷ tokens) → ⊥
no_head [] sense tokens is = absurd cc
no_head (row ∷ rows) sense tokens is = no_row row (EndThen (SpellsRows rows)) (Head sense) tokens tt (λ found. found) is

all_same : (os ps : List Objective) (rows lines : List Linear) (tokens : List Token) → SpellsStatements os rows tokens
    → SpellsStatements ps lines tokens → (os ≡ ps) × (rows ≡ lines)
all_same [] [] rows lines tokens left right = (refl, rows_same rows lines tokens left right)
all_same [] (p ∷ ps) rows lines (Head sense ∷ tokens) left right = absurd (no_head rows sense tokens left)
all_same [] (p ∷ ps) rows lines tokens left right = absurd right
all_same (o ∷ os) [] rows lines (Head sense ∷ tokens) left right = absurd (no_head lines sense tokens right)
all_same (o ∷ os) [] rows lines tokens left right = absurd left
all_same (o ∷ os) (p ∷ ps) rows lines (Head sense ∷ tokens) left right =
    let P = SpellsStatements os rows in
    let Q = SpellsStatements ps lines in
    let terms = terms_same (EndThen P) (EndThen Q) (end_ends P) (end_ends Q) tokens o.terms p.terms left.1 right.1 in
    let end = end_same P Q terms.1.0 terms.1.1 terms.1.2 in
    let rest = all_same os ps rows lines end.0 end.1 end.2 in
    let here : o ≡ p = left.0 ∙ ap (objective_of sense) terms.0 ∙ sym right.0 in
    (ap (λ x. x ∷ os) here ∙ ap (λ xs. p ∷ xs) rest.0, rest.1)
all_same (o ∷ os) (p ∷ ps) rows lines tokens left right = absurd left

abbrev instance_from : ℕ → List (List Lit) → List Linear → List Objective → InstanceValue
instance_from vars clauses linear objectives = record { vars = vars; clauses = clauses; linear = linear; objectives = objectives }

pub one_spelled : (text : List ℕ) (i j : InstanceValue) → Spells text i → Spells text j → i ≡ j
one_spelled text i j left right =
    let both = all_same i.objectives j.objectives i.linear j.linear (tokens_of text) left.statements right.statements in
    let clauses : i.clauses ≡ j.clauses = left.clauses ∙ sym right.clauses in
    let vars : i.vars ≡ j.vars = omega (arith, left.variables, right.variables, ap largest_in_objectives both.0, ap largest_in_rows both.1) in
    ap (λ x. instance_from x i.clauses i.linear i.objectives) vars ∙ ap (λ x. instance_from j.vars x i.linear i.objectives) clauses
    ∙ ap (λ x. instance_from j.vars j.clauses x i.objectives) both.1 ∙ ap (instance_from j.vars j.clauses j.linear) both.0
