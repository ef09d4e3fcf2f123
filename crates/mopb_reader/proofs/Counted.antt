-- Variables are counted from 1: no token of a text is `x0`.
use Rattle.std.proofs.Common.{◌≡◌, ℕ, ◌+◌, ◌<◌, ◌≤◌, false, List, [], ◌∷◌, ◌++◌, length, map, Some, refl, sym, ap, subst, arith, ℤ}
use Rattle.std.specs.Prelude.{◌==◌, ◌&&◌, ◌||◌}
use Rattle.std.specs.List.{All, flat_map}
use Rattle.std.proofs.lemmas.Bool.{cond_both}
use Rattle.std.proofs.lemmas.Bool.Decides.{nat_tests}
use Rattle.std.proofs.lemmas.List.Elements.{All-nil, All-cons}
use Rattle.scut_base.specs.Number.{natural_value}
use Rattle.instance.specs.declared.row.Linear.{Linear}
use Rattle.instance.specs.declared.row.Rel.{Rel}
use Rattle.instance.specs.declared.row.Rel.TheVariants.{Equal}
use Rattle.instance.specs.declared.objective.Objective.{Objective}
use Rattle.instance.specs.declared.objective.Sense.{Sense}
use Rattle.mopb_reader.specs.Lexemes.{Lexeme, Blank, Digits, Literal, Relation, Other, with_digit, with_x, with_tilde, with_m, with_greater, with_less, with_byte, lexemes_of}
use Rattle.mopb_reader.specs.Tokens.{is_comment, token_of, tokens_in_line, lines_of, numbered_tokens, plain, tokens_of, small_value}
use Rattle.mopb_reader.specs.Grammar.{Term, objective_of, FurtherTerms, TermsThen, BoundThen, EndThen, SpellsRows, SpellsStatements}
use Rattle.mopb_reader.specs.Cuts.{IsSound}
use Rattle.mopb_reader.specs.declared.token.Token.{Token}
use Rattle.mopb_reader.specs.declared.token.Token.TheVariants.{Sign, Number, Literal as LiteralToken, Head, Relation as RelationToken, Semicolon}
use Rattle.mopb_reader.proofs.Cutting.{byte_cases, sound_value}

-- the variable that a lexeme names isn't 0
abbrev IsCounted : Lexeme → Type 0
IsCounted (Literal ds neg) = 0 < natural_value ds
IsCounted t = Unit {0}

abbrev AreCounted : List Lexeme → Type 0
AreCounted [] = Unit {0}
AreCounted (t ∷ ts) = IsCounted t × AreCounted ts

-- ---- a line's lexemes

-- A byte more keeps the variables, and makes one lexeme at most.
abbrev Grows : List Lexeme → List Lexeme → Type 0
Grows rest more = AreCounted more × (length more ≤ length rest + 1)

digit_grows : (b : ℕ) (rest : List Lexeme) → AreCounted rest → Grows rest (with_digit b rest)
digit_grows b [] counted = ((tt, tt), omega arith)
digit_grows b (Digits ds ∷ ls) counted = ((tt, counted.1), omega arith)
digit_grows b (l ∷ ls) counted = ((tt, counted), omega arith)

above_none : (n : ℕ) → (n == 0) ≡ false → 0 < n
above_none n e = grind (arith, nat_tests)

x_grows : (rest : List Lexeme) → AreCounted rest → Grows rest (with_x rest)
x_grows [] counted = ((tt, tt), omega arith)
x_grows (Digits ds ∷ ls) counted = cond_both (natural_value ds == 0) _ _ (Grows (Digits ds ∷ ls))
    (λ _. ((tt, counted), omega arith)) (λ e. ((above_none (natural_value ds) e, counted.1), omega arith))
x_grows (l ∷ ls) counted = ((tt, counted), omega arith)

tilde_grows : (rest : List Lexeme) → AreCounted rest → Grows rest (with_tilde rest)
tilde_grows [] counted = ((tt, tt), omega arith)
tilde_grows (Literal ds false ∷ ls) counted = (counted, omega arith)
tilde_grows (l ∷ ls) counted = ((tt, counted), omega arith)

m_grows : (rest : List Lexeme) → AreCounted rest → Grows rest (with_m rest)
m_grows (Other a ∷ Other b ∷ Other c ∷ ls) counted =
    let grows = Grows (Other a ∷ Other b ∷ Other c ∷ ls) in
    cond_both (a == 105 && b == 110 && c == 58) _ _ grows (λ _. ((tt, counted.1.1.1), omega arith)) (λ _.
    cond_both (a == 97 && b == 120 && c == 58) _ _ grows (λ _. ((tt, counted.1.1.1), omega arith)) (λ _. ((tt, counted), omega arith)))
m_grows ls counted = ((tt, counted), omega arith)

greater_grows : (rest : List Lexeme) → AreCounted rest → Grows rest (with_greater rest)
greater_grows [] counted = ((tt, tt), omega arith)
greater_grows (Relation Equal ∷ ls) counted = ((tt, counted.1), omega arith)
greater_grows (l ∷ ls) counted = ((tt, counted), omega arith)

less_grows : (rest : List Lexeme) → AreCounted rest → Grows rest (with_less rest)
less_grows [] counted = ((tt, tt), omega arith)
less_grows (Relation Equal ∷ ls) counted = ((tt, counted.1), omega arith)
less_grows (l ∷ ls) counted = ((tt, counted), omega arith)

byte_grows : (b : ℕ) (rest : List Lexeme) → AreCounted rest → Grows rest (with_byte b rest)
byte_grows b rest counted =
    byte_cases (Grows rest) b rest (λ _. ((tt, counted), omega arith)) (λ _. digit_grows b rest counted)
    (λ _. x_grows rest counted) (λ _. tilde_grows rest counted) (λ _. m_grows rest counted)
    (λ _. greater_grows rest counted) (λ _. less_grows rest counted) (λ _. ((tt, counted), omega arith)) (λ _. ((tt, counted), omega arith))
    (λ _. ((tt, counted), omega arith)) (λ _. ((tt, counted), omega arith)) ((tt, counted), omega arith)

line_grows : (line : List ℕ) → AreCounted (lexemes_of line) × (length (lexemes_of line) ≤ length line)
line_grows [] = (tt, omega arith)
line_grows (b ∷ line) =
    let rest = line_grows line in
    let more = byte_grows b (lexemes_of line) rest.0 in
    (more.0, omega (arith, rest.1, more.1))

line_counted : (line : List ℕ) → AreCounted (lexemes_of line)
line_counted line = (line_grows line).0

pub line_long : (line : List ℕ) → length (lexemes_of line) ≤ length line
line_long line = (line_grows line).1

-- ---- a text's tokens

abbrev AreSound : List Token → Type 0
AreSound [] = Unit {0}
AreSound (t ∷ ts) = IsSound t × AreSound ts

sound_lexeme : (l : Lexeme) (rest : List Token) → IsCounted l → AreSound rest → AreSound (token_of l ++ rest)
sound_lexeme (Literal ds neg) rest counted sound = (sound_value ds (small_value ds) neg refl counted, sound)
sound_lexeme (Other b) rest counted sound = cond_both (b == 120 || b == 126) _ _ (λ t. AreSound (t ∷ rest)) (λ _. (tt, sound)) (λ _. (tt, sound))
sound_lexeme Blank rest counted sound = sound
sound_lexeme l rest counted sound = (tt, sound)

lexemes_sound : (lexemes : List Lexeme) → AreCounted lexemes → AreSound (flat_map token_of lexemes)
lexemes_sound [] counted = tt
lexemes_sound (l ∷ lexemes) counted =
    sound_lexeme l (flat_map token_of lexemes) counted.0 (lexemes_sound lexemes counted.1)

line_sound : (line : List ℕ) → AreSound (tokens_in_line line)
line_sound line =
    cond_both (is_comment line) _ _ AreSound (λ _. tt) (λ _. lexemes_sound (lexemes_of line) (line_counted line))

numbered_sound : (n : ℕ) (tokens : List Token) (more : List (ℕ × Token)) → AreSound tokens → AreSound (plain more)
    → AreSound (plain (map (λ t. (n, t)) tokens ++ more))
numbered_sound n [] more here rest = rest
numbered_sound n (t ∷ tokens) more here rest = (here.0, numbered_sound n tokens more here.1 rest)

lines_sound : (n : ℕ) (lines : List (List ℕ)) → AreSound (plain (numbered_tokens n lines))
lines_sound n [] = tt
lines_sound n (line ∷ lines) = numbered_sound n (tokens_in_line line) (numbered_tokens (n + 1) lines)
    (line_sound line) (lines_sound (n + 1) lines)

text_sound : (text : List ℕ) → AreSound (tokens_of text)
text_sound text = lines_sound 1 (lines_of text)

-- ---- what is spelled

-- What is left of sound tokens is sound, and no longer.
abbrev Leaves : (List Token → Type 0) → List Token → Type 0
Leaves P tokens = (rest : List Token) × AreSound rest × (length rest ≤ length tokens) × P rest

shorter : (P : List Token → Type 0) (few many : List Token) → length few ≤ length many → Leaves P few → Leaves P many
shorter P few many le leaves = (leaves.0, leaves.1, omega (arith, le, leaves.2), leaves.3)

abbrev FromOne : List Term → Type 0
FromOne terms = All (λ t. 0 < t.1.var) terms

term_counted : (t s : Term) (terms : List Term) → t ≡ s → 0 < s.1.var → FromOne terms → FromOne (t ∷ terms)
term_counted t s terms is counted rest =
    All-cons (λ (x : Term). 0 < x.1.var) t terms (subst (λ (x : Term). 0 < x.1.var) (sym is) counted) rest

further_counted : (P : List Token → Type 0) (tokens : List Token) (terms : List Term) → AreSound tokens
    → FurtherTerms P tokens terms → FromOne terms × Leaves P tokens
further_counted P tokens [] sound is = (All-nil (λ (t : Term). 0 < t.1.var), (tokens, sound, omega arith, is))
further_counted P (Number (Some n) ∷ LiteralToken (Some v) neg ∷ tokens) (t ∷ terms) sound is =
    let rest = further_counted P tokens terms sound.1.1 is.1 in
    (term_counted t _ terms is.0 sound.1.0 rest.0, shorter P tokens (Number (Some n) ∷ LiteralToken (Some v) neg ∷ tokens) (omega arith) rest.1)
further_counted P (Sign minus ∷ LiteralToken (Some v) neg ∷ tokens) (t ∷ terms) sound is =
    let rest = further_counted P tokens terms sound.1.1 is.1 in
    (term_counted t _ terms is.0 sound.1.0 rest.0, shorter P tokens (Sign minus ∷ LiteralToken (Some v) neg ∷ tokens) (omega arith) rest.1)
further_counted P (Sign minus ∷ Number (Some n) ∷ LiteralToken (Some v) neg ∷ tokens) (t ∷ terms) sound is =
    let rest = further_counted P tokens terms sound.1.1.1 is.1 in
    (term_counted t _ terms is.0 sound.1.1.0 rest.0, shorter P tokens (Sign minus ∷ Number (Some n) ∷ LiteralToken (Some v) neg ∷ tokens) (omega arith) rest.1)
further_counted P tokens (t ∷ terms) sound is = absurd is

terms_counted : (P : List Token → Type 0) (tokens : List Token) (terms : List Term) → AreSound tokens
    → TermsThen P tokens terms → FromOne terms × Leaves P tokens
terms_counted P tokens [] sound is = further_counted P tokens [] sound is
terms_counted P (LiteralToken (Some v) neg ∷ tokens) (t ∷ terms) sound is =
    let rest = further_counted P tokens terms sound.1 is.1 in
    (term_counted t _ terms is.0 sound.0 rest.0, shorter P tokens (LiteralToken (Some v) neg ∷ tokens) (omega arith) rest.1)
terms_counted P tokens (t ∷ terms) sound is = further_counted P tokens (t ∷ terms) sound is

bound_leaves : (rel : Rel) (bound : ℤ) (P : List Token → Type 0) (tokens : List Token) → AreSound tokens
    → BoundThen rel bound P tokens → Leaves P tokens
bound_leaves rel bound P (RelationToken r ∷ Number (Some n) ∷ tokens) sound is = (tokens, sound.1.1, omega arith, is.2)
bound_leaves rel bound P (RelationToken r ∷ Sign minus ∷ Number (Some n) ∷ tokens) sound is = (tokens, sound.1.1.1, omega arith, is.2)
bound_leaves rel bound P tokens sound is = absurd is

-- a semicolon is left out besides
end_leaves : (P : List Token → Type 0) (tokens : List Token) → AreSound tokens → EndThen P tokens
    → (rest : List Token) × AreSound rest × (length rest < length tokens) × P rest
end_leaves P (Semicolon ∷ tokens) sound is = (tokens, sound.1, omega arith, is)
end_leaves P tokens sound is = absurd is

abbrev pub RowCounted : Linear → Type 0
RowCounted row = FromOne row.terms

-- rows have variables from 1, and are no more than the tokens
abbrev pub AreCountedRows : List Linear → List Token → Type 0
AreCountedRows rows tokens = All RowCounted rows × (length rows ≤ length tokens)

rows_counted : (rows : List Linear) (tokens : List Token) → AreSound tokens → SpellsRows rows tokens
    → AreCountedRows rows tokens
rows_counted [] tokens sound is = (All-nil RowCounted, omega arith)
rows_counted (row ∷ rows) tokens sound is =
    let then = EndThen (SpellsRows rows) in
    let terms = terms_counted (BoundThen row.rel row.bound then) tokens row.terms sound is in
    let bound = bound_leaves row.rel row.bound then terms.1.0 terms.1.1 terms.1.3 in
    let end = end_leaves (SpellsRows rows) bound.0 bound.1 bound.3 in
    let rest = rows_counted rows end.0 end.1 end.3 in
    (All-cons RowCounted row rows terms.0 rest.0, omega (arith, terms.1.2, bound.2, end.2, rest.1))

-- an objective without soft clauses and offset
abbrev pub IsPlain : Objective → Type 0
IsPlain o = o ≡ objective_of o.sense o.terms

plain_objective : (sense : Sense) (o : Objective) → o ≡ objective_of sense o.terms → IsPlain o
plain_objective sense o is =
    subst (λ (s : Sense). o ≡ objective_of s o.terms) (sym (ap (λ (x : Objective). x.sense) is)) is

all_counted : (objectives : List Objective) (rows : List Linear) (tokens : List Token) → AreSound tokens
    → SpellsStatements objectives rows tokens → All IsPlain objectives × AreCountedRows rows tokens
all_counted [] rows tokens sound is = (All-nil IsPlain, rows_counted rows tokens sound is)
all_counted (o ∷ objectives) rows (Head sense ∷ tokens) sound is =
    let terms = terms_counted (EndThen (SpellsStatements objectives rows)) tokens o.terms sound.1 is.1 in
    let end = end_leaves (SpellsStatements objectives rows) terms.1.0 terms.1.1 terms.1.3 in
    let rest = all_counted objectives rows end.0 end.1 end.3 in
    (All-cons IsPlain o objectives (plain_objective sense o is.0) rest.0, (rest.1.0, omega (arith, terms.1.2, end.2, rest.1.1)))
all_counted (o ∷ objectives) rows tokens sound is = absurd is

pub text_counted : (text : List ℕ) (objectives : List Objective) (rows : List Linear)
    → SpellsStatements objectives rows (tokens_of text) → All IsPlain objectives × AreCountedRows rows (tokens_of text)
text_counted text objectives rows is = all_counted objectives rows (tokens_of text) (text_sound text) is
