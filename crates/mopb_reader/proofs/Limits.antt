-- The limits of a whole text.
use Rattle.std.proofs.Common.{◌≡◌, ℕ, ◌+◌, ◌<◌, ◌≤◌, ◌^◌, List, [], ◌∷◌, ◌++◌, length, map, refl, sym, ap, subst, arith}
use Rattle.std.specs.Prelude.{◌==◌}
use Rattle.std.specs.List.{All, flat_map, sum_by}
use Rattle.std.proofs.lemmas.Bool.{cond_both}
use Rattle.std.proofs.lemmas.List.{length-append}
use Rattle.std.proofs.lemmas.List.Elements.{All-nil, All-cons, All-head, All-tail}
use Rattle.std.proofs.lemmas.List.Sums.{sum_by-cons}
use Rattle.instance.specs.declared.row.Linear.{Linear}
use Rattle.instance.specs.declared.objective.Objective.{Objective}
use Rattle.instance.specs.declared.objective.Soft.{Soft}
use Rattle.instance.specs.Shape.{IsWithinLimits, IsObjectiveWithin, IsRowWithin, TermsUpTo, ClauseUpTo, objective_magnitude, row_magnitude}
use Rattle.mopb_reader.specs.Lexemes.{Lexeme, Blank, lexemes_of}
use Rattle.mopb_reader.specs.Tokens.{is_comment, token_of, tokens_in_line, lines_of, numbered_tokens, plain, tokens_of}
use Rattle.mopb_reader.specs.Grammar.{Term, Spells, largest_of, largest_in_objectives, largest_in_rows, SpellsStatements}
use Rattle.mopb_reader.specs.Drafts.{IsDraft, instance_of}
use Rattle.mopb_reader.specs.declared.token.Token.{Token}
use Rattle.mopb_reader.specs.declared.draft.Draft.{Draft}
use Rattle.mopb_reader.proofs.Counted.{RowCounted, IsPlain, text_counted, line_long}
use Rattle.scut_base.proofs.Lists.{total_length, split_length}

-- a lexeme makes one token at most
token_long : (l : Lexeme) → length (token_of l) ≤ 1
token_long Blank = omega arith
token_long l = omega arith

lexemes_long : (lexemes : List Lexeme) → length (flat_map token_of lexemes) ≤ length lexemes
lexemes_long [] = omega arith
lexemes_long (l ∷ lexemes) = omega (arith, token_long l, lexemes_long lexemes, length-append (token_of l) (flat_map token_of lexemes))

tokens_long : (line : List ℕ) → length (tokens_in_line line) ≤ length line
tokens_long line = cond_both (is_comment line) _ _ (λ ts. length ts ≤ length line)
    (λ _. omega arith) (λ _. omega (arith, lexemes_long (lexemes_of line), line_long line))

plain_length : (n : ℕ) (tokens : List Token) (more : List (ℕ × Token))
    → length (plain (map (λ t. (n, t)) tokens ++ more)) ≡ length tokens + length (plain more)
plain_length n [] more = omega arith
plain_length n (t ∷ tokens) more = omega (arith, plain_length n tokens more)

lines_long : (n : ℕ) (lines : List (List ℕ)) → length (plain (numbered_tokens n lines)) ≤ total_length lines
lines_long n [] = omega arith
lines_long n (line ∷ lines) = omega (
  arith,
  tokens_long line,
  lines_long (n + 1) lines,
  plain_length n (tokens_in_line line) (numbered_tokens (n + 1) lines),
)

-- a text has no more tokens than bytes
pub tokens_fit : (text : List ℕ) → length (tokens_of text) ≤ length text
tokens_fit text = omega (arith, lines_long 1 (lines_of text), split_length (λ b. b == 10) text)

terms_up_to : (n : ℕ) (terms : List (Term)) → largest_of terms ≤ n → TermsUpTo n terms
terms_up_to n [] le = All-nil (λ (t : Term). t.1.var ≤ n)
terms_up_to n (t ∷ terms) le = All-cons (λ (x : Term). x.1.var ≤ n) t terms (omega arith) (terms_up_to n terms (omega arith))

abbrev IsSmall : Objective → Type 0
IsSmall o = objective_magnitude o < 2 ^ 63

abbrev IsSmallRow : Linear → Type 0
IsSmallRow row = row_magnitude row < 2 ^ 63

no_softs : (o : Objective) → IsPlain o → o.softs ≡ []
no_softs o is = ap (λ (x : Objective). x.softs) is

objective_within : (n : ℕ) (o : Objective) → IsPlain o → largest_of o.terms ≤ n → IsSmall o → IsObjectiveWithin n o
objective_within n o is le small = record {
  clauses = subst (λ (softs : List Soft). All (λ s. ClauseUpTo n s.lits) softs) (sym (no_softs o is))
      (All-nil (λ (s : Soft). ClauseUpTo n s.lits));
  variables = terms_up_to n o.terms le;
  magnitude = small;
  maximised = λ _. no_softs o is;
}

objectives_within : (n : ℕ) (os : List Objective) → All IsPlain os → largest_in_objectives os ≤ n → All IsSmall os
    → All (IsObjectiveWithin n) os
objectives_within n [] are le small = All-nil (IsObjectiveWithin n)
objectives_within n (o ∷ os) are le small = All-cons (IsObjectiveWithin n) o os
    (objective_within n o (All-head IsPlain o os are) (omega arith) (All-head IsSmall o os small))
    (objectives_within n os (All-tail IsPlain o os are) (omega arith) (All-tail IsSmall o os small))

rows_within : (n : ℕ) (rows : List Linear) → largest_in_rows rows ≤ n → All RowCounted rows → All IsSmallRow rows
    → All (IsRowWithin n) rows
rows_within n [] le counted small = All-nil (IsRowWithin n)
rows_within n (row ∷ rows) le counted small = All-cons (IsRowWithin n) row rows
    (record {
      variables = terms_up_to n row.terms (omega arith);
      from_one = All-head RowCounted row rows counted;
      magnitude = All-head IsSmallRow row rows small;
    })
    (rows_within n rows (omega arith) (All-tail RowCounted row rows counted)
    (All-tail IsSmallRow row rows small))

none_soft : (os : List Objective) → All IsPlain os → sum_by (λ o. length o.softs) os ≡ 0
none_soft [] are = refl
none_soft (o ∷ os) are = omega (
  arith,
  ap length (no_softs o (All-head IsPlain o os are)),
  none_soft os (All-tail IsPlain o os are),
  sum_by-cons (λ (x : Objective). length x.softs) o os,
)

pub draft_within : (text : List ℕ) (d : Draft) → length text < 2 ^ 32 → SpellsStatements d.objectives d.linear (tokens_of text)
    → IsDraft d → IsWithinLimits (instance_of d)
draft_within text d short spelled draft =
    let found = text_counted text d.objectives d.linear spelled in
    record {
      variables = draft.within;
      count = draft.count;
      clauses = All-nil (ClauseUpTo d.vars);
      rows = rows_within d.vars d.linear (omega (arith, draft.variables)) found.1.0 draft.rows;
      objectives = objectives_within d.vars d.objectives found.0 (omega (arith, draft.variables)) draft.objectives;
      size = omega (arith, short, none_soft d.objectives found.0, found.1.1, tokens_fit text);
    }

pub draft_spells : (text : List ℕ) (d : Draft) → length text < 2 ^ 32 → SpellsStatements d.objectives d.linear (tokens_of text)
    → IsDraft d → Spells text (instance_of d)
draft_spells text d short spelled draft = record {
  statements = spelled;
  clauses = refl;
  variables = draft.variables;
  limits = draft_within text d short spelled draft;
}
