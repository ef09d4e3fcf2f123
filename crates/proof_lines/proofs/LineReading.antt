-- The reader of a line.
use Rattle.std.proofs.Common.{◌≡◌, ◌≢◌, ℕ, ◌+◌, ◌≤◌, ◌^◌, Bool, true, false, cond, List, [], ◌∷◌, None, Result, Ok, Err, sum, refl, sym, ap, ◌∙◌, arith}
use Rattle.std.specs.Prelude.{IfOk, IsErrOf}
use Rattle.std.specs.List.{onto_first}
use Rattle.std.proofs.lemmas.Bool.{eqb-true}
use Rattle.scut_base.proofs.Lists.{head_same, tail_same}
use Rattle.proof_laws.specs.declared.line.Line.{Line}
use Rattle.proof_laws.specs.declared.line.Line.TheVariants.{Pol, Rup, Learn, Def, Red, Dom, Sol, Del, Reduce, End}
use Rattle.proof_laws.specs.Steps.{made}
use Rattle.proof_laws.specs.WellFormed.{IsWellFormed}
use Rattle.proof_lines.specs.declared.kind.Kind.{Kind}
use Rattle.proof_lines.specs.declared.kind.Kind.TheVariants.{Pol as PolKind, Rup as RupKind, Learn as LearnKind, Def as DefKind, Red as RedKind, Dom as DomKind, Sol as SolKind, Del as DelKind, Reduce as ReduceKind, End as EndKind}
use Rattle.proof_lines.specs.declared.reader.LineFault.{LineFault}
use Rattle.proof_lines.specs.declared.reader.LineFault.TheVariants.{Syntax, NoMemory}
use Rattle.proof_lines.specs.LineText.{SpellsLine, SpellsNoLine, line_words, spaced}
use Rattle.proof_lines.specs.Spaces.{later_words}
use Rattle.proof_lines.specs.Reading.{IsValueOf, is_space, words_of}
use Rattle.proof_lines.specs.Kinds.{HasRoom, IsNoBody, ReadsBody, made_by, word_of}
use Rattle.proof_lines.proofs.Items.{Words}
use Rattle.proof_lines.proofs.Cutting.{some_word}
use Rattle.proof_lines.proofs.Spaced.{words_of-line}
use Rattle.proof_lines.specs.declared.spelling.Spelling.{Spelling}
use Rattle.proof_lines.specs.declared.spelling.Spelling.TheVariants.{Plain, Relative}
use Rattle.proof_lines.specs.Ids.{FitsNext, IsSpelling}

-- ---- the text of its words

spaced_onto : (b : ℕ) (words : Words) → (words ≡ [] → ⊥) → spaced (onto_first b words) ≡ b ∷ spaced words
spaced_onto b [] some = absurd (some refl)
spaced_onto b (w ∷ ws) some = refl

spaced_cons : (words : Words) → (words ≡ [] → ⊥) → spaced ([] ∷ words) ≡ 32 ∷ spaced words
spaced_cons [] some = absurd (some refl)
spaced_cons (w ∷ ws) some = refl

-- a text is that of its words
pub spaced_words : (text : List ℕ) → spaced (words_of text) ≡ text
spaced_words [] = refl
spaced_words (b ∷ text) = by (is_space b) refl (spaced_words text)
  where
    by : (v : Bool) → is_space b ≡ v → spaced (words_of text) ≡ text → spaced (cond v ([] ∷ words_of text) (onto_first b (words_of text))) ≡ b ∷ text
    by true is rest = spaced_cons (words_of text) (some_word text) ∙ ap (λ t. 32 ∷ t) rest ∙ ap (λ c. c ∷ text) (sym (eqb-true b 32 is))
    by false is rest = spaced_onto b (words_of text) (some_word text) ∙ ap (λ t. b ∷ t) rest

-- ---- the kinds of lines

abbrev kind_of_line : Line → Kind
kind_of_line (Pol tokens) = PolKind
kind_of_line (Rup goal hints) = RupKind
kind_of_line (Learn goal hints) = LearnKind
kind_of_line (Def var sum_is) = DefKind
kind_of_line (Red goal witness proofs) = RedKind
kind_of_line (Dom goal witness proofs) = DomKind
kind_of_line (Sol model cut rows) = SolKind
kind_of_line (Del ids) = DelKind
kind_of_line (Reduce ids) = ReduceKind
kind_of_line (End id) = EndKind

module _ (spelling : Spelling) (fine : IsSpelling spelling) where
  first_of_line : (line : Line) → line_words spelling line ≡ word_of (kind_of_line line) ∷ later_words spelling line
  first_of_line (Pol tokens) = refl
  first_of_line (Rup goal hints) = refl
  first_of_line (Learn goal hints) = refl
  first_of_line (Def var sum_is) = refl
  first_of_line (Red goal witness proofs) = refl
  first_of_line (Dom goal witness proofs) = refl
  first_of_line (Sol model cut rows) = refl
  first_of_line (Del ids) = refl
  first_of_line (Reduce ids) = refl
  first_of_line (End id) = refl

  kinds_apart : (kind : Kind) (line : Line) (words : Words) → sum (word_of kind) ≢ sum (word_of (kind_of_line line)) → word_of kind ∷ words ≡ line_words spelling line → ⊥
  kinds_apart kind line words apart e = apart (ap sum (head_same _ _ _ _ (e ∙ first_of_line line)))

  -- words that are no body of a kind, after the word of that kind, are no line's
  no_line_of : (kind : Kind) (words : Words) (line : Line) → IsNoBody spelling kind words → IsWellFormed line → word_of kind ∷ words ≡ line_words spelling line → ⊥
  no_line_of PolKind words (Pol tokens) none formed e = none tokens formed (tail_same _ _ _ _ e)
  no_line_of RupKind words (Rup goal hints) none formed e = none goal hints formed.0 formed.1 (tail_same _ _ _ _ e)
  no_line_of LearnKind words (Learn goal hints) none formed e = none goal hints formed.0 formed.1 (tail_same _ _ _ _ e)
  no_line_of DefKind words (Def var sum_is) none formed e = none var sum_is formed.0 formed.1 (tail_same _ _ _ _ e)
  no_line_of RedKind words (Red goal witness proofs) none formed e = none goal witness proofs formed.0 formed.1 formed.2 (tail_same _ _ _ _ e)
  no_line_of DomKind words (Dom goal witness proofs) none formed e = none goal witness proofs formed.0 formed.1 formed.2 (tail_same _ _ _ _ e)
  no_line_of SolKind words (Sol model cut rows) none formed e = none model cut rows formed.0 formed.1 formed.2 (tail_same _ _ _ _ e)
  no_line_of DelKind words (Del ids) none formed e = none ids formed (tail_same _ _ _ _ e)
  no_line_of ReduceKind words (Reduce ids) none formed e = none ids formed (tail_same _ _ _ _ e)
  no_line_of EndKind words (End id) none formed e = none id formed (tail_same _ _ _ _ e)
  no_line_of kind words line none formed e = kinds_apart kind line words (λ same. omega arith) e

  -- ---- the ids that lines of a kind make

  made_by_line : (line : Line) → made_by (kind_of_line line) ≡ made line
  made_by_line (Pol tokens) = refl
  made_by_line (Rup goal hints) = refl
  made_by_line (Learn goal hints) = refl
  made_by_line (Def var sum_is) = refl
  made_by_line (Red goal witness proofs) = refl
  made_by_line (Dom goal witness proofs) = refl
  made_by_line (Sol model cut rows) = refl
  made_by_line (Del ids) = refl
  made_by_line (Reduce ids) = refl
  made_by_line (End id) = refl

  one_kind : (kind other : Kind) → word_of kind ≡ word_of other → kind ≡ other
  one_kind PolKind PolKind e = refl
  one_kind RupKind RupKind e = refl
  one_kind LearnKind LearnKind e = refl
  one_kind DefKind DefKind e = refl
  one_kind RedKind RedKind e = refl
  one_kind DomKind DomKind e = refl
  one_kind SolKind SolKind e = refl
  one_kind DelKind DelKind e = refl
  one_kind ReduceKind ReduceKind e = refl
  one_kind EndKind EndKind e = refl
  one_kind kind other e = let sums : sum (word_of kind) ≡ sum (word_of other) = ap sum e in absurd (omega arith)

  -- a line of a kind makes as many ids as each of that kind
  made_of : (kind : Kind) (line : Line) (words : Words) → word_of kind ∷ words ≡ line_words spelling line → made_by kind ≡ made line
  made_of kind line words e = ap made_by (one_kind kind (kind_of_line line) (head_same _ _ _ _ (e ∙ first_of_line line))) ∙ made_by_line line

  -- ---- the reader

  -- the words of the text that a line has
  words_are : (text : List ℕ) (line : Line) → SpellsLine spelling text line → words_of text ≡ line_words spelling line
  words_are text line spelled = ap words_of spelled.is ∙ words_of-line spelling fine line spelled.formed

  line_fits : (kind : Kind) (line : Line) → made_by kind ≡ made line → HasRoom spelling kind → FitsNext spelling line
  line_fits kind line same room = by_spelling spelling room
    where
      by_spelling : (other : Spelling) → HasRoom other kind → FitsNext other line
      by_spelling Plain room_there = tt
      by_spelling (Relative rows next) room_there = omega arith

  no_fit : (kind : Kind) (line : Line) → made_by kind ≡ made line → (HasRoom spelling kind → ⊥) → FitsNext spelling line → ⊥
  no_fit kind line same none fits = by_spelling spelling none fits
    where
      by_spelling : (other : Spelling) → (HasRoom other kind → ⊥) → FitsNext other line → ⊥
      by_spelling Plain lacks there = lacks tt
      by_spelling (Relative rows next) lacks there = lacks (omega arith)

  pub line_read : (text word : List ℕ) (rest : Words) (kind : Kind) (line : Line) → words_of text ≡ word ∷ rest → word ≡ word_of kind → HasRoom spelling kind → IsWellFormed line × (word_of kind ∷ rest ≡ line_words spelling line) → SpellsLine spelling text line
  line_read text word rest kind line cut is room read = record {
    formed = read.0;
    fits = line_fits kind line (made_of kind line rest read.1) room;
    is = sym (spaced_words text) ∙ ap spaced (cut ∙ ap (λ w. w ∷ rest) is ∙ read.1);
  }

  pub no_line : (text word : List ℕ) (rest : Words) (kind : Kind) → words_of text ≡ word ∷ rest → word ≡ word_of kind → IsNoBody spelling kind rest → SpellsNoLine spelling text
  no_line text word rest kind cut is none = λ line spelled.
      no_line_of kind rest line none spelled.formed (ap (λ w. w ∷ rest) (sym is) ∙ sym cut ∙ words_are text line spelled)

  -- where a line of the kind would make an id that is too large
  pub no_room : (text word : List ℕ) (rest : Words) (kind : Kind) → words_of text ≡ word ∷ rest → word ≡ word_of kind → (HasRoom spelling kind → ⊥) → SpellsNoLine spelling text
  no_room text word rest kind cut is none = λ line spelled.
      let words : word_of kind ∷ rest ≡ line_words spelling line = ap (λ w. w ∷ rest) (sym is) ∙ sym cut ∙ words_are text line spelled in
      no_fit kind line (made_of kind line rest words) none spelled.fits

  -- a word of no kind begins no line
  pub no_kind : (text word : List ℕ) (rest : Words) → words_of text ≡ word ∷ rest → IsValueOf word_of (λ kind. Unit {0}) word None → SpellsNoLine spelling text
  no_kind text word rest cut none = λ line spelled.
      none (kind_of_line line) tt (head_same _ _ _ _ (sym cut ∙ words_are text line spelled ∙ first_of_line line))

  pub body_spelled : (text word : List ℕ) (rest : Words) (kind : Kind) (r : Result Line LineFault) → words_of text ≡ word ∷ rest → word ≡ word_of kind → HasRoom spelling kind → ReadsBody spelling kind rest r → IfOk r (SpellsLine spelling text)
  body_spelled text word rest kind (Ok line) cut is room read = line_read text word rest kind line cut is room read
  body_spelled text word rest kind (Err f) cut is room read = tt

  pub body_syntax : (text word : List ℕ) (rest : Words) (kind : Kind) (r : Result Line LineFault) → words_of text ≡ word ∷ rest → word ≡ word_of kind → ReadsBody spelling kind rest r → IsErrOf r Syntax → SpellsNoLine spelling text
  body_syntax text word rest kind (Ok line) cut is read fault = cc
  body_syntax text word rest kind (Err Syntax) cut is read fault = no_line text word rest kind cut is read
  body_syntax text word rest kind (Err NoMemory) cut is read fault = cc
