-- Logs, line by line.
use Rattle.std.proofs.Common.{◌≡◌, ◌⊎◌, inl, inr, ⊎_elim, true, ℕ, zero, suc, ◌+◌, ◌≤◌, ◌^◌, List, [], ◌∷◌, ◌++◌, length, codes, get_or, refl, sym, ap, subst, ◌∙◌, arith}
use Rattle.std.specs.Fmt.{decimal}
use Rattle.std.specs.List.{All}
use Rattle.std.proofs.lemmas.List.{append-nil, append_assoc, append_cancel_left, length-append}
use Rattle.std.proofs.lemmas.List.Elements.{All-head, All-tail}
use Rattle.scut_base.specs.Bytes.{newline}
use Rattle.scut_base.specs.Files.{IsPrefixOf}
use Rattle.scut_base.proofs.Lists.{head_same, tail_same}
use Rattle.proof_laws.specs.WellFormed.{IsWellFormed}
use Rattle.proof_laws.specs.declared.line.Line.{Line}
use Rattle.proof_lines.specs.Ids.{FitsNext, IsSpelling, after_line}
use Rattle.proof_lines.specs.LineText.{line_text, printed, SpellsLine, SpellsNoLine}
use Rattle.proof_lines.specs.declared.spelling.Spelling.{Spelling}
use Rattle.proof_lines.specs.declared.spelling.Spelling.TheVariants.{Plain, Relative}
use Rattle.proof_lines.proofs.Numbers.{one_number}
use Rattle.proof_lines.proofs.OneLine.{one_line_of}
use Rattle.proof_text.specs.Versions.{IsFirst, AllFit, after_lines, header_line, header_text, lines_text, log_text}
use Rattle.proof_text.specs.LogText.{BeginsWith, SpellsLog, IsOneLine, IsWholeLine, IsWholeLines, IsHeaderPart, HasWrongHeader, GoesWrongAfter, IsSyntaxAt, IsWhole, IsUnfinishedAt, HoldsNoFurtherLine}
use Rattle.proof_text.proofs.OneLines.{nil_right, cons_same, same_line, one_front, not_one, not_empty, ends_one, whole_append}
use Rattle.proof_text.proofs.Words.{decimal_plain, line_text-one, one_from_plain, plain, plain_append}

-- ---- the header

header_plain : (first : Spelling) → plain (header_text first) ≡ true
header_plain Plain = refl
header_plain (Relative rows next) = plain_append (codes "scuttle proof version 2 rows ") (decimal rows) refl (decimal_plain rows)

pub header_one : (first : Spelling) → IsOneLine (header_text first)
header_one first = one_from_plain (header_text first) (header_plain first)

-- what is of a header has no line feed
pub header_part_one : (bytes : List ℕ) → IsHeaderPart bytes → IsOneLine bytes
header_part_one bytes part = one_front bytes part.2.0 (subst (λ (t : List ℕ). IsOneLine t) (sym part.2.1) (header_one part.0))

-- Of texts that begin alike, one with this line feed behind it: this one is the beginning of the other, or the other is a beginning of it.
cut_alike : (h bytes piece rest : List ℕ) (b : ℕ) → (h ++ b ∷ []) ++ rest ≡ bytes ++ piece → IsPrefixOf (h ++ b ∷ []) bytes ⊎ IsPrefixOf bytes h
cut_alike h [] piece rest b e = inr (h, refl)
cut_alike [] (c ∷ bytes) piece rest b e = inl (bytes, cons_same b c bytes bytes (head_same b c rest (bytes ++ piece) e) refl)
cut_alike (d ∷ h) (c ∷ bytes) piece rest b e =
    let first : d ≡ c = head_same d c ((h ++ b ∷ []) ++ rest) (bytes ++ piece) e in
    ⊎_elim
    (λ (whole : IsPrefixOf (h ++ b ∷ []) bytes). inl (whole.0, cons_same d c ((h ++ b ∷ []) ++ whole.0) bytes first whole.1))
    (λ (part : IsPrefixOf bytes h). inr (part.0, cons_same c d (bytes ++ part.0) h (sym first) part.1))
    (cut_alike h bytes piece rest b (tail_same d c ((h ++ b ∷ []) ++ rest) (bytes ++ piece) e))

-- bytes that go on are no more like a header
pub header_more : (bytes piece : List ℕ) → HasWrongHeader bytes → HasWrongHeader (bytes ++ piece)
header_more bytes piece wrong = (
  λ first version whole. ⊎_elim (wrong.0 first version) (λ (part : IsPrefixOf bytes (header_text first)). wrong.1 (first, version, part)) (cut_alike (header_text first) bytes piece whole.0 newline whole.1),
  λ part. wrong.1 (part.0, part.1, (piece ++ part.2.0, sym (append_assoc bytes piece part.2.0) ∙ part.2.1)),
)

-- a header is that of one version, and of so many rows
two_texts : (a b : Spelling) → IsFirst a → IsFirst b → header_text a ≡ header_text b → a ≡ b
two_texts Plain Plain p q e = refl
two_texts Plain (Relative rows next) p q e = let bad : 49 ≡ 50 = ap (λ (t : List ℕ). get_or t 22 0) e in absurd (omega (arith, bad))
two_texts (Relative rows next) Plain p q e = let bad : 50 ≡ 49 = ap (λ (t : List ℕ). get_or t 22 0) e in absurd (omega (arith, bad))
two_texts (Relative rows next) (Relative rows' next') p q e =
    let same : rows ≡ rows' = one_number rows rows' (omega (arith, p.0)) (omega (arith, q.0)) (append_cancel_left (codes "scuttle proof version 2 rows ") (decimal rows) (decimal rows') e) in
    let nexts : next ≡ next' = omega (arith, p.1, q.1, same) in
    ap (λ (r : ℕ). Relative r next) same ∙ ap (λ (n : ℕ). Relative rows' n) nexts

pub headed : (first : Spelling) (rest : List ℕ) → header_line first ++ rest ≡ header_text first ++ newline ∷ rest
headed first rest = append_assoc (header_text first) (newline ∷ []) rest

pub one_header : (a b : Spelling) (x y : List ℕ) → IsFirst a → IsFirst b → header_line a ++ x ≡ header_line b ++ y → (a ≡ b) × (x ≡ y)
one_header a b x y p q e =
    let both = same_line (header_text a) (header_text b) x y (header_one a) (header_one b) (sym (headed a x) ∙ e ∙ headed b y) in
    (two_texts a b p q both.0, both.1)

pub first_fine : (first : Spelling) → IsFirst first → IsSpelling first
first_fine Plain version = tt
first_fine (Relative rows next) version = omega (arith, version.0, version.1)

pub after_fine : (spelling : Spelling) (line : Line) → FitsNext spelling line → IsSpelling (after_line spelling line)
after_fine Plain line fits = tt
after_fine (Relative rows next) line fits = fits

-- ---- lines after lines

pub lines_text_push : (spelling : Spelling) (lines : List Line) (line : Line) (rest : List ℕ) → lines_text spelling (lines ++ line ∷ []) ++ rest ≡ lines_text spelling lines ++ (printed (after_lines spelling lines) line ++ rest)
lines_text_push spelling [] line rest = ap (λ (t : List ℕ). t ++ rest) (append-nil (printed spelling line))
lines_text_push spelling (l ∷ lines) line rest =
    append_assoc (printed spelling l) (lines_text (after_line spelling l) (lines ++ line ∷ [])) rest
    ∙ ap (λ (t : List ℕ). printed spelling l ++ t) (lines_text_push (after_line spelling l) lines line rest)
    ∙ sym (append_assoc (printed spelling l) (lines_text (after_line spelling l) lines) (printed (after_lines (after_line spelling l) lines) line ++ rest))

pub body : (first : Spelling) (lines : List Line) (rest : List ℕ) → log_text first lines ++ rest ≡ header_line first ++ (lines_text first lines ++ rest)
body first lines rest = append_assoc (header_line first) (lines_text first lines) rest

pub log_text_more : (first : Spelling) (lines : List Line) (line : Line) (rest : List ℕ) → log_text first (lines ++ line ∷ []) ++ rest ≡ log_text first lines ++ (printed (after_lines first lines) line ++ rest)
log_text_more first lines line rest =
    body first (lines ++ line ∷ []) rest
    ∙ ap (λ (t : List ℕ). header_line first ++ t) (lines_text_push first lines line rest)
    ∙ sym (body first lines (printed (after_lines first lines) line ++ rest))

pub log_text_push : (first : Spelling) (lines : List Line) (line : Line) → log_text first (lines ++ line ∷ []) ≡ log_text first lines ++ printed (after_lines first lines) line
log_text_push first lines line =
    sym (append-nil (log_text first (lines ++ line ∷ []))) ∙ log_text_more first lines line [] ∙ ap (λ (t : List ℕ). log_text first lines ++ t) (append-nil (printed (after_lines first lines) line))

pub after_push : (spelling : Spelling) (lines : List Line) (line : Line) → after_lines spelling (lines ++ line ∷ []) ≡ after_line (after_lines spelling lines) line
after_push spelling [] line = refl
after_push spelling (l ∷ lines) line = after_push (after_line spelling l) lines line

pub fit_push : (spelling : Spelling) (lines : List Line) (line : Line) → AllFit spelling lines → FitsNext (after_lines spelling lines) line → AllFit spelling (lines ++ line ∷ [])
fit_push spelling [] line fit next = (next, tt)
fit_push spelling (l ∷ lines) line fit next = (fit.0, fit_push (after_line spelling l) lines line fit.1 next)

pub fit_last : (spelling : Spelling) (lines : List Line) (line : Line) → AllFit spelling (lines ++ line ∷ []) → FitsNext (after_lines spelling lines) line
fit_last spelling [] line fit = fit.0
fit_last spelling (l ∷ lines) line fit = fit_last (after_line spelling l) lines line fit.1

pub fine_after : (spelling : Spelling) (lines : List Line) → IsSpelling spelling → AllFit spelling lines → IsSpelling (after_lines spelling lines)
fine_after spelling [] fine fit = fine
fine_after spelling (l ∷ lines) fine fit = fine_after (after_line spelling l) lines (after_fine spelling l fit.0) fit.1

pub fit_front : (spelling : Spelling) (lines : List Line) (line : Line) → AllFit spelling (lines ++ line ∷ []) → AllFit spelling lines
fit_front spelling [] line fit = tt
fit_front spelling (l ∷ lines) line fit = (fit.0, fit_front (after_line spelling l) lines line fit.1)

-- ---- two readings of one log

pub printed_is : (spelling : Spelling) (line : Line) (rest : List ℕ) → printed spelling line ++ rest ≡ line_text spelling line ++ newline ∷ rest
printed_is spelling line rest = append_assoc (line_text spelling line) (newline ∷ []) rest

first_printed : (spelling : Spelling) (line : Line) (lines : List Line) (rest : List ℕ) → lines_text spelling (line ∷ lines) ++ rest ≡ line_text spelling line ++ newline ∷ (lines_text (after_line spelling line) lines ++ rest)
first_printed spelling line lines rest = append_assoc (printed spelling line) (lines_text (after_line spelling line) lines) rest ∙ printed_is spelling line (lines_text (after_line spelling line) lines ++ rest)

-- the lines are those others and more, of which the next is spelled so, and begins what follows the others
pub record GoesOn (spelling : Spelling) (lines others : List Line) (after : List ℕ) : Type 0 where
  pub next : Line
  pub more : List Line
  pub behind : List ℕ
  pub fine : IsSpelling spelling
  pub is : lines ≡ others ++ next ∷ more
  pub spells : SpellsLine spelling (line_text spelling next) next
  pub line : IsWholeLine after (line_text spelling next) behind

abbrev pub Aligned : Spelling → Spelling → List Line → List Line → List ℕ → List ℕ → Type 0
Aligned a b ls ms r q = ((ls ≡ ms) × (r ≡ q)) ⊎ (GoesOn (after_lines b ms) ls ms q ⊎ GoesOn (after_lines a ls) ms ls r)

goes_on : (spelling : Spelling) → IsSpelling spelling → (line : Line) (lines : List Line) (after rest : List ℕ) → All IsWellFormed (line ∷ lines) → AllFit spelling (line ∷ lines) → after ≡ lines_text spelling (line ∷ lines) ++ rest → GoesOn spelling (line ∷ lines) [] after
goes_on spelling fine line lines after rest formed fit e = record {
  fine = fine;
  next = line;
  more = lines;
  behind = lines_text (after_line spelling line) lines ++ rest;
  is = refl;
  spells = record { formed = All-head IsWellFormed line lines formed; fits = fit.0; is = refl };
  line = record { one = line_text-one spelling line; is = e ∙ first_printed spelling line lines rest };
}

one_more : (a b : Spelling) (l : Line) (ls ms : List Line) (r : List ℕ) → GoesOn a ls ms r → GoesOn a (l ∷ ls) (l ∷ ms) r
one_more a b l ls ms r h = record { fine = h.fine; next = h.next; more = h.more; behind = h.behind; is = ap (λ (xs : List Line). l ∷ xs) h.is; spells = h.spells; line = h.line }

aligned_more : (a : Spelling) (l : Line) (ls ms : List Line) (r q : List ℕ) → Aligned (after_line a l) (after_line a l) ls ms r q → Aligned a a (l ∷ ls) (l ∷ ms) r q
aligned_more a l ls ms r q (inl same) = inl (ap (λ (xs : List Line). l ∷ xs) same.0, same.1)
aligned_more a l ls ms r q (inr other) = inr (⊎_elim
    (λ (h : GoesOn (after_lines (after_line a l) ms) ls ms q). inl (one_more (after_lines (after_line a l) ms) a l ls ms q h))
    (λ (h : GoesOn (after_lines (after_line a l) ls) ms ls r). inr (one_more (after_lines (after_line a l) ls) a l ms ls r h))
    other)

align : (a : Spelling) → IsSpelling a → (ls ms : List Line) (r q : List ℕ) → All IsWellFormed ls → AllFit a ls → All IsWellFormed ms → AllFit a ms → lines_text a ls ++ r ≡ lines_text a ms ++ q → Aligned a a ls ms r q
align a fine [] [] r q formed fit others fits e = inl (refl, e)
align a fine [] (m ∷ ms) r q formed fit others fits e = inr (inr (goes_on a fine m ms r q others fits e))
align a fine (l ∷ ls) [] r q formed fit others fits e = inr (inl (goes_on a fine l ls q r formed fit (sym e)))
align a fine (l ∷ ls) (m ∷ ms) r q formed fit others fits e =
    let both = same_line (line_text a l) (line_text a m) _ _ (line_text-one a l) (line_text-one a m) (sym (first_printed a l ls r) ∙ e ∙ first_printed a m ms q) in
    let same : l ≡ m = one_line_of a fine (line_text a l) l m (record { formed = All-head IsWellFormed l ls formed; fits = fit.0; is = refl }) (record { formed = All-head IsWellFormed m ms others; fits = fits.0; is = both.0 }) in
    let rest : (AllFit (after_line a l) ms) → (lines_text (after_line a l) ls ++ r ≡ lines_text (after_line a l) ms ++ q) → Aligned a a (l ∷ ls) (l ∷ ms) r q
    = λ fits' e'. aligned_more a l ls ms r q (align (after_line a l) (after_fine a l fit.0) ls ms r q (All-tail IsWellFormed l ls formed) fit.1 (All-tail IsWellFormed m ms others) fits' e') in
    subst (λ (x : Line). (AllFit (after_line a x) ms) → (lines_text (after_line a l) ls ++ r ≡ lines_text (after_line a x) ms ++ q) → Aligned a a (l ∷ ls) (x ∷ ms) r q) same rest fits.1 both.1

-- two readings of one log are of one version
pub one_first : (bytes : List ℕ) (ls ms : List Line) (r q : List ℕ) → (a : BeginsWith bytes ls r) → (b : BeginsWith bytes ms q) → a.first ≡ b.first
one_first bytes ls ms r q a b = (one_header a.first b.first _ _ a.version b.version (sym (body a.first ls r) ∙ sym a.is ∙ b.is ∙ body b.first ms q)).0

-- and agree as far as both go
pub begins_align : (bytes : List ℕ) (ls ms : List Line) (r q : List ℕ) → (a : BeginsWith bytes ls r) → (b : BeginsWith bytes ms q) → Aligned a.first b.first ls ms r q
begins_align bytes ls ms r q a b =
    let both = one_header a.first b.first _ _ a.version b.version (sym (body a.first ls r) ∙ sym a.is ∙ b.is ∙ body b.first ms q) in
    let under : (AllFit a.first ms) → (lines_text a.first ls ++ r ≡ lines_text a.first ms ++ q) → Aligned a.first a.first ls ms r q
    = λ fits e. align a.first (first_fine a.first a.version) ls ms r q a.formed a.fit b.formed fits e in
    subst (λ (x : Spelling). (AllFit x ms) → (lines_text a.first ls ++ r ≡ lines_text x ms ++ q) → Aligned a.first x ls ms r q) both.0 under b.fit both.1

-- a whole line that is the text of none is that of no line that goes on there
pub wrong_here : (spelling : Spelling) (lines others : List Line) (rest text after : List ℕ) → IsWholeLine rest text after → SpellsNoLine spelling text → GoesOn spelling lines others rest → ⊥
wrong_here spelling lines others rest text after line wrong on =
    let both = same_line text (line_text spelling on.next) after on.behind line.one on.line.one (sym line.is ∙ on.line.is) in
    wrong on.next (record { formed = on.spells.formed; fits = on.spells.fits; is = both.0 })

pub whole_some : (text after : List ℕ) → IsWholeLine [] text after → ⊥
whole_some text after line = not_empty text after (sym line.is)

-- ---- laws

-- bytes spell one list of lines at most
pub spelled_once : (bytes : List ℕ) (lines more : List Line) → SpellsLog bytes lines → SpellsLog bytes more → lines ≡ more
spelled_once bytes lines more spells others = ⊎_elim
    (λ (same : (lines ≡ more) × ([] ≡ [])). same.0)
    (λ (other : GoesOn (after_lines others.first more) lines more [] ⊎ GoesOn (after_lines spells.first lines) more lines []). absurd (⊎_elim
    (λ (on : GoesOn (after_lines others.first more) lines more []). whole_some _ _ on.line)
    (λ (on : GoesOn (after_lines spells.first lines) more lines []). whole_some _ _ on.line)
    other))
    (begins_align bytes lines more [] [] spells others)

pub not_headless : (bytes : List ℕ) (lines : List Line) (rest : List ℕ) → BeginsWith bytes lines rest → HasWrongHeader bytes → ⊥
not_headless bytes lines rest begins fault = fault.0 begins.first begins.version (lines_text begins.first lines ++ rest, sym (begins.is ∙ body begins.first lines rest))

-- bytes that spell a log have no wrong line
pub never_wrong : (bytes : List ℕ) (lines : List Line) → SpellsLog bytes lines → (k : ℕ) → IsSyntaxAt bytes k → ⊥
never_wrong bytes lines spells zero fault = fault
never_wrong bytes lines spells (suc zero) fault = not_headless bytes lines [] spells fault
never_wrong bytes lines spells (suc (suc n)) fault = ⊎_elim
    (λ (same : (fault.lines ≡ lines) × (fault.rest ≡ [])). not_empty fault.text fault.after (sym fault.line.is ∙ same.1))
    (λ (other : GoesOn (after_lines spells.first lines) fault.lines lines [] ⊎ GoesOn (after_lines fault.begins.first fault.lines) lines fault.lines fault.rest). ⊎_elim
    (λ (on : GoesOn (after_lines spells.first lines) fault.lines lines []). whole_some _ _ on.line)
    (λ (on : GoesOn (after_lines fault.begins.first fault.lines) lines fault.lines fault.rest). wrong_here _ lines fault.lines fault.rest fault.text fault.after fault.line fault.wrong on)
    other)
    (begins_align bytes fault.lines lines fault.rest [] fault.begins spells)

printed_whole : (spelling : Spelling) (lines : List Line) → IsWholeLines (lines_text spelling lines)
printed_whole spelling [] = inl refl
printed_whole spelling (l ∷ lines) = whole_append (printed spelling l) (lines_text (after_line spelling l) lines) (inr (line_text spelling l, refl)) (printed_whole (after_line spelling l) lines)

pub lines_whole : (spelling : Spelling) (lines : List Line) (rest : List ℕ) → IsWholeLines rest → IsWholeLines (lines_text spelling lines ++ rest)
lines_whole spelling lines rest whole = whole_append (lines_text spelling lines) rest (printed_whole spelling lines) whole

pub log_whole : (first : Spelling) (lines : List Line) → IsWholeLines (log_text first lines)
log_whole first lines = whole_append (header_line first) (lines_text first lines) (inr (header_text first, refl)) (printed_whole first lines)

log_some : (first : Spelling) (lines : List Line) (rest : List ℕ) → log_text first lines ++ rest ≡ [] → ⊥
log_some first lines rest e = not_empty (header_text first) (lines_text first lines ++ rest) (sym (body first lines rest ∙ headed first (lines_text first lines ++ rest)) ∙ e)

-- a text with no line feed behind whole lines is empty, where all is whole lines
left_empty : (before text whole : List ℕ) → IsOneLine text → before ++ text ≡ whole → IsWholeLines whole → text ≡ []
left_empty before text whole one e (inl none) = nil_right before text (e ∙ none)
left_empty before text whole one e (inr front) = ends_one before text front.0 one (e ∙ front.1)

-- and they don't end in the midst of one
pub never_unfinished : (bytes : List ℕ) (lines : List Line) → SpellsLog bytes lines → (k : ℕ) → IsUnfinishedAt bytes k → ⊥
never_unfinished bytes lines spells k fault =
    let all : bytes ≡ log_text spells.first lines = spells.is ∙ append-nil (log_text spells.first lines) in
    let empty : fault.text ≡ [] = left_empty fault.before fault.text (log_text spells.first lines) fault.one (sym fault.is ∙ all) (log_whole spells.first lines) in
    ⊎_elim (λ some. some empty) (λ none. log_some spells.first lines [] (sym spells.is ∙ fault.is ∙ ap (λ (t : List ℕ). t ++ fault.text) none ∙ empty)) fault.some

-- bytes have one wrong line at most
pub wrong_once : (bytes : List ℕ) (j k : ℕ) → IsSyntaxAt bytes j → IsSyntaxAt bytes k → j ≡ k
wrong_once bytes zero k fault other = absurd fault
wrong_once bytes (suc j) zero fault other = absurd other
wrong_once bytes (suc zero) (suc zero) fault other = refl
wrong_once bytes (suc zero) (suc (suc m)) fault other = absurd (not_headless bytes other.lines other.rest other.begins fault)
wrong_once bytes (suc (suc n)) (suc zero) fault other = absurd (not_headless bytes fault.lines fault.rest fault.begins other)
wrong_once bytes (suc (suc n)) (suc (suc m)) fault other = ⊎_elim
    (λ (same : (fault.lines ≡ other.lines) × (fault.rest ≡ other.rest)). omega (arith, fault.right, other.right, ap length same.0))
    (λ (on : GoesOn (after_lines other.begins.first other.lines) fault.lines other.lines other.rest ⊎ GoesOn (after_lines fault.begins.first fault.lines) other.lines fault.lines fault.rest). absurd (⊎_elim
    (λ (h : GoesOn (after_lines other.begins.first other.lines) fault.lines other.lines other.rest). wrong_here _ fault.lines other.lines other.rest other.text other.after other.line other.wrong h)
    (λ (h : GoesOn (after_lines fault.begins.first fault.lines) other.lines fault.lines fault.rest). wrong_here _ other.lines fault.lines fault.rest fault.text fault.after fault.line fault.wrong h)
    on))
    (begins_align bytes fault.lines other.lines fault.rest other.rest fault.begins other.begins)

-- what is printed spells the lines
pub printed_spells : (first : Spelling) (lines : List Line) → IsFirst first → AllFit first lines → All IsWellFormed lines → SpellsLog (log_text first lines) lines
printed_spells first lines version fit formed = record { first = first; version = version; formed = formed; fit = fit; is = sym (append-nil (log_text first lines)) }

-- where no further line follows what was given, and no bytes are left, it is all
pub spelled_whole : (bytes : List ℕ) (lines : List Line) → HoldsNoFurtherLine bytes lines → IsWhole bytes → SpellsLog bytes lines
spelled_whole bytes lines (inl part) whole =
    absurd (not_one (header_text whole.first) whole.after (subst (λ (t : List ℕ). IsOneLine t) (whole.is ∙ headed whole.first whole.after) (header_part_one bytes part)))
spelled_whole bytes lines (inr (rest, begins, one)) whole =
    let both = one_header begins.first whole.first (lines_text begins.first lines ++ rest) whole.after begins.version whole.version (sym (body begins.first lines rest) ∙ sym begins.is ∙ whole.is) in
    let none : rest ≡ [] = left_empty (lines_text begins.first lines) rest whole.after one both.1 whole.whole in
    subst (λ (r : List ℕ). BeginsWith bytes lines r) none begins
