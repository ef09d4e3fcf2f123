-- What a log that is read line by line holds.
use Rattle.std.proofs.Common.{◌≡◌, ◌⊎◌, inl, inr, ⊎_elim, ℕ, zero, suc, ◌+◌, ◌<◌, ◌≤◌, ◌^◌, ◌-◌, List, [], ◌∷◌, ◌++◌, length, take, drop, refl, sym, ap, subst, ◌∙◌, arith}
use Rattle.std.specs.Prelude.{Err}
use Rattle.std.proofs.lemmas.List.{length-append, take-append-drop, take-take}
use Rattle.pb_lin.specs.Problem.{ProblemValue}
use Rattle.proof_laws.specs.declared.line.Line.{Line}
use Rattle.proof_lines.specs.Ids.{FitsNext}
use Rattle.proof_lines.specs.declared.spelling.Spelling.{Spelling}
use Rattle.proof_text.specs.LogText.{BeginsWith, GoesWrongAfter, HoldsNoFurtherLine, IsHeaderPart, IsSyntaxAt, IsUnfinishedAt, SpellsLog, newlines}
use Rattle.proof_text.specs.Reading.{HasGiven, ReaderValue, StandsFor}
use Rattle.proof_text.specs.Versions.{IsFirst, after_lines, log_text}
use Rattle.proof_text.specs.declared.fault.TextFault.{TextFault}
use Rattle.proof_text.specs.declared.fault.TextFault.TheVariants.{Syntax as SyntaxAt, NoMemory as TextMemory}
use Rattle.proof_text.proofs.Lengths.{fit_anew}
use Rattle.proof_text.proofs.Logs.{GoesOn, begins_align, fit_last, header_part_one, not_headless, wrong_here}
use Rattle.proof_text.proofs.OneLines.{newlines-append, newlines-one}
use Rattle.proof_text.proofs.Readings.{begins_more, log_feeds, wrong_more}
use Rattle.log_checker.proofs.Answering.{given}
use Rattle.log_checker.proofs.Faults.{no_syntax}
use Rattle.log_checker.proofs.Texts.{begins_has_newline}
use Rattle.command_base.specs.LogLines.{AreAllWhole, AreBefore, HasNoWrongLine, before_limit}
use Rattle.command_base.specs.RewrittenSoFar.{EndsAt, stop_of}

-- ---- lines that bytes begin with

no_push : (lines : List Line) (line : Line) → lines ++ line ∷ [] ≡ [] → ⊥
no_push [] line e = cc
no_push (l ∷ lines) line e = cc

-- a line that was given last
pub begins_last : (bytes : List ℕ) (lines : List Line) (line : Line) → HasGiven bytes (lines ++ line ∷ []) → (rest : List ℕ) × BeginsWith bytes (lines ++ line ∷ []) rest
begins_last bytes lines line (inl none) = absurd (no_push lines line none)
begins_last bytes lines line (inr there) = there

-- it makes no id that is too large
pub last_fits : (bytes : List ℕ) (lines : List Line) (line : Line) (first : Spelling) → HasGiven bytes (lines ++ line ∷ []) → length bytes < 2 ^ 62 → IsFirst first → FitsNext (after_lines first lines) line
last_fits bytes lines line first has short version =
    let begins = begins_last bytes lines line has in
    fit_last first lines line (fit_anew bytes (lines ++ line ∷ []) begins.0 begins.1 (omega (arith, short)) first version)

-- it goes wrong after these lines, and no others
same_lines : (bytes : List ℕ) (lines : List Line) (rest : List ℕ) (n : ℕ) → BeginsWith bytes lines rest → (g : GoesWrongAfter bytes n) → n ≤ length lines → length lines ≡ n
same_lines bytes lines rest n begins g few = ⊎_elim
    (λ (same : (lines ≡ g.lines) × (rest ≡ g.rest)). omega (arith, g.right, ap length same.0))
    (λ (other : GoesOn (after_lines g.begins.first g.lines) lines g.lines g.rest ⊎ GoesOn (after_lines begins.first lines) g.lines lines rest). absurd (⊎_elim
    (λ (on : GoesOn (after_lines g.begins.first g.lines) lines g.lines g.rest). wrong_here (after_lines g.begins.first g.lines) lines g.lines g.rest g.text g.after g.line g.wrong on)
    (λ (on : GoesOn (after_lines begins.first lines) g.lines lines rest). omega (arith, g.right, ap length on.is, length-append lines (on.next ∷ on.more)))
    other))
    (begins_align bytes lines g.lines rest g.rest begins g.begins)

wrong_given : (bytes : List ℕ) (lines : List Line) (n : ℕ) → HasGiven bytes lines → (g : GoesWrongAfter bytes n) → n ≤ length lines → (length lines ≡ n) × ((rest : List ℕ) × BeginsWith bytes lines rest)
wrong_given bytes lines n (inr begins) g few = (same_lines bytes lines begins.0 n begins.1 g few, begins)
wrong_given bytes lines n (inl none) g few = (omega (arith, ap length none, few), (g.rest, subst (λ (ls : List Line). BeginsWith bytes ls g.rest) (empty g.lines (omega (arith, g.right, ap length none, few)) ∙ sym none) g.begins))
  where
    empty : (xs : List Line) → length xs ≤ 0 → xs ≡ []
    empty [] low = refl
    empty (x ∷ xs) low = absurd (omega arith)

headless : (bytes : List ℕ) (lines : List Line) → HasGiven bytes lines → IsSyntaxAt bytes 1 → lines ≡ []
headless bytes lines (inl none) wrong = none
headless bytes lines (inr begins) wrong = absurd (not_headless bytes lines begins.0 begins.1 wrong)

-- the lines before the first that is wrong
pub before_wrong : (bytes : List ℕ) (lines : List Line) (k : ℕ) → HasGiven bytes lines → IsSyntaxAt bytes k → k ≤ length lines + 2 → AreBefore bytes k lines
before_wrong bytes lines zero has wrong low = wrong
before_wrong bytes lines (suc zero) has wrong low = headless bytes lines has wrong
before_wrong bytes lines (suc (suc n)) has wrong low = wrong_given bytes lines n has wrong (omega (arith, low))

-- ---- the end

no_problem : ProblemValue
no_problem = record { vars = 0; rows = []; costs = [] }

pub none_wrong : (bytes : List ℕ) (lines : List Line) → HoldsNoFurtherLine bytes lines → HasNoWrongLine bytes
none_wrong bytes lines held k wrong = no_syntax no_problem [] bytes lines k held wrong

feeds_before : (bytes : List ℕ) (k : ℕ) → IsUnfinishedAt bytes k → newlines bytes + 1 ≡ k
feeds_before bytes k end = omega (arith, end.number, ap newlines end.is, newlines-append end.before end.text, newlines-one end.text end.one)

pub part_empty : (bytes : List ℕ) (lines : List Line) → HasGiven bytes lines → IsHeaderPart bytes → lines ≡ []
part_empty bytes lines (inl none) part = none
part_empty bytes lines (inr begins) part = absurd (begins_has_newline bytes lines begins.0 begins.1 (header_part_one bytes part))

-- the lines before the one in whose midst the bytes end
pub before_end : (bytes : List ℕ) (lines : List Line) (k : ℕ) → HasGiven bytes lines → HoldsNoFurtherLine bytes lines → IsUnfinishedAt bytes k → AreBefore bytes k lines
before_end bytes lines k has (inl part) end =
    let one : 1 ≡ k = omega (arith, feeds_before bytes k end, newlines-one bytes (header_part_one bytes part)) in
    subst (λ (n : ℕ). AreBefore bytes n lines) one (part_empty bytes lines has part)
before_end bytes lines k has (inr held) end =
    let text : List ℕ = log_text held.1.first lines in
    let number : suc (suc (length lines)) ≡ k = omega (
      arith,
      feeds_before bytes k end,
      ap newlines held.1.is,
      newlines-append text held.0,
      newlines-one held.0 held.2,
      log_feeds held.1.first lines,
    ) in
    subst (λ (n : ℕ). AreBefore bytes n lines) number (refl, (held.0, held.1))

pub ends_badly : (r : ReaderValue) (bytes : List ℕ) (lines : List Line) (fault : TextFault) → StandsFor r bytes lines → HoldsNoFurtherLine bytes lines
    → ((k : ℕ) → fault ≡ SyntaxAt k → IsSyntaxAt bytes k ⊎ IsUnfinishedAt bytes k) → EndsAt bytes lines (Err (stop_of fault))
ends_badly r bytes lines TextMemory stands held wrong = tt
ends_badly r bytes lines (SyntaxAt k) stands held wrong = ⊎_elim
    (λ (bad : IsSyntaxAt bytes k). absurd (none_wrong bytes lines held k bad))
    (λ (end : IsUnfinishedAt bytes k). (refl, none_wrong bytes lines held, end, before_end bytes lines k (given r bytes lines stands) held end))
    (wrong k refl)

-- all whole lines of the bytes
pub all_whole : (bytes : List ℕ) (lines : List Line) → HasGiven bytes lines → HoldsNoFurtherLine bytes lines → AreAllWhole bytes lines
all_whole bytes lines has (inl part) = inl (part_empty bytes lines has part, part)
all_whole bytes lines has (inr held) = inr held

-- ---- the first bytes of a log

-- lines that the first bytes begin with
pub begins_in : (bytes whole : List ℕ) (lines : List Line) (rest : List ℕ) → bytes ≡ take (length bytes) whole → BeginsWith bytes lines rest → (more : List ℕ) × BeginsWith whole lines more
begins_in bytes whole lines rest is begins =
    let after : List ℕ = drop (length bytes) whole in
    let all : bytes ++ after ≡ whole = ap (λ (t : List ℕ). t ++ after) is ∙ take-append-drop (length bytes) whole in
    (rest ++ after, subst (λ (t : List ℕ). BeginsWith t lines (rest ++ after)) all (begins_more bytes rest after lines begins))

pub before_in : (bytes whole : List ℕ) (k : ℕ) (lines : List Line) → bytes ≡ take (length bytes) whole → AreBefore bytes k lines → AreBefore whole k lines
before_in bytes whole zero lines is before = before
before_in bytes whole (suc zero) lines is before = before
before_in bytes whole (suc (suc n)) lines is before = (before.0, begins_in bytes whole lines before.1.0 is before.1.1)

-- they are the first before the limit, too
pub first_of_front : (bytes whole : List ℕ) → bytes ≡ take (length bytes) whole → length bytes ≤ 2 ^ 62 - 1 → bytes ≡ take (length bytes) (before_limit whole)
first_of_front bytes whole is short = is ∙ sym (take-take (length bytes) (2 ^ 62 - 1) whole short)

pub wrong_in : (bytes whole : List ℕ) (n k : ℕ) → bytes ≡ take (length bytes) whole → length bytes ≤ n → IsSyntaxAt bytes k → IsSyntaxAt (take n whole) k
wrong_in bytes whole n k is short wrong =
    let after : List ℕ = drop (length bytes) (take n whole) in
    let front : take (length bytes) (take n whole) ≡ bytes = take-take (length bytes) n whole short ∙ sym is in
    subst (λ (t : List ℕ). IsSyntaxAt t k) (ap (λ (t : List ℕ). t ++ after) (sym front) ∙ take-append-drop (length bytes) (take n whole)) (wrong_more bytes after k wrong)
