-- What a reader stands for after a piece more, and after a line more.
use Rattle.std.proofs.Common.{◌≡◌, inl, inr, ℕ, zero, suc, ◌+◌, ◌<◌, true, Option, None, Some, List, [], ◌∷◌, ◌++◌, length, take, drop, refl, sym, ap, subst, ◌∙◌, arith}
use Rattle.std.specs.Option.{is_some}
use Rattle.std.specs.Prelude.{Result, Ok, Err, OnOk}
use Rattle.std.proofs.lemmas.List.{append-nil, append_assoc, length-append, length_push, take_at, drop_at}
use Rattle.std.proofs.lemmas.List.Elements.{All-nil, All-push}
use Rattle.scut_base.specs.Bytes.{newline}
use Rattle.scut_base.specs.Files.{IsPrefixOf}
use Rattle.proof_laws.specs.WellFormed.{IsWellFormed}
use Rattle.proof_laws.specs.declared.line.Line.{Line}
use Rattle.proof_lines.specs.Ids.{after_line}
use Rattle.proof_lines.specs.LineText.{line_text, printed, SpellsLine}
use Rattle.proof_lines.specs.declared.spelling.Spelling.{Spelling}
use Rattle.proof_lines.specs.declared.spelling.Spelling.TheVariants.{Plain}
use Rattle.proof_text.specs.Versions.{IsFirst, after_lines, header_line, header_text, lines_text, log_text}
use Rattle.proof_text.specs.LogText.{BeginsWith, IsHeaderPart, HasWrongHeader, IsOneLine, IsWholeLine, IsWholeLines, IsSyntaxAt, IsWhole, newlines, IsUnfinishedAt}
use Rattle.proof_text.specs.Cutting.{IsLineOf}
use Rattle.proof_text.specs.Reading.{ReaderValue, HasRead, HasGiven, HasReadUpTo, KeepsHeader, StandsFor}
use Rattle.proof_text.proofs.OneLines.{cut_last, whole_append, newlines-append, newlines-one}
use Rattle.proof_text.proofs.Words.{line_text-one}
use Rattle.proof_text.proofs.Logs.{after_push, body, fit_push, header_one, header_part_one, header_more, lines_whole, log_text_more, log_whole, printed_is}

-- ---- a piece more

whole_line_more : (rest text after piece : List ℕ) → IsWholeLine rest text after → IsWholeLine (rest ++ piece) text (after ++ piece)
whole_line_more rest text after piece line = record {
  one = line.one;
  is = ap (λ (t : List ℕ). t ++ piece) line.is ∙ append_assoc text (newline ∷ after) piece;
}

pub begins_more : (bytes rest piece : List ℕ) (lines : List Line) → BeginsWith bytes lines rest → BeginsWith (bytes ++ piece) lines (rest ++ piece)
begins_more bytes rest piece lines begins = record {
  first = begins.first;
  version = begins.version;
  formed = begins.formed;
  fit = begins.fit;
  is = ap (λ (t : List ℕ). t ++ piece) begins.is ∙ append_assoc (log_text begins.first lines) rest piece;
}

pub wrong_more : (bytes piece : List ℕ) (k : ℕ) → IsSyntaxAt bytes k → IsSyntaxAt (bytes ++ piece) k
unfolding begins_more
wrong_more bytes piece zero fault = fault
wrong_more bytes piece (suc zero) fault = header_more bytes piece fault
wrong_more bytes piece (suc (suc n)) fault = record {
  lines = fault.lines;
  rest = fault.rest ++ piece;
  begins = begins_more bytes fault.rest piece fault.lines fault.begins;
  right = fault.right;
  text = fault.text;
  after = fault.after ++ piece;
  line = whole_line_more fault.rest fault.text fault.after piece fault.line;
  wrong = fault.wrong;
}

given_more : (bytes piece : List ℕ) (lines : List Line) → HasGiven bytes lines → HasGiven (bytes ++ piece) lines
given_more bytes piece lines (inl none) = inl none
given_more bytes piece lines (inr given) = inr (given.0 ++ piece, begins_more bytes given.0 piece lines given.1)

wrong_kept : (wrong : Option ℕ) (r : ReaderValue) (bytes piece : List ℕ) (lines : List Line) → is_some wrong ≡ true → HasReadUpTo wrong r bytes lines → HasReadUpTo wrong r (bytes ++ piece) lines
wrong_kept None r bytes piece lines some read = cc
wrong_kept (Some k) r bytes piece lines some read = (wrong_more bytes piece k read.0, read.1, given_more bytes piece lines read.2)

-- where a line was wrong
pub fed_wrong : (r : ReaderValue) (bytes piece : List ℕ) (lines : List Line) → is_some r.wrong ≡ true → StandsFor r bytes lines → StandsFor r (bytes ++ piece) lines
fed_wrong r bytes piece lines some stands = record { given = stands.given; read = wrong_kept r.wrong r bytes piece lines some stands.read }

-- a reader, part by part
abbrev pub reader : ℕ → Option Spelling → List ℕ → Option ℕ → ReaderValue
reader given begun rest wrong = record { given = given; begun = begun; rest = rest; wrong = wrong }

-- what was read, where no line was wrong
read_of : (r : ReaderValue) → r.wrong ≡ None → (begun : Option Spelling) → r.begun ≡ begun → (bytes : List ℕ) (lines : List Line) → StandsFor r bytes lines → HasRead begun r.rest bytes lines
read_of r sound begun is bytes lines stands = subst (λ (b : Option Spelling). HasRead b r.rest bytes lines) is (subst (λ (o : Option ℕ). HasReadUpTo o r bytes lines) sound stands.read)

stands_by : (r : ReaderValue) → r.wrong ≡ None → (begun : Option Spelling) → r.begun ≡ begun → (bytes : List ℕ) (lines : List Line) → length lines ≡ r.given → HasRead begun r.rest bytes lines → StandsFor r bytes lines
stands_by r sound begun is bytes lines count read = record {
  given = count;
  read = subst (λ (o : Option ℕ). HasReadUpTo o r bytes lines) (sym sound) (subst (λ (b : Option Spelling). HasRead b r.rest bytes lines) (sym is) read);
}

-- the header, by the bytes that it is cut off
pub header_cut : (first : Spelling) (bytes : List ℕ) (len : ℕ) → IsPrefixOf (header_line first) bytes → len ≡ length (header_text first) → (bytes ≡ header_line first ++ drop (len + 1) bytes) × IsLineOf bytes len
header_cut first bytes len starts long =
    let whole : bytes ≡ header_text first ++ newline ∷ starts.0 = sym starts.1 ∙ append_assoc (header_text first) (newline ∷ []) starts.0 in
    let line : length (header_line first) ≡ len + 1 = omega (arith, long, length-append (header_text first) (newline ∷ [])) in
    let after : drop (len + 1) bytes ≡ starts.0 = ap (drop (len + 1)) (sym starts.1) ∙ drop_at (header_line first) starts.0 (len + 1) line in
    let text : take len bytes ≡ header_text first = ap (take len) whole ∙ take_at (header_text first) (newline ∷ starts.0) len (sym long) in (
      sym starts.1 ∙ ap (λ (t : List ℕ). header_line first ++ t) (sym after),
      record {
        short = omega (arith, long, ap length whole, length-append (header_text first) (newline ∷ starts.0));
        line = record {
          one = subst (λ (t : List ℕ). IsOneLine t) (sym text) (header_one first);
          is = whole ∙ ap (λ (t : List ℕ). t ++ newline ∷ starts.0) (sym text) ∙ ap (λ (t : List ℕ). take len bytes ++ newline ∷ t) (sym after);
        };
      },
    )

module _ (old : ReaderValue) (sound : old.wrong ≡ None) (unbegun : old.begun ≡ None) (bytes piece : List ℕ) (lines : List Line) (stands : StandsFor old bytes lines) where
  unread : (lines ≡ []) × (bytes ≡ old.rest)
  unread = read_of old sound None unbegun bytes lines stands

  fed_bytes : bytes ++ piece ≡ old.rest ++ piece
  fed_bytes = ap (λ (t : List ℕ). t ++ piece) unread.1

  -- a piece more, before the header is whole
  pub fed_part : (new : ReaderValue) → new.given ≡ old.given → new.begun ≡ None → new.rest ≡ old.rest ++ piece → new.wrong ≡ None → StandsFor new (bytes ++ piece) lines
  fed_part new count still rest right = stands_by new right None still (bytes ++ piece) lines (stands.given ∙ sym count) (unread.0, fed_bytes ∙ sym rest)

  -- the piece in which the header ends
  pub fed_header : (new : ReaderValue) (first : Spelling) → IsFirst first → new.given ≡ old.given → new.begun ≡ Some first → old.rest ++ piece ≡ header_line first ++ new.rest → new.wrong ≡ None → StandsFor new (bytes ++ piece) lines
  fed_header new first version count begun is right =
      let begins : HasRead (Some first) new.rest (bytes ++ piece) [] = (
        record {
          first = first;
          version = version;
          formed = All-nil IsWellFormed;
          fit = tt;
          is = fed_bytes ∙ is ∙ sym (ap (λ (t : List ℕ). t ++ new.rest) (append-nil (header_line first)));
        },
        refl,
      ) in
      stands_by new right (Some first) begun (bytes ++ piece) lines (stands.given ∙ sym count) (subst (λ (ls : List Line). HasRead (Some first) new.rest (bytes ++ piece) ls) (sym unread.0) begins)

  -- a piece with which it is no header
  pub fed_other : (new : ReaderValue) → new.given ≡ old.given → new.wrong ≡ Some 1 → HasWrongHeader (old.rest ++ piece) → StandsFor new (bytes ++ piece) lines
  fed_other new count wrong other = record {
    given = stands.given ∙ sym count;
    read = subst (λ (o : Option ℕ). HasReadUpTo o new (bytes ++ piece) lines) (sym wrong) (subst (λ (t : List ℕ). HasWrongHeader t) (sym fed_bytes) other, omega arith, inl unread.0);
  }

-- nothing is left of bytes that are no header
pub no_part : (begun : Option Spelling) → begun ≡ None → (rest : List ℕ) → rest ≡ [] → KeepsHeader begun rest
no_part begun unbegun rest none =
    subst (λ (b : Option Spelling). KeepsHeader b rest) (sym unbegun) (Plain, tt, (header_text Plain, ap (λ (t : List ℕ). t ++ header_text Plain) none))

pub begun_some : (begun : Option Spelling) → is_some begun ≡ true → (spelling : Spelling) × (begun ≡ Some spelling)
begun_some (Some spelling) e = (spelling, refl)
begun_some None e = cc

-- a piece more, after the header
pub fed_more : (old new : ReaderValue) (piece : List ℕ) → old.wrong ≡ None → is_some old.begun ≡ true → new.given ≡ old.given → new.begun ≡ old.begun → new.rest ≡ old.rest ++ piece → new.wrong ≡ old.wrong → (bytes : List ℕ) (lines : List Line) → StandsFor old bytes lines → StandsFor new (bytes ++ piece) lines
unfolding begins_more
fed_more old new piece sound some count still rest right bytes lines stands =
    let begun = begun_some old.begun some in
    let read : HasRead (Some begun.0) old.rest bytes lines = read_of old sound (Some begun.0) begun.1 bytes lines stands in
    let more : HasRead (Some begun.0) (old.rest ++ piece) (bytes ++ piece) lines = (begins_more bytes old.rest piece lines read.0, read.1) in
    stands_by new (right ∙ sound) (Some begun.0) (still ∙ begun.1) (bytes ++ piece) lines (stands.given ∙ sym count) (subst (λ (t : List ℕ). HasRead (Some begun.0) t (bytes ++ piece) lines) (sym rest) more)

pub ok_then : {A E : Type 0} (r : Result A E) (P Q : Type 0) → OnOk r P → (P → Q) → OnOk r Q
ok_then (Ok x) P Q h f = f h
ok_then (Err e) P Q h f = tt

-- ---- a line more

begins_next : (bytes rest text after : List ℕ) (lines : List Line) (line : Line) → (begins : BeginsWith bytes lines rest) → IsWholeLine rest text after → SpellsLine (after_lines begins.first lines) text line → BeginsWith bytes (lines ++ line ∷ []) after
begins_next bytes rest text after lines line begins whole spells =
    let spelling : Spelling = after_lines begins.first lines in
    record {
      first = begins.first;
      version = begins.version;
      formed = All-push IsWellFormed lines line begins.formed spells.formed;
      fit = fit_push begins.first lines line begins.fit spells.fits;
      is = begins.is
          ∙ ap (λ (t : List ℕ). log_text begins.first lines ++ t) (whole.is ∙ ap (λ (t : List ℕ). t ++ newline ∷ after) spells.is ∙ sym (printed_is spelling line after))
          ∙ sym (log_text_more begins.first lines line after);
    }

module _ (old : ReaderValue) (sound : old.wrong ≡ None) (spelling : Spelling) (begun : old.begun ≡ Some spelling) (len : ℕ) (first : IsLineOf old.rest len) where
  -- the first whole line was given
  pub given_line : (new : ReaderValue) (line : Line) → SpellsLine spelling (take len old.rest) line → new.given ≡ old.given + 1 → new.begun ≡ Some (after_line spelling line) → new.rest ≡ drop (len + 1) old.rest → new.wrong ≡ old.wrong → (bytes : List ℕ) (lines : List Line) → StandsFor old bytes lines → StandsFor new bytes (lines ++ line ∷ [])
  unfolding begins_next read_of
  given_line new line spells count still rest right bytes lines stands =
      let read : HasRead (Some spelling) old.rest bytes lines = read_of old sound (Some spelling) begun bytes lines stands in
      let here : SpellsLine (after_lines read.0.first lines) (take len old.rest) line = subst (λ (s : Spelling). SpellsLine s (take len old.rest) line) read.1 spells in
      let next : BeginsWith bytes (lines ++ line ∷ []) (drop (len + 1) old.rest) = begins_next bytes old.rest (take len old.rest) (drop (len + 1) old.rest) lines line read.0 first.line here in
      let after : after_line spelling line ≡ after_lines read.0.first (lines ++ line ∷ []) = ap (λ (s : Spelling). after_line s line) read.1 ∙ sym (after_push read.0.first lines line) in
      let all : HasRead (Some (after_line spelling line)) new.rest bytes (lines ++ line ∷ []) = subst (λ (t : List ℕ). HasRead (Some (after_line spelling line)) t bytes (lines ++ line ∷ [])) (sym rest) (next, after) in
      stands_by new (right ∙ sound) (Some (after_line spelling line)) still bytes (lines ++ line ∷ []) (length_push lines line ∙ ap (λ (n : ℕ). n + 1) stands.given ∙ sym count) all

  -- the first whole line is the text of none
  pub wrong_line : (new : ReaderValue) (k : ℕ) → ((line : Line) → SpellsLine spelling (take len old.rest) line → ⊥) → new.given ≡ old.given → new.wrong ≡ Some k → k ≡ old.given + 2 → (bytes : List ℕ) (lines : List Line) → StandsFor old bytes lines → IsSyntaxAt bytes k × StandsFor new bytes lines
  wrong_line new k lacks count wrong number bytes lines stands =
      let read : HasRead (Some spelling) old.rest bytes lines = read_of old sound (Some spelling) begun bytes lines stands in
      let at : suc (suc (length lines)) ≡ k = omega (arith, number, stands.given) in
      let syntax : IsSyntaxAt bytes k = subst (IsSyntaxAt bytes) at (record {
        lines = lines;
        rest = old.rest;
        begins = read.0;
        right = refl;
        text = take len old.rest;
        after = drop (len + 1) old.rest;
        line = first.line;
        wrong = λ line spells. lacks line (subst (λ (s : Spelling). SpellsLine s (take len old.rest) line) (sym read.1) spells);
      }) in (
        syntax,
        record {
          given = stands.given ∙ sym count;
          read = subst (λ (o : Option ℕ). HasReadUpTo o new bytes lines) (sym wrong) (syntax, omega (arith, number, stands.given), inr (old.rest, read.0));
        },
      )

-- ---- the end

pub unbegun_part : (r : ReaderValue) → r.begun ≡ None → KeepsHeader r.begun r.rest → IsHeaderPart r.rest
unbegun_part r unbegun keeps = subst (λ (b : Option Spelling). KeepsHeader b r.rest) unbegun keeps

-- no more than a part of the header was fed
pub ends_early : (r : ReaderValue) → r.wrong ≡ None → r.begun ≡ None → IsHeaderPart r.rest → (bytes : List ℕ) (lines : List Line) → StandsFor r bytes lines → IsUnfinishedAt bytes 1
ends_early r sound unbegun part bytes lines stands =
    let read : HasRead None r.rest bytes lines = read_of r sound None unbegun bytes lines stands in
    record {
      before = [];
      text = bytes;
      is = refl;
      whole = inl refl;
      one = subst (λ (t : List ℕ). IsOneLine t) (sym read.1) (header_part_one r.rest part);
      some = inr refl;
      number = refl;
    }

pub ends_well : (r : ReaderValue) → r.wrong ≡ None → (spelling : Spelling) → r.begun ≡ Some spelling → IsWholeLines r.rest → (bytes : List ℕ) (lines : List Line) → StandsFor r bytes lines → IsWhole bytes
ends_well r sound spelling begun whole bytes lines stands =
    let read : HasRead (Some spelling) r.rest bytes lines = read_of r sound (Some spelling) begun bytes lines stands in
    record {
      first = read.0.first;
      version = read.0.version;
      after = lines_text read.0.first lines ++ r.rest;
      is = read.0.is ∙ body read.0.first lines r.rest;
      whole = lines_whole read.0.first lines r.rest whole;
    }

printed_feeds : (spelling : Spelling) (lines : List Line) → newlines (lines_text spelling lines) ≡ length lines
printed_feeds spelling [] = refl
printed_feeds spelling (l ∷ lines) =
    let more : List ℕ = lines_text (after_line spelling l) lines in
    let all : newlines (printed spelling l ++ more) ≡ newlines (printed spelling l) + newlines more = newlines-append (printed spelling l) more in
    let first : newlines (printed spelling l) ≡ newlines (line_text spelling l) + 1 = newlines-append (line_text spelling l) (newline ∷ []) in
    let none : newlines (line_text spelling l) ≡ 0 = newlines-one (line_text spelling l) (line_text-one spelling l) in
    let rest : newlines more ≡ length lines = printed_feeds (after_line spelling l) lines in
    omega arith

pub log_feeds : (first : Spelling) (lines : List Line) → newlines (log_text first lines) ≡ length lines + 1
log_feeds first lines =
    let all : newlines (log_text first lines) ≡ newlines (header_line first) + newlines (lines_text first lines) = newlines-append (header_line first) (lines_text first lines) in
    let one : newlines (header_line first) ≡ newlines (header_text first) + 1 = newlines-append (header_text first) (newline ∷ []) in
    let none : newlines (header_text first) ≡ 0 = newlines-one (header_text first) (header_one first) in
    let rest : newlines (lines_text first lines) ≡ length lines = printed_feeds first lines in
    omega arith

-- bytes are left behind the last line feed
pub ends_badly : (r : ReaderValue) → r.wrong ≡ None → (spelling : Spelling) → r.begun ≡ Some spelling → (IsWholeLines r.rest → ⊥) → (bytes : List ℕ) (lines : List Line) → StandsFor r bytes lines → IsUnfinishedAt bytes (r.given + newlines r.rest + 2)
ends_badly r sound spelling begun ragged bytes lines stands =
    let read : HasRead (Some spelling) r.rest bytes lines = read_of r sound (Some spelling) begun bytes lines stands in
    let text : List ℕ = log_text read.0.first lines in
    let cut = cut_last r.rest in
    let before : List ℕ = text ++ cut.before in
    let all : newlines before ≡ newlines text + newlines cut.before = newlines-append text cut.before in
    let logged : newlines text ≡ length lines + 1 = log_feeds read.0.first lines in
    let parts : newlines r.rest ≡ newlines cut.before + newlines cut.text = ap newlines cut.is ∙ newlines-append cut.before cut.text in
    let none : newlines cut.text ≡ 0 = newlines-one cut.text cut.one in
    let count : length lines ≡ r.given = stands.given in
    record {
      before = before;
      text = cut.text;
      is = read.0.is ∙ ap (λ (t : List ℕ). text ++ t) cut.is ∙ sym (append_assoc text cut.before cut.text);
      whole = whole_append text cut.before (log_whole read.0.first lines) cut.whole;
      one = cut.one;
      some = inl (λ empty. ragged (subst (λ (t : List ℕ). IsWholeLines t) (sym (cut.is ∙ ap (λ (t : List ℕ). cut.before ++ t) empty ∙ append-nil cut.before)) cut.whole));
      number = omega arith;
    }
