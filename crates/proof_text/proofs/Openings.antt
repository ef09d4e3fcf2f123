-- What a log begins with.
use Rattle.std.proofs.Common.{◌≡◌, ◌≢◌, ◌⊎◌, inl, inr, ⊎_elim, ℕ, ◌+◌, ◌≤◌, ◌<◌, ◌^◌, List, [], ◌∷◌, ◌++◌, length, take, drop, get_or, refl, sym, ap, subst, ◌∙◌, arith}
use Rattle.std.specs.Fmt.{decimal}
use Rattle.std.specs.Str.Parse.{AllDigits, digits_value}
use Rattle.std.proofs.lemmas.List.{append_assoc, append_cancel_left, append-nil, length-append, length-take-le, take_at, drop_at}
use Rattle.std.proofs.lemmas.Str.Parse.{digits_value-take-le}
use Rattle.scut_base.specs.Bytes.{newline}
use Rattle.scut_base.specs.Files.{IsPrefixOf}
use Rattle.scut_base.proofs.Lists.{head_same, tail_same}
use Rattle.proof_lines.specs.Reading.{IsPlain, IsValueOf}
use Rattle.proof_lines.specs.declared.spelling.Spelling.{Spelling}
use Rattle.proof_lines.specs.declared.spelling.Spelling.TheVariants.{Plain, Relative}
use Rattle.proof_lines.proofs.Numbers.{decimal_digits, decimal_plain, decimal_value, digits_spell}
use Rattle.proof_text.specs.Versions.{IsFirst, header_line, header_text}
use Rattle.proof_text.specs.LogText.{IsHeaderPart, IsOneLine, IsWholeLine, HasWrongHeader}
use Rattle.proof_text.specs.Cutting.{IsLineOf, rows_words}
use Rattle.proof_text.proofs.OneLines.{cons_same, same_line, not_one, one_append, one_front}
use Rattle.proof_text.proofs.Logs.{header_one}

-- ---- a beginning of digits

digits_front : (a b : List ℕ) → AllDigits 10 (a ++ b) → AllDigits 10 a
digits_front [] b d = tt
digits_front (c ∷ a) b d = (d.0, digits_front a b d.1)

plain_front : (c : ℕ) (a b : List ℕ) → IsPlain (c ∷ (a ++ b)) → IsPlain (c ∷ a)
plain_front c a b plain = (omega arith, λ zero. omega (arith, plain.1 zero, length-append a b))

-- a beginning of the digits of a number are those of one that is no larger
pub decimal_front : (n : ℕ) → n ≤ 2 ^ 34 → (c : ℕ) (a b : List ℕ) → decimal n ≡ c ∷ (a ++ b) → (m : ℕ) × (m ≤ 2 ^ 34) × (c ∷ a ≡ decimal m)
decimal_front n small c a b e =
    let word : List ℕ = c ∷ a in
    let digits : AllDigits 10 word = digits_front word b (subst (AllDigits 10) e (decimal_digits n (omega (arith, small)))) in
    let plain : IsPlain word = plain_front c a b (subst IsPlain e (decimal_plain n (omega (arith, small)))) in
    let whole : digits_value 10 (word ++ b) ≡ n = ap (digits_value 10) (sym e) ∙ decimal_value n (omega (arith, small)) in
    let front : digits_value 10 word ≤ digits_value 10 (word ++ b) = subst (λ (t : List ℕ). digits_value 10 t ≤ digits_value 10 (word ++ b)) (take_at word b (length word) refl) (digits_value-take-le 10 (word ++ b) (length word) (omega arith)) in
    (digits_value 10 word, omega (arith, whole, front, small), digits_spell word (digits_value 10 word) plain digits refl (omega (arith, whole, front, small)))

-- ---- which header it may be

pub part_one : (bytes : List ℕ) → IsPrefixOf bytes (header_text Plain) → IsHeaderPart bytes
part_one bytes part = (Plain, tt, part)

pub part_two : (bytes : List ℕ) → IsPrefixOf bytes rows_words → IsHeaderPart bytes
part_two bytes part = (Relative 0 1, (omega arith, refl), (part.0 ++ decimal 0, sym (append_assoc bytes part.0 (decimal 0)) ∙ ap (λ (t : List ℕ). t ++ decimal 0) part.1))

-- of two texts that go on alike one is the beginning of the other
compared : (a b x y : List ℕ) → a ++ x ≡ b ++ y → IsPrefixOf a b ⊎ IsPrefixOf b a
compared [] b x y e = inl (b, refl)
compared (c ∷ a) [] x y e = inr (c ∷ a, refl)
compared (c ∷ a) (d ∷ b) x y e =
    let first : c ≡ d = head_same c d (a ++ x) (b ++ y) e in
    ⊎_elim
    (λ (p : IsPrefixOf a b). inl (p.0, cons_same c d (a ++ p.0) b first p.1))
    (λ (p : IsPrefixOf b a). inr (p.0, cons_same d c (b ++ p.0) a (sym first) p.1))
    (compared a b x y (tail_same c d (a ++ x) (b ++ y) e))

line_two : (rows next : ℕ) (x : List ℕ) → header_line (Relative rows next) ++ x ≡ rows_words ++ (decimal rows ++ newline ∷ x)
line_two rows next x =
    append_assoc (rows_words ++ decimal rows) (newline ∷ []) x ∙ append_assoc rows_words (decimal rows) (newline ∷ x)

module _ (bytes : List ℕ) (no_line : IsPrefixOf (header_line Plain) bytes → ⊥) (no_text : IsPrefixOf bytes (header_text Plain) → ⊥) (no_words : IsPrefixOf bytes rows_words → ⊥) (others : IsPrefixOf rows_words bytes → ⊥) where
  not_begun : (first : Spelling) → IsFirst first → IsPrefixOf (header_line first) bytes → ⊥
  not_begun Plain version whole = no_line whole
  not_begun (Relative rows next) version whole = others (decimal rows ++ newline ∷ whole.0, sym (line_two rows next whole.0) ∙ whole.1)

  no_part : (first : Spelling) → IsPrefixOf bytes (header_text first) → ⊥
  no_part Plain part = no_text part
  no_part (Relative rows next) part = ⊎_elim no_words others (compared bytes rows_words part.0 (decimal rows) part.1)

  pub neither : HasWrongHeader bytes
  neither = (not_begun, λ part. no_part part.0 part.2)

-- ---- after the words before the number of rows

pub rows_left : (bytes : List ℕ) → IsPrefixOf rows_words bytes → bytes ≡ rows_words ++ drop 29 bytes
rows_left bytes starts = sym starts.1 ∙ ap (λ (t : List ℕ). rows_words ++ t) (sym (ap (drop 29) (sym starts.1) ∙ drop_at rows_words starts.0 29 refl))

pub rows_some : (bytes : List ℕ) → IsPrefixOf rows_words bytes → (IsPrefixOf bytes rows_words → ⊥) → drop 29 bytes ≢ []
rows_some bytes starts longer none = longer ([], append-nil bytes ∙ rows_left bytes starts ∙ ap (λ (t : List ℕ). rows_words ++ t) none ∙ append-nil rows_words)

-- the text of a header that begins with these words
rows_header : (first : Spelling) → IsFirst first → (x y : List ℕ) → rows_words ++ x ≡ header_text first ++ y → (rows : ℕ) × (rows ≤ 2 ^ 34) × (header_text first ≡ rows_words ++ decimal rows)
rows_header Plain version x y e = let bad : 50 ≡ 49 = ap (λ (t : List ℕ). get_or t 22 0) e in absurd (omega (arith, bad))
rows_header (Relative rows next) version x y e = (rows, version.0, refl)

rows_one : IsOneLine rows_words
rows_one = one_front rows_words (decimal 0) (header_one (Relative 0 1))

module _ (rest : List ℕ) (len : ℕ) (line : IsLineOf rest len) where
  whole_is : rows_words ++ rest ≡ (rows_words ++ take len rest) ++ newline ∷ drop (len + 1) rest
  whole_is = ap (λ (t : List ℕ). rows_words ++ t) line.line.is ∙ sym (append_assoc rows_words (take len rest) (newline ∷ drop (len + 1) rest))

  pub rows_there : (rows : ℕ) → take len rest ≡ decimal rows → IsPrefixOf (header_line (Relative rows (rows + 1))) (rows_words ++ rest)
  rows_there rows is = (
    drop (len + 1) rest,
    append_assoc (rows_words ++ decimal rows) (newline ∷ []) (drop (len + 1) rest) ∙ ap (λ (t : List ℕ). (rows_words ++ t) ++ newline ∷ drop (len + 1) rest) (sym is) ∙ sym whole_is,
  )

  pub rows_long : (rows : ℕ) → take len rest ≡ decimal rows → 29 + len ≡ length (rows_words ++ decimal rows)
  rows_long rows is =
      let short : len < length rest = line.short in
      let some : length (take len rest) ≡ len = length-take-le len rest (omega (arith, short)) in
      let same : length (take len rest) ≡ length (decimal rows) = ap length is in
      omega (arith, some, same, length-append rows_words (decimal rows))

  pub rows_wrong : ((rows : ℕ) → rows ≤ 2 ^ 34 → take len rest ≡ decimal rows → ⊥) → HasWrongHeader (rows_words ++ rest)
  rows_wrong lacks = (
    λ first version whole.
        let e : header_text first ++ newline ∷ whole.0 ≡ (rows_words ++ take len rest) ++ newline ∷ drop (len + 1) rest = sym (append_assoc (header_text first) (newline ∷ []) whole.0) ∙ whole.1 ∙ whole_is in
        let both = same_line (header_text first) (rows_words ++ take len rest) _ _ (header_one first) (one_append rows_words (take len rest) rows_one line.line.one) e in
        let is = rows_header first version (take len rest) [] (sym both.0 ∙ sym (append-nil (header_text first))) in
        lacks is.0 is.1 (append_cancel_left rows_words (take len rest) (decimal is.0) (sym both.0 ∙ is.2)),
    λ part. not_one (rows_words ++ take len rest) (drop (len + 1) rest ++ part.2.0)
        (subst (λ (t : List ℕ). IsOneLine t) (sym part.2.1 ∙ ap (λ (t : List ℕ). t ++ part.2.0) whole_is ∙ append_assoc (rows_words ++ take len rest) (newline ∷ drop (len + 1) rest) part.2.0) (header_one part.0)),
  )

pub rows_missing : (rest : List ℕ) (rows : ℕ) → rows ≤ 2 ^ 34 → rest ≡ decimal rows → IsHeaderPart (rows_words ++ rest)
rows_missing rest rows small is = (Relative rows (rows + 1), (small, refl), ([], append-nil (rows_words ++ rest) ∙ ap (λ (t : List ℕ). rows_words ++ t) is))

-- digits that are left are those of no number
no_rows : (rest : List ℕ) → rest ≢ [] → ((rows : ℕ) → rows ≤ 2 ^ 34 → rest ≡ decimal rows → ⊥) → (x : List ℕ) (rows : ℕ) → rows ≤ 2 ^ 34 → rest ++ x ≡ decimal rows → ⊥
no_rows [] some lacks x rows small e = some refl
no_rows (c ∷ a) some lacks x rows small e = let front = decimal_front rows small c a x (sym e) in lacks front.0 front.1 front.2

pub rows_unlike : (rest : List ℕ) → rest ≢ [] → IsOneLine rest → ((rows : ℕ) → rows ≤ 2 ^ 34 → rest ≡ decimal rows → ⊥) → HasWrongHeader (rows_words ++ rest)
rows_unlike rest some one lacks = (
  λ first version whole. not_one (header_text first) whole.0 (subst (λ (t : List ℕ). IsOneLine t) (sym whole.1 ∙ append_assoc (header_text first) (newline ∷ []) whole.0) (one_append rows_words rest rows_one one)),
  λ part.
      let e : rows_words ++ (rest ++ part.2.0) ≡ header_text part.0 ++ [] = sym (append_assoc rows_words rest part.2.0) ∙ part.2.1 ∙ sym (append-nil (header_text part.0)) in
      let is = rows_header part.0 part.1 (rest ++ part.2.0) [] e in
      no_rows rest some lacks part.2.0 is.0 is.1 (append_cancel_left rows_words (rest ++ part.2.0) (decimal is.0) (e ∙ append-nil (header_text part.0) ∙ is.2)),
)
