-- Where tokens and lines are cut.
use Rattle.std.proofs.Common.{◌≡◌, ◌≢◌, ℕ, ◌+◌, ◌<◌, ◌≤◌, ◌^◌, Bool, true, false, not, cond, get_or, List, [], ◌∷◌, ◌++◌, length, take, drop, map, Option, Some, None, ⊎_elim, inl, inr, suc, zero, refl, sym, ap, ◌∙◌, subst, arith}
use Rattle.std.specs.Prelude.{◌==◌, ◌&&◌, nat_lt}
use Rattle.std.specs.List.{All, between, position_or_len}
use Rattle.std.specs.Char.{is_ascii_digit, digit_value}
use Rattle.std.specs.Str.Parse.{AllDigits}
use Rattle.std.proofs.lemmas.Bool.{cases_Bool, cases_lt, cond_both, eqb-true, ne_eqb}
use Rattle.std.proofs.lemmas.Bool.Decides.{nat_tests}
use Rattle.std.proofs.lemmas.List.{take_all}
use Rattle.std.proofs.lemmas.List.Elements.{All-from_get_or}
use Rattle.std.proofs.lemmas.List.Splits.{slice_split_none, slice_split_first}
use Rattle.std.proofs.lemmas.List.Sums.{fails_before_first}
use Rattle.std.proofs.lemmas.Slice.{first_rest}
use Rattle.scut_base.specs.Number.{natural_value}
use Rattle.instance.specs.declared.row.Rel.TheVariants.{AtLeast, AtMost, Equal}
use Rattle.instance.specs.declared.objective.Sense.{Sense}
use Rattle.instance.specs.declared.objective.Sense.TheVariants.{Min, Max}
use Rattle.mopb_reader.specs.Lexemes.{Lexeme, Blank, Sign, Digits, Literal, Head, Relation, Semicolon, Other, is_blank, with_digit, with_x, with_tilde, with_m, with_greater, with_less, with_byte, lexemes_of}
use Rattle.mopb_reader.specs.Tokens.{is_comment, token_of, token_of_byte, tokens_in, tokens_in_line, lines_of, numbered_tokens, small_value}
use Rattle.mopb_reader.specs.Cuts.{IsSound, BeginsNoDigits, BeginsNoBlank, IsNotBefore, after_m}
use Rattle.mopb_reader.specs.Streams.{numbered_rest, numbered_from, lines_after}
use Rattle.mopb_reader.specs.declared.token.Token.TheVariants.{Literal as LiteralToken, Unknown}

pub below : (n m : ℕ) → n < m → nat_lt n m ≡ true
below n m lt = grind (arith, nat_tests)

-- what holds of a byte before tokens, whichever byte it is
pub byte_cases : (P : List Lexeme → Type 0) (b : ℕ) (rest : List Lexeme) → (is_blank b ≡ true → P (Blank ∷ rest)) → (is_ascii_digit b ≡ true → P (with_digit b rest)) → (b ≡ 120 → P (with_x rest)) → (b ≡ 126 → P (with_tilde rest)) → (b ≡ 109 → P (with_m rest)) → (b ≡ 62 → P (with_greater rest)) → (b ≡ 60 → P (with_less rest)) → (b ≡ 43 → P (Sign false ∷ rest)) → (b ≡ 45 → P (Sign true ∷ rest)) → (b ≡ 61 → P (Relation Equal ∷ rest)) → (b ≡ 59 → P (Semicolon ∷ rest)) → P (Other b ∷ rest) → P (with_byte b rest)
byte_cases P b rest blank digit x tilde m greater less plus minus equal semicolon other =
    cond_both (is_blank b) _ _ P blank (λ _.
    cond_both (is_ascii_digit b) _ _ P digit (λ _.
    cond_both (b == 120) _ _ P (λ e. x (eqb-true b 120 e)) (λ _.
    cond_both (b == 126) _ _ P (λ e. tilde (eqb-true b 126 e)) (λ _.
    cond_both (b == 109) _ _ P (λ e. m (eqb-true b 109 e)) (λ _.
    cond_both (b == 62) _ _ P (λ e. greater (eqb-true b 62 e)) (λ _.
    cond_both (b == 60) _ _ P (λ e. less (eqb-true b 60 e)) (λ _.
    cond_both (b == 43) _ _ P (λ e. plus (eqb-true b 43 e)) (λ _.
    cond_both (b == 45) _ _ P (λ e. minus (eqb-true b 45 e)) (λ _.
    cond_both (b == 61) _ _ P (λ e. equal (eqb-true b 61 e)) (λ _.
    cond_both (b == 59) _ _ P (λ e. semicolon (eqb-true b 59 e)) (λ _. other)))))))))))

-- what tokens say of the byte before the rest
abbrev pub Begun : ℕ → List Lexeme → List Lexeme → Type 0
Begun b rest (Digits ds ∷ tokens) = is_ascii_digit b ≡ true
Begun b rest (Literal ds false ∷ tokens) = b ≡ 120
Begun b rest (Literal ds true ∷ tokens) = b ≡ 126
Begun b rest (Head sense ∷ tokens) = b ≡ 109
Begun b rest (Relation AtLeast ∷ tokens) = b ≡ 62
Begun b rest (Relation AtMost ∷ tokens) = b ≡ 60
Begun b rest (Relation Equal ∷ tokens) = b ≡ 61
Begun b rest (Other c ∷ tokens) = (b ≡ c) × (tokens ≡ rest)
Begun b rest tokens = Unit {0}

digit_begun : (b : ℕ) (rest : List Lexeme) → is_ascii_digit b ≡ true → Begun b rest (with_digit b rest)
digit_begun b [] digit = digit
digit_begun b (Digits ds ∷ rest) digit = digit
digit_begun b (token ∷ rest) digit = digit

x_begun : (rest : List Lexeme) → Begun 120 rest (with_x rest)
x_begun [] = (refl, refl)
x_begun (Digits ds ∷ rest) = cond_both (natural_value ds == 0) (Other 120 ∷ Digits ds ∷ rest) (Literal ds false ∷ rest) (Begun 120 (Digits ds ∷ rest)) (λ _. (refl, refl)) (λ _. refl)
x_begun (token ∷ rest) = (refl, refl)

tilde_begun : (rest : List Lexeme) → Begun 126 rest (with_tilde rest)
tilde_begun [] = (refl, refl)
tilde_begun (Literal ds false ∷ rest) = refl
tilde_begun (token ∷ rest) = (refl, refl)

m_begun : (rest : List Lexeme) → Begun 109 rest (with_m rest)
m_begun (Other a ∷ Other b ∷ Other c ∷ rest) = cond_both (a == 105 && b == 110 && c == 58) _ _ (Begun 109 (Other a ∷ Other b ∷ Other c ∷ rest)) (λ _. refl) (λ _.
    cond_both (a == 97 && b == 120 && c == 58) _ _ (Begun 109 (Other a ∷ Other b ∷ Other c ∷ rest)) (λ _. refl) (λ _. (refl, refl)))
m_begun rest = (refl, refl)

greater_begun : (rest : List Lexeme) → Begun 62 rest (with_greater rest)
greater_begun [] = (refl, refl)
greater_begun (Relation Equal ∷ rest) = refl
greater_begun (token ∷ rest) = (refl, refl)

less_begun : (rest : List Lexeme) → Begun 60 rest (with_less rest)
less_begun [] = (refl, refl)
less_begun (Relation Equal ∷ rest) = refl
less_begun (token ∷ rest) = (refl, refl)

begun : (b : ℕ) (rest : List Lexeme) → Begun b rest (with_byte b rest)
begun b rest =
    byte_cases (Begun b rest) b rest (λ _. tt) (digit_begun b rest)
    (λ e. subst (λ (x : ℕ). Begun x rest (with_x rest)) (sym e) (x_begun rest))
    (λ e. subst (λ (x : ℕ). Begun x rest (with_tilde rest)) (sym e) (tilde_begun rest))
    (λ e. subst (λ (x : ℕ). Begun x rest (with_m rest)) (sym e) (m_begun rest))
    (λ e. subst (λ (x : ℕ). Begun x rest (with_greater rest)) (sym e) (greater_begun rest))
    (λ e. subst (λ (x : ℕ). Begun x rest (with_less rest)) (sym e) (less_begun rest))
    (λ _. tt) (λ _. tt) (λ e. e) (λ _. tt) (refl, refl)

not_digits : (b : ℕ) (rest tokens : List Lexeme) → Begun b rest tokens → is_ascii_digit b ≡ false → BeginsNoDigits tokens
not_digits b rest [] starts other = tt
not_digits b rest (Digits ds ∷ tokens) starts other = absurd cc
not_digits b rest (token ∷ tokens) starts other = tt

-- a byte that is no digit begins no digits
pub no_digits : (b : ℕ) (bs : List ℕ) → is_ascii_digit b ≡ false → BeginsNoDigits (lexemes_of (b ∷ bs))
no_digits b bs other = not_digits b (lexemes_of bs) (lexemes_of (b ∷ bs)) (begun b (lexemes_of bs)) other

greater_stays : (b : ℕ) (rest tokens : List Lexeme) → Begun b rest tokens → b ≢ 61 → with_greater tokens ≡ Other 62 ∷ tokens
greater_stays b rest [] starts other = refl
greater_stays b rest (Relation Equal ∷ tokens) starts other = absurd (other starts)
greater_stays b rest (token ∷ tokens) starts other = refl

less_stays : (b : ℕ) (rest tokens : List Lexeme) → Begun b rest tokens → b ≢ 61 → with_less tokens ≡ Other 60 ∷ tokens
less_stays b rest [] starts other = refl
less_stays b rest (Relation Equal ∷ tokens) starts other = absurd (other starts)
less_stays b rest (token ∷ tokens) starts other = refl

tilde_stays : (b : ℕ) (rest tokens : List Lexeme) → Begun b rest tokens → b ≢ 120 → with_tilde tokens ≡ Other 126 ∷ tokens
tilde_stays b rest [] starts other = refl
tilde_stays b rest (Literal ds false ∷ tokens) starts other = absurd (other starts)
tilde_stays b rest (token ∷ tokens) starts other = refl

-- the sign of a relation stands alone where no `=` follows
pub greater_alone : (bs : List ℕ) → IsNotBefore 61 bs → with_greater (lexemes_of bs) ≡ Other 62 ∷ lexemes_of bs
greater_alone [] other = refl
greater_alone (b ∷ bs) other = greater_stays b (lexemes_of bs) (lexemes_of (b ∷ bs)) (begun b (lexemes_of bs)) other

pub less_alone : (bs : List ℕ) → IsNotBefore 61 bs → with_less (lexemes_of bs) ≡ Other 60 ∷ lexemes_of bs
less_alone [] other = refl
less_alone (b ∷ bs) other = less_stays b (lexemes_of bs) (lexemes_of (b ∷ bs)) (begun b (lexemes_of bs)) other

-- a `~` stands alone where no variable follows
pub tilde_alone : (bs : List ℕ) → IsNotBefore 120 bs → with_tilde (lexemes_of bs) ≡ Other 126 ∷ lexemes_of bs
tilde_alone [] other = refl
tilde_alone (b ∷ bs) other = tilde_stays b (lexemes_of bs) (lexemes_of (b ∷ bs)) (begun b (lexemes_of bs)) other

pub tilde_x_alone : (tokens rest : List Lexeme) → tokens ≡ Other 120 ∷ rest → with_tilde tokens ≡ Other 126 ∷ tokens
tilde_x_alone tokens rest e = rw e refl

-- any other byte in front is a byte of the text
other_first : (bs : List ℕ) (a : ℕ) (rest : List Lexeme) → lexemes_of bs ≡ Other a ∷ rest → (cs : List ℕ) × (bs ≡ a ∷ cs) × (lexemes_of cs ≡ rest)
other_first [] a rest e = absurd cc
other_first (b ∷ cs) a rest e =
    let starts : Begun b (lexemes_of cs) (Other a ∷ rest) = subst (Begun b (lexemes_of cs)) e (begun b (lexemes_of cs)) in
    (cs, ap (λ x. x ∷ cs) starts.0, sym starts.1)

-- The three bytes after an `m` that make it a head, or no head.
three_bytes : (bs : List ℕ) (a b c : ℕ) (rest : List Lexeme) → lexemes_of bs ≡ Other a ∷ Other b ∷ Other c ∷ rest → (cs : List ℕ) × (bs ≡ a ∷ b ∷ c ∷ cs)
three_bytes bs a b c rest e =
    let one = other_first bs a (Other b ∷ Other c ∷ rest) e in
    let two = other_first one.0 b (Other c ∷ rest) one.2 in
    let three = other_first two.0 c rest two.2 in
    (three.0, one.1 ∙ ap (λ more. a ∷ more) (two.1 ∙ ap (λ more. b ∷ more) three.1))

m_stays : (bs : List ℕ) (tokens : List Lexeme) → lexemes_of bs ≡ tokens → ((sense : Sense) (rest : List ℕ) → bs ≡ after_m sense rest → ⊥) → with_m tokens ≡ Other 109 ∷ tokens
m_stays bs (Other a ∷ Other b ∷ Other c ∷ rest) e other =
    let whole = three_bytes bs a b c rest e in
    let same : List Lexeme → Type 0 = λ ts. ts ≡ Other 109 ∷ Other a ∷ Other b ∷ Other c ∷ rest in
    cond_both (a == 105 && b == 110 && c == 58) _ _ same
    (λ t.
    let is_a : a ≡ 105 = grind (arith, nat_tests) in
    let is_b : b ≡ 110 = grind (arith, nat_tests) in
    let is_c : c ≡ 58 = grind (arith, nat_tests) in
    absurd (other Min whole.0 (rw (sym is_a, sym is_b, sym is_c) whole.1)))
    (λ _. cond_both (a == 97 && b == 120 && c == 58) _ _ same
    (λ t.
    let is_a : a ≡ 97 = grind (arith, nat_tests) in
    let is_b : b ≡ 120 = grind (arith, nat_tests) in
    let is_c : c ≡ 58 = grind (arith, nat_tests) in
    absurd (other Max whole.0 (rw (sym is_a, sym is_b, sym is_c) whole.1)))
    (λ _. refl))
m_stays bs tokens e other = refl

pub m_alone : (bs : List ℕ) → ((sense : Sense) (rest : List ℕ) → bs ≡ after_m sense rest → ⊥) → with_m (lexemes_of bs) ≡ Other 109 ∷ lexemes_of bs
m_alone bs other = m_stays bs (lexemes_of bs) refl other

-- a digit is no blank
digit_not_blank : (b : ℕ) → is_ascii_digit b ≡ true → is_blank b ≡ false
digit_not_blank b digit = grind (arith, nat_tests)

digit_first : (b : ℕ) (rest : List Lexeme) → is_ascii_digit b ≡ true → with_byte b rest ≡ with_digit b rest
digit_first b rest digit = rw (digit_not_blank b digit, digit) refl

one_digit : (b : ℕ) (rest : List Lexeme) → BeginsNoDigits rest → with_digit b rest ≡ Digits (b ∷ []) ∷ rest
one_digit b [] plain = refl
one_digit b (Digits ds ∷ rest) plain = absurd plain
one_digit b (token ∷ rest) plain = refl

-- how many digits a text begins with
abbrev pub digits_before : List ℕ → ℕ
digits_before bs = position_or_len (λ b. not (is_ascii_digit b)) bs

before_more : (b : ℕ) (bs : List ℕ) → is_ascii_digit b ≡ true → digits_before (b ∷ bs) ≡ suc (digits_before bs)
before_more b bs digit = rw digit (omega arith)

before_none : (b : ℕ) (bs : List ℕ) → is_ascii_digit b ≡ false → digits_before (b ∷ bs) ≡ 0
before_none b bs other = rw other refl

pub digits_none : (bs : List ℕ) → digits_before bs ≡ 0 → BeginsNoDigits (lexemes_of bs)
digits_none [] none = tt
digits_none (b ∷ bs) none = elim (cases_Bool (is_ascii_digit b)) [
  | inl e ↦ absurd (omega (arith, before_more b bs e))
  | inr e ↦ no_digits b bs e
]

-- digits in front are one token
pub digits_first : (bs : List ℕ) → 0 < digits_before bs → lexemes_of bs ≡ Digits (take (digits_before bs) bs) ∷ lexemes_of (drop (digits_before bs) bs)
digits_first [] some = absurd (omega arith)
digits_first (b ∷ bs) some = elim (cases_Bool (is_ascii_digit b)) [
  | inl e ↦ subst (λ (n : ℕ). with_byte b (lexemes_of bs) ≡ Digits (take n (b ∷ bs)) ∷ lexemes_of (drop n (b ∷ bs))) (sym (before_more b bs e)) (digit_first b (lexemes_of bs) e ∙ ⊎_elim
      (λ (lt : 0 < digits_before bs). ap (with_digit b) (digits_first bs lt))
      (λ (le : digits_before bs ≤ 0).
      let none : digits_before bs ≡ 0 = omega arith in
      subst (λ (n : ℕ). with_digit b (lexemes_of bs) ≡ Digits (b ∷ take n bs) ∷ lexemes_of (drop n bs)) (sym none) (one_digit b (lexemes_of bs) (digits_none bs none)))
      (cases_lt 0 (digits_before bs)))
  | inr e ↦ absurd (omega (arith, before_none b bs e))
]

digit_small : (b : ℕ) → is_ascii_digit b ≡ true → digit_value b < 10
digit_small b digit = grind (arith, nat_tests)

pub digits_all : (bs : List ℕ) → AllDigits 10 (take (digits_before bs) bs)
digits_all [] = tt
digits_all (b ∷ bs) = elim (cases_Bool (is_ascii_digit b)) [
  | inl e ↦ subst (λ (n : ℕ). AllDigits 10 (take n (b ∷ bs))) (sym (before_more b bs e)) (digit_small b e, digits_all bs)
  | inr e ↦ subst (λ (n : ℕ). AllDigits 10 (take n (b ∷ bs))) (sym (before_none b bs e)) tt
]

pub length_take_le : (n : ℕ) (xs : List ℕ) → n ≤ length xs → length (take n xs) ≡ n
length_take_le zero xs le = refl
length_take_le (suc n) (x ∷ xs) le = ap suc (length_take_le n xs (omega arith))
length_take_le (suc n) [] le = absurd (omega arith)

-- how many blanks a text begins with
abbrev pub blanks_of : List ℕ → ℕ
blanks_of bs = position_or_len (λ b. not (is_blank b)) bs

blank_more : (b : ℕ) (bs : List ℕ) → is_blank b ≡ true → blanks_of (b ∷ bs) ≡ suc (blanks_of bs)
blank_more b bs blank = rw blank (omega arith)

blank_none : (b : ℕ) (bs : List ℕ) → is_blank b ≡ false → blanks_of (b ∷ bs) ≡ 0
blank_none b bs other = rw other refl

skip_one : (b : ℕ) (bs : List ℕ) → is_blank b ≡ true → tokens_in (b ∷ bs) ≡ tokens_in bs
skip_one b bs blank = rw blank refl

-- blanks in front make no tokens
pub skip_same : (bs : List ℕ) → tokens_in (drop (blanks_of bs) bs) ≡ tokens_in bs
skip_same [] = refl
skip_same (b ∷ bs) = elim (cases_Bool (is_blank b)) [
  | inl e ↦ subst (λ (n : ℕ). tokens_in (drop n (b ∷ bs)) ≡ tokens_in (b ∷ bs)) (sym (blank_more b bs e)) (skip_same bs ∙ sym (skip_one b bs e))
  | inr e ↦ subst (λ (n : ℕ). tokens_in (drop n (b ∷ bs)) ≡ tokens_in (b ∷ bs)) (sym (blank_none b bs e)) refl
]

comment_one : (b : ℕ) (bs : List ℕ) → is_blank b ≡ true → is_comment (b ∷ bs) ≡ is_comment bs
comment_one b bs blank = rw blank refl

pub skip_comment : (bs : List ℕ) → is_comment (drop (blanks_of bs) bs) ≡ is_comment bs
skip_comment [] = refl
skip_comment (b ∷ bs) = elim (cases_Bool (is_blank b)) [
  | inl e ↦ subst (λ (n : ℕ). is_comment (drop n (b ∷ bs)) ≡ is_comment (b ∷ bs)) (sym (blank_more b bs e)) (skip_comment bs ∙ sym (comment_one b bs e))
  | inr e ↦ subst (λ (n : ℕ). is_comment (drop n (b ∷ bs)) ≡ is_comment (b ∷ bs)) (sym (blank_none b bs e)) refl
]

pub skip_first : (bs : List ℕ) → BeginsNoBlank (drop (blanks_of bs) bs)
skip_first [] = tt
skip_first (b ∷ bs) = elim (cases_Bool (is_blank b)) [
  | inl e ↦ subst (λ (n : ℕ). BeginsNoBlank (drop n (b ∷ bs))) (sym (blank_more b bs e)) (skip_first bs)
  | inr e ↦ subst (λ (n : ℕ). BeginsNoBlank (drop n (b ∷ bs))) (sym (blank_none b bs e)) e
]

-- a text's lines are the first one and those of what follows
pub lines_first : (text : List ℕ) (n : ℕ) → n ≡ position_or_len (λ b. b == 10) text → n < length text → lines_of text ≡ take n text ∷ lines_of (drop (n + 1) text)
lines_first text n at lt = rw at (slice_split_first (λ b. b == 10) text 0 (rw (← at) lt))

pub lines_last : (text : List ℕ) (n : ℕ) → n ≡ position_or_len (λ b. b == 10) text → length text ≤ n → lines_of text ≡ take n text ∷ []
lines_last text n at le =
    let none : All (λ b. (b == 10) ≡ false) text = All-from_get_or (λ b. (b == 10) ≡ false) text 0 (λ i lt. fails_before_first (λ b. b == 10) text i 0 (omega arith)) in
    let whole : take n text ≡ text = take_all n text le in
    rw whole (slice_split_none (λ b. b == 10) text none)

-- the lines that follow a line
abbrev pub rest_lines : Option (List ℕ) → List (List ℕ)
rest_lines None = []
rest_lines (Some text) = lines_of text

rest_numbered : (number : ℕ) (rest : Option (List ℕ)) → numbered_rest number rest ≡ numbered_tokens number (rest_lines rest)
rest_numbered number None = refl
rest_numbered number (Some text) = refl

pub numbered_first : (number : ℕ) (content line text : List ℕ) (rest : Option (List ℕ)) → lines_of text ≡ line ∷ rest_lines rest → tokens_in content ≡ tokens_in_line line → numbered_from number content rest ≡ numbered_tokens number (lines_of text)
numbered_first number content line text rest cut same =
    ap (λ tokens. map (λ t. (number, t)) tokens ++ numbered_rest (number + 1) rest) same
    ∙ ap (λ tokens. map (λ t. (number, t)) (tokens_in_line line) ++ tokens) (rest_numbered (number + 1) rest)
    ∙ sym (ap (numbered_tokens number) cut)

pub lines_counted : (line text : List ℕ) (rest : Option (List ℕ)) → lines_of text ≡ line ∷ rest_lines rest → lines_after rest + 1 ≡ length (lines_of text)
lines_counted line text None cut = omega (arith, ap length cut)
lines_counted line text (Some more) cut = omega (arith, ap length cut)

-- a variable after `~x`
pub negated_first : (text after rest ds : List ℕ) → text ≡ 120 ∷ after → lexemes_of after ≡ Digits ds ∷ lexemes_of rest → 0 < natural_value ds → with_tilde (lexemes_of text) ≡ Literal ds true ∷ lexemes_of rest
negated_first text after rest ds e digits some =
    let many : (natural_value ds == 0) ≡ false = ne_eqb (natural_value ds) 0 (λ z. omega arith) in
    rw (e, digits, many) refl

-- no variable after `~x`
pub negated_none : (text after : List ℕ) → text ≡ 120 ∷ after → with_x (lexemes_of after) ≡ Other 120 ∷ lexemes_of after → with_tilde (lexemes_of text) ≡ Other 126 ∷ lexemes_of text
negated_none text after e none = tilde_x_alone (lexemes_of text) (lexemes_of after) (rw e none)

-- a byte of no token with others
pub other_alone : (line : List ℕ) (b : ℕ) (rest : List ℕ) → line ≡ b ∷ rest → is_blank b ≡ false → (is_ascii_digit b ≡ true → ⊥) → b ≢ 120 → b ≢ 126 → b ≢ 109 → b ≢ 62 → b ≢ 60 → b ≢ 61 → b ≢ 43 → b ≢ 45 → b ≢ 59 → lexemes_of line ≡ Other b ∷ lexemes_of rest
other_alone line b rest e blank digit x tilde m greater less equal plus minus semicolon =
    rw e (byte_cases (λ ts. ts ≡ Other b ∷ lexemes_of rest) b (lexemes_of rest) (λ t. absurd cc) (λ t. absurd (digit t)) (λ t. absurd (x t)) (λ t. absurd (tilde t)) (λ t. absurd (m t)) (λ t. absurd (greater t)) (λ t. absurd (less t)) (λ t. absurd (plus t)) (λ t. absurd (minus t)) (λ t. absurd (equal t)) (λ t. absurd (semicolon t)) refl)

pub other_plain : (b : ℕ) → b ≢ 120 → b ≢ 126 → token_of_byte b ≡ Unknown
other_plain b x tilde = rw (ne_eqb b 120 x, ne_eqb b 126 tilde) refl

from_cond : (c : Bool) (n v : ℕ) → Some v ≡ cond c (Some n) None → n ≡ v
from_cond true n v e = cc
from_cond false n v e = absurd cc

-- a variable that digits of a value of at least 1 name is at least 1
pub sound_value : (ds : List ℕ) (var : Option ℕ) (neg : Bool) → var ≡ small_value ds → 0 < natural_value ds → IsSound (LiteralToken var neg)
sound_value ds None neg e some = tt
sound_value ds (Some v) neg e some = omega (arith, some, from_cond (nat_lt (natural_value ds) (2 ^ 63)) (natural_value ds) v e)

pub literal_token : (ds : List ℕ) (var : Option ℕ) (neg : Bool) → var ≡ small_value ds → token_of (Literal ds neg) ≡ LiteralToken var neg ∷ []
literal_token ds var neg e = ap (λ v. LiteralToken v neg ∷ []) (sym e)

-- a variable after `x`
pub positive_first : (text rest ds : List ℕ) → lexemes_of text ≡ Digits ds ∷ lexemes_of rest → 0 < natural_value ds → with_x (lexemes_of text) ≡ Literal ds false ∷ lexemes_of rest
positive_first text rest ds digits some =
    let many : (natural_value ds == 0) ≡ false = ne_eqb (natural_value ds) 0 (λ z. omega arith) in
    rw (digits, many) refl

-- the head of an objective
pub head_first : (sense : Sense) (text rest : List ℕ) → text ≡ after_m sense rest → with_m (lexemes_of text) ≡ Head sense ∷ lexemes_of rest
head_first Min text rest e = rw e refl
head_first Max text rest e = rw e refl

-- a byte that is a lexeme by itself
pub byte_first : (line : List ℕ) (b : ℕ) (l : Lexeme) → 0 < length line → get_or line 0 0 ≡ b
    → ((rest : List Lexeme) → with_byte b rest ≡ l ∷ rest) → lexemes_of line ≡ l ∷ lexemes_of (between 1 (length line) line)
byte_first line b l some is alone =
    let rest = between 1 (length line) line in
    ap lexemes_of (first_rest line 0 some) ∙ ap (λ x. with_byte x (lexemes_of rest)) is ∙ alone (lexemes_of rest)
