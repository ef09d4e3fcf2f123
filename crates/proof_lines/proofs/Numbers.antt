-- How numbers are spelled.
use Rattle.std.proofs.Common.{add-one, ◌≡◌, ℕ, zero, suc, ◌+◌, ◌-◌, ◌*◌, ◌/◌, ◌%◌, ◌^◌, ◌<◌, ◌≤◌, List, [], ◌∷◌, ◌++◌, length, take, drop, get_or, Option, Some, None, refl, sym, ap, subst, ◌∙◌, arith}
use Rattle.std.proofs.Math.Nat.{pow-suc, pow-le-pow_right}
use Rattle.std.specs.Int.{IsInRange}
use Rattle.std.specs.Fmt.{decimal}
use Rattle.std.specs.Char.{digit_value}
use Rattle.std.specs.Str.Parse.{AllDigits, digits_value, digits_value_after}
use Rattle.std.proofs.lemmas.List.{append_assoc, append-nil, get_or_append_left, length_push, take_all, take_rest}
use Rattle.std.proofs.lemmas.Str.{digit_value_digit}
use Rattle.std.proofs.lemmas.Str.Parse.{digit_at, digit_from_value, digits_value-take-le}
use Rattle.std.proofs.lemmas.Int.Digits.{digits_more, digits_value_more, digits_value-lt}
use Rattle.std.proofs.lemmas.Fmt.{decimal_is_IsNumeral_wide, decimal_by_steps_wide, decimal_step_wide, decimal_digit, length-decimal-le_wide}
use Rattle.proof_lines.specs.Reading.{IsNumber, IsPlain, IsValueOf, ReadsDigits}

-- ---- powers of ten

pub powers : (m n : ℕ) → m ≤ n → 10 ^ m ≤ 10 ^ n
powers m n le = pow-le-pow_right (omega arith) le

power_more : (i : ℕ) → 10 ^ (i + 1) ≡ 10 ^ i * 10
power_more i = rw add-one (pow-suc 10 i)

-- a digit more, and a power more
pub digit_more : (i n d : ℕ) → n < 10 ^ i → d < 10 → n * 10 + d < 10 ^ (i + 1)
digit_more i n d small digit = omega (arith, power_more i)

-- few digits fit 64 bits
pub digits_fit : (i n d len : ℕ) → n < 10 ^ i → i < len → len ≤ 19 → d < 10 → n * 10 + d < 10 ^ 19
digits_fit i n d len small lt few digit =
    let more : n * 10 + d < 10 ^ (i + 1) = digit_more i n d small digit in
    let wider : 10 ^ (i + 1) ≤ 10 ^ 19 = powers (i + 1) 19 (omega arith) in
    omega arith

-- ---- what is printed of a number

pub decimal_some : (n : ℕ) → n < 10 ^ 64 → 0 < length (decimal n)
decimal_some n small = (decimal_is_IsNumeral_wide n small).0.0

pub decimal_digits : (n : ℕ) → n < 10 ^ 64 → AllDigits 10 (decimal n)
decimal_digits n small = (decimal_is_IsNumeral_wide n small).0.1

pub decimal_value : (n : ℕ) → n < 10 ^ 64 → digits_value 10 (decimal n) ≡ n
decimal_value n small = (decimal_is_IsNumeral_wide n small).1

pub one_number : (m n : ℕ) → m < 10 ^ 64 → n < 10 ^ 64 → decimal m ≡ decimal n → m ≡ n
one_number m n p q e = sym (decimal_value m p) ∙ ap (digits_value 10) e ∙ decimal_value n q

-- the first byte is a digit
pub decimal_first : (n : ℕ) → n < 10 ^ 64 → IsInRange 48 57 (get_or (decimal n) 0 0)
decimal_first n small = digit_at (decimal n) 0 (decimal_digits n small) (decimal_some n small)

-- no zero leads
abbrev Leads : ℕ → List ℕ → Type 0
Leads n ds = (0 < length ds) × (0 < n → 48 < get_or ds 0 0)

leads_one : (n : ℕ) → n < 10 → Leads n ((48 + n) ∷ [])
leads_one n lt = (omega arith, λ some. omega arith)

leads_more : (n : ℕ) (ds : List ℕ) → 10 ≤ n → Leads (n / 10) ds → Leads n (ds ++ ((48 + n % 10) ∷ []))
leads_more n ds le leads =
    let long : length (ds ++ ((48 + n % 10) ∷ [])) ≡ length ds + 1 = length_push ds (48 + n % 10) in
    let first : get_or (ds ++ ((48 + n % 10) ∷ [])) 0 0 ≡ get_or ds 0 0 = get_or_append_left ds ((48 + n % 10) ∷ []) 0 0 leads.0 in
    let above : 48 < get_or ds 0 0 = leads.1 (omega arith) in
    (omega arith, λ some. omega arith)

leads : (n : ℕ) → n < 10 ^ 64 → Leads n (decimal n)
leads n small = decimal_by_steps_wide Leads leads_one leads_more n small

plain_zero : (n : ℕ) → n ≡ 0 → length (decimal n) ≡ 1
plain_zero n zero_is = ap (λ m. length (decimal m)) zero_is ∙ ap length (decimal_digit 0 (omega arith))

plain_first : (n : ℕ) → n < 10 ^ 64 → get_or (decimal n) 0 0 ≡ 48 → length (decimal n) ≡ 1
plain_first zero small first = plain_zero 0 refl
plain_first (suc n) small first = let above : 48 < get_or (decimal (suc n)) 0 0 = (leads (suc n) small).1 (omega arith) in absurd (omega arith)

pub decimal_plain : (n : ℕ) → n < 10 ^ 64 → IsPlain (decimal n)
decimal_plain n small = (decimal_some n small, plain_first n small)

-- ---- digits are what is printed of their value

le_value_after : (n : ℕ) (ds : List ℕ) → n ≤ digits_value_after 10 n ds
le_value_after n [] = omega arith
le_value_after n (c ∷ cs) = omega (arith, le_value_after (n * 10 + digit_value c) cs)

value_after : (n : ℕ) (ds : List ℕ) → 0 < n → AllDigits 10 ds → digits_value_after 10 n ds < 10 ^ 64 → decimal (digits_value_after 10 n ds) ≡ decimal n ++ ds
value_after n [] some d small = sym (append-nil (decimal n))
value_after n (c ∷ cs) some d small =
    let m : ℕ = n * 10 + digit_value c in
    let k = digit_value_digit c (digit_from_value c d.0) in
    let front : m / 10 ≡ n = omega (arith, d.0) in
    let end : 48 + m % 10 ≡ c = omega (arith, d.0) in
    value_after m cs (omega arith) d.1 small
    ∙ ap (λ x. x ++ cs) (decimal_step_wide m (omega arith) (omega (arith, le_value_after m cs)) ∙ (λ i. decimal (front i) ++ (end i ∷ [])))
    ∙ append_assoc (decimal n) (c ∷ []) cs

value_digits : (ds : List ℕ) → AllDigits 10 ds → IsPlain ds → digits_value 10 ds < 10 ^ 64 → decimal (digits_value 10 ds) ≡ ds
value_digits [] d plain small = let some : 0 < 0 = plain.0 in absurd (omega arith)
value_digits (c ∷ []) d plain small =
    let k = digit_value_digit c (digit_from_value c d.0) in
    decimal_digit (0 * 10 + digit_value c) (omega (arith, d.0)) ∙ ap (λ x. x ∷ []) (omega arith)
value_digits (c ∷ e ∷ cs) d plain small =
    let k = digit_value_digit c (digit_from_value c d.0) in
    let no : c ≡ 48 → ⊥ = λ z. omega (arith, plain.1 z) in
    let is : 48 + (0 * 10 + digit_value c) ≡ c = omega arith in
    value_after (0 * 10 + digit_value c) (e ∷ cs) (omega arith) d.1 small
    ∙ ap (λ x. x ++ (e ∷ cs)) (decimal_digit (0 * 10 + digit_value c) (omega (arith, d.0)) ∙ ap (λ x. x ∷ []) is)

pub digits_spell : (word : List ℕ) (n : ℕ) → IsPlain word → AllDigits 10 word → n ≡ digits_value 10 word → n < 10 ^ 64 → word ≡ decimal n
digits_spell word n plain digits is small = sym (value_digits word digits plain (omega arith)) ∙ ap decimal (sym is)

-- ---- what spells no number

pub not_plain : (word : List ℕ) → (IsPlain word → ⊥) → (x : ℕ) → x < 10 ^ 64 → word ≡ decimal x → ⊥
not_plain word lacks x small is = lacks (subst IsPlain (sym is) (decimal_plain x small))

-- digits of a number below the limit are read
pub not_read : (limit : ℕ) (word : List ℕ) → ReadsDigits limit word None → (x : ℕ) → x < 10 ^ 64 → x < limit → word ≡ decimal x → ⊥
not_read limit word lacks x small below is =
    let value : digits_value 10 word ≡ x = ap (digits_value 10) is ∙ decimal_value x small in
    lacks (subst (AllDigits 10) (sym is) (decimal_digits x small)) (omega arith)

pub too_long : (word : List ℕ) → 19 < length word → (x : ℕ) → x < 2 ^ 63 → word ≡ decimal x → ⊥
too_long word long x small is =
    let short : length (decimal x) ≤ 19 = length-decimal-le_wide 19 x (omega arith) (omega arith) (omega arith) in
    let same : length word ≡ length (decimal x) = ap length is in
    omega arith

-- few digits make no large number
pub few_digits : (x : ℕ) (word : List ℕ) → x < 10 ^ 64 → length word ≤ 19 → word ≡ decimal x → x < 10 ^ 19
few_digits x word small short is =
    let value : digits_value 10 word ≡ x = ap (digits_value 10) is ∙ decimal_value x small in
    let below : digits_value 10 word < 10 ^ length word = digits_value-lt 10 word (subst (AllDigits 10) (sym is) (decimal_digits x small)) in
    let wider : 10 ^ length word ≤ 10 ^ 19 = powers (length word) 19 short in
    omega arith

-- ---- the loops over digits

pub not_all_digits : (word : List ℕ) (i : ℕ) → i < length word → (IsInRange 48 57 (get_or word i 0) → ⊥) → AllDigits 10 word → ⊥
not_all_digits word i lt other digits = other (digit_at word i digits lt)

pub one_digit_more : (word : List ℕ) (i : ℕ) → i < length word → IsInRange 48 57 (get_or word i 0) → AllDigits 10 (take i word) → AllDigits 10 (take (i + 1) word)
one_digit_more word i lt digit so_far =
    let value : digit_value (get_or word i 0) + 48 ≡ get_or word i 0 = digit_value_digit _ digit in
    digits_more 10 word i lt so_far (omega arith)

pub one_value_more : (word : List ℕ) (i n : ℕ) → i < length word → IsInRange 48 57 (get_or word i 0) → n ≡ digits_value 10 (take i word) → n * 10 + (get_or word i 0 - 48) ≡ digits_value 10 (take (i + 1) word)
one_value_more word i n lt digit so_far =
    let one : digit_value (get_or word i 0) + 48 ≡ get_or word i 0 = digit_value_digit _ digit in
    let more : digits_value 10 (take (i + 1) word) ≡ digits_value 10 (take i word) * 10 + digit_value (get_or word i 0) = digits_value_more 10 word i lt in
    omega arith

-- where digits spell too much already, the word does
pub too_wide : (limit : ℕ) (word : List ℕ) (i n : ℕ) → i < length word → IsInRange 48 57 (get_or word i 0) → n ≡ digits_value 10 (take i word) → (n * 10 + (get_or word i 0 - 48) < limit → ⊥) → ReadsDigits limit word None
too_wide limit word i n lt digit so_far wide digits below =
    let value : n * 10 + (get_or word i 0 - 48) ≡ digits_value 10 (take (i + 1) word) = one_value_more word i n lt digit so_far in
    let le : digits_value 10 (take (i + 1) word) ≤ digits_value 10 word = digits_value-take-le 10 word (i + 1) (omega arith) in
    wide (omega arith)

-- the number of a whole word
pub all_digits : (word : List ℕ) (i : ℕ) → length word ≤ i → take i word ≡ word
all_digits word i past = take_all i word past

-- ---- the value of a word

-- a number of the wide reader
pub wide_value : (word : List ℕ) (r : Option ℕ) → IsPlain word → ReadsDigits (2 ^ 127) word r → IsValueOf decimal IsNumber word r
wide_value word None plain lacks = λ x below is. not_read (2 ^ 127) word lacks x (omega arith) below is
wide_value word (Some n) plain reads = (reads.2, digits_spell word n plain reads.0 reads.1 (omega (arith, reads.2)))

-- 0 is no variable
pub zero_variable : (word digits : List ℕ) (v x : ℕ) → digits ≡ take (length word - 1) (drop 1 word) → v ≡ 0 → digits ≡ decimal v → (0 < x) × (x < 2 ^ 63) → word ≡ 120 ∷ decimal x → ⊥
zero_variable word digits v x part none spelled valid is =
    let same : digits ≡ decimal x = part ∙ take_rest word 1 ∙ ap (drop 1) is in
    let one : v ≡ x = one_number v x (omega arith) (omega arith) (sym spelled ∙ same) in
    omega arith
