-- How costs and counts are spelled.
use Rattle.std.proofs.Common.{◌≡◌, ℕ, zero, suc, ◌^◌, ◌<◌, Bool, true, false, not, List, [], ◌∷◌, length, get_or, drop, ℤ, pos, negsuc, neg_ℤ, refl, sym, ap, subst, ◌∙◌, arith, cond, ◌==◌}
use Rattle.std.specs.Prelude.{FitsSigned, Ok, Err}
use Rattle.std.specs.Int.{w64, IsInRange}
use Rattle.std.specs.Fmt.{decimal, signed_decimal}
use Rattle.std.specs.Str.Parse.{AllDigits, digits_value, starts_with_minus}
use Rattle.std.specs.Str.{bytes_eq}
use lib.Signed.{mag}
use mir.Val.{to_z, of_z}
use Rattle.std.proofs.lemmas.Int.{ints, to_z-of_z}
use Rattle.std.proofs.lemmas.Slice.Eq.{bytes_eq-Decides}
use Rattle.std.proofs.lemmas.Bool.Decides.{nat_tests}
use Rattle.std.proofs.lemmas.Fmt.{decimal_is_IsNumeral, decimal_digit, first_decimal, decimal_nonempty, decimal-digits_value, signed_decimal_injective}
use Rattle.std.proofs.lemmas.Str.Parse.{IsNumeralModel, numerals_by_value, tells_digits, digit_from_value, digit_at}
use Rattle.scut_base.specs.declared.number.NumberFault.{NumberFault}
use Rattle.scut_base.specs.declared.number.NumberFault.TheVariants.{NotDigits, TooWide}
use Rattle.scut_base.specs.Number.{ReadsInteger, IsNatural, natural_value, IsInteger, integer_value, signed_value}
use Rattle.front_text.specs.Spelling.{IsCost, IsCount}
use Rattle.front_text.specs.Reading.{is_separator, HasNoSeparator}

own : IsNumeralModel (AllDigits 10) (digits_value 10)
own = numerals_by_value (AllDigits 10) tells_digits

-- ---- digits

digit_joins : (c : ℕ) → IsInRange 48 57 c → is_separator c ≡ false
digit_joins c digit = grind (arith, nat_tests)

pub digits_join : (ds : List ℕ) → AllDigits 10 ds → HasNoSeparator ds
digits_join [] all = tt
digits_join (d ∷ ds) all = (digit_joins d (digit_from_value d all.0), digits_join ds all.1)

pub decimal_joins : (n : ℕ) → n < 2 ^ 64 → HasNoSeparator (decimal n)
decimal_joins n small = digits_join (decimal n) (decimal_is_IsNumeral n small).0.1

-- the first byte is a digit
pub decimal_first : (n : ℕ) → n < 2 ^ 64 → IsInRange 48 57 (get_or (decimal n) 0 0)
decimal_first n small = digit_at (decimal n) 0 (decimal_is_IsNumeral n small).0.1 (decimal_nonempty n small)

-- ---- counts

plain_zero : (n : ℕ) → n ≡ 0 → length (decimal n) ≡ 1
plain_zero n zero_is = ap (λ m. length (decimal m)) zero_is ∙ ap length (decimal_digit 0 (omega arith))

plain_decimal : (n : ℕ) → n < 2 ^ 64 → get_or (decimal n) 0 0 ≡ 48 → length (decimal n) ≡ 1
plain_decimal zero small first = plain_zero 0 refl
plain_decimal (suc n) small first = let above : 48 < get_or (decimal (suc n)) 0 0 = first_decimal (suc n) (omega arith) small in absurd (omega arith)

pub decimal_is_count : (n : ℕ) → n < 2 ^ 64 → IsCount (decimal n)
decimal_is_count n small = record { number = (decimal_is_IsNumeral n small).0; plain = plain_decimal n small }

pub value_of_decimal : (n : ℕ) → n < 2 ^ 64 → natural_value (decimal n) ≡ n
value_of_decimal n small = (decimal_is_IsNumeral n small).1

-- digits with no leading zero are those that are printed
pub count_is_decimal : (ds : List ℕ) → IsCount ds → natural_value ds < 2 ^ 64 → ds ≡ decimal (natural_value ds)
count_is_decimal ds count small = sym (decimal-digits_value own ds count.number.1 count.number.0 count.plain small)

pub count_joins : (ds : List ℕ) → IsCount ds → HasNoSeparator ds
count_joins ds count = digits_join ds count.number.1

-- ---- costs

pub cost_mag : (c : ℤ) → IsCost c → mag c < 2 ^ 63
cost_mag (pos n) cost = cost
cost_mag (negsuc n) cost = let bound : suc n < 2 ^ 63 = cost in omega arith

pub cost_fits : (c : ℤ) → IsCost c → FitsSigned w64 c
cost_fits (pos n) cost = let bound : n < 2 ^ 63 = cost in omega (arith, ints)
cost_fits (negsuc n) cost = let bound : suc n < 2 ^ 63 = cost in omega (arith, ints)

pub cost_joins : (c : ℤ) → IsCost c → HasNoSeparator (signed_decimal c)
cost_joins (pos n) cost = let bound : n < 2 ^ 63 = cost in decimal_joins n (omega arith)
cost_joins (negsuc n) cost = let bound : suc n < 2 ^ 63 = cost in (refl, decimal_joins (suc n) (omega arith))

pub one_cost : (c d : ℤ) → IsCost c → IsCost d → signed_decimal c ≡ signed_decimal d → c ≡ d
one_cost c d cost other e = signed_decimal_injective c d (cost_mag c cost) (cost_mag d other) e

no_minus : (n : ℕ) → n < 2 ^ 64 → starts_with_minus (decimal n) ≡ false
no_minus n small = let digit : IsInRange 48 57 (get_or (decimal n) 0 0) = decimal_first n small in by (get_or (decimal n) 0 0) digit
  where
    by : (b : ℕ) → IsInRange 48 57 b → (b == 45) ≡ false
    by b digit = grind (arith, nat_tests)

-- what is printed of a cost is read as that cost
pub cost_reads : (c : ℤ) → IsCost c → IsInteger (signed_decimal c) × (integer_value (signed_decimal c) ≡ c)
cost_reads (pos n) cost =
    let bound : n < 2 ^ 63 = cost in
    let small : n < 2 ^ 64 = omega arith in
    let numeral = decimal_is_IsNumeral n small in
    by (starts_with_minus (decimal n)) (no_minus n small) numeral.0 numeral.1
  where
    by : (b : Bool) → b ≡ false → IsNatural (decimal n) → natural_value (decimal n) ≡ n → IsNatural (cond b (drop 1 (decimal n)) (decimal n)) × (signed_value b (natural_value (cond b (drop 1 (decimal n)) (decimal n))) ≡ pos n)
    by true e number value = cc
    by false e number value = (number, ap pos value)
cost_reads (negsuc n) cost =
    let bound : suc n < 2 ^ 63 = cost in
    let numeral = decimal_is_IsNumeral (suc n) (omega arith) in
    (numeral.0, ap (λ m. neg_ℤ (pos m)) numeral.1)

-- ---- the reader of a cost

-- the text of a cost is a number that fits
pub no_cost : (fault : NumberFault) (word : List ℕ) → ReadsInteger (Err fault) (FitsSigned w64) word → (c : ℤ) → IsCost c → word ≡ signed_decimal c → ⊥
no_cost NotDigits word lacks c cost is = lacks (subst (λ (w : List ℕ). IsInteger w) (sym is) (cost_reads c cost).0)
no_cost TooWide word lacks c cost is =
    let value : integer_value word ≡ c = ap integer_value is ∙ (cost_reads c cost).1 in
    lacks.1 (subst (FitsSigned w64) (sym value) (cost_fits c cost))

-- and it is read as that cost
pub same_cost : (read : ℤ) (word : List ℕ) → ReadsInteger (Ok read) (FitsSigned w64) word → (c : ℤ) → IsCost c → word ≡ signed_decimal c → read ≡ c
same_cost read word reads c cost is = reads.2 ∙ ap integer_value is ∙ (cost_reads c cost).1

-- the least number of 64 bits is no cost
pub least_no_cost : (read c : ℤ) → read ≡ c → IsCost c → of_z w64 read ≡ 2 ^ 63 → ⊥
least_no_cost read (pos n) same cost least = let bound : n < 2 ^ 63 = cost in omega (arith, ints)
least_no_cost read (negsuc n) same cost least = let bound : suc n < 2 ^ 63 = cost in omega (arith, ints)

-- the text of a cost is what is printed of it
pub printed_same : (read c : ℤ) (text word : List ℕ) (differ : Bool) → read ≡ c → IsCost c → text ≡ signed_decimal (to_z w64 (of_z w64 read)) → word ≡ signed_decimal c → differ ≡ not (bytes_eq text word) → differ ≡ true → ⊥
printed_same read c text word differ same cost printed is test differs =
    let back : to_z w64 (of_z w64 c) ≡ c = to_z-of_z w64 c (cost_fits c cost) in
    let equal : text ≡ word = printed ∙ ap (λ z. signed_decimal (to_z w64 (of_z w64 z))) same ∙ ap signed_decimal back ∙ sym is in
    let passed : bytes_eq text word ≡ true = (bytes_eq-Decides text word).1 equal in
    by (bytes_eq text word) passed test
  where
    by : (b : Bool) → b ≡ true → differ ≡ not b → ⊥
    by true passed test = cc
    by false passed test = cc
