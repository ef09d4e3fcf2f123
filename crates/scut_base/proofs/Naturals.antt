-- What the test for a natural number tells.
use Rattle.std.proofs.Common.{◌≡◌, ℕ, ◌<◌, Bool, true, false, not, List, [], ◌∷◌, length, refl, arith}
use Rattle.std.specs.Prelude.{◌==◌, nat_le}
use Rattle.std.specs.List.{list_all}
use Rattle.std.specs.Char.{is_ascii_digit, digit_value}
use Rattle.std.specs.Int.{IsInRange}
use Rattle.std.specs.Str.Parse.{AllDigits}
use Rattle.std.proofs.lemmas.Bool.{and_from, and_parts, not_from_false, not-true, false_from_ne_true, le-leb, leb-true, ne_eqb, eqb-false}
use Rattle.std.proofs.lemmas.Str.{digit_value_digit}
use Rattle.std.proofs.lemmas.Str.Parse.{digit_from_value}
use Rattle.scut_base.specs.Number.{IsNatural, is_natural}

digit_passes : (x : ℕ) → IsInRange 48 57 x → is_ascii_digit x ≡ true
digit_passes x range = and_from (nat_le 48 x) (nat_le x 57) (le-leb 48 x range.0) (le-leb x 57 range.1)

digit_below : (x : ℕ) → is_ascii_digit x ≡ true → digit_value x < 10
digit_below x passes =
    let parts = and_parts (nat_le 48 x) (nat_le x 57) passes in
    let range : IsInRange 48 57 x = (leb-true 48 x parts.0, leb-true x 57 parts.1) in
    omega (arith, digit_value_digit x range, range.1)

digits_pass : (word : List ℕ) → AllDigits 10 word → list_all is_ascii_digit word ≡ true
digits_pass [] digits = refl
digits_pass (x ∷ word) digits = and_from (is_ascii_digit x) (list_all is_ascii_digit word) (digit_passes x (digit_from_value x digits.0)) (digits_pass word digits.1)

digits_from : (word : List ℕ) → list_all is_ascii_digit word ≡ true → AllDigits 10 word
digits_from [] pass = tt
digits_from (x ∷ word) pass =
    let parts = and_parts (is_ascii_digit x) (list_all is_ascii_digit word) pass in
    (digit_below x parts.0, digits_from word parts.1)

-- the test for digits alone
pub natural_passes : (word : List ℕ) → IsNatural word → is_natural word ≡ true
natural_passes word natural = and_from (not (length word == 0)) (list_all is_ascii_digit word) (not_from_false (length word == 0) (ne_eqb (length word) 0 (λ e. absurd (omega (arith, natural.0))))) (digits_pass word natural.1)

pub natural_from : (word : List ℕ) → is_natural word ≡ true → IsNatural word
natural_from word pass =
    let parts = and_parts (not (length word == 0)) (list_all is_ascii_digit word) pass in
    let some : length word ≡ 0 → ⊥ = eqb-false (length word) 0 (not-true (length word == 0) parts.0) in
    (omega (arith, some), digits_from word parts.1)

pub no_natural : (word : List ℕ) → (IsNatural word → ⊥) → is_natural word ≡ false
no_natural word none = false_from_ne_true (is_natural word) (λ e. none (natural_from word e))
