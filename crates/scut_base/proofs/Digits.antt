-- What a loop over decimal digits keeps.
use Rattle.std.proofs.Common.{◌≡◌, ℕ, ◌+◌, ◌-◌, ◌*◌, ◌<◌, List, length, take, get_or, Option, subst, sym, ap, ◌∙◌, arith}
use Rattle.std.specs.Int.{IsInRange}
use Rattle.std.specs.Char.{digit_value}
use Rattle.std.specs.Str.Parse.{AllDigits}
use Rattle.std.proofs.lemmas.Int.Digits.{digits_more, digits_value_more}
use Rattle.std.proofs.lemmas.Str.{digit_value_digit}
use Rattle.std.proofs.lemmas.Str.Parse.{digit_at}
use Rattle.scut_base.specs.Number.{IsNatural, natural_value, Keeps}

-- a text with another byte in it is no number
pub not_natural : (bs : List ℕ) (i : ℕ) → i < length bs → (IsInRange 48 57 (get_or bs i 0) → ⊥) → IsNatural bs → ⊥
not_natural bs i lt other natural = other (digit_at bs i natural.1 lt)

pub digits_go_on : (bs : List ℕ) (i : ℕ) → i < length bs → IsInRange 48 57 (get_or bs i 0) → AllDigits 10 (take i bs) → AllDigits 10 (take (i + 1) bs)
digits_go_on bs i lt digit so_far =
    let value : digit_value (get_or bs i 0) + 48 ≡ get_or bs i 0 = digit_value_digit _ digit in
    digits_more 10 bs i lt so_far (omega arith)

pub value_goes_on : (limit : ℕ) (bs : List ℕ) (i : ℕ) (value : Option ℕ) → i < length bs → IsInRange 48 57 (get_or bs i 0) → Keeps limit value (natural_value (take i bs) * 10 + (get_or bs i 0 - 48)) → Keeps limit value (natural_value (take (i + 1) bs))
value_goes_on limit bs i value lt digit kept =
    let one : digit_value (get_or bs i 0) + 48 ≡ get_or bs i 0 = digit_value_digit _ digit in
    let same : get_or bs i 0 - 48 ≡ digit_value (get_or bs i 0) = omega arith in
    let more : natural_value (take i bs) * 10 + (get_or bs i 0 - 48) ≡ natural_value (take (i + 1) bs) = ap (λ d. natural_value (take i bs) * 10 + d) same ∙ sym (digits_value_more 10 bs i lt) in
    subst (Keeps limit value) more kept
