-- Numbers that are read from text.
use Rattle.std.specs.Prelude.{◌≡◌, ℕ, ◌<◌, ◌≤◌, ◌==◌, ◌&&◌, not, length, Bool, List, Option, None, Some, drop, ℤ, pos, neg_ℤ, Result, Ok, Err, if◌then◌else◌}
use Rattle.std.specs.List.{list_all}
use Rattle.std.specs.Char.{is_ascii_digit}
use Rattle.std.specs.Str.Parse.{IsNumeral, digits_value, starts_with_minus}
use Rattle.scut_base.specs.declared.number.NumberFault.{NumberFault}
use Rattle.scut_base.specs.declared.number.NumberFault.TheVariants.{NotDigits, TooWide}

-- one decimal digit or more, and nothing else
abbrev pub IsNatural : List ℕ → Type 0
IsNatural text = IsNumeral 10 text

-- whether it is so
abbrev pub is_natural : List ℕ → Bool
is_natural text = not (length text == 0) && list_all is_ascii_digit text

abbrev pub natural_value : List ℕ → ℕ
natural_value text = digits_value 10 text

-- the text after a minus, if it begins with one
abbrev pub magnitude_text : List ℕ → List ℕ
magnitude_text text = if starts_with_minus text then drop 1 text else text

-- decimal digits, after one minus or none
abbrev pub IsInteger : List ℕ → Type 0
IsInteger text = IsNatural (magnitude_text text)

-- the number of a sign and a magnitude
abbrev pub signed_value : Bool → ℕ → ℤ
signed_value negative n = if negative then neg_ℤ (pos n) else pos n

abbrev pub integer_value : List ℕ → ℤ
integer_value text = signed_value (starts_with_minus text) (natural_value (magnitude_text text))

-- What is answered for a text: its value where it is a number that fits, and else which of the two it lacks.
abbrev pub ReadsAs : {T : Type 0} → Result T NumberFault → Type 0 → Type 0 → T → Type 0
ReadsAs (Ok x) IsNumber Fits value = IsNumber × Fits × (x ≡ value)
ReadsAs (Err NotDigits) IsNumber Fits value = IsNumber → ⊥
ReadsAs (Err TooWide) IsNumber Fits value = IsNumber × (Fits → ⊥)

-- the same of decimal digits whose value has to be below a limit
abbrev pub ReadsNatural : Result ℕ NumberFault → ℕ → List ℕ → Type 0
ReadsNatural result limit text = ReadsAs result (IsNatural text) (natural_value text < limit) (natural_value text)

-- the same of a number with one minus or none, whose value has to fit
abbrev pub ReadsInteger : Result ℤ NumberFault → (ℤ → Type 0) → List ℕ → Type 0
ReadsInteger result Fits text = ReadsAs result (IsInteger text) (Fits (integer_value text)) (integer_value text)

-- a running value: the number so far, or none where it has reached the limit
abbrev pub Keeps : ℕ → Option ℕ → ℕ → Type 0
Keeps limit None n = limit ≤ n
Keeps limit (Some v) n = v ≡ n
