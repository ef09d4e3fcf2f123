-- Each assignment has a number.
use Rattle.std.proofs.Common.{◌≡◌, ℕ, zero, suc, ◌+◌, ◌*◌, ◌<◌, ◌^◌, ◌/◌, ◌%◌, Bool, true, false, List, [], ◌∷◌, length, eqb, ◌++◌, ◌-◌, not, take, set, append_assoc, refl, sym, ap, ◌∙◌, arith}
use Rattle.std.proofs.lemmas.List.{take_more_set}
use Rattle.std.proofs.lemmas.Bool.Decides.{nat_tests}
use Rattle.command_front.specs.Enumeration.{assignment_of}

-- the number of an assignment
abbrev pub number_of : List Bool → ℕ
number_of [] = 0
number_of (true ∷ bs) = 1 + 2 * number_of bs
number_of (false ∷ bs) = 2 * number_of bs

pub number-small : (a : List Bool) → number_of a < 2 ^ length a
number-small [] = omega arith
number-small (true ∷ bs) = let more : number_of bs < 2 ^ length bs = number-small bs in grind arith
number-small (false ∷ bs) = let more : number_of bs < 2 ^ length bs = number-small bs in grind arith

-- each assignment has a number
pub assignment-number : (a : List Bool) → assignment_of (length a) (number_of a) ≡ a
assignment-number [] = refl
assignment-number (true ∷ bs) =
    let half : (1 + 2 * number_of bs) / 2 ≡ number_of bs = omega arith in
    let odd : (1 + 2 * number_of bs) % 2 ≡ 1 = omega arith in
    rw (half, odd) (ap (λ cs. true ∷ cs) (assignment-number bs))
assignment-number (false ∷ bs) =
    let half : (2 * number_of bs) / 2 ≡ number_of bs = omega arith in
    let even : (2 * number_of bs) % 2 ≡ 0 = omega arith in
    rw (half, even) (ap (λ cs. false ∷ cs) (assignment-number bs))

-- one digit of a number more is written
pub digit_written : (a : List Bool) (at rest : ℕ) (digit : Bool) (whole : List Bool) → at < length a → digit ≡ eqb (rest % 2) 1 → take at a ++ assignment_of (length a - at) rest ≡ whole → take (at + 1) (set a at digit) ++ assignment_of (length a - (at + 1)) (rest / 2) ≡ whole
digit_written a at rest digit whole less is so_far =
    let one_less : length a - at ≡ suc (length a - (at + 1)) = omega arith in
    let split : assignment_of (length a - at) rest ≡ eqb (rest % 2) 1 ∷ assignment_of (length a - (at + 1)) (rest / 2) = ap (λ n. assignment_of n rest) one_less in
    ap (λ xs. xs ++ assignment_of (length a - (at + 1)) (rest / 2)) (take_more_set a at digit less)
    ∙ append_assoc (take at a) (digit ∷ []) (assignment_of (length a - (at + 1)) (rest / 2))
    ∙ ap (λ d. take at a ++ (d ∷ assignment_of (length a - (at + 1)) (rest / 2))) is
    ∙ ap (λ xs. take at a ++ xs) (sym split) ∙ so_far

pub not_even : (n : ℕ) → not (eqb (n % 2) 0) ≡ eqb (n % 2) 1
not_even n = grind (arith, nat_tests)

pub length-assignment_of : (n number : ℕ) → length (assignment_of n number) ≡ n
length-assignment_of zero number = refl
length-assignment_of (suc n) number = ap suc (length-assignment_of n (number / 2))
