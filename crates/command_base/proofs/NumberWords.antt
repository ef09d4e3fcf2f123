-- A number from 1 to a largest one, as it is read.
use Rattle.std.proofs.Common.{◌≡◌, ℕ, ◌<◌, ◌≤◌, ◌^◌, Bool, true, not, List, ap, sym, ◌∙◌, subst, arith}
use Rattle.std.specs.Prelude.{Some, None, Ok, Err, ◌&&◌, nat_lt}
use Rattle.std.proofs.lemmas.Bool.{and_from, and_parts, not_from_false, not-true, cond-true, cond-false, false_from_ne_true, lt-ltb, le-ltb, ltb-false}
use Rattle.scut_base.specs.Number.{is_natural, IsNatural, natural_value, ReadsNatural}
use Rattle.scut_base.specs.declared.number.NumberFault.{NumberFault}
use Rattle.scut_base.specs.declared.number.NumberFault.TheVariants.{NotDigits, TooWide}
use Rattle.scut_base.proofs.Naturals.{natural_passes, natural_from}
use Rattle.command_base.specs.CommandWords.{number_up_to}

-- the test of `number_up_to`
abbrev is_taken : ℕ → List ℕ → Bool
is_taken most text = is_natural text && (nat_lt 0 (natural_value text) && not (nat_lt most (natural_value text)))

-- a number from 1 to the largest
number_taken : (most : ℕ) (text : List ℕ) → IsNatural text → 0 < natural_value text → natural_value text ≤ most → number_up_to most text ≡ Some (natural_value text)
number_taken most text natural some small =
    let last : not (nat_lt most (natural_value text)) ≡ true = not_from_false (nat_lt most (natural_value text)) (le-ltb most (natural_value text) small) in
    let range = and_from (nat_lt 0 (natural_value text)) (not (nat_lt most (natural_value text))) (lt-ltb 0 (natural_value text) some) last in
    cond-true (is_taken most text) (Some (natural_value text)) None (and_from (is_natural text) (nat_lt 0 (natural_value text) && not (nat_lt most (natural_value text))) (natural_passes text natural) range)

pub number_read : (most : ℕ) (bytes text : List ℕ) (n : ℕ) → bytes ≡ text → ReadsNatural (Ok n) (2 ^ 64) bytes → 0 < n → n ≤ most → Some n ≡ number_up_to most text
number_read most bytes text n same read some small =
    let value : n ≡ natural_value text = read.2 ∙ ap natural_value same in
    ap Some value ∙ sym (number_taken most text (subst IsNatural same read.0) (omega (arith, value, some)) (omega (arith, value, small)))

-- what a taken number is
number_is : (most : ℕ) (text : List ℕ) → is_taken most text ≡ true → IsNatural text × (natural_value text ≤ most)
number_is most text pass =
    let parts = and_parts (is_natural text) (nat_lt 0 (natural_value text) && not (nat_lt most (natural_value text))) pass in
    let range = and_parts (nat_lt 0 (natural_value text)) (not (nat_lt most (natural_value text))) parts.1 in
    (natural_from text parts.0, ltb-false most (natural_value text) (not-true (nat_lt most (natural_value text)) range.1))

no_number : (most : ℕ) (text : List ℕ) → (is_taken most text ≡ true → ⊥) → None ≡ number_up_to most text
no_number most text none = sym (cond-false (is_taken most text) (Some (natural_value text)) None (false_from_ne_true (is_taken most text) none))

-- text that isn't read is no such number
pub number_unread : (most : ℕ) → most < 2 ^ 64 → (fault : NumberFault) (bytes text : List ℕ) → bytes ≡ text → ReadsNatural (Err fault) (2 ^ 64) bytes → None ≡ number_up_to most text
number_unread most fits NotDigits bytes text same none = no_number most text (λ pass. none (subst IsNatural (sym same) (number_is most text pass).0))
number_unread most fits TooWide bytes text same wide = no_number most text (λ pass. wide.1 (omega (arith, (number_is most text pass).1, ap natural_value same)))
