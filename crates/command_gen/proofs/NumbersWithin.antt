-- Numbers within bounds, as they are read.
use Rattle.std.proofs.Common.{◌≡◌, ℕ, ◌<◌, ◌≤◌, ◌^◌, Bool, true, not, List, ap, sym, ◌∙◌, subst, arith}
use Rattle.std.specs.Prelude.{Some, None, Ok, Err, ◌&&◌, nat_lt}
use Rattle.std.proofs.lemmas.Bool.{and_from, and_parts, not_from_false, not-true, cond-true, cond-false, false_from_ne_true, le-ltb, ltb-false}
use Rattle.scut_base.specs.Number.{is_natural, IsNatural, natural_value, ReadsNatural}
use Rattle.scut_base.specs.declared.number.NumberFault.{NumberFault}
use Rattle.scut_base.specs.declared.number.NumberFault.TheVariants.{NotDigits, TooWide}
use Rattle.scut_base.proofs.Naturals.{natural_passes, natural_from}
use Rattle.command_gen.specs.Origin.{number_within}

module _ (low high : ℕ) where
  -- the tests of `number_within`
  abbrev is_between : List ℕ → Bool
  is_between text = not (nat_lt (natural_value text) low) && not (nat_lt high (natural_value text))

  abbrev is_within : List ℕ → Bool
  is_within text = is_natural text && is_between text

  within_taken : (text : List ℕ) → IsNatural text → low ≤ natural_value text → natural_value text ≤ high → number_within low high text ≡ Some (natural_value text)
  within_taken text natural above below =
      let first : not (nat_lt (natural_value text) low) ≡ true = not_from_false (nat_lt (natural_value text) low) (le-ltb (natural_value text) low above) in
      let last : not (nat_lt high (natural_value text)) ≡ true = not_from_false (nat_lt high (natural_value text)) (le-ltb high (natural_value text) below) in
      let range : is_between text ≡ true = and_from (not (nat_lt (natural_value text) low)) (not (nat_lt high (natural_value text))) first last in
      cond-true (is_within text) (Some (natural_value text)) None (and_from (is_natural text) (is_between text) (natural_passes text natural) range)

  pub number_read : (bytes text : List ℕ) (n : ℕ) → bytes ≡ text → ReadsNatural (Ok n) (2 ^ 64) bytes → low ≤ n → n ≤ high → Some n ≡ number_within low high text
  number_read bytes text n same read above below =
      let value : n ≡ natural_value text = read.2 ∙ ap natural_value same in
      ap Some value ∙ sym (within_taken text (subst IsNatural same read.0) (omega (arith, value, above)) (omega (arith, value, below)))

  -- what such a number is
  within_is : (text : List ℕ) → is_within text ≡ true → IsNatural text × (natural_value text ≤ high)
  within_is text pass =
      let parts = and_parts (is_natural text) (is_between text) pass in
      let range = and_parts (not (nat_lt (natural_value text) low)) (not (nat_lt high (natural_value text))) parts.1 in
      (natural_from text parts.0, ltb-false high (natural_value text) (not-true (nat_lt high (natural_value text)) range.1))

  none_within : (text : List ℕ) → (is_within text ≡ true → ⊥) → None ≡ number_within low high text
  none_within text none = sym (cond-false (is_within text) (Some (natural_value text)) None (false_from_ne_true (is_within text) none))

  -- text that isn't read is no such number
  pub number_unread : (fault : NumberFault) (bytes text : List ℕ) → high < 2 ^ 64 → bytes ≡ text → ReadsNatural (Err fault) (2 ^ 64) bytes → None ≡ number_within low high text
  number_unread NotDigits bytes text bound same none = none_within text (λ pass. none (subst IsNatural (sym same) (within_is text pass).0))
  number_unread TooWide bytes text bound same wide = none_within text (λ pass. wide.1 (omega (arith, bound, (within_is text pass).1, ap natural_value same)))
