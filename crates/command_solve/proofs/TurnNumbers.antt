-- What is there where a search takes an instance.
use Rattle.std.proofs.Common.{◌≡◌, ℕ, zero, suc, ◌-◌, ◌<◌, ◌≤◌, Bool, true, false, not, List, [], ◌∷◌, length, subst, arith}
use Rattle.std.specs.Prelude.{All, Some, None, ◌==◌, ◌&&◌, ◌||◌, nat_le, if◌then◌else◌}
use Rattle.std.specs.List.{list_all}
use Rattle.std.proofs.Math.Numerals.{lt_of_le_of_ne}
use Rattle.std.proofs.lemmas.Bool.{and_parts, cond-false, cond-true, eq-eqb, eqb-false, eqb-true, leb-true, ne_eqb, not-true, or_parts}
use Rattle.std.proofs.lemmas.List.{length-map}
use Rattle.std.proofs.lemmas.List.Elements.{All-map}
use Rattle.instance.specs.Shape.{InstanceValue}
use Rattle.portfolio.specs.Cycles.{AreTurns}
use Rattle.command_solve.specs.Table.{HasSearch, searches_for}
use Rattle.command_solve.specs.TurnDigits.{are_turns, has_third, is_turn, numbers_of, takes}
use Rattle.command_solve.specs.Words.{SolveAsked}
use Rattle.command_solve.specs.declared.options.SearchKind.TheVariants.{BiOptSat, Turns}

-- the digit of one of so many searches
abbrev IsDigit : ℕ → ℕ → Type 0
IsDigit count d = (0 < d - 48) × (d - 48 ≤ count)

digit_of_three : (d : ℕ) → is_turn d ≡ true → IsDigit 3 d
digit_of_three d turn =
    let parts = and_parts (nat_le 49 d) (nat_le d 51) turn in
    let low : 49 ≤ d = leb-true 49 d parts.0 in
    let high : d ≤ 51 = leb-true d 51 parts.1 in
    (omega (arith, low), omega (arith, high))

digit_of_two : (d : ℕ) → is_turn d ≡ true → (d == 51) ≡ false → IsDigit 2 d
digit_of_two d turn other =
    let parts = and_parts (nat_le 49 d) (nat_le d 51) turn in
    let low : 49 ≤ d = leb-true 49 d parts.0 in
    let high : d < 51 = lt_of_le_of_ne (leb-true d 51 parts.1) (eqb-false d 51 other) in
    (omega (arith, low), omega (arith, high))

digits_of_three : (digits : List ℕ) → list_all is_turn digits ≡ true → All (IsDigit 3) digits
digits_of_three [] turns k d within = absurd (omega arith)
digits_of_three (x ∷ xs) turns zero d within = digit_of_three x (and_parts (is_turn x) (list_all is_turn xs) turns).0
digits_of_three (x ∷ xs) turns (suc k) d within = digits_of_three xs (and_parts (is_turn x) (list_all is_turn xs) turns).1 k d (omega arith)

digits_of_two : (digits : List ℕ) → list_all is_turn digits ≡ true → has_third digits ≡ false → All (IsDigit 2) digits
digits_of_two [] turns none k d within = absurd (omega arith)
digits_of_two (x ∷ xs) turns none zero d within = digit_of_two x (and_parts (is_turn x) (list_all is_turn xs) turns).0 (or_parts (x == 51) (has_third xs) none).0
digits_of_two (x ∷ xs) turns none (suc k) d within =
    digits_of_two xs (and_parts (is_turn x) (list_all is_turn xs) turns).1 (or_parts (x == 51) (has_third xs) none).1 k d (omega arith)

module _ (digits : List ℕ) (are : are_turns digits ≡ true) where
  all_turns : list_all is_turn digits ≡ true
  all_turns = (and_parts (not (length digits == 0)) (list_all is_turn digits) are).1

  some_turns : 0 < length (numbers_of digits)
  some_turns =
      let some = eqb-false (length digits) 0 (not-true (length digits == 0) (and_parts (not (length digits == 0)) (list_all is_turn digits) are).0) in
      let same : length (numbers_of digits) ≡ length digits = length-map digits (λ (d : ℕ). d - 48) in
      omega (arith, some, same)

  turns_of : (two : Bool) → (two || not (has_third digits)) ≡ true → AreTurns (if two then 3 else 2) (numbers_of digits)
  turns_of true third = record {
    some = some_turns;
    each = All-map (λ (n : ℕ). (0 < n) × (n ≤ 3)) (λ (d : ℕ). d - 48) digits (digits_of_three digits all_turns);
  }
  turns_of false third = record {
    some = some_turns;
    each = All-map (λ (n : ℕ). (0 < n) × (n ≤ 2)) (λ (d : ℕ). d - 48) digits (digits_of_two digits all_turns (not-true (has_third digits) third));
  }

-- the digits of a search in turns that takes the instance
pub turns_taken : (a : SolveAsked) (i : InstanceValue) (digits : List ℕ) → a.search ≡ Turns → a.turns ≡ Some digits → HasSearch a i → AreTurns (searches_for i) (numbers_of digits)
turns_taken a i digits kind given taken =
    let by_kind = subst (λ s. takes s a.turns (length i.objectives) ≡ true) kind taken in
    let by_digits : (are_turns digits && (length i.objectives == 2 || not (has_third digits))) ≡ true = subst (λ t. takes Turns t (length i.objectives) ≡ true) given by_kind in
    let parts = and_parts (are_turns digits) (length i.objectives == 2 || not (has_third digits)) by_digits in
    turns_of digits parts.0 (length i.objectives == 2) parts.1

-- a search in turns has turns
pub turns_given : (a : SolveAsked) (i : InstanceValue) → a.search ≡ Turns → a.turns ≡ None → HasSearch a i → ⊥
turns_given a i kind none taken =
    let by_kind = subst (λ s. takes s a.turns (length i.objectives) ≡ true) kind taken in
    let by_none : false ≡ true = subst (λ t. takes Turns t (length i.objectives) ≡ true) none by_kind in
    cc

-- the search for two objectives has two
pub two_objectives : (a : SolveAsked) (i : InstanceValue) → a.search ≡ BiOptSat → HasSearch a i → length i.objectives ≡ 2
two_objectives a i kind taken = eqb-true (length i.objectives) 2 (subst (λ s. takes s a.turns (length i.objectives) ≡ true) kind taken)

-- the third search is there for two objectives
pub searches_for_two : (i : InstanceValue) → length i.objectives ≡ 2 → searches_for i ≡ 3
searches_for_two i two = cond-true (length i.objectives == 2) 3 2 (eq-eqb (length i.objectives) 2 two)

pub searches_for_others : (i : InstanceValue) → (length i.objectives ≡ 2 → ⊥) → searches_for i ≡ 2
searches_for_others i others = cond-false (length i.objectives == 2) 3 2 (ne_eqb (length i.objectives) 2 others)
