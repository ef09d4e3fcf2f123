-- Which words have which fault.
use Rattle.std.proofs.Common.{◌≡◌, ℕ, ◌+◌, ◌<◌, ◌≤◌, ◌^◌, Bool, true, false, not, cond, List, drop, Option, None, Some, refl, sym, ap, ◌∙◌, subst, arith}
use Rattle.std.specs.Prelude.{slice_index, ◌==◌, nat_lt, nat_le}
use Rattle.std.specs.Option.{option_or}
use Rattle.std.specs.Str.Parse.{starts_with_minus}
use Rattle.std.proofs.lemmas.Bool.{and_from, and_parts, not_from_true, not_from_false, cond-true, cond-false, false_from_ne_true, lt-ltb, le-ltb, ltb-true, le-leb, lt-leb, leb-true, eq-eqb, ne_eqb, eqb-true, eqb-false}
use Rattle.scut_base.specs.Literal.{Literal}
use Rattle.scut_base.specs.Number.{IsNatural, is_natural, natural_value, magnitude_text}
use Rattle.scut_base.proofs.Naturals.{natural_passes, natural_from, no_natural}
use Rattle.instance.specs.declared.fault.BadKind.{BadKind}
use Rattle.instance.specs.declared.fault.BadKind.TheVariants.{UnknownLine, ObjectiveIndex, WeightExpected, LiteralExpected, NumberTooWide}
use Rattle.instance.specs.declared.fault.InstanceLimit.TheVariants.{Vars, Weights, Objectives}
use Rattle.instance.specs.declared.fault.PlaceFault.{PlaceFault}
use Rattle.instance.specs.declared.fault.PlaceFault.TheVariants.{Bad, Limit}
use Rattle.mcnf_reader.specs.Grammar.{SpellsLiteral, SpellsZero, SpellsObjective, SpellsWeight}
use Rattle.mcnf_reader.specs.FirstFault.{number_fault, objective_number_fault, objective_fault, weight_fault, literal_fault, is_zero}
use Rattle.mcnf_reader.proofs.Clauses.{natural_sign}
use Rattle.scut_base.proofs.Options.{or_at_none, or_none}
use Rattle.mcnf_reader.proofs.FaultChoice.{passed, failed_not, passed_last}

-- numbers
pub number_none : (kind : BadKind) (word : List ℕ) → IsNatural word → natural_value word < 2 ^ 63 → number_fault kind word ≡ None
number_none kind word natural small =
    let wide : Option PlaceFault = cond (nat_lt (natural_value word) (2 ^ 63)) None (Some (Bad NumberTooWide)) in
    cond-false (not (is_natural word)) (Some (Bad kind)) wide (not_from_true (is_natural word) (natural_passes word natural)) ∙ cond-true (nat_lt (natural_value word) (2 ^ 63)) None (Some (Bad NumberTooWide)) (lt-ltb (natural_value word) (2 ^ 63) small)

pub number_wide : (kind : BadKind) (word : List ℕ) → IsNatural word → 2 ^ 63 ≤ natural_value word → number_fault kind word ≡ Some (Bad NumberTooWide)
number_wide kind word natural large =
    let wide : Option PlaceFault = cond (nat_lt (natural_value word) (2 ^ 63)) None (Some (Bad NumberTooWide)) in
    cond-false (not (is_natural word)) (Some (Bad kind)) wide (not_from_true (is_natural word) (natural_passes word natural)) ∙ cond-false (nat_lt (natural_value word) (2 ^ 63)) None (Some (Bad NumberTooWide)) (le-ltb (natural_value word) (2 ^ 63) large)

pub number_not_digits : (kind : BadKind) (word : List ℕ) → (IsNatural word → ⊥) → number_fault kind word ≡ Some (Bad kind)
number_not_digits kind word none =
    let wide : Option PlaceFault = cond (nat_lt (natural_value word) (2 ^ 63)) None (Some (Bad NumberTooWide)) in
    cond-true (not (is_natural word)) (Some (Bad kind)) wide (not_from_false (is_natural word) (no_natural word none))

pub number_from : (kind : BadKind) (word : List ℕ) → number_fault kind word ≡ None → IsNatural word × (natural_value word < 2 ^ 63)
number_from kind word none =
    let wide : Option PlaceFault = cond (nat_lt (natural_value word) (2 ^ 63)) None (Some (Bad NumberTooWide)) in
    let parts = passed (is_natural word) (Bad kind) wide none in
    (natural_from word parts.0, ltb-true (natural_value word) (2 ^ 63) (passed_last (nat_lt (natural_value word) (2 ^ 63)) (Bad NumberTooWide) parts.1))

-- objectives
abbrev objective_range : ℕ → Option PlaceFault
objective_range n = cond (n == 0) (Some (Bad ObjectiveIndex)) (cond (nat_le n 64) None (Some (Limit Objectives)))

objective_number : (word : List ℕ) → slice_index word 0 ≡ 111 → objective_fault word ≡ option_or (number_fault UnknownLine (drop 1 word)) (objective_range (natural_value (drop 1 word)))
objective_number word letter = cond-true (slice_index word 0 == 111) (objective_number_fault (drop 1 word)) (Some (Bad UnknownLine)) (eq-eqb (slice_index word 0) 111 letter)

objective_in_range : (word digits : List ℕ) (n : ℕ) → slice_index word 0 ≡ 111 → digits ≡ drop 1 word → IsNatural digits → n < 2 ^ 63 → natural_value digits ≡ n → objective_fault word ≡ objective_range n
objective_in_range word digits n letter cut natural small value =
    let here : IsNatural (drop 1 word) = subst (λ (t : List ℕ). IsNatural t) cut natural in
    let same : natural_value (drop 1 word) ≡ n = ap natural_value (sym cut) ∙ value in
    objective_number word letter ∙ or_at_none (number_fault UnknownLine (drop 1 word)) (objective_range (natural_value (drop 1 word))) (number_none UnknownLine (drop 1 word) here (omega arith)) ∙ ap objective_range same

pub objective_zero : (word digits : List ℕ) (n : ℕ) → slice_index word 0 ≡ 111 → digits ≡ drop 1 word → IsNatural digits → n < 2 ^ 63 → natural_value digits ≡ n → n ≡ 0 → objective_fault word ≡ Some (Bad ObjectiveIndex)
objective_zero word digits n letter cut natural small value zero = objective_in_range word digits n letter cut natural small value ∙ ap objective_range zero

pub objective_large : (word digits : List ℕ) (n : ℕ) → slice_index word 0 ≡ 111 → digits ≡ drop 1 word → IsNatural digits → n < 2 ^ 63 → natural_value digits ≡ n → 64 < n → objective_fault word ≡ Some (Limit Objectives)
objective_large word digits n letter cut natural small value large = objective_in_range word digits n letter cut natural small value ∙ cond-false (n == 0) (Some (Bad ObjectiveIndex)) (cond (nat_le n 64) None (Some (Limit Objectives))) (ne_eqb n 0 (λ e. absurd (omega arith))) ∙ cond-false (nat_le n 64) None (Some (Limit Objectives)) (lt-leb n 64 large)

pub objective_none : (word : List ℕ) (k : ℕ) → SpellsObjective word k → k ≤ 64 → objective_fault word ≡ None
objective_none word k spelled le = objective_in_range word (drop 1 word) k spelled.letter refl spelled.number (omega arith) spelled.value ∙ cond-false (k == 0) (Some (Bad ObjectiveIndex)) (cond (nat_le k 64) None (Some (Limit Objectives))) (ne_eqb k 0 (λ e. absurd (omega (arith, spelled.positive)))) ∙ cond-true (nat_le k 64) None (Some (Limit Objectives)) (le-leb k 64 le)

objective_letter : (b : Bool) (o : Option PlaceFault) → cond b o (Some (Bad UnknownLine)) ≡ None → (b ≡ true) × (o ≡ None)
objective_letter true o none = (refl, none)
objective_letter false o none = (cc, cc)

pub objective_from : (word : List ℕ) → objective_fault word ≡ None → SpellsObjective word (natural_value (drop 1 word)) × (natural_value (drop 1 word) ≤ 64)
objective_from word none =
    let n = natural_value (drop 1 word) in
    let letter = objective_letter (slice_index word 0 == 111) (objective_number_fault (drop 1 word)) none in
    let parts = or_none (number_fault UnknownLine (drop 1 word)) (objective_range n) letter.1 in
    let number = number_from UnknownLine (drop 1 word) parts.0 in
    let range = failed_not (n == 0) (Bad ObjectiveIndex) (cond (nat_le n 64) None (Some (Limit Objectives))) parts.1 in
    let some : n ≡ 0 → ⊥ = eqb-false n 0 range.0 in
    (record { letter = eqb-true (slice_index word 0) 111 letter.0; number = number.0; value = refl; positive = omega (arith, some) }, leb-true n 64 (passed_last (nat_le n 64) (Limit Objectives) range.1))

-- weights
abbrev weight_range : ℕ → ℕ → Option PlaceFault
weight_range so_far n = cond (nat_lt (so_far + n) (2 ^ 63)) None (Some (Limit Weights))

weight_in_range : (so_far : ℕ) (word : List ℕ) (n : ℕ) → IsNatural word → n < 2 ^ 63 → natural_value word ≡ n → weight_fault so_far word ≡ weight_range so_far n
weight_in_range so_far word n natural small value = or_at_none (number_fault WeightExpected word) (weight_range so_far (natural_value word)) (number_none WeightExpected word natural (omega arith)) ∙ ap (weight_range so_far) value

pub weight_large : (so_far : ℕ) (word : List ℕ) (n : ℕ) → IsNatural word → n < 2 ^ 63 → natural_value word ≡ n → 2 ^ 63 ≤ so_far + n → weight_fault so_far word ≡ Some (Limit Weights)
weight_large so_far word n natural small value large = weight_in_range so_far word n natural small value ∙ cond-false (nat_lt (so_far + n) (2 ^ 63)) None (Some (Limit Weights)) (le-ltb (so_far + n) (2 ^ 63) large)

pub weight_none : (so_far : ℕ) (word : List ℕ) (n : ℕ) → SpellsWeight word n → so_far + n < 2 ^ 63 → weight_fault so_far word ≡ None
weight_none so_far word n spelled small = weight_in_range so_far word n spelled.0 (omega arith) spelled.1 ∙ cond-true (nat_lt (so_far + n) (2 ^ 63)) None (Some (Limit Weights)) (lt-ltb (so_far + n) (2 ^ 63) small)

pub weight_from : (so_far : ℕ) (word : List ℕ) → weight_fault so_far word ≡ None → SpellsWeight word (natural_value word) × (so_far + natural_value word < 2 ^ 63)
weight_from so_far word none =
    let parts = or_none (number_fault WeightExpected word) (weight_range so_far (natural_value word)) none in
    let number = number_from WeightExpected word parts.0 in
    ((number.0, refl), ltb-true (so_far + natural_value word) (2 ^ 63) (passed_last (nat_lt (so_far + natural_value word) (2 ^ 63)) (Limit Weights) parts.1))

-- the terminator
pub zero_passes : (word : List ℕ) → SpellsZero word → is_zero word ≡ true
zero_passes word zero = and_from (is_natural word) (natural_value word == 0) (natural_passes word zero.0) (eq-eqb (natural_value word) 0 zero.1)

pub zero_from : (word : List ℕ) → is_zero word ≡ true → SpellsZero word
zero_from word pass =
    let parts = and_parts (is_natural word) (natural_value word == 0) pass in
    (natural_from word parts.0, eqb-true (natural_value word) 0 parts.1)

no_zero : (word : List ℕ) → (SpellsZero word → ⊥) → is_zero word ≡ false
no_zero word none = false_from_ne_true (is_zero word) (λ e. none (zero_from word e))

zero_magnitude : (word : List ℕ) → SpellsZero word → magnitude_text word ≡ word
zero_magnitude word zero = rw (natural_sign word zero.0) refl

pub no_zero_above : (word digits : List ℕ) (n : ℕ) → digits ≡ magnitude_text word → natural_value digits ≡ n → 0 < n → is_zero word ≡ false
no_zero_above word digits n cut value some = no_zero word (λ zero.
    let plain : digits ≡ word = cut ∙ zero_magnitude word zero in
    let none : natural_value digits ≡ 0 = rw plain zero.1 in
    omega arith)

-- literals
abbrev literal_range : ℕ → Option PlaceFault
literal_range n = cond (n == 0) (Some (Bad LiteralExpected)) (cond (nat_le n (2 ^ 24)) None (Some (Limit Vars)))

literal_in_range : (word digits : List ℕ) (n : ℕ) → digits ≡ magnitude_text word → IsNatural digits → n < 2 ^ 63 → natural_value digits ≡ n → literal_fault word ≡ literal_range n
literal_in_range word digits n cut natural small value =
    let here : IsNatural (magnitude_text word) = subst (λ (t : List ℕ). IsNatural t) cut natural in
    let same : natural_value (magnitude_text word) ≡ n = ap natural_value (sym cut) ∙ value in
    or_at_none (number_fault LiteralExpected (magnitude_text word)) (literal_range (natural_value (magnitude_text word))) (number_none LiteralExpected (magnitude_text word) here (omega arith)) ∙ ap literal_range same

pub literal_large : (word digits : List ℕ) (n : ℕ) → digits ≡ magnitude_text word → IsNatural digits → n < 2 ^ 63 → natural_value digits ≡ n → 2 ^ 24 < n → literal_fault word ≡ Some (Limit Vars)
literal_large word digits n cut natural small value large = literal_in_range word digits n cut natural small value ∙ cond-false (n == 0) (Some (Bad LiteralExpected)) (cond (nat_le n (2 ^ 24)) None (Some (Limit Vars))) (ne_eqb n 0 (λ e. absurd (omega arith))) ∙ cond-false (nat_le n (2 ^ 24)) None (Some (Limit Vars)) (lt-leb n (2 ^ 24) large)

pub literal_none : (word : List ℕ) (l : Literal) → SpellsLiteral word l → l.var ≤ 2 ^ 24 → literal_fault word ≡ None
literal_none word l spelled le = literal_in_range word (magnitude_text word) l.var refl spelled.number (omega arith) spelled.variable ∙ cond-false (l.var == 0) (Some (Bad LiteralExpected)) (cond (nat_le l.var (2 ^ 24)) None (Some (Limit Vars))) (ne_eqb l.var 0 (λ e. absurd (omega (arith, spelled.positive)))) ∙ cond-true (nat_le l.var (2 ^ 24)) None (Some (Limit Vars)) (le-leb l.var (2 ^ 24) le)

pub no_zero_at_literal : (word : List ℕ) (l : Literal) → SpellsLiteral word l → is_zero word ≡ false
no_zero_at_literal word l spelled = no_zero_above word (magnitude_text word) l.var refl spelled.variable spelled.positive

pub literal_from : (word : List ℕ) → literal_fault word ≡ None → (l : Literal) × SpellsLiteral word l × (l.var ≤ 2 ^ 24)
literal_from word none =
    let n = natural_value (magnitude_text word) in
    let parts = or_none (number_fault LiteralExpected (magnitude_text word)) (literal_range n) none in
    let number = number_from LiteralExpected (magnitude_text word) parts.0 in
    let range = failed_not (n == 0) (Bad LiteralExpected) (cond (nat_le n (2 ^ 24)) None (Some (Limit Vars))) parts.1 in
    let some : n ≡ 0 → ⊥ = eqb-false n 0 range.0 in
    let l : Literal = record { var = n; neg = starts_with_minus word } in
    let spelled : SpellsLiteral word l = record { number = number.0; variable = refl; sign = refl; positive = omega (arith, some) } in
    (l, spelled, leb-true n (2 ^ 24) (passed_last (nat_le n (2 ^ 24)) (Limit Vars) range.1))
