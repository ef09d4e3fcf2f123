use Rattle.std.proofs.Common.{◌≡◌, ◌-◌, ◌+◌, ◌*◌, ◌^◌, ◌≤◌, get_or, length, rules, arith, subst, ◌∙◌, ap}
use Rattle.std.specs.Int.{IsInRange}
use Rattle.std.specs.Str.Parse.{AllDigits, digits_value}
use Rattle.proof_lines.proofs.Numbers.{not_all_digits, one_digit_more, one_value_more, digit_more, digits_fit, all_digits, powers}
use Rattle.proof_lines.proofs.number.narrow.Goals as goal

pub returns-then-not-is_ascii_digit : goal.returns-then-not-is_ascii_digit
returns-then-not-is_ascii_digit c = λ digits below. not_all_digits c.args.word.now c.loop-byte.byte-index c.loop-byte-test.true (search rules) digits

pub overflow_mul-number : goal.overflow_mul-number
overflow_mul-number c =
    let fits = digits_fit c.loop-byte.byte-index c.loop-byte.number 0 (length c.args.word.now) c.loop-byte.invariant.small c.loop-byte-test.true c.requires (omega arith) in
    omega (arith, fits)

pub overflow_add-number : goal.overflow_add-number
overflow_add-number c =
    let digit : IsInRange 48 57 (get_or c.args.word.now c.loop-byte.byte-index 0) = search rules in
    let same : c.from.result ≡ get_or c.args.word.now c.loop-byte.byte-index 0 - 48 = c.from.ensures in
    let fits = digits_fit c.loop-byte.byte-index c.loop-byte.number c.from.result (length c.args.word.now) c.loop-byte.invariant.small c.loop-byte-test.true c.requires (omega arith) in
    omega (arith, fits)

pub loop-byte-preserved : goal.loop-byte-preserved
loop-byte-preserved c =
    let digit : IsInRange 48 57 (get_or c.args.word.now c.loop-byte.byte-index 0) = search rules in
    let same : c.from.result ≡ get_or c.args.word.now c.loop-byte.byte-index 0 - 48 = c.from.ensures in
    record {
      digits = one_digit_more _ _ c.loop-byte-test.true digit c.loop-byte.invariant.digits;
      value = ap (λ d. c.loop-byte.number * 10 + d) same ∙ one_value_more _ _ _ c.loop-byte-test.true digit c.loop-byte.invariant.value;
      small = digit_more c.loop-byte.byte-index c.loop-byte.number c.from.result c.loop-byte.invariant.small (omega arith);
    }

pub returns : goal.returns
returns c =
    let whole = all_digits c.args.word.now c.loop-byte.byte-index c.loop-byte-test.false in
    let wider : 10 ^ c.loop-byte.byte-index ≤ 10 ^ 19 = powers c.loop-byte.byte-index 19 (omega arith) in
    (subst (AllDigits 10) whole c.loop-byte.invariant.digits, c.loop-byte.invariant.value ∙ ap (digits_value 10) whole, omega arith)
