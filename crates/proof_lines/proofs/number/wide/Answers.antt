use Rattle.std.proofs.Common.{◌^◌, get_or, rules, arith, ◌∙◌}
use Rattle.std.specs.Int.{IsInRange}
use Rattle.proof_lines.proofs.Numbers.{not_all_digits, one_digit_more, one_value_more, too_wide}
use Rattle.proof_lines.proofs.number.wide.Goals as goal

pub returns-then-not-is_ascii_digit : goal.returns-then-not-is_ascii_digit
returns-then-not-is_ascii_digit c = λ digits below. not_all_digits c.args.word.now c.loop-byte.byte-index c.loop-byte-test.true (search rules) digits

pub returns-in_err-number : goal.returns-in_err-number
returns-in_err-number c =
    let digit : IsInRange 48 57 (get_or c.args.word.now c.loop-byte.byte-index 0) = search rules in
    rw c.from_residual.ensures (too_wide (2 ^ 127) c.args.word.now c.loop-byte.byte-index c.loop-byte.number c.loop-byte-test.true digit c.loop-byte.invariant.value c.in_err-number.ensures)

pub loop-byte-preserved : goal.loop-byte-preserved
loop-byte-preserved c =
    let digit : IsInRange 48 57 (get_or c.args.word.now c.loop-byte.byte-index 0) = search rules in
    record {
      digits = one_digit_more _ _ c.loop-byte-test.true digit c.loop-byte.invariant.digits;
      value = c.in_ok-number.ensures.1 ∙ one_value_more _ _ _ c.loop-byte-test.true digit c.loop-byte.invariant.value;
      small = omega (arith, c.in_ok-number.ensures.0, c.in_ok-number.ensures.1);
    }
