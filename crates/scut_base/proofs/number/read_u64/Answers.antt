use Rattle.std.proofs.Common.{get_or, rules}
use Rattle.std.specs.Int.{IsInRange}
use Rattle.scut_base.proofs.Digits.{not_natural, digits_go_on, value_goes_on}
use Rattle.scut_base.proofs.number.read_u64.Goals as goal

pub returns-then-not-is_ascii_digit : goal.returns-then-not-is_ascii_digit
returns-then-not-is_ascii_digit c = not_natural c.args.text.now c.loop-byte.byte-index c.loop-byte-test.true (search rules)

pub loop-byte-preserved : goal.loop-byte-preserved
loop-byte-preserved c =
    let digit : IsInRange 48 57 (get_or c.args.text.now c.loop-byte.byte-index 0) = search rules in
    record {
      digits = digits_go_on _ _ c.loop-byte-test.true digit c.loop-byte.invariant.digits;
      value = value_goes_on _ _ _ _ c.loop-byte-test.true digit (c.narrow_with_digit-value.ensures _ c.loop-byte.invariant.value);
    }
