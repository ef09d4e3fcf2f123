use Rattle.std.proofs.Common.{◌≡◌, ◌<◌, ◌-◌, ◌+◌, ◌*◌, get_or, length, rules, arith, ◌∙◌, ap, subst}
use Rattle.std.specs.Int.{IsInRange}
use Rattle.proof_lines.specs.Reading.{IsLeading}
use Rattle.proof_lines.proofs.Numbers.{one_digit_more, one_value_more, digit_more, digits_fit}
use Rattle.proof_lines.proofs.ShortWords.{leads_so_far, some_first}
use Rattle.proof_lines.proofs.short.leading_digits.Goals as goal

pub returns-then-not-is_ascii_digit-clause-leading : goal.returns-then-not-is_ascii_digit-clause-leading
returns-then-not-is_ascii_digit-clause-leading c = let so_far = c.loop-len.invariant in leads_so_far c.args.text.now c.loop-len.number c.loop-len.len (omega (arith, c.loop-len-test.true)) so_far.few so_far.digits so_far.value so_far.small

pub overflow_mul-number : goal.overflow_mul-number
overflow_mul-number c =
    let fits = digits_fit c.loop-len.len c.loop-len.number 0 19 c.loop-len.invariant.small (omega (arith, c.loop-len.invariant.few)) (omega arith) (omega arith) in
    omega (arith, fits)

pub overflow_add-number : goal.overflow_add-number
overflow_add-number c =
    let digit : IsInRange 48 57 (get_or c.args.text.now c.loop-len.len 0) = search rules in
    let same : c.from.result ≡ get_or c.args.text.now c.loop-len.len 0 - 48 = c.from.ensures in
    let fits = digits_fit c.loop-len.len c.loop-len.number c.from.result 19 c.loop-len.invariant.small (omega (arith, c.loop-len.invariant.few)) (omega arith) (omega arith) in
    omega (arith, fits)

pub loop-len-preserved : goal.loop-len-preserved
loop-len-preserved c =
    let so_far = c.loop-len.invariant in
    let digit : IsInRange 48 57 (get_or c.args.text.now c.loop-len.len 0) = search rules in
    let same : c.from.result ≡ get_or c.args.text.now c.loop-len.len 0 - 48 = c.from.ensures in
    let within : c.loop-len.len < length c.args.text.now = omega (arith, c.loop-len-test.true) in
    record {
      some = omega arith;
      few = omega (arith, so_far.few);
      digits = one_digit_more _ _ within digit so_far.digits;
      value = ap (λ d. c.loop-len.number * 10 + d) same ∙ one_value_more _ _ _ within digit so_far.value;
      small = digit_more c.loop-len.len c.loop-len.number c.from.result so_far.small (omega arith);
      positive = omega (arith, so_far.positive);
    }

pub returns : goal.returns
returns c =
    let text = c.args.text.now in
    let so_far = c.loop-len.invariant in
    let some = some_first text c.requires in
    let within = c.loop-len.auto.len-end (omega (arith, some)) in
    let is : c.loop-len.len ≡ c.min-most.result = omega (arith, within, c.loop-len-test.false) in
    record {
      leading = subst (IsLeading text c.loop-len.number) is (leads_so_far text c.loop-len.number c.loop-len.len (omega (arith, within)) so_far.few so_far.digits so_far.value so_far.small);
      positive = so_far.positive;
      some = omega (arith, some);
    }
