use Rattle.std.proofs.Common.{◌<◌, ◌≡◌, length, ap, arith}
use Rattle.std.proofs.lemmas.List.{take_rest}
use Rattle.mopb_reader.proofs.Cutting.{digits_none, digits_first, digits_all, digits_before, length_take_le}
use Rattle.mopb_reader.proofs.cut.cut_digits.Goals as goal

pub returns-clause-none : goal.returns-clause-none
returns-clause-none c none =
    let n = c.digits_len-end.result in
    let long : length _ ≡ n = length_take_le n c.args.text.now c.digits_len-end.ensures.within in
    digits_none c.args.text.now (omega (arith, c.digits_len-end.ensures.value, long, ap length none))

pub returns-clause-some : goal.returns-clause-some
returns-clause-some c some =
    let n = c.digits_len-end.result in
    let long : length _ ≡ n = length_take_le n c.args.text.now c.digits_len-end.ensures.within in
    let more : 0 < digits_before c.args.text.now = omega (arith, c.digits_len-end.ensures.value, long) in
    rw (take_rest c.args.text.now n, c.digits_len-end.ensures.value) (digits_first c.args.text.now more)

pub returns-clause-digits : goal.returns-clause-digits
returns-clause-digits c some = (some, rw c.digits_len-end.ensures.value (digits_all c.args.text.now))
