use Rattle.std.proofs.Common.{arith}
use Rattle.command_gen.proofs.NumbersWithin.{number_read, number_unread}
use Rattle.command_gen.proofs.origin.number_within.Goals as goal

pub returns-then-number-high-clause-number : goal.returns-then-number-high-clause-number
returns-then-number-high-clause-number c =
    number_read c.args.low c.args.high c.as_bytes.result.now c.args.text.now c.in-Ok.number c.as_bytes.ensures.value c.in-Ok.ensures (omega (arith, c.if-low-number.true)) (omega (arith, c.if-number-high.true))

pub returns-in-Err-clause-number : goal.returns-in-Err-clause-number
returns-in-Err-clause-number c =
    number_unread c.args.low c.args.high _ c.as_bytes.result.now c.args.text.now (omega (arith, c.ranges.high.fits)) c.as_bytes.ensures.value c.in-Err.ensures
