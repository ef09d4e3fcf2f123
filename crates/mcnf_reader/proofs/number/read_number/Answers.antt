use Rattle.mcnf_reader.proofs.WordFaults.{number_wide, number_not_digits}
use Rattle.mcnf_reader.proofs.number.read_number.Goals as goal
use Rattle.std.proofs.Common.{arith}

pub returns-then-value-gt-MAX_MAGNITUDE-clause-fault : goal.returns-then-value-gt-MAX_MAGNITUDE-clause-fault
returns-then-value-gt-MAX_MAGNITUDE-clause-fault c =
    let number = c.in-Ok.ensures in
    number_wide c.args.kind c.args.text.now number.0 (omega (arith, number.2))

pub returns-in-Err-NotDigits-clause-fault : goal.returns-in-Err-NotDigits-clause-fault
returns-in-Err-NotDigits-clause-fault c = number_not_digits c.args.kind c.args.text.now (rw c.in-Err-NotDigits.field-0-is at c.in-Err-NotDigits.ensures)

pub returns-in-Err-TooWide-clause-fault : goal.returns-in-Err-TooWide-clause-fault
returns-in-Err-TooWide-clause-fault c =
    let number = rw c.in-Err-TooWide.field-0-is at c.in-Err-TooWide.ensures in
    number_wide c.args.kind c.args.text.now number.0 (omega (arith, number.1))
