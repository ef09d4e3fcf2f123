use Rattle.std.proofs.Common.{◌≡◌, take}
use Rattle.command_solve.specs.TurnDigits.{numbers_of}
use Rattle.command_solve.proofs.turns.numbers_of.Given as goal

abbrev pub invariant-loop-digit : goal.invariant-loop-digit
invariant-loop-digit l = l.numbers ≡ numbers_of (take l.digit-index l.digits)
