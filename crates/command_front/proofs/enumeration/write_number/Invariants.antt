use Rattle.std.proofs.Common.{◌≡◌, ◌++◌, ◌-◌, length, take}
use Rattle.command_front.specs.Enumeration.{assignment_of}
use Rattle.command_front.proofs.enumeration.write_number.Given as goal

abbrev pub invariant-loop-at : goal.invariant-loop-at
invariant-loop-at l = record {
  variables : length l.a ≡ length l.fn.a;
  digits : take l.at l.a ++ assignment_of (length l.a - l.at) l.rest ≡ assignment_of (length l.a) l.number;
}
