use Rattle.std.proofs.Common.{◌≡◌, ◌<◌, ◌≤◌, ◌^◌, take}
use Rattle.std.specs.Str.Parse.{AllDigits, digits_value}
use Rattle.proof_lines.proofs.short.leading_digits.Given as goal

abbrev pub invariant-loop-len : goal.invariant-loop-len
invariant-loop-len l = record {
  some : 0 < l.len;
  few : l.len ≤ 18;
  digits : AllDigits 10 (take l.len l.text);
  value : l.number ≡ digits_value 10 (take l.len l.text);
  small : l.number < 10 ^ l.len;
  positive : 0 < l.number;
}
