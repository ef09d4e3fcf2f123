use Rattle.std.proofs.Common.{take, ◌^◌}
use Rattle.std.specs.Str.Parse.{AllDigits}
use Rattle.scut_base.specs.Number.{natural_value, Keeps}
use Rattle.scut_base.proofs.number.read_u128.Given as goal

abbrev pub invariant-loop-byte : goal.invariant-loop-byte
invariant-loop-byte l = record {
  digits : AllDigits 10 (take l.byte-index l.text);
  value : Keeps (2 ^ 128) l.value (natural_value (take l.byte-index l.text));
}
