use Rattle.std.proofs.Common.{◌≡◌, ◌≤◌, take, unsigned_abs}
use Rattle.instance.specs.Shape.{terms_magnitude}
use Rattle.instance.specs.Meaning.{terms_value}
use Rattle.instance.proofs.evaluate.terms_value.Given as goal

abbrev pub invariant-loop-term : goal.invariant-loop-term
invariant-loop-term l = record {
  value : l.sum ≡ terms_value l.a (take l.term-index l.terms);
  bound : unsigned_abs l.sum ≤ terms_magnitude (take l.term-index l.terms);
}
