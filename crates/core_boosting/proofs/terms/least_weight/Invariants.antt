-- What the terms so far weigh at least.
use Rattle.std.proofs.Common.{◌<◌, take}
use Rattle.core_boosting.specs.Exchanging.{AllWeigh}
use Rattle.core_boosting.proofs.terms.least_weight.Given as goal

abbrev pub invariant-loop-term : goal.invariant-loop-term
invariant-loop-term l = record {
  some : 0 < l.least;
  least : AllWeigh l.lits l.least (take l.term-index l.terms);
}
