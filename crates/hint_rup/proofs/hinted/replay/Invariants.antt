use Rattle.std.proofs.Common.{◌≡◌, ◌∷◌, None, length, replicate, drop}
use Rattle.pb_lin.specs.Given.{given_with}
use Rattle.hint_rup.specs.Hints.{named, unnamed}
use Rattle.hint_rup.specs.Negation.{negation_in}
use Rattle.hint_rup.proofs.Conflict.{IsRest}
use Rattle.hint_rup.proofs.hinted.replay.Given as goal

abbrev pub invariant-loop-hint : goal.invariant-loop-hint
invariant-loop-hint l = record {
  rest : let given = given_with l.lines (negation_in l.negated) l.denied in IsRest (replicate (length l.fn.scratch) None) (negation_in l.negated ∷ named given l.hints) l.scratch (named given (drop l.hint-index l.hints));
  first : let given = given_with l.lines (negation_in l.negated) l.denied in unnamed given l.hints ≡ unnamed given (drop l.hint-index l.hints);
  length : length l.scratch ≡ length l.fn.scratch;
}
