use Rattle.std.proofs.Common.{◌≡◌, take}
use Rattle.pb_lin.specs.Stored.{terms_of}
use Rattle.pb_lin.proofs.constraint.paired.Given as goal

abbrev pub invariant-loop-at : goal.invariant-loop-at
invariant-loop-at l = l.terms ≡ take l.at (terms_of l.lits l.coefs)
