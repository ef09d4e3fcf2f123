use Rattle.std.proofs.Common.{inl, inr, refl}
use Rattle.std.proofs.lemmas.Bool.{false≢true}
use Rattle.log_checker.proofs.judging.judge_logged.Goals as goal

pub returns-then-not-is_covered-clause-refused : goal.returns-then-not-is_covered-clause-refused
returns-then-not-is_covered-clause-refused c =
    let item = c.in-Some.ensures.lookup in
    (refl, (c.in-Some.sol.now, item.3.0, item.1, λ by. false≢true (c.if-not-is_covered.ensures.1 by)))

pub returns-else-not-is_covered-clause-covered : goal.returns-else-not-is_covered-clause-covered
returns-else-not-is_covered-clause-covered c =
    let item = c.in-Some.ensures.lookup in
    inr (c.in-Some.sol.now, item.3.0, item.1, c.if-not-is_covered.ensures.0 refl)

pub returns-in_default-clause-covered : goal.returns-in_default-clause-covered
returns-in_default-clause-covered c = inl c.in_default.ensures.lookup.3
