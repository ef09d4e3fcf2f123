use Rattle.std.proofs.Common.{arith}
use Rattle.std.proofs.lemmas.List.Sorted.{IsPermutation-trans, IsPermutation-sym, Contains-permutation, length_permutation}
use Rattle.watch_prop.proofs.watch_lists.latest_first.Goals as goal

pub put_latest-requires-2-clause-within : goal.put_latest-requires-2-clause-within
put_latest-requires-2-clause-within c = omega (arith, c.requires.long, length_permutation _ _ c.put_latest.ensures.same)

pub put_latest-requires-2-clause-vars : goal.put_latest-requires-2-clause-vars
put_latest-requires-2-clause-vars c = λ l h. c.requires.vars l (Contains-permutation _ _ l (IsPermutation-sym _ _ c.put_latest.ensures.same) h)

pub at-requires : goal.at-requires
at-requires c = omega (arith, c.requires.long, length_permutation _ _ c.put_latest.ensures.same, length_permutation _ _ c.put_latest-2.ensures.same)

pub looked_at-requires : goal.looked_at-requires
looked_at-requires c = c.requires.vars _ (Contains-permutation _ _ _ (IsPermutation-sym _ _ (IsPermutation-trans _ _ _ c.put_latest.ensures.same c.put_latest-2.ensures.same)) c.at.ensures.among)

pub at-requires-2 : goal.at-requires-2
at-requires-2 c = omega (arith, c.requires.long, length_permutation _ _ c.put_latest.ensures.same, length_permutation _ _ c.put_latest-2.ensures.same)

pub looked_at-requires-2 : goal.looked_at-requires-2
looked_at-requires-2 c = c.requires.vars _ (Contains-permutation _ _ _ (IsPermutation-sym _ _ (IsPermutation-trans _ _ _ c.put_latest.ensures.same c.put_latest-2.ensures.same)) c.at-2.ensures.among)

pub returns-then-left-len-clause-same : goal.returns-then-left-len-clause-same
returns-then-left-len-clause-same c = IsPermutation-trans _ _ _ c.put_latest.ensures.same c.put_latest-2.ensures.same

pub returns-else-left-len-clause-same : goal.returns-else-left-len-clause-same
returns-else-left-len-clause-same c = IsPermutation-trans _ _ _ c.put_latest.ensures.same c.put_latest-2.ensures.same
