use Rattle.std.proofs.Common.{rules, sym, subst, ◌≢◌}
use Rattle.std.specs.List.{AllPairs}
use Rattle.std.proofs.lemmas.List.Sorted.{IsNonDecreasingBy-from_sort_by_key}
use Rattle.scut_base.specs.Literal.{Literal}
use Rattle.scut_base.proofs.Lists.{AllApart-from_pairs, AllApart-IsPermutation, rising_from_distinct}
use Rattle.pb_lin.proofs.restriction.sorted_literals.Goals as goal

pub returns-clause-rising : goal.returns-clause-rising
returns-clause-rising c =
    let distinct = subst (AllPairs {X = Literal} (λ l m. l.var ≢ m.var)) (sym c.in_ok-sorted.ensures.items) c.requires in
    rising_from_distinct {X = Literal} (λ l. l.var) _
    (IsNonDecreasingBy-from_sort_by_key (λ l. l.var) _ c.sort_unstable_by_key.ensures.sorted (λ a r q k. search rules))
    (AllApart-IsPermutation {X = Literal} (λ l m. l.var ≢ m.var) _ _ c.sort_unstable_by_key.ensures.permutation (AllApart-from_pairs {X = Literal} (λ l m. l.var ≢ m.var) _ (λ x y other e. other (sym e)) distinct))
