use Rattle.std.proofs.Common.{◌≢◌, ℕ, List, rules, sym, subst, ◌∙◌}
use Rattle.std.specs.List.{AllPairs}
use Rattle.std.specs.List.Sorted.{IsPermutation}
use Rattle.std.proofs.lemmas.List.Sorted.{IsNonDecreasingBy-from_sort_by_key}
use Rattle.scut_base.specs.Literal.{Literal}
use Rattle.scut_base.proofs.Lists.{AllApart-from_pairs, AllApart-IsPermutation, rising_from_distinct}
use Rattle.proof_rules.proofs.solution.sorted_terms.Goals as goal

pub returns-clause-same : goal.returns-clause-same
returns-clause-same c =
    subst (λ (ts : List (Literal × ℕ)). IsPermutation {X = Literal × ℕ} ts c.sort_unstable_by_key.new.self.items) (c.in_ok-terms.ensures ∙ c.terms.ensures.value) c.sort_unstable_by_key.ensures.permutation

pub returns-clause-rising : goal.returns-clause-rising
returns-clause-rising c =
    let distinct = subst (AllPairs {X = Literal × ℕ} (λ s t. s.0.var ≢ t.0.var)) (sym (c.in_ok-terms.ensures ∙ c.terms.ensures.value)) c.terms.ensures.row.distinct in
    rising_from_distinct {X = Literal × ℕ} (λ t. t.0.var) _
    (IsNonDecreasingBy-from_sort_by_key (λ t. t.0.var) _ c.sort_unstable_by_key.ensures.sorted (λ a r q k. search rules))
    (AllApart-IsPermutation {X = Literal × ℕ} (λ s t. s.0.var ≢ t.0.var) _ _ c.sort_unstable_by_key.ensures.permutation (AllApart-from_pairs {X = Literal × ℕ} (λ s t. s.0.var ≢ t.0.var) _ (λ x y other e. other (sym e)) distinct))
