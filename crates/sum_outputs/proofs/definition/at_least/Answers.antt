-- The terms are in normal form once they are in order.
use Rattle.std.proofs.Common.{rules, ℕ, List, sym, subst, ◌∙◌}
use Rattle.std.specs.List.Sorted.{IsPermutation}
use Rattle.scut_base.specs.Literal.{Literal}
use Rattle.pb_lin.specs.Constraint.{IsNormal}
use Rattle.std.proofs.lemmas.List.Sorted.{IsNonDecreasingBy-from_sort_by_key}
use Rattle.sum_outputs.proofs.DefinedLines.{in_order}
use Rattle.sum_outputs.proofs.definition.at_least.Goals as goal

pub from_terms-requires : goal.from_terms-requires
from_terms-requires c =
    let items = c.into_vec-sorted.ensures ∙ c.in_ok-wide_terms.ensures in
    let order : IsPermutation {X = Literal × ℕ} c.args.terms.now c.sort_unstable_by_key.new.self.items =
    subst (λ (ts : List (Literal × ℕ)). IsPermutation {X = Literal × ℕ} ts c.sort_unstable_by_key.new.self.items) items c.sort_unstable_by_key.ensures.permutation in
    subst (λ (ts : List (Literal × ℕ)). IsNormal ts c.args.sum) (sym c.deref.ensures.value)
    (in_order c.args.terms.now c.sort_unstable_by_key.new.self.items c.args.sum c.requires.terms order
    (IsNonDecreasingBy-from_sort_by_key (λ t. t.0.var) _ c.sort_unstable_by_key.ensures.sorted (λ a r q k. search rules)) c.ranges.sum.fits)
