use Rattle.std.proofs.Common.{rules}
use Rattle.std.specs.List.Sorted.{IsPermutation}
use Rattle.std.specs.Ordering.{is_lt}
use Rattle.std.proofs.lemmas.List.Sorted.{ranks_by, answers_always}
use Rattle.front_set.specs.declared.entry.Entry.{Entry}
use Rattle.front_set.specs.Vector.{vector_cmp}
use Rattle.front_set.proofs.FrontLaws.{vector_cmp_total}
use Rattle.front_set.proofs.Rising.{distinct_permuted, rising_from_sorted}
use Rattle.front_set.proofs.order.sort_entries.Goals as goal

pub returns-clause-rising : goal.returns-clause-rising
returns-clause-rising c =
    let permuted : IsPermutation c.args.entries.items c.sort_by.new.self.items = search rules in
    rising_from_sorted c.sort_by.new.self.items
    (c.in_ok-sort_by.ensures.sorted (λ (e f : Entry). is_lt (vector_cmp e.costs f.costs)) (ranks_by vector_cmp_total (λ (e : Entry). e.costs)) (answers_always _ _ _ (λ f a r g k. search rules)))
    (distinct_permuted c.args.entries.items c.sort_by.new.self.items permuted c.requires)
