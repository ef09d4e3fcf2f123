use Rattle.std.proofs.Common.{◌∙◌, subst, sym, List}
use Rattle.front_set.specs.declared.entry.Entry.{Entry}
use Rattle.front_set.specs.Front.{AreDistinct}
use Rattle.front_set.proofs.Rising.{distinct_from_incomparable}
use Rattle.front_set.proofs.set.FrontSet.sorted.Goals as goal

pub sort_entries-requires : goal.sort_entries-requires
sort_entries-requires c = subst (λ (es : List Entry). AreDistinct es) (sym (c.in_ok-copies.ensures ∙ c.deref.ensures.value)) (distinct_from_incomparable _ c.self.invariant)
