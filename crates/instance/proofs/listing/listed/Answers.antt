use Rattle.std.proofs.Common.{◌≡◌, ◌∙◌, ap, map, subst, sym, List}
use Rattle.front_set.specs.declared.entry.Entry.{Entry}
use Rattle.front_set.specs.Front.{AreDistinct}
use Rattle.instance.specs.ParetoFront.{listed_entry}
use Rattle.instance.proofs.Dominance.{listed_distinct}
use Rattle.instance.proofs.listing.listed.Goals as goal

pub sort_entries-requires : goal.sort_entries-requires
sort_entries-requires c =
    let same : c.in_ok-listed_entries.field-0.items ≡ map (listed_entry c.args.inst.now) c.args.front.now = c.in_ok-listed_entries.ensures ∙ ap (map (listed_entry c.args.inst.now)) c.entries.ensures.entries in
    subst (λ (es : List Entry). AreDistinct es) (sym same) (listed_distinct c.args.inst.now c.args.front.now c.entries.ensures.incomparable)
