use Rattle.std.proofs.Common.{ap, length, not, refl, rules, arith}
use Rattle.std.proofs.lemmas.Fn.{filter_same}
use Rattle.std.proofs.lemmas.List.Filters.{length-filter_both}
use Rattle.std.proofs.lemmas.List.Sums.{length-filter}
use Rattle.front_set.specs.declared.entry.Entry.{Entry}
use Rattle.front_set.specs.Vector.{is_below}
use Rattle.front_set.proofs.set.drop_above.Goals as goal

pub returns-clause-kept : goal.returns-clause-kept
returns-clause-kept c = filter_same _ (λ (e : Entry). not (is_below c.args.vec.now e.costs)) _ (λ x b f' k. search rules) _ _ c.retain.ensures.filtered

pub returns-clause-removed : goal.returns-clause-removed
returns-clause-removed c =
    let kept = ap length (returns-clause-kept c) in
    let both = length-filter_both (λ (e : Entry). is_below c.args.vec.now e.costs) (λ (e : Entry). not (is_below c.args.vec.now e.costs)) (λ e. refl) c.args.entries.now.items in
    let above = length-filter (λ (e : Entry). is_below c.args.vec.now e.costs) c.args.entries.now.items in
    omega (arith, kept, both, above)
