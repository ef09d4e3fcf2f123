use Rattle.std.proofs.Common.{◌≡◌, ◌++◌, ◌∷◌, [], None, Some, refl, rules, subst, sym}
use Rattle.front_set.specs.declared.entry.Entry.{Entry}
use Rattle.front_set.specs.declared.set.Inserted.TheVariants.{Covered, Added}
use Rattle.front_set.specs.Vector.{is_below}
use Rattle.front_set.specs.Front.{AreIncomparable, first_below, not_above}
use Rattle.scut_base.proofs.Lists.{fails_from_no_place}
use Rattle.front_set.proofs.Minimal.{incomparable_more, stands_for_more}
use Rattle.front_set.proofs.set.FrontSet.insert.Goals as goal

pub returns-in-Some-clause-stands : goal.returns-in-Some-clause-stands
returns-in-Some-clause-stands c = λ pairs stands.
    let p : Entry = record { costs = c.args.vec; model = c.args.model } in
    let found : first_below c.args.self.now p.costs ≡ Some c.in-Some.by = search rules in
    stands_for_more c.args.self.now c.args.self.now pairs p (Covered c.in-Some.by) (found, refl) stands

pub invariant_of-self-2 : goal.invariant_of-self-2
invariant_of-self-2 c =
    let p : Entry = record { costs = c.args.vec; model = c.args.model } in
    let none : first_below c.self.inside.entries.items p.costs ≡ None = search rules in
    let items : c.push.new.self.items ≡ not_above p.costs c.self.inside.entries.items ++ p ∷ [] = search rules in
    subst AreIncomparable (sym items) (incomparable_more c.self.inside.entries.items p (fails_from_no_place (λ (e : Entry). is_below e.costs p.costs) 0 c.self.inside.entries.items none) c.self.invariant)

pub returns-clause-stands : goal.returns-clause-stands
returns-clause-stands c = λ pairs stands.
    let p : Entry = record { costs = c.args.vec; model = c.args.model } in
    stands_for_more c.args.self.now c.push.new.self.items pairs p (Added c.drop_above-removed.result) (search rules) stands
