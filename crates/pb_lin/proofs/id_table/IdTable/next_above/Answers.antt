use Rattle.std.proofs.Common.{ℕ, ◌+◌, List, ap, sym, subst, ◌∙◌, arith, ◌<◌, length}
use Rattle.std.specs.Option.{is_some}
use Rattle.std.proofs.lemmas.List.{get_or_default}
use Rattle.pb_lin.specs.IdList.{ListsIds}
use Rattle.pb_lin.specs.IdTable.{place_in}
use Rattle.pb_lin.specs.Place.{IsPlace}
use Rattle.pb_lin.proofs.Ids.{next_found, none_above}
use Rattle.pb_lin.proofs.id_table.IdTable.next_above.Goals as goal

pub returns-then-is_some : goal.returns-then-is_some
returns-then-is_some c =
    let ids = c.self.inside.rising.items in
    let lists = subst (λ (t : List ℕ). ListsIds (place_in t) ids) c.self.view_is c.self.invariant in
    let place = subst (λ (ks : List ℕ). IsPlace {X = ℕ} (λ k. k) ks (c.args.id + 1) c.place_above-at.result) c.deref.ensures.value c.place_above-at.ensures in
    let short : c.loop-at.at < length ids = omega (arith, c.loop-at-test.true, c.len-at-end.ensures) in
    let is = c.index.ensures ∙ get_or_default ids c.loop-at.at c.index.result.now 0 short in
    next_found (place_in c.args.self.now) ids c.args.id c.place_above-at.result c.loop-at.at c.index.result.now lists place c.loop-at.invariant c.loop-at.auto.at short is (ap is_some (sym c.place.ensures.value) ∙ sym c.is_some.ensures ∙ c.if-is_some.true)

pub returns : goal.returns
returns c =
    let ids = c.self.inside.rising.items in
    let lists = subst (λ (t : List ℕ). ListsIds (place_in t) ids) c.self.view_is c.self.invariant in
    let place = subst (λ (ks : List ℕ). IsPlace {X = ℕ} (λ k. k) ks (c.args.id + 1) c.place_above-at.result) c.deref.ensures.value c.place_above-at.ensures in
    none_above (place_in c.args.self.now) ids c.args.id c.place_above-at.result c.loop-at.at lists place c.loop-at.invariant (omega (arith, c.loop-at-test.false, c.len-at-end.ensures))
