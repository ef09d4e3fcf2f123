use Rattle.std.proofs.Common.{◌≢◌, ℕ, List, arith, subst, sym}
use Rattle.std.specs.List.{All}
use Rattle.std.proofs.lemmas.List.{get_or_default}
use Rattle.pb_lin.specs.Place.{IsPlace}
use Rattle.pb_lin.specs.IdList.{IsRising, IsListed}
use Rattle.pb_lin.proofs.Places.{none_at_place}
use Rattle.pb_lin.proofs.Ids.{rising-insert, listed-insert, listed_itself}
use Rattle.pb_lin.proofs.id_table.list_id.Goals as goal
use Rattle.pb_lin.proofs.id_table.list_id.Goals.{else-place-len-via-then-place-len+else-index-id, else-place-len-via-else-place-len}

pub returns-clause-rising : goal.returns-clause-rising
returns-clause-rising c =
    let ids = c.args.ids.now.items in
    let place = subst (λ (ks : List ℕ). IsPlace {X = ℕ} (λ k. k) ks c.args.id c.place_from-place.result) c.deref.ensures.value c.place_from-place.ensures in
    let apart : All (λ (k : ℕ). k ≢ c.args.id) c.args.ids.now.items = none_at_place (λ k. k) ids c.args.id c.place_from-place.result c.requires place (elim c.else-place-len.branch [
      | else-place-len-via-then-place-len+else-index-id w ↦ λ d short e. let v = get_or_default ids c.place_from-place.result w.index.result.now d short in omega arith
      | else-place-len-via-else-place-len w ↦ λ d short e. omega arith
    ]) in
    subst IsRising (sym c.in_ok-insert.ensures.items) (rising-insert ids c.args.id c.place_from-place.result c.requires place apart)

pub returns-clause-listed : goal.returns-clause-listed
returns-clause-listed c =
    subst (λ (ks : List ℕ). IsListed ks c.args.id) (sym c.in_ok-insert.ensures.items) (listed_itself c.args.ids.now.items c.args.id c.place_from-place.result)

pub returns-clause-kept : goal.returns-clause-kept
returns-clause-kept c = λ k listed.
    subst (λ (ks : List ℕ). IsListed ks k) (sym c.in_ok-insert.ensures.items) (listed-insert c.args.ids.now.items c.args.id c.place_from-place.result k listed)
