use Rattle.std.proofs.Common.{◌≡◌, ℕ, ◌-◌, ◌<◌, Some, length, get_or, ◌∙◌, ap, sym, refl, arith}
use Rattle.std.specs.FinMap.{remove}
use Rattle.std.specs.List.{zip}
use Rattle.std.proofs.lemmas.List.{get_or_default}
use Rattle.pb_lin.specs.IdTable.{place_in}
use Rattle.pb_lin.specs.LineMap.{LineMap}
use Rattle.pb_lin.proofs.LineEntries.{lines_removed}
use Rattle.pb_lin.proofs.LineTable.{line_missing, IsDropped, IsMoved, places_dropped, lines_dropped}
use Rattle.clause_prop.proofs.store.ClauseStore.drop_id.Goals as goal

pub returns-in_default : goal.returns-in_default
returns-in_default c =
    let ids = c.self.inside.ids.items in
    let lines = c.self.inside.lines.items in
    let entries = zip ids lines in
    sym c.self.view_is ∙ lines_removed entries entries c.args.id (line_missing c.self.inside.table ids lines c.args.id c.self.invariant (sym c.place.ensures.value ∙ c.in_default.is)) (λ q differs. refl)
    ∙ ap (λ (m : LineMap). remove m c.args.id) c.self.view_is

dropped : (c : goal.Joined-swap_remove) → IsDropped c.self.inside.table c.remove.new.self c.self.inside.ids.items c.args.id c.index-last.result.now c.in-Some.place
dropped c =
    let ids = c.self.inside.ids.items in
    let was : place_in c.self.inside.table c.args.id ≡ Some c.in-Some.place = sym c.place.ensures.value ∙ c.in-Some.is in
    let some : 0 < length ids = (let there = (c.self.invariant.named c.args.id c.in-Some.place was).0 in omega (arith, there)) in
    let at_end : c.len.result - 1 ≡ length ids - 1 = omega (arith, c.len.ensures) in
    record {
      was = was;
      last_is = λ d. c.index-last.ensures ∙ ap (λ (i : ℕ). get_or ids i c.index-last.result.now) at_end ∙ get_or_default ids (length ids - 1) c.index-last.result.now d (omega (arith, some));
      gone = c.remove.ensures.gone;
      moved = λ differs. c.remove.ensures.others c.index-last.result.now differs ∙ c.change.ensures.found;
      others = λ q differs apart. c.remove.ensures.others q differs ∙ c.change.ensures.others q apart;
    }

ids_moved : (c : goal.Joined-swap_remove) → IsMoved c.self.inside.ids.items c.swap_remove.new.self.items c.in-Some.place
ids_moved c =
    let moves = c.swap_remove.ensures.by_index in (
      (λ d far. moves.0 d (omega (arith, far)) ∙ ap (λ (i : ℕ). get_or c.self.inside.ids.items i d) (omega arith)),
      (λ j d other far. moves.1 j d other (omega (arith, far))),
    )

lines_moved : (c : goal.Joined-swap_remove) → IsMoved c.self.inside.lines.items c.swap_remove-2.new.self.items c.in-Some.place
lines_moved c =
    let moves = c.swap_remove-2.ensures.by_index in (
      (λ d far. moves.0 d (omega (arith, far)) ∙ ap (λ (i : ℕ). get_or c.self.inside.lines.items i d) (omega arith)),
      (λ j d other far. moves.1 j d other (omega (arith, far))),
    )

pub invariant_of-self : goal.invariant_of-self
invariant_of-self c =
    places_dropped c.self.inside.table c.remove.new.self c.self.inside.ids.items c.swap_remove.new.self.items (length c.self.inside.lines.items) c.args.id c.index-last.result.now c.in-Some.place
    c.self.invariant (dropped c) (omega (arith, c.swap_remove.ensures.len)) (ids_moved c) (length c.swap_remove-2.new.self.items) (omega (arith, c.swap_remove-2.ensures.len))

pub returns : goal.returns
returns c =
    lines_dropped c.self.inside.table c.remove.new.self c.self.inside.ids.items c.swap_remove.new.self.items (length c.self.inside.lines.items) c.args.id c.index-last.result.now c.in-Some.place
    c.self.invariant (dropped c) (omega (arith, c.swap_remove.ensures.len)) (ids_moved c) c.self.inside.lines.items c.swap_remove-2.new.self.items refl (omega (arith, c.swap_remove-2.ensures.len)) (lines_moved c)
    ∙ ap (λ (m : LineMap). remove m c.args.id) c.self.view_is
