use Rattle.std.proofs.Common.{◌≡◌, ◌≢◌, ◌≤◌, ℕ, Some, None, [], length, get_or, refl, sym, subst, ◌∙◌}
use Rattle.watch_prop.specs.Slot.{Slot}
use Rattle.watch_prop.specs.Watching.{clause_at, no_slot, with_lits}
use Rattle.watch_prop.specs.Watches.{AreWatches}
use Rattle.watch_prop.proofs.WatchSlots.{kept_emptied}
use Rattle.watch_prop.proofs.WatchHold.{absent_by, hold_absent, hold_emptied, same_some}
use Rattle.watch_prop.proofs.watches.Watches.dropped.Goals as goal

pub returns-then-has_slot : goal.returns-then-has_slot
unfolding AreWatches
returns-then-has_slot c = λ lines t watches.
    let w = c.args.self.now in
    let slot = c.in-Some.slot in
    let found = c.has_slot.ensures.yes c.if-has_slot.true in
    let s : Slot = with_lits w.slots slot [] in (
      kept_emptied w.slots c.empty.new.self w.lists.items w.ends.items t.vars _ slot s c.empty.ensures refl refl watches.0,
      hold_emptied w.slots c.empty.new.self w.index c.remove.new.self lines c.args.id slot s c.empty.ensures watches.1 c.remove.ensures.others (sym c.remove.ensures.value ∙ c.in-Some.is) found.1 refl,
    )

pub returns-else-has_slot : goal.returns-else-has_slot
unfolding AreWatches
returns-else-has_slot c = λ lines t watches.
    let w = c.args.self.now in
    let slot = c.in-Some.slot in
    let other : (j : ℕ) → Some slot ≡ Some j → 2 ≤ length (clause_at w.slots j) → (get_or w.slots j no_slot).id ≢ c.args.id = λ j is long.
    let e : slot ≡ j = same_some slot j is in
    subst (λ i. (get_or w.slots i no_slot).id ≢ c.args.id) e (c.has_slot.ensures.no c.if-has_slot.false (subst (λ i. 2 ≤ length (clause_at w.slots i)) (sym e) long)) in (
      watches.0,
      hold_absent w.slots w.index c.remove.new.self lines c.args.id watches.1 c.remove.ensures.others
          (absent_by w.slots w.index lines c.args.id (Some slot) watches.1 (sym c.remove.ensures.value ∙ c.in-Some.is) other),
    )

pub returns-in_default : goal.returns-in_default
unfolding AreWatches
returns-in_default c = λ lines t watches.
    let w = c.args.self.now in (
      watches.0,
      hold_absent w.slots w.index c.remove.new.self lines c.args.id watches.1 c.remove.ensures.others
          (absent_by w.slots w.index lines c.args.id None watches.1 (sym c.remove.ensures.value ∙ c.in_default.is) (λ j is. absurd (cc is))),
    )
