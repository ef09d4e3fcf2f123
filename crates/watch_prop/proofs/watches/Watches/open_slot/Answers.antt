use Rattle.std.proofs.Common.{refl}
use Rattle.watch_prop.specs.Watching.{lits_of}
use Rattle.watch_prop.proofs.WatchSlots.{kept_emptied}
use Rattle.watch_prop.proofs.WatchHold.{hold_slot}
use Rattle.watch_prop.proofs.watches.Watches.open_slot.Goals as goal

pub returns-in_err-insert-clause-ready : goal.returns-in_err-insert-clause-ready
returns-in_err-insert-clause-ready c = λ t ready.
    let w = c.args.self.now in
    kept_emptied w.slots c.push.new.self w.lists.items w.ends.items t.vars (lits_of t.steps) c.in_ok-slot.slot _ c.in_ok-slot.ensures.put refl refl ready

pub returns-in_err-insert-clause-hold : goal.returns-in_err-insert-clause-hold
returns-in_err-insert-clause-hold c = λ lines fresh hold.
    let w = c.args.self.now in
    hold_slot w.slots c.push.new.self w.index c.insert.new.self lines c.in_ok-slot.slot _ c.in_ok-slot.ensures.put c.in_ok-slot.ensures.fresh hold fresh refl c.in_err-insert.ensures.others

pub returns-clause-ready : goal.returns-clause-ready
returns-clause-ready c = λ t ready.
    let w = c.args.self.now in
    kept_emptied w.slots c.push.new.self w.lists.items w.ends.items t.vars (lits_of t.steps) c.in_ok-slot.slot _ c.in_ok-slot.ensures.put refl refl ready

pub returns-clause-hold : goal.returns-clause-hold
returns-clause-hold c = λ lines fresh hold.
    let w = c.args.self.now in
    hold_slot w.slots c.push.new.self w.index c.insert.new.self lines c.in_ok-slot.slot _ c.in_ok-slot.ensures.put c.in_ok-slot.ensures.fresh hold fresh refl c.in_ok-insert.ensures.others
