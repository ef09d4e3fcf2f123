use Rattle.std.proofs.Common.{◌≡◌, true, ℕ, List, [], refl, ap, sym, subst, ◌∙◌}
use Rattle.scut_base.specs.Literal.{Literal}
use Rattle.scut_base.specs.LiteralCode.{code_of}
use Rattle.std.specs.FinMap.{remove}
use Rattle.watch_prop.specs.declared.watch_lists.Entry.{Entry}
use Rattle.watch_prop.specs.Slot.{Slot}
use Rattle.watch_prop.specs.SlotTable.{slot_in}
use Rattle.watch_prop.specs.Watching.{IsEntry, IsPut, lits_of, no_literal, with_lits}
use Rattle.watch_prop.specs.Watches.{AreSlots, IsCopy}
use Rattle.watch_prop.proofs.WatchKept.{kept_entry, with_entry}
use Rattle.watch_prop.proofs.WatchSlots.{codes_apart, entry_fresh, kept_as, kept_watched}
use Rattle.watch_prop.proofs.WatchHold.{get_removed, hold_filled}
use Rattle.watch_prop.proofs.WatchVisits.{on_err}
use Rattle.watch_prop.proofs.watches.Watches.watch.Goals as goal

pub returns-in_err-add_entry-2-clause-ready : goal.returns-in_err-add_entry-2-clause-ready
returns-in_err-add_entry-2-clause-ready c = λ t ready watchable.
    let w = c.args.self.now in
    let o = c.open_slot.new.self in
    let none : Slot = record { begins = true; id = c.args.id; lits = [] } in
    let e : Entry = record { slot = c.in_ok-slot.slot; blocker = c.at-second.result } in
    let codes = codes_apart c.args.lits.now c.at-first.result c.at-second.result c.requires.long c.requires.distinct (c.at-first.ensures.value no_literal) (c.at-second.ensures.value no_literal) in
    let valid : IsEntry o.slots t.vars c.code.result e = entry_fresh w.slots o.slots t.vars c.code.result none e c.in_ok-slot.ensures.opened.put refl refl (watchable.upto c.at-second.result c.at-second.ensures.among) (λ f. codes (f ∙ c.code.ensures)) in
    kept_as o.slots o.slots (with_entry o.lists.items c.code.result e) c.add_entry-2.new.lists.items o.ends.items o.ends.items t.vars (lits_of t.steps) refl (c.in_err-add_entry-2.ensures.err ∙ c.in_ok-add_entry.ensures.ok) refl
    (kept_entry o.slots o.lists.items o.ends.items t.vars (lits_of t.steps) c.code.result e (c.in_ok-slot.ensures.ready t ready) valid)

pub fill-requires-clause-slot : goal.fill-requires-clause-slot
fill-requires-clause-slot c = ap (λ (x : Slot). x.begins) c.in_ok-slot.ensures.opened.put.here

pub fill-requires-clause-last : goal.fill-requires-clause-last
fill-requires-clause-last c = c.in_ok-slot.ensures.opened.last

pub returns-in_err-fill-clause-ready : goal.returns-in_err-fill-clause-ready
returns-in_err-fill-clause-ready c = λ t ready watchable.
    let w = c.args.self.now in
    let o = c.open_slot.new.self in
    let opened = c.in_ok-slot.ensures.opened in
    let none : Slot = record { begins = true; id = c.args.id; lits = [] } in
    let first = c.at-first.result in
    let second = c.at-second.result in
    let e : Entry = record { slot = c.in_ok-slot.slot; blocker = second } in
    let f : Entry = record { slot = c.in_ok-slot.slot; blocker = first } in
    let codes = codes_apart c.args.lits.now first second c.requires.long c.requires.distinct (c.at-first.ensures.value no_literal) (c.at-second.ensures.value no_literal) in
    let one = kept_entry o.slots o.lists.items o.ends.items t.vars (lits_of t.steps) c.code.result e (c.in_ok-slot.ensures.ready t ready) (entry_fresh w.slots o.slots t.vars c.code.result none e opened.put refl refl (watchable.upto second c.at-second.ensures.among) (λ g. codes (g ∙ c.code.ensures))) in
    let two = kept_entry o.slots (with_entry o.lists.items c.code.result e) o.ends.items t.vars (lits_of t.steps) c.code-2.result f one (entry_fresh w.slots o.slots t.vars c.code-2.result none f opened.put refl refl (watchable.upto first c.at-first.ensures.among) (λ g. codes (sym (g ∙ c.code-2.ensures)))) in
    kept_as o.slots c.fill.new.self (with_entry (with_entry o.lists.items c.code.result e) c.code-2.result f) c.add_entry-2.new.lists.items o.ends.items o.ends.items t.vars (lits_of t.steps) c.in_err-fill.ensures.err
    (c.in_ok-add_entry-2.ensures.ok ∙ ap (λ (ls : List (List Entry)). with_entry ls c.code-2.result f) c.in_ok-add_entry.ensures.ok) refl two

pub returns-in_err-fill-clause-err : goal.returns-in_err-fill-clause-err
returns-in_err-fill-clause-err c =
    let o = c.open_slot.new.self in
    on_err (λ lines fresh hold. subst (λ (x : List Slot). AreSlots x o.index lines) (sym c.in_err-fill.ensures.err) (c.in_ok-slot.ensures.hold lines fresh hold)) c.from_residual-in_err-fill.result

pub returns-clause-ready : goal.returns-clause-ready
returns-clause-ready c = λ t ready watchable.
    let w = c.args.self.now in
    let o = c.open_slot.new.self in
    let slot = c.in_ok-slot.slot in
    let opened = c.in_ok-slot.ensures.opened in
    let lits = c.args.lits.now in
    let none : Slot = record { begins = true; id = c.args.id; lits = [] } in
    let s : Slot = with_lits o.slots slot lits in
    let first = c.at-first.result in
    let second = c.at-second.result in
    let e : Entry = record { slot = slot; blocker = second } in
    let f : Entry = record { slot = slot; blocker = first } in
    let put : IsPut o.slots c.fill.new.self slot s = subst (λ (ls : List Literal). IsPut o.slots c.fill.new.self slot (with_lits o.slots slot ls)) c.as_slice.ensures c.in_ok-fill.ensures.ok in
    let two : c.add_entry.new.lists.items ≡ with_entry w.lists.items (code_of first) e = c.in_ok-add_entry.ensures.ok ∙ ap (λ (i : ℕ). with_entry o.lists.items i e) c.code.ensures ∙ ap (λ (ls : List (List Entry)). with_entry ls (code_of first) e) c.in_ok-slot.ensures.lists in
    let three : c.add_entry-2.new.lists.items ≡ with_entry (with_entry w.lists.items (code_of first) e) (code_of second) f = c.in_ok-add_entry-2.ensures.ok ∙ ap (λ (i : ℕ). with_entry c.add_entry.new.lists.items i f) c.code-2.ensures ∙ ap (λ (ls : List (List Entry)). with_entry ls (code_of second) f) two in
    kept_as _ _ _ _ _ _ t.vars (lits_of t.steps) refl three c.in_ok-slot.ensures.ends
    (kept_watched w.slots o.slots c.fill.new.self slot none s w.lists.items w.ends.items t.vars (lits_of t.steps) first second e f ready opened.fresh opened.put refl refl put refl c.requires.long c.requires.distinct (λ l h. (watchable.upto l h, c.requires.covered l h)) (c.at-first.ensures.value no_literal) (c.at-second.ensures.value no_literal)
    refl refl watchable.clear)

pub returns-clause-ok : goal.returns-clause-ok
returns-clause-ok c = λ lines line copy hold.
    let o = c.open_slot.new.self in
    let slot = c.in_ok-slot.slot in
    let opened = c.in_ok-slot.ensures.opened in
    let s : Slot = with_lits o.slots slot c.args.lits.now in
    let same_id : s.id ≡ c.args.id = ap (λ (x : Slot). x.id) opened.put.here in
    let put : IsPut o.slots c.fill.new.self slot s = subst (λ (ls : List Literal). IsPut o.slots c.fill.new.self slot (with_lits o.slots slot ls)) c.as_slice.ensures c.in_ok-fill.ensures.ok in
    hold_filled o.slots c.fill.new.self o.index lines slot s line put (subst (λ (i : ℕ). AreSlots o.slots o.index (remove lines i)) (sym same_id) (c.in_ok-slot.ensures.hold (remove lines c.args.id) (get_removed lines c.args.id) hold)) (ap (λ (x : Slot). x.lits) opened.put.here) c.requires.long
    (subst (λ (i : ℕ). IsCopy lines i line c.args.lits.now) (sym same_id) copy) (ap (λ (i : ℕ). slot_in o.index i) same_id ∙ opened.found)
