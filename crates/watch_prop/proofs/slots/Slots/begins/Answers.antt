use Rattle.std.proofs.Common.{false, ap, sym, ◌∙◌, List, ◌≡◌, ◌<◌, ◌≤◌, ℕ, length, arith, subst}
use Rattle.std.proofs.lemmas.List.{get_or_past, get_or_read}
use Rattle.std.specs.Prelude.{IsTrue, nat_le}
use Rattle.watch_prop.specs.Codes.{mark}
use Rattle.watch_prop.specs.Words.{slots_of, word}
use Rattle.watch_prop.specs.Watching.{IsSlot}
use Rattle.watch_prop.proofs.WatchWords.{mark_of, marked_within, begins_marked, slot_is, unmarked}
use Rattle.watch_prop.proofs.slots.Slots.begins.Goals as goal
use Rattle.watch_prop.specs.Slot.{Slot}
use Rattle.watch_prop.specs.Watching.{clause_at}

le_of : (a b : ℕ) → IsTrue (nat_le a b) → a ≤ b
le_of a b h = grind arith

le_true : (a b : ℕ) → a ≤ b → IsTrue (nat_le a b)
le_true a b h = grind arith

not_le : (a b : ℕ) → nat_le a b ≡ false → b < a
not_le a b h = grind arith

pub returns-then-at-len-clause-value : goal.returns-then-at-len-clause-value
returns-then-at-len-clause-value c =
    let vec = c.self.inside.words in
    let words = vec.items in
    let slot = c.args.slot in
    let now = c.args.self.now in
    let is : slots_of words ≡ now = c.self.view_is in
    (λ e. cc e, λ begins. absurd (let within = marked_within words slot (mark_of words now slot is begins) in omega (arith, within, c.if-at-len.true, c.len.ensures, vec.ok.0)))

pub returns-clause-value : goal.returns-clause-value
returns-clause-value c =
    let vec = c.self.inside.words in
    let words = vec.items in
    let slot = c.args.slot in
    let now = c.args.self.now in
    let is : slots_of words ≡ now = c.self.view_is in
    let within : slot < length words = omega (arith, c.if-at-len.false, c.len.ensures, vec.ok.0) in
    let here : c.index.result.now ≡ word words slot = get_or_read words slot c.index.result.now within c.index.ensures 0 in
    (λ e. subst (λ o. IsSlot o slot) is (begins_marked words slot (omega (arith, here, le_of 2147483648 c.index.result.now e))), λ begins. le_true 2147483648 c.index.result.now (let m = mark_of words now slot is begins in omega (arith, here, m)))

pub returns-then-at-len-clause-none : goal.returns-then-at-len-clause-none
returns-then-at-len-clause-none c = λ _.
    let vec = c.self.inside.words in
    let words = vec.items in
    let slot = c.args.slot in
    let is : slots_of words ≡ c.args.self.now = c.self.view_is in
    let past : length words ≤ slot = omega (arith, c.if-at-len.true, c.len.ensures, vec.ok.0) in
    ap (λ (o : List Slot). clause_at o slot) (sym is) ∙ ap (λ (s : Slot). s.lits) (slot_is words slot ∙ unmarked words slot (subst (λ n. n < mark) (sym (get_or_past words slot 0 past)) (omega arith)))

pub returns-clause-none : goal.returns-clause-none
returns-clause-none c = λ e.
    let vec = c.self.inside.words in
    let words = vec.items in
    let slot = c.args.slot in
    let is : slots_of words ≡ c.args.self.now = c.self.view_is in
    let within : slot < length words = omega (arith, c.if-at-len.false, c.len.ensures, vec.ok.0) in
    let here : c.index.result.now ≡ word words slot = get_or_read words slot c.index.result.now within c.index.ensures 0 in
    ap (λ (o : List Slot). clause_at o slot) (sym is) ∙ ap (λ (s : Slot). s.lits) (slot_is words slot ∙ unmarked words slot (let low = not_le 2147483648 c.index.result.now e in omega (arith, low, here)))
