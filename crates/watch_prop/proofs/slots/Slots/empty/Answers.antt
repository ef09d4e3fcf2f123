use Rattle.std.proofs.Common.{◌≡◌, ◌≤◌, true, List, [], set, arith, ap, sym, subst, ◌∙◌}
use Rattle.std.proofs.lemmas.List.{get_or_read}
use Rattle.watch_prop.specs.Slot.{Slot}
use Rattle.watch_prop.specs.Codes.{mark}
use Rattle.watch_prop.specs.Words.{marked_at, slots_of, word}
use Rattle.watch_prop.specs.Watching.{IsPut, with_lits}
use Rattle.watch_prop.proofs.WatchWords.{emptied, emptied_is, mark_of, marked_within, rewritten_clauses, rewritten_put, slot_of}
use Rattle.watch_prop.specs.Words.{end_of}
use Rattle.watch_prop.proofs.slots.Slots.empty.Goals as goal

pub index-requires : goal.index-requires
index-requires c =
    let vec = c.self.inside.words in
    let words = vec.items in
    let slot = c.args.slot in
    let now = c.args.self.now in
    let is : slots_of words ≡ now = c.self.view_is in
    let m : mark ≤ word words slot = mark_of words now slot is c.requires in
    (let h = marked_within words slot m in omega (arith, h, vec.ok.0))

pub overflow_sub-len : goal.overflow_sub-len
overflow_sub-len c =
    let vec = c.self.inside.words in
    let words = vec.items in
    let slot = c.args.slot in
    let now = c.args.self.now in
    let is : slots_of words ≡ now = c.self.view_is in
    let m : mark ≤ word words slot = mark_of words now slot is c.requires in
    let here : c.index.result.now ≡ word words slot = get_or_read words slot c.index.result.now (marked_within words slot m) c.index.ensures 0 in
    omega (arith, here, m)

pub index_mut-requires : goal.index_mut-requires
index_mut-requires c =
    let vec = c.self.inside.words in
    let words = vec.items in
    let slot = c.args.slot in
    let now = c.args.self.now in
    let is : slots_of words ≡ now = c.self.view_is in
    let m : mark ≤ word words slot = mark_of words now slot is c.requires in
    (let h = marked_within words slot m in omega (arith, h, vec.ok.0))

pub invariant_of-self : goal.invariant_of-self
invariant_of-self c =
    let vec = c.self.inside.words in
    let words = vec.items in
    let slot = c.args.slot in
    let now = c.args.self.now in
    let is : slots_of words ≡ now = c.self.view_is in
    let m : mark ≤ word words slot = mark_of words now slot is c.requires in
    rewritten_clauses words (set words slot mark) slot (end_of words slot) c.self.invariant (emptied words slot c.self.invariant m)

pub returns : goal.returns
returns c =
    let vec = c.self.inside.words in
    let words = vec.items in
    let slot = c.args.slot in
    let now = c.args.self.now in
    let is : slots_of words ≡ now = c.self.view_is in
    let m : mark ≤ word words slot = mark_of words now slot is c.requires in
    let are = c.self.invariant in
    let new = set words slot mark in
    let put : IsPut (slots_of words) (slots_of new) slot (marked_at new slot) = rewritten_put words new slot (end_of words slot) are (emptied words slot are m) in
    let value : marked_at new slot ≡ with_lits now slot [] = emptied_is words slot are m ∙ ap (λ (s : Slot). record { begins = true; id = s.id; lits = [] }) (sym (slot_of words now slot is m)) in
    subst (λ (s : Slot). IsPut now (slots_of new) slot s) value (subst (λ (o : List Slot). IsPut o (slots_of new) slot (marked_at new slot)) is put)
