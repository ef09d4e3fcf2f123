use Rattle.std.proofs.Common.{◌≡◌, ◌≤◌, ◌+◌, ◌-◌, ℕ, List, map, take, drop, arith, ap, sym, subst, ◌∙◌}
use Rattle.std.proofs.lemmas.List.{get_or_read}
use Rattle.watch_prop.specs.Slot.{Slot}
use Rattle.watch_prop.specs.Codes.{mark}
use Rattle.watch_prop.specs.Words.{slots_of, word}
use Rattle.scut_base.specs.LiteralCode.{literal_of}
use Rattle.watch_prop.specs.Codes.{AreCodes}
use Rattle.watch_prop.proofs.WatchWords.{codes_of, mark_of, marked_within, slot_of}
use Rattle.watch_prop.proofs.slots.Slots.lits.Goals as goal

pub index-requires : goal.index-requires
index-requires c =
    let vec = c.self.inside.words in
    let words = vec.items in
    let slot = c.args.slot in
    let now = c.args.self.now in
    let is : slots_of words ≡ now = c.self.view_is in
    let m : mark ≤ word words slot = mark_of words now slot is c.requires in
    (let h = marked_within words slot m in omega (arith, h, vec.ok.0))

pub overflow_sub-len : goal.overflow_sub-len
overflow_sub-len c =
    let vec = c.self.inside.words in
    let words = vec.items in
    let slot = c.args.slot in
    let now = c.args.self.now in
    let is : slots_of words ≡ now = c.self.view_is in
    let m : mark ≤ word words slot = mark_of words now slot is c.requires in
    let here : c.index.result.now ≡ word words slot = get_or_read words slot c.index.result.now (marked_within words slot m) c.index.ensures 0 in
    omega (arith, here, m)

pub slice_bounds-new-end : goal.slice_bounds-new-end
slice_bounds-new-end c =
    let vec = c.self.inside.words in
    let words = vec.items in
    let slot = c.args.slot in
    let now = c.args.self.now in
    let is : slots_of words ≡ now = c.self.view_is in
    let m : mark ≤ word words slot = mark_of words now slot is c.requires in
    let here : c.index.result.now ≡ word words slot = get_or_read words slot c.index.result.now (marked_within words slot m) c.index.ensures 0 in
    (let h = c.self.invariant.within slot m in omega (arith, h, here, c.as_slice.ensures.len, vec.ok.0))

pub new-requires : goal.new-requires
new-requires c =
    let vec = c.self.inside.words in
    let words = vec.items in
    let slot = c.args.slot in
    let now = c.args.self.now in
    let is : slots_of words ≡ now = c.self.view_is in
    let m : mark ≤ word words slot = mark_of words now slot is c.requires in
    let here : c.index.result.now ≡ word words slot = get_or_read words slot c.index.result.now (marked_within words slot m) c.index.ensures 0 in
    let n : slot + 3 + (c.index.result.now - mark) - (slot + 3) ≡ word words slot - mark = omega (arith, here) in
    subst (λ (n : ℕ). AreCodes (take n (drop (slot + 3) c.as_slice.result.now))) (sym n) (subst (λ (ws : List ℕ). AreCodes (take (word words slot - mark) (drop (slot + 3) ws))) (sym c.as_slice.ensures.value) (codes_of words slot c.self.invariant m))

pub returns : goal.returns
returns c =
    let vec = c.self.inside.words in
    let words = vec.items in
    let slot = c.args.slot in
    let now = c.args.self.now in
    let is : slots_of words ≡ now = c.self.view_is in
    let m : mark ≤ word words slot = mark_of words now slot is c.requires in
    let here : c.index.result.now ≡ word words slot = get_or_read words slot c.index.result.now (marked_within words slot m) c.index.ensures 0 in
    let n : slot + 3 + (c.index.result.now - mark) - (slot + 3) ≡ word words slot - mark = omega (arith, here) in
    c.new.ensures ∙ ap (λ (n : ℕ). map literal_of (take n (drop (slot + 3) c.as_slice.result.now))) n ∙ ap (λ (ws : List ℕ). map literal_of (take (word words slot - mark) (drop (slot + 3) ws))) c.as_slice.ensures.value ∙ ap (λ (s : Slot). s.lits) (sym (slot_of words now slot is m))
