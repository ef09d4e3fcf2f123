use Rattle.std.proofs.Common.{◌≡◌, ◌≤◌, ◌+◌, ◌*◌, ℕ, arith, ap, sym, ◌∙◌}
use Rattle.std.proofs.lemmas.List.{get_or_read}
use Rattle.watch_prop.specs.Slot.{Slot}
use Rattle.watch_prop.specs.Codes.{mark}
use Rattle.watch_prop.specs.Words.{slots_of, word}
use Rattle.watch_prop.proofs.WatchWords.{mark_of, slot_of}
use Rattle.watch_prop.proofs.slots.Slots.id.Goals as goal

pub index-requires : goal.index-requires
index-requires c =
    let vec = c.self.inside.words in
    let words = vec.items in
    let slot = c.args.slot in
    let now = c.args.self.now in
    let is : slots_of words ≡ now = c.self.view_is in
    let m : mark ≤ word words slot = mark_of words now slot is c.requires in
    (let h = c.self.invariant.within slot m in omega (arith, h, vec.ok.0))

pub index-requires-2 : goal.index-requires-2
index-requires-2 c =
    let vec = c.self.inside.words in
    let words = vec.items in
    let slot = c.args.slot in
    let now = c.args.self.now in
    let is : slots_of words ≡ now = c.self.view_is in
    let m : mark ≤ word words slot = mark_of words now slot is c.requires in
    (let h = c.self.invariant.within slot m in omega (arith, h, vec.ok.0))

pub returns : goal.returns
returns c =
    let vec = c.self.inside.words in
    let words = vec.items in
    let slot = c.args.slot in
    let now = c.args.self.now in
    let is : slots_of words ≡ now = c.self.view_is in
    let m : mark ≤ word words slot = mark_of words now slot is c.requires in
    let h = c.self.invariant.within slot m in
    let low : c.index.result.now ≡ word words (slot + 1) = get_or_read words (slot + 1) c.index.result.now (omega (arith, h)) c.index.ensures 0 in
    let high : c.index-2.result.now ≡ word words (slot + 2) = get_or_read words (slot + 2) c.index-2.result.now (omega (arith, h)) c.index-2.ensures 0 in
    ap (λ (x : ℕ). c.from.result + x * c.from-3.result) c.from-2.ensures ∙ omega (arith, low, high, c.from.ensures, c.from-3.ensures) ∙ ap (λ (s : Slot). s.id) (sym (slot_of words now slot is m))
