use Rattle.std.proofs.Common.{◌≡◌, ◌<◌, ◌≤◌, ◌+◌, ◌-◌, ◌++◌, ℕ, true, List, length, get_or, take, drop, arith, ap, sym, subst, ◌∙◌}
use Rattle.watch_prop.specs.Slot.{Slot}
use Rattle.watch_prop.specs.Codes.{mark}
use Rattle.watch_prop.specs.Words.{marked_at, slots_of, word}
use Rattle.watch_prop.specs.Watching.{IsPut, clause_at, no_slot, with_lits}
use Rattle.std.specs.List.{swap}
use Rattle.std.proofs.lemmas.List.{take-append-le, take_all}
use Rattle.std.proofs.lemmas.List.Edits.{length-swap}
use Rattle.watch_prop.specs.Words.{AreClauses, end_of}
use Rattle.watch_prop.proofs.WatchWords.{exchanged, exchanged_is, lits_length, mark_of, rewritten_clauses, rewritten_put, slot_of}
use Rattle.watch_prop.proofs.slots.Slots.swap.Goals as goal

pub overflow_add-start-2 : goal.overflow_add-start-2
overflow_add-start-2 c =
    let vec = c.self.inside.words in
    let words = vec.items in
    let slot = c.args.slot in
    let now = c.args.self.now in
    let is : slots_of words ≡ now = c.self.view_is in
    let m : mark ≤ word words slot = mark_of words now slot is c.requires.slot in
    let long : length (clause_at now slot) ≡ word words slot - mark = ap (λ (s : Slot). length s.lits) (slot_of words now slot is m) ∙ lits_length words slot c.self.invariant m in
    let within = c.self.invariant.within slot m in
    omega (arith, within, long, c.requires.first, vec.ok.0, c.as_mut_slice-words.type_inv.0, c.as_mut_slice-words.ensures.len)

pub overflow_add-start-3 : goal.overflow_add-start-3
overflow_add-start-3 c =
    let vec = c.self.inside.words in
    let words = vec.items in
    let slot = c.args.slot in
    let now = c.args.self.now in
    let is : slots_of words ≡ now = c.self.view_is in
    let m : mark ≤ word words slot = mark_of words now slot is c.requires.slot in
    let long : length (clause_at now slot) ≡ word words slot - mark = ap (λ (s : Slot). length s.lits) (slot_of words now slot is m) ∙ lits_length words slot c.self.invariant m in
    let within = c.self.invariant.within slot m in
    omega (arith, within, long, c.requires.second, vec.ok.0, c.as_mut_slice-words.type_inv.0, c.as_mut_slice-words.ensures.len)

pub swap-requires-clause-a_in_bounds : goal.swap-requires-clause-a_in_bounds
swap-requires-clause-a_in_bounds c =
    let vec = c.self.inside.words in
    let words = vec.items in
    let slot = c.args.slot in
    let now = c.args.self.now in
    let is : slots_of words ≡ now = c.self.view_is in
    let m : mark ≤ word words slot = mark_of words now slot is c.requires.slot in
    let long : length (clause_at now slot) ≡ word words slot - mark = ap (λ (s : Slot). length s.lits) (slot_of words now slot is m) ∙ lits_length words slot c.self.invariant m in
    let within = c.self.invariant.within slot m in
    omega (arith, within, long, c.requires.first, ap length c.as_mut_slice-words.ensures.value)

pub swap-requires-clause-b_in_bounds : goal.swap-requires-clause-b_in_bounds
swap-requires-clause-b_in_bounds c =
    let vec = c.self.inside.words in
    let words = vec.items in
    let slot = c.args.slot in
    let now = c.args.self.now in
    let is : slots_of words ≡ now = c.self.view_is in
    let m : mark ≤ word words slot = mark_of words now slot is c.requires.slot in
    let long : length (clause_at now slot) ≡ word words slot - mark = ap (λ (s : Slot). length s.lits) (slot_of words now slot is m) ∙ lits_length words slot c.self.invariant m in
    let within = c.self.invariant.within slot m in
    omega (arith, within, long, c.requires.second, ap length c.as_mut_slice-words.ensures.value)

pub invariant_of-self : goal.invariant_of-self
invariant_of-self c =
    let vec = c.self.inside.words in
    let words = vec.items in
    let slot = c.args.slot in
    let now = c.args.self.now in
    let is : slots_of words ≡ now = c.self.view_is in
    let m : mark ≤ word words slot = mark_of words now slot is c.requires.slot in
    let long : length (clause_at now slot) ≡ word words slot - mark = ap (λ (s : Slot). length s.lits) (slot_of words now slot is m) ∙ lits_length words slot c.self.invariant m in
    let a = c.args.first in
    let b = c.args.second in
    let ys = c.swap.new.self in
    let new = swap words (slot + 3 + a) (slot + 3 + b) in
    let after : ys ≡ new = c.swap.ensures.after ∙ ap (λ (xs : List ℕ). swap xs (slot + 3 + a) (slot + 3 + b)) c.as_mut_slice-words.ensures.value in
    let len : length ys ≡ length words = ap length after ∙ length-swap words (slot + 3 + a) (slot + 3 + b) in
    let kept : take vec.len (ys ++ drop (length ys) words) ≡ ys = take-append-le vec.len ys (drop (length ys) words) (omega (arith, len, vec.ok.0)) ∙ take_all vec.len ys (omega (arith, len, vec.ok.0)) in
    subst AreClauses (sym (kept ∙ after)) (rewritten_clauses words new slot (end_of words slot) c.self.invariant (exchanged words slot a b c.self.invariant m (omega (arith, c.requires.first, long)) (omega (arith, c.requires.second, long))))

pub returns : goal.returns
returns c =
    let vec = c.self.inside.words in
    let words = vec.items in
    let slot = c.args.slot in
    let now = c.args.self.now in
    let is : slots_of words ≡ now = c.self.view_is in
    let m : mark ≤ word words slot = mark_of words now slot is c.requires.slot in
    let are = c.self.invariant in
    let at : get_or now slot no_slot ≡ marked_at words slot = slot_of words now slot is m in
    let long : length (clause_at now slot) ≡ word words slot - mark = ap (λ (s : Slot). length s.lits) at ∙ lits_length words slot are m in
    let a = c.args.first in
    let b = c.args.second in
    let ys = c.swap.new.self in
    let new = swap words (slot + 3 + a) (slot + 3 + b) in
    let after : ys ≡ new = c.swap.ensures.after ∙ ap (λ (xs : List ℕ). swap xs (slot + 3 + a) (slot + 3 + b)) c.as_mut_slice-words.ensures.value in
    let len : length ys ≡ length words = ap length after ∙ length-swap words (slot + 3 + a) (slot + 3 + b) in
    let kept : take vec.len (ys ++ drop (length ys) words) ≡ ys = take-append-le vec.len ys (drop (length ys) words) (omega (arith, len, vec.ok.0)) ∙ take_all vec.len ys (omega (arith, len, vec.ok.0)) in
    let a_in : a < word words slot - mark = omega (arith, c.requires.first, long) in
    let b_in : b < word words slot - mark = omega (arith, c.requires.second, long) in
    let put : IsPut (slots_of words) (slots_of new) slot (marked_at new slot) = rewritten_put words new slot (end_of words slot) are (exchanged words slot a b are m a_in b_in) in
    let value : marked_at new slot ≡ with_lits now slot (swap (clause_at now slot) a b) = exchanged_is words slot a b are m a_in b_in ∙ ap (λ (s : Slot). record { begins = true; id = s.id; lits = swap s.lits a b }) (sym at) in
    subst (λ (ws : List ℕ). IsPut now (slots_of ws) slot (with_lits now slot (swap (clause_at now slot) a b))) (sym (kept ∙ after)) (subst (λ (s : Slot). IsPut now (slots_of new) slot s) value (subst (λ (o : List Slot). IsPut o (slots_of new) slot (marked_at new slot)) is put))
