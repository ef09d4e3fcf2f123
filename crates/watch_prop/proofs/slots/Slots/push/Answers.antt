use Rattle.std.proofs.Common.{◌≡◌, ◌<◌, ◌+◌, ◌/◌, ◌%◌, ◌++◌, ◌∷◌, ℕ, true, List, [], length, arith, ap, sym, subst, ◌∙◌}
use Rattle.watch_prop.specs.Slot.{Slot}
use Rattle.watch_prop.specs.Codes.{mark}
use Rattle.watch_prop.specs.Words.{marked_at, slots_of}
use Rattle.watch_prop.specs.Watching.{IsPut, no_slot}
use Rattle.std.proofs.lemmas.List.{get_or_past}
use Rattle.std.proofs.Common.{length-append}
use Rattle.watch_prop.proofs.WatchWords.{length_slots, pushed, pushed_is, rewritten_put}
use Rattle.watch_prop.proofs.slots.Slots.push.Goals as goal

pub returns-clause-fresh : goal.returns-clause-fresh
returns-clause-fresh c =
    let vec = c.self.inside.words in
    let words = vec.items in
    let is : slots_of words ≡ c.args.self.now = c.self.view_is in
    get_or_past c.args.self.now c.in_ok-slot.slot no_slot (omega (arith, c.in_ok-slot.ensures, c.len.ensures, vec.ok.0, ap length is, length_slots words))

pub returns-clause-put : goal.returns-clause-put
returns-clause-put c =
    let vec = c.self.inside.words in
    let words = vec.items in
    let now = c.args.self.now in
    let slot = c.in_ok-slot.slot in
    let low = c.args.id % mark in
    let high = c.args.id / mark in
    let is : slots_of words ≡ now = c.self.view_is in
    let are = c.self.invariant in
    let new = words ++ mark ∷ low ∷ high ∷ [] in
    let same : c.extend_from_slice.new.self.items ≡ new = c.in_ok-extend_from_slice.ensures.items ∙ ap (λ (k : ℕ). words ++ mark ∷ (c.args.id % k) ∷ (c.args.id / c.from-2.result) ∷ []) c.from.ensures ∙ ap (λ (k : ℕ). words ++ mark ∷ low ∷ (c.args.id / k) ∷ []) c.from-2.ensures in
    let at_end : length words ≡ slot = omega (arith, c.in_ok-slot.ensures, c.len.ensures, vec.ok.0) in
    let quotient : c.args.id / c.from-2.result ≡ high = ap (λ (k : ℕ). c.args.id / k) c.from-2.ensures in
    let is_high : high < mark = omega (arith, c.if-high-from.false, c.from-3.ensures, quotient) in
    let put : IsPut (slots_of words) (slots_of new) (length words) (marked_at new (length words)) = rewritten_put words new (length words) (length words + 3) are (pushed words low high are (omega arith) is_high) in
    let value : marked_at new (length words) ≡ record { begins = true; id = c.args.id; lits = [] } = pushed_is words low high ∙ ap (λ (i : ℕ). record { begins = true; id = i; lits = [] }) (omega arith) in
    subst (λ (ws : List ℕ). IsPut now (slots_of ws) slot (record { begins = true; id = c.args.id; lits = [] })) (sym same)
    (subst (λ (j : ℕ). IsPut now (slots_of new) j (record { begins = true; id = c.args.id; lits = [] })) at_end (subst (λ (s : Slot). IsPut now (slots_of new) (length words) s) value (subst (λ (o : List Slot). IsPut o (slots_of new) (length words) (marked_at new (length words))) is put)))

pub returns-clause-last : goal.returns-clause-last
returns-clause-last c =
    let vec = c.self.inside.words in
    let words = vec.items in
    let tail : List ℕ = mark ∷ (c.args.id % mark) ∷ (c.args.id / mark) ∷ [] in
    let grown : c.extend_from_slice.new.self.items ≡ words ++ tail = c.in_ok-extend_from_slice.ensures.items ∙ ap (λ (k : ℕ). words ++ mark ∷ (c.args.id % k) ∷ (c.args.id / c.from-2.result) ∷ []) c.from.ensures ∙ ap (λ (k : ℕ). words ++ mark ∷ (c.args.id % mark) ∷ (c.args.id / k) ∷ []) c.from-2.ensures in
    omega (arith, c.in_ok-slot.ensures, c.len.ensures, vec.ok.0, ap length grown, length-append words tail, length_slots c.extend_from_slice.new.self.items)
