use Rattle.std.proofs.Common.{◌≡◌, ◌≤◌, ◌+◌, ◌++◌, ℕ, true, false, Result, Ok, Err, is_err, OnOk, List, length, map, set, arith, ap, sym, subst, length-append, ◌∙◌}
use Rattle.std.proofs.lemmas.List.{length-map}
use Rattle.std.proofs.lemmas.Bool.{false≢true}
use Rattle.scut_base.specs.LiteralCode.{code_of}
use Rattle.watch_prop.specs.Slot.{Slot}
use Rattle.watch_prop.specs.Codes.{AreCodes, mark}
use Rattle.watch_prop.specs.Words.{AreClauses, marked_at, slots_of, word}
use Rattle.watch_prop.specs.Watching.{IsPut, with_lits}
use Rattle.watch_prop.proofs.WatchWords.{length_slots, filled, filled_is, mark_of, marked_within, rewritten_clauses, rewritten_put, slot_of}
use Rattle.watch_prop.proofs.slots.Slots.fill.Goals as goal

-- what holds on Ok, where the result is no error
ok_of : {X E P : Type 0} (r : Result X E) → is_err r ≡ false → OnOk r P → P
ok_of (Ok x) e h = h
ok_of (Err f) e h = absurd (false≢true (sym e))

pub index_mut-requires : goal.index_mut-requires
index_mut-requires c =
    let vec = c.self.inside.words in
    let words = vec.items in
    let slot = c.args.slot in
    let now = c.args.self.now in
    let lits = c.args.lits.now in
    let codes = map code_of lits in
    let is : slots_of words ≡ now = c.self.view_is in
    let m : mark ≤ word words slot = mark_of words now slot is c.requires.slot in
    let last : slot + 3 ≡ length words = c.requires.last ∙ ap length (sym is) ∙ length_slots words in
    let grown : c.push_codes.new.words.items ≡ words ++ codes = ok_of c.push_codes.result (sym c.if-is_err.ensures.value) c.push_codes.ensures.ok in
    let all : AreCodes codes = ok_of c.push_codes.result (sym c.if-is_err.ensures.value) c.push_codes.ensures.codes in
    (let h = marked_within words slot m in omega (arith, h, c.push_codes.new.words.ok.0, ap length grown, length-append words codes))

pub invariant_of-self-2 : goal.invariant_of-self-2
invariant_of-self-2 c =
    let vec = c.self.inside.words in
    let words = vec.items in
    let slot = c.args.slot in
    let now = c.args.self.now in
    let lits = c.args.lits.now in
    let codes = map code_of lits in
    let is : slots_of words ≡ now = c.self.view_is in
    let m : mark ≤ word words slot = mark_of words now slot is c.requires.slot in
    let last : slot + 3 ≡ length words = c.requires.last ∙ ap length (sym is) ∙ length_slots words in
    let grown : c.push_codes.new.words.items ≡ words ++ codes = ok_of c.push_codes.result (sym c.if-is_err.ensures.value) c.push_codes.ensures.ok in
    let all : AreCodes codes = ok_of c.push_codes.result (sym c.if-is_err.ensures.value) c.push_codes.ensures.codes in
    let new = set (words ++ codes) slot (mark + length codes) in
    let n : length codes ≡ length lits = length-map lits code_of in
    let same : set c.push_codes.new.words.items slot (mark + length lits) ≡ new = ap (λ (ws : List ℕ). set ws slot (mark + length lits)) grown ∙ ap (λ (k : ℕ). set (words ++ codes) slot (mark + k)) (sym n) in
    subst AreClauses (sym same) (rewritten_clauses words new slot (slot + 3 + length codes) c.self.invariant (filled words codes slot c.self.invariant m last all))

pub returns-clause-ok : goal.returns-clause-ok
returns-clause-ok c =
    let vec = c.self.inside.words in
    let words = vec.items in
    let slot = c.args.slot in
    let now = c.args.self.now in
    let lits = c.args.lits.now in
    let codes = map code_of lits in
    let is : slots_of words ≡ now = c.self.view_is in
    let m : mark ≤ word words slot = mark_of words now slot is c.requires.slot in
    let last : slot + 3 ≡ length words = c.requires.last ∙ ap length (sym is) ∙ length_slots words in
    let grown : c.push_codes.new.words.items ≡ words ++ codes = ok_of c.push_codes.result (sym c.if-is_err.ensures.value) c.push_codes.ensures.ok in
    let all : AreCodes codes = ok_of c.push_codes.result (sym c.if-is_err.ensures.value) c.push_codes.ensures.codes in
    let are = c.self.invariant in
    let new = set (words ++ codes) slot (mark + length codes) in
    let n : length codes ≡ length lits = length-map lits code_of in
    let same : set c.push_codes.new.words.items slot (mark + length lits) ≡ new = ap (λ (ws : List ℕ). set ws slot (mark + length lits)) grown ∙ ap (λ (k : ℕ). set (words ++ codes) slot (mark + k)) (sym n) in
    let put : IsPut (slots_of words) (slots_of new) slot (marked_at new slot) = rewritten_put words new slot (slot + 3 + length codes) are (filled words codes slot are m last all) in
    let value : marked_at new slot ≡ with_lits now slot lits = ap (λ (k : ℕ). marked_at (set (words ++ codes) slot (mark + k)) slot) n ∙ filled_is words lits slot are m last ∙ ap (λ (s : Slot). record { begins = true; id = s.id; lits = lits }) (sym (slot_of words now slot is m)) in
    subst (λ (ws : List ℕ). IsPut now (slots_of ws) slot (with_lits now slot lits)) (sym same) (subst (λ (s : Slot). IsPut now (slots_of new) slot s) value (subst (λ (o : List Slot). IsPut o (slots_of new) slot (marked_at new slot)) is put))
