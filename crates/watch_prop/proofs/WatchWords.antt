-- What the edits of the words do to what begins at each place.
use Rattle.std.proofs.Common.{◌≡◌, ◌≢◌, ◌⊎◌, ℕ, ◌+◌, ◌-◌, ◌*◌, ◌<◌, ◌≤◌, inl, inr, true, false, List, [], ◌∷◌, ◌++◌, length, map, get_or, set, take, drop, refl, sym, ◌∙◌, ap, subst, arith, length-set, get_or-set_same, get_or-set_other, length-append}
use Rattle.std.specs.Prelude.{nat_lt}
use Rattle.std.specs.List.{swap}
use Rattle.std.proofs.lemmas.Bool.{cases_eq, cases_lt, cond-true, cond-false, false≢true}
use Rattle.std.proofs.lemmas.List.{ext_get_or, get_or-take, get_or-drop, get_or-map, get_or_past, get_or_default, get_or_append_left, get_or-append-add, length-take-le, length-drop, length-map}
use Rattle.std.proofs.lemmas.List.FromFn.{get_or-map-range_with_len, length-map-range_with_len}
use Rattle.std.proofs.lemmas.List.Edits.{swapped_from_swap, length-swap}
use Rattle.scut_base.specs.Literal.{Literal}
use Rattle.scut_base.specs.LiteralCode.{code_of, literal_of, code_of-literal_of}
use Rattle.watch_prop.specs.Slot.{Slot}
use Rattle.watch_prop.specs.Watching.{IsPut, IsSlot, no_literal, no_slot}
use Rattle.watch_prop.specs.Codes.{AreCodes, IsCode, mark}
use Rattle.watch_prop.specs.Words.{AreClauses, end_of, marked_at, slot_at, slots_of, word}
use Rattle.watch_prop.proofs.WatchLists.{code_same}

below_mark : (n : ℕ) → n < mark → nat_lt n mark ≡ true
below_mark n h = grind arith

from_mark : (n : ℕ) → mark ≤ n → nat_lt n mark ≡ false
from_mark n h = grind arith

-- a place whose word isn't marked
pub unmarked : (words : List ℕ) (j : ℕ) → word words j < mark → slot_at words j ≡ no_slot
unmarked words j h = cond-true (nat_lt (word words j) mark) no_slot (marked_at words j) (below_mark (word words j) h)

-- a place whose word is marked
pub marked : (words : List ℕ) (j : ℕ) → mark ≤ word words j → slot_at words j ≡ marked_at words j
marked words j h = cond-false (nat_lt (word words j) mark) no_slot (marked_at words j) (from_mark (word words j) h)

pub length_slots : (words : List ℕ) → length (slots_of words) ≡ length words
length_slots words = length-map-range_with_len (slot_at words) 0 (length words)

-- what begins at any place
pub slot_is : (words : List ℕ) (j : ℕ) → get_or (slots_of words) j no_slot ≡ slot_at words j
slot_is words j = elim (cases_lt j (length words)) [
  | inl h ↦ get_or-map-range_with_len (slot_at words) 0 (length words) j j no_slot h (omega arith)
  | inr h ↦ get_or_past (slots_of words) j no_slot (omega (arith, h, length_slots words)) ∙ sym (unmarked words j (subst (λ n. n < mark) (sym (get_or_past words j 0 h)) (omega arith)))
]

-- a clause begins where the word is marked
pub word_marked : (words : List ℕ) (j : ℕ) → IsSlot (slots_of words) j → mark ≤ word words j
word_marked words j begins = elim (cases_lt (word words j) mark) [
  | inl h ↦ absurd (false≢true (sym (ap (λ (s : Slot). s.begins) (slot_is words j ∙ unmarked words j h)) ∙ begins))
  | inr h ↦ h
]

pub begins_marked : (words : List ℕ) (j : ℕ) → mark ≤ word words j → IsSlot (slots_of words) j
begins_marked words j h = ap (λ (s : Slot). s.begins) (slot_is words j ∙ marked words j h)

pub slot_marked : (words : List ℕ) (j : ℕ) → IsSlot (slots_of words) j → get_or (slots_of words) j no_slot ≡ marked_at words j
slot_marked words j begins = slot_is words j ∙ marked words j (word_marked words j begins)

-- the same of a list that is known to be what begins at each place
pub mark_of : (words : List ℕ) (now : List Slot) (j : ℕ) → slots_of words ≡ now → IsSlot now j → mark ≤ word words j
mark_of words now j is begins = word_marked words j (subst (λ o. IsSlot o j) (sym is) begins)

pub slot_of : (words : List ℕ) (now : List Slot) (j : ℕ) → slots_of words ≡ now → mark ≤ word words j → get_or now j no_slot ≡ marked_at words j
slot_of words now j is m = ap (λ o. get_or o j no_slot) (sym is) ∙ slot_is words j ∙ marked words j m

-- a marked word is within the list
pub marked_within : (words : List ℕ) (j : ℕ) → mark ≤ word words j → j < length words
marked_within words j h = elim (cases_lt j (length words)) [
  | inl b ↦ b
  | inr b ↦ absurd (omega (arith, h, get_or_past words j 0 b))
]

-- Ranges of a list.

pub range_length : (xs : List ℕ) (s n : ℕ) → s + n ≤ length xs → length (take n (drop s xs)) ≡ n
range_length xs s n h = length-take-le n (drop s xs) (omega (arith, h, length-drop s xs))

pub range_at : (xs : List ℕ) (s n k : ℕ) → k < n → get_or (take n (drop s xs)) k 0 ≡ get_or xs (s + k) 0
range_at xs s n k h = get_or-take n (drop s xs) k 0 h ∙ get_or-drop s xs k 0

range_same : (xs ys : List ℕ) (s n : ℕ) → s + n ≤ length xs → s + n ≤ length ys → ((k : ℕ) → k < n → get_or ys (s + k) 0 ≡ get_or xs (s + k) 0) → take n (drop s ys) ≡ take n (drop s xs)
range_same xs ys s n in_x in_y same =
    let long_x = range_length xs s n in_x in
    let long_y = range_length ys s n in_y in
    ext_get_or 0 (take n (drop s ys)) (take n (drop s xs)) (long_y ∙ sym long_x) (λ k below.
    let h : k < n = omega (arith, below, long_y) in
    range_at ys s n k h ∙ same k h ∙ sym (range_at xs s n k h))

range_swapped : (xs : List ℕ) (s n a b : ℕ) → s + n ≤ length xs → a < n → b < n → take n (drop s (swap xs (s + a) (s + b))) ≡ swap (take n (drop s xs)) a b
range_swapped xs s n a b within at_a at_b =
    let c = take n (drop s xs) in
    let ys = swap xs (s + a) (s + b) in
    let long : length c ≡ n = range_length xs s n within in
    let len_y : length ys ≡ length xs = length-swap xs (s + a) (s + b) in
    let big = swapped_from_swap xs ys (s + a) (s + b) 0 (omega (arith, within, at_a)) (omega (arith, within, at_b)) refl in
    let small = swapped_from_swap c (swap c a b) a b 0 (omega (arith, long, at_a)) (omega (arith, long, at_b)) refl in
    let long_y : length (take n (drop s ys)) ≡ n = range_length ys s n (omega (arith, within, len_y)) in
    ext_get_or 0 (take n (drop s ys)) (swap c a b) (long_y ∙ sym (length-swap c a b ∙ long)) (λ k below.
    let h : k < n = omega (arith, below, long_y) in
    range_at ys s n k h ∙ elim (cases_eq k a) [
      | inl e ↦ ap (λ (i : ℕ). get_or ys (s + i) 0) e ∙ big.0 ∙ sym (range_at xs s n b at_b) ∙ sym small.0 ∙ ap (λ (i : ℕ). get_or (swap c a b) i 0) (sym e)
      | inr na ↦ elim (cases_eq k b) [
        | inl e ↦ ap (λ (i : ℕ). get_or ys (s + i) 0) e ∙ big.1 ∙ sym (range_at xs s n a at_a) ∙ sym small.1 ∙ ap (λ (i : ℕ). get_or (swap c a b) i 0) (sym e)
        | inr nb ↦ big.2 (s + k) (λ f. na (omega (arith, f))) (λ f. nb (omega (arith, f))) ∙ sym (range_at xs s n k h) ∙ sym (small.2 k na nb)
      ]
    ])

-- literals of exchanged codes
lits_swapped : (codes : List ℕ) (a b : ℕ) → a < length codes → b < length codes → map literal_of (swap codes a b) ≡ swap (map literal_of codes) a b
lits_swapped codes a b at_a at_b =
    let lits = map literal_of codes in
    let ys = swap codes a b in
    let long : length lits ≡ length codes = length-map codes literal_of in
    let len_y : length ys ≡ length codes = length-swap codes a b in
    let big = swapped_from_swap codes ys a b 0 at_a at_b refl in
    let small = swapped_from_swap lits (swap lits a b) a b no_literal (omega (arith, long, at_a)) (omega (arith, long, at_b)) refl in
    let at : (k : ℕ) → k < length codes → get_or lits k no_literal ≡ literal_of (get_or codes k 0) = λ k h. get_or-map literal_of codes k 0 no_literal h in
    let at_y : (k : ℕ) → k < length codes → get_or (map literal_of ys) k no_literal ≡ literal_of (get_or ys k 0) = λ k h. get_or-map literal_of ys k 0 no_literal (omega (arith, h, len_y)) in
    ext_get_or no_literal (map literal_of ys) (swap lits a b) (length-map ys literal_of ∙ len_y ∙ sym (length-swap lits a b ∙ long)) (λ k below.
    let h : k < length codes = omega (arith, below, length-map ys literal_of, len_y) in
    at_y k h ∙ elim (cases_eq k a) [
      | inl e ↦ ap (λ (i : ℕ). literal_of (get_or ys i 0)) e ∙ ap literal_of big.0 ∙ sym (at b at_b) ∙ sym small.0 ∙ ap (λ (i : ℕ). get_or (swap lits a b) i no_literal) (sym e)
      | inr na ↦ elim (cases_eq k b) [
        | inl e ↦ ap (λ (i : ℕ). literal_of (get_or ys i 0)) e ∙ ap literal_of big.1 ∙ sym (at a at_a) ∙ sym small.1 ∙ ap (λ (i : ℕ). get_or (swap lits a b) i no_literal) (sym e)
        | inr nb ↦ ap literal_of (big.2 k na nb) ∙ sym (at k h) ∙ sym (small.2 k na nb)
      ]
    ])

-- One clause changes.

-- Between place j and place e, where in `old` no other clause begins and which no other clause meets, a clause of `new` begins at j and no other; the words outside stay.
pub record IsRewritten (old new : List ℕ) (j e : ℕ) : Type 0 where
  pub longer : length old ≤ length new
  pub begins : mark ≤ word new j
  pub ends : end_of new j ≤ e
  pub inside : e ≤ length new
  pub before : (i : ℕ) → i < j → mark ≤ word old i → end_of old i ≤ j
  pub none : (k : ℕ) → j < k → k < e → word old k < mark
  pub clear : (k : ℕ) → j < k → k < e → word new k < mark
  pub codes : (k : ℕ) → j + 3 ≤ k → k < end_of new j → 1 < word new k
  pub left : (k : ℕ) → k < j → word new k ≡ word old k
  pub right : (k : ℕ) → e ≤ k → word new k ≡ word old k

-- where a place is that isn't j
sides : (i j e : ℕ) → i ≢ j → (i < j) ⊎ ((e ≤ i) ⊎ ((j < i) × (i < e)))
sides i j e n = elim (cases_lt i j) [
  | inl h ↦ inl h
  | inr h ↦ elim (cases_lt i e) [
    | inl b ↦ inr (inr ((omega (arith, h, n)), b))
    | inr b ↦ inr (inl b)
  ]
]

-- the words of another clause of `old` stay
words_stay : (old new : List ℕ) (j e i : ℕ) → IsRewritten old new j e → j + 3 ≤ e → i ≢ j → mark ≤ word old i → (k : ℕ) → i ≤ k → k < end_of old i → word new k ≡ word old k
words_stay old new j e i is wide n marked_i k from to =
    elim (sides i j e n) [
      | inl up ↦ is.left k (let b = is.before i up marked_i in omega (arith, b, to))
      | inr (inl past) ↦ is.right k (omega (arith, past, from))
      | inr (inr within) ↦ absurd (let b = is.none i within.0 within.1 in omega (arith, b, marked_i))
    ]

-- a marked word of `new` other than j was one of `old`
was_marked : (old new : List ℕ) (j e i : ℕ) → IsRewritten old new j e → i ≢ j → mark ≤ word new i → word new i ≡ word old i
was_marked old new j e i is n marked_i =
    elim (sides i j e n) [
      | inl up ↦ is.left i up
      | inr (inl past) ↦ is.right i past
      | inr (inr within) ↦ absurd (let b = is.clear i within.0 within.1 in omega (arith, b, marked_i))
    ]

-- what a marked word tells, where the words of its clause are the same
marked_same : (xs ys : List ℕ) (i : ℕ) → end_of xs i ≤ length xs → end_of xs i ≤ length ys → ((k : ℕ) → i ≤ k → k < end_of xs i → word ys k ≡ word xs k) → marked_at ys i ≡ marked_at xs i
marked_same xs ys i in_x in_y same =
    let n : ℕ = word xs i - mark in
    let here : word ys i ≡ word xs i = same i (omega arith) (omega arith) in
    let low : word ys (i + 1) ≡ word xs (i + 1) = same (i + 1) (omega arith) (omega arith) in
    let high : word ys (i + 2) ≡ word xs (i + 2) = same (i + 2) (omega arith) (omega arith) in
    let codes : take n (drop (i + 3) ys) ≡ take n (drop (i + 3) xs) = range_same xs ys (i + 3) n in_x in_y (λ k h. same (i + 3 + k) (omega arith) (omega (arith, h))) in
    ap (λ (w : ℕ). record { begins = true; id = word ys (i + 1) + mark * word ys (i + 2); lits = map literal_of (take (w - mark) (drop (i + 3) ys)) }) here
    ∙ ap (λ (a : ℕ). record { begins = true; id = a + mark * word ys (i + 2); lits = map literal_of (take n (drop (i + 3) ys)) }) low
    ∙ ap (λ (b : ℕ). record { begins = true; id = word xs (i + 1) + mark * b; lits = map literal_of (take n (drop (i + 3) ys)) }) high
    ∙ ap (λ (cs : List ℕ). record { begins = true; id = word xs (i + 1) + mark * word xs (i + 2); lits = map literal_of cs }) codes

-- at another place begins what began there
others_stay : (old new : List ℕ) (j e i : ℕ) → AreClauses old → IsRewritten old new j e → i ≢ j → slot_at new i ≡ slot_at old i
others_stay old new j e i are is n =
    elim (cases_lt (word old i) mark) [
      | inl low ↦ unmarked new i (elim (cases_lt (word new i) mark) [
        | inl h ↦ h
        | inr h ↦ absurd (let w = was_marked old new j e i is n h in omega (arith, w, h, low))
      ]) ∙ sym (unmarked old i low)
      | inr high ↦
          let wide : j + 3 ≤ e = (let w = is.ends in omega (arith, w)) in
          let stay = words_stay old new j e i is wide n high in
          let inside = are.within i high in
          let here : word new i ≡ word old i = stay i (omega arith) (omega arith) in
          marked new i (omega (arith, here, high)) ∙ marked_same old new i inside (let l = is.longer in omega (arith, l, inside)) stay ∙ sym (marked old i high)
    ]

-- the clauses stay right
pub rewritten_clauses : (old new : List ℕ) (j e : ℕ) → AreClauses old → IsRewritten old new j e → AreClauses new
rewritten_clauses old new j e are is =
    let wide : j + 3 ≤ e = (let w = is.ends in omega (arith, w)) in
    let was : (i : ℕ) → i ≢ j → mark ≤ word new i → mark ≤ word old i = λ i n m. (let w = was_marked old new j e i is n m in omega (arith, w, m)) in
    let end : (i : ℕ) → i ≢ j → mark ≤ word new i → end_of new i ≡ end_of old i = λ i n m. ap (λ (w : ℕ). i + 3 + (w - mark)) (was_marked old new j e i is n m) in
    record {
      within = λ i m. elim (cases_eq i j) [
        | inl f ↦ subst (λ x. end_of new x ≤ length new) (sym f) (let a = is.ends in let b = is.inside in omega (arith, a, b))
        | inr n ↦ (let a = are.within i (was i n m) in let b = is.longer in let c = end i n m in omega (arith, a, b, c))
      ];
      clear = λ i k m up below. elim (cases_eq i j) [
        | inl f ↦ is.clear k (omega (arith, f, up)) (let a = is.ends in let b : k < end_of new j = subst (λ x. k < end_of new x) f below in omega (arith, a, b))
        | inr n ↦
            let to : k < end_of old i = (let c = end i n m in omega (arith, c, below)) in
            let same = words_stay old new j e i is wide n (was i n m) k (omega (arith, up)) to in
            let low = are.clear i k (was i n m) up to in
            omega (arith, same, low)
      ];
      codes = λ i k m from below. elim (cases_eq i j) [
        | inl f ↦ is.codes k (omega (arith, f, from)) (subst (λ x. k < end_of new x) f below)
        | inr n ↦
            let to : k < end_of old i = (let c = end i n m in omega (arith, c, below)) in
            let same = words_stay old new j e i is wide n (was i n m) k (omega (arith, from)) to in
            let high = are.codes i k (was i n m) from to in
            omega (arith, same, high)
      ];
    }

-- and the rewritten one is put at its place
pub rewritten_put : (old new : List ℕ) (j e : ℕ) → AreClauses old → IsRewritten old new j e → IsPut (slots_of old) (slots_of new) j (marked_at new j)
rewritten_put old new j e are is = record {
  here = slot_is new j ∙ marked new j is.begins;
  others = λ i n. slot_is new i ∙ others_stay old new j e i are is n ∙ sym (slot_is old i);
}

-- no other clause meets that of a place
clear_before : (words : List ℕ) (j i : ℕ) → AreClauses words → mark ≤ word words j → i < j → mark ≤ word words i → end_of words i ≤ j
clear_before words j i are m up m_i = elim (cases_lt j (end_of words i)) [
  | inl h ↦ absurd (let c = are.clear i j m_i up h in omega (arith, c, m))
  | inr h ↦ h
]

-- No words.

pub clauses_none : AreClauses []
clauses_none = record {
  within = λ j m. absurd (omega (arith, m, get_or_past {X = ℕ} [] j 0 (omega arith)));
  clear = λ j k m. absurd (omega (arith, m, get_or_past {X = ℕ} [] j 0 (omega arith)));
  codes = λ j k m. absurd (omega (arith, m, get_or_past {X = ℕ} [] j 0 (omega arith)));
}

-- A clause without literals at the end.

pub pushed : (words : List ℕ) (low high : ℕ) → AreClauses words → low < mark → high < mark → IsRewritten words (words ++ mark ∷ low ∷ high ∷ []) (length words) (length words + 3)
pushed words low high are is_low is_high =
    let tail : List ℕ = mark ∷ low ∷ high ∷ [] in
    let new = words ++ tail in
    let j = length words in
    let len : length new ≡ j + 3 = length-append words tail in
    let at : (k : ℕ) → word new (j + k) ≡ get_or tail k 0 = λ k. get_or-append-add words tail k 0 in
    let first : word new j ≡ mark = ap (word new) (omega arith) ∙ at 0 in
    record {
      longer = omega (arith, len);
      begins = omega (arith, first);
      ends = omega (arith, first);
      inside = omega (arith, len);
      before = λ i up m. are.within i m;
      none = λ k up to. subst (λ n. n < mark) (sym (get_or_past words k 0 (omega (arith, up)))) (omega arith);
      clear = λ k up to. elim (cases_eq k (j + 1)) [
        | inl e ↦ subst (λ n. n < mark) (sym (ap (word new) e ∙ at 1)) is_low
        | inr n ↦ subst (λ n. n < mark) (sym (ap (word new) (omega (arith, n, up, to)) ∙ at 2)) is_high
      ];
      codes = λ k from to. absurd (omega (arith, first, from, to));
      left = λ k up. get_or_append_left words tail 0 k up;
      right = λ k past. get_or_past new k 0 (omega (arith, past, len)) ∙ sym (get_or_past words k 0 (omega (arith, past)));
    }

pub pushed_is : (words : List ℕ) (low high : ℕ) → marked_at (words ++ mark ∷ low ∷ high ∷ []) (length words) ≡ record { begins = true; id = low + mark * high; lits = [] }
pushed_is words low high =
    let tail : List ℕ = mark ∷ low ∷ high ∷ [] in
    let new = words ++ tail in
    let j = length words in
    let at : (k : ℕ) → word new (j + k) ≡ get_or tail k 0 = λ k. get_or-append-add words tail k 0 in
    let first : word new j ≡ mark = ap (word new) (omega arith) ∙ at 0 in
    let none : word new j - mark ≡ 0 = omega (arith, first) in
    ap (λ (n : ℕ). record { begins = true; id = word new (j + 1) + mark * word new (j + 2); lits = map literal_of (take n (drop (j + 3) new)) }) none
    ∙ ap (λ (a : ℕ). record { begins = true; id = a + mark * word new (j + 2); lits = [] }) (at 1)
    ∙ ap (λ (b : ℕ). record { begins = true; id = low + mark * b; lits = [] }) (at 2)

-- The last clause gets its literals.

pub filled : (words codes : List ℕ) (j : ℕ) → AreClauses words → mark ≤ word words j → j + 3 ≡ length words → AreCodes codes → IsRewritten words (set (words ++ codes) j (mark + length codes)) j (j + 3 + length codes)
filled words codes j are m last all =
    let mid = words ++ codes in
    let new = set mid j (mark + length codes) in
    let len_mid : length mid ≡ length words + length codes = length-append words codes in
    let len : length new ≡ length mid = length-set mid j (mark + length codes) in
    let here : word new j ≡ mark + length codes = get_or-set_same mid j (mark + length codes) 0 (omega (arith, len_mid, last)) in
    let other : (k : ℕ) → k ≢ j → word new k ≡ word mid k = λ k n. get_or-set_other mid j k (mark + length codes) 0 n in
    let front : (k : ℕ) → k < length words → word mid k ≡ word words k = λ k h. get_or_append_left words codes 0 k h in
    let back : (k : ℕ) → length words ≤ k → k < length mid → IsCode (word mid k) = λ k from to.
    subst IsCode (sym (get_or-append-add words codes (k - length words) 0) ∙ ap (word mid) (omega (arith, from))) (all (k - length words) 0 (omega (arith, from, to, len_mid))) in
    let ends = are.within j m in
    record {
      longer = omega (arith, len, len_mid);
      begins = omega (arith, here);
      ends = omega (arith, here);
      inside = omega (arith, len, len_mid, last);
      before = λ i up m_i. clear_before words j i are m up m_i;
      none = λ k up to. elim (cases_lt k (length words)) [
        | inl h ↦ are.clear j k m up (omega (arith, h, last))
        | inr h ↦ subst (λ n. n < mark) (sym (get_or_past words k 0 h)) (omega arith)
      ];
      clear = λ k up to. subst (λ n. n < mark) (sym (other k (λ e. absurd (omega (arith, e, up))))) (elim (cases_lt k (length words)) [
        | inl h ↦ subst (λ n. n < mark) (sym (front k h)) (are.clear j k m up (omega (arith, h, last)))
        | inr h ↦ (back k h (omega (arith, to, len_mid, last))).1
      ]);
      codes = λ k from to. subst (λ n. 1 < n) (sym (other k (λ e. absurd (omega (arith, e, from))))) (back k (omega (arith, from, last)) (omega (arith, to, here, len_mid, last))).0;
      left = λ k up. other k (λ e. absurd (omega (arith, e, up))) ∙ front k (omega (arith, up, last));
      right = λ k past. get_or_past new k 0 (omega (arith, past, len, len_mid, last)) ∙ sym (get_or_past words k 0 (omega (arith, past, last)));
    }

-- A clause loses its literals.

pub emptied : (words : List ℕ) (j : ℕ) → AreClauses words → mark ≤ word words j → IsRewritten words (set words j mark) j (end_of words j)
emptied words j are m =
    let new = set words j mark in
    let len : length new ≡ length words = length-set words j mark in
    let within = are.within j m in
    let here : word new j ≡ mark = get_or-set_same words j mark 0 (marked_within words j m) in
    let other : (k : ℕ) → k ≢ j → word new k ≡ word words k = λ k n. get_or-set_other words j k mark 0 n in
    record {
      longer = omega (arith, len);
      begins = omega (arith, here);
      ends = omega (arith, here);
      inside = omega (arith, len, within);
      before = λ i up m_i. clear_before words j i are m up m_i;
      none = λ k up to. are.clear j k m up to;
      clear = λ k up to. subst (λ n. n < mark) (sym (other k (λ e. absurd (omega (arith, e, up))))) (are.clear j k m up to);
      codes = λ k from to. absurd (omega (arith, here, from, to));
      left = λ k up. other k (λ e. absurd (omega (arith, e, up)));
      right = λ k past. other k (λ e. absurd (omega (arith, e, past)));
    }

-- Two literals of a clause are exchanged.

pub exchanged : (words : List ℕ) (j a b : ℕ) → AreClauses words → mark ≤ word words j → a < word words j - mark → b < word words j - mark → IsRewritten words (swap words (j + 3 + a) (j + 3 + b)) j (end_of words j)
exchanged words j a b are m at_a at_b =
    let p = j + 3 + a in
    let q = j + 3 + b in
    let new = swap words p q in
    let len : length new ≡ length words = length-swap words p q in
    let within = are.within j m in
    let big = swapped_from_swap words new p q 0 (omega (arith, within, at_a)) (omega (arith, within, at_b)) refl in
    let here : word new j ≡ word words j = big.2 j (λ e. absurd (omega (arith, e))) (λ e. absurd (omega (arith, e))) in
    let inner : (P : ℕ → Type 0) (k : ℕ) → P (word words k) → P (word words p) → P (word words q) → P (word new k) = λ P k own at_p at_q. elim (cases_eq k p) [
      | inl e ↦ subst P (sym (ap (word new) e ∙ big.0)) at_q
      | inr n ↦ elim (cases_eq k q) [
        | inl f ↦ subst P (sym (ap (word new) f ∙ big.1)) at_p
        | inr o ↦ subst P (sym (big.2 k n o)) own
      ]
    ] in
    let outside : (k : ℕ) → (k < j) ⊎ (end_of words j ≤ k) → word new k ≡ word words k = λ k out. elim out [
      | inl up ↦ big.2 k (λ e. absurd (omega (arith, e, up))) (λ e. absurd (omega (arith, e, up)))
      | inr past ↦ big.2 k (λ e. absurd (omega (arith, e, past, at_a))) (λ e. absurd (omega (arith, e, past, at_b)))
    ] in
    record {
      longer = omega (arith, len);
      begins = omega (arith, here, m);
      ends = omega (arith, here);
      inside = omega (arith, len, within);
      before = λ i up m_i. clear_before words j i are m up m_i;
      none = λ k up to. are.clear j k m up to;
      clear = λ k up to. inner (λ n. n < mark) k (are.clear j k m up to) (are.clear j p m (omega arith) (omega (arith, at_a))) (are.clear j q m (omega arith) (omega (arith, at_b)));
      codes = λ k from to. inner (λ n. 1 < n) k (are.codes j k m from (omega (arith, to, here))) (are.codes j p m (omega arith) (omega (arith, at_a))) (are.codes j q m (omega arith) (omega (arith, at_b)));
      left = λ k up. outside k (inl up);
      right = λ k past. outside k (inr past);
    }

-- The clause at a place.

pub lits_length : (words : List ℕ) (j : ℕ) → AreClauses words → mark ≤ word words j → length (marked_at words j).lits ≡ word words j - mark
lits_length words j are m = length-map (take (word words j - mark) (drop (j + 3) words)) literal_of ∙ range_length words (j + 3) (word words j - mark) (are.within j m)

pub codes_of : (words : List ℕ) (j : ℕ) → AreClauses words → mark ≤ word words j → AreCodes (take (word words j - mark) (drop (j + 3) words))
codes_of words j are m = λ k d below.
    let n = word words j - mark in
    let long = range_length words (j + 3) n (are.within j m) in
    let k_in : k < n = omega (arith, below, long) in
    let at : get_or (take n (drop (j + 3) words)) k d ≡ word words (j + 3 + k) = get_or_default (take n (drop (j + 3) words)) k d 0 below ∙ range_at words (j + 3) n k k_in in
    subst IsCode (sym at) (are.codes j (j + 3 + k) m (omega arith) (omega (arith, k_in)), are.clear j (j + 3 + k) m (omega arith) (omega (arith, k_in)))

pub exchanged_is : (words : List ℕ) (j a b : ℕ) → AreClauses words → mark ≤ word words j → a < word words j - mark → b < word words j - mark → marked_at (swap words (j + 3 + a) (j + 3 + b)) j ≡ record { begins = true; id = (marked_at words j).id; lits = swap (marked_at words j).lits a b }
exchanged_is words j a b are m at_a at_b =
    let p = j + 3 + a in
    let q = j + 3 + b in
    let n = word words j - mark in
    let new = swap words p q in
    let within = are.within j m in
    let big = swapped_from_swap words new p q 0 (omega (arith, within, at_a)) (omega (arith, within, at_b)) refl in
    let other : (k : ℕ) → k < j + 3 → word new k ≡ word words k = λ k h. big.2 k (λ e. absurd (omega (arith, e, h))) (λ e. absurd (omega (arith, e, h))) in
    let long = range_length words (j + 3) n within in
    let codes : map literal_of (take n (drop (j + 3) new)) ≡ swap (marked_at words j).lits a b = ap (map literal_of) (range_swapped words (j + 3) n a b within at_a at_b) ∙ lits_swapped (take n (drop (j + 3) words)) a b (omega (arith, at_a, long)) (omega (arith, at_b, long)) in
    ap (λ (w : ℕ). record { begins = true; id = word new (j + 1) + mark * word new (j + 2); lits = map literal_of (take (w - mark) (drop (j + 3) new)) }) (other j (omega arith))
    ∙ ap (λ (x : ℕ). record { begins = true; id = x + mark * word new (j + 2); lits = map literal_of (take n (drop (j + 3) new)) }) (other (j + 1) (omega arith))
    ∙ ap (λ (y : ℕ). record { begins = true; id = word words (j + 1) + mark * y; lits = map literal_of (take n (drop (j + 3) new)) }) (other (j + 2) (omega arith))
    ∙ ap (λ (ls : List Literal). record { begins = true; id = (marked_at words j).id; lits = ls }) codes

pub emptied_is : (words : List ℕ) (j : ℕ) → AreClauses words → mark ≤ word words j → marked_at (set words j mark) j ≡ record { begins = true; id = (marked_at words j).id; lits = [] }
emptied_is words j are m =
    let new = set words j mark in
    let here : word new j ≡ mark = get_or-set_same words j mark 0 (marked_within words j m) in
    let other : (k : ℕ) → k ≢ j → word new k ≡ word words k = λ k n. get_or-set_other words j k mark 0 n in
    let none : word new j - mark ≡ 0 = omega (arith, here) in
    ap (λ (n : ℕ). record { begins = true; id = word new (j + 1) + mark * word new (j + 2); lits = map literal_of (take n (drop (j + 3) new)) }) none
    ∙ ap (λ (x : ℕ). record { begins = true; id = x + mark * word new (j + 2); lits = [] }) (other (j + 1) (λ e. absurd (omega (arith, e))))
    ∙ ap (λ (y : ℕ). record { begins = true; id = word words (j + 1) + mark * y; lits = [] }) (other (j + 2) (λ e. absurd (omega (arith, e))))

-- literals and their codes
pub lits_of_codes : (lits : List Literal) → map literal_of (map code_of lits) ≡ lits
lits_of_codes [] = refl
lits_of_codes (l ∷ lits) = ap (λ (m : Literal). m ∷ map literal_of (map code_of lits)) (code_same (literal_of (code_of l)) l (code_of-literal_of (code_of l))) ∙ ap (λ (ls : List Literal). l ∷ ls) (lits_of_codes lits)

pub filled_is : (words : List ℕ) (lits : List Literal) (j : ℕ) → AreClauses words → mark ≤ word words j → j + 3 ≡ length words → marked_at (set (words ++ map code_of lits) j (mark + length lits)) j ≡ record { begins = true; id = (marked_at words j).id; lits = lits }
filled_is words lits j are m last =
    let codes = map code_of lits in
    let n = length lits in
    let mid = words ++ codes in
    let new = set mid j (mark + n) in
    let long : length codes ≡ n = length-map lits code_of in
    let len_mid : length mid ≡ length words + length codes = length-append words codes in
    let len : length new ≡ length mid = length-set mid j (mark + n) in
    let here : word new j ≡ mark + n = get_or-set_same mid j (mark + n) 0 (omega (arith, len_mid, last)) in
    let other : (k : ℕ) → k ≢ j → word new k ≡ word mid k = λ k d. get_or-set_other mid j k (mark + n) 0 d in
    let front : (k : ℕ) → k ≢ j → k < length words → word new k ≡ word words k = λ k d h. other k d ∙ get_or_append_left words codes 0 k h in
    let count : word new j - mark ≡ n = omega (arith, here) in
    let within : j + 3 + n ≤ length new = omega (arith, len, len_mid, long, last) in
    let own_long : length (take n (drop (j + 3) new)) ≡ n = range_length new (j + 3) n within in
    let own : take n (drop (j + 3) new) ≡ codes = ext_get_or 0 (take n (drop (j + 3) new)) codes (own_long ∙ sym long) (λ k below.
    range_at new (j + 3) n k (omega (arith, below, own_long)) ∙ other (j + 3 + k) (λ e. absurd (omega (arith, e))) ∙ ap (λ (i : ℕ). get_or mid (i + k) 0) last ∙ get_or-append-add words codes k 0) in
    ap (λ (c : ℕ). record { begins = true; id = word new (j + 1) + mark * word new (j + 2); lits = map literal_of (take c (drop (j + 3) new)) }) count
    ∙ ap (λ (x : ℕ). record { begins = true; id = x + mark * word new (j + 2); lits = map literal_of (take n (drop (j + 3) new)) }) (front (j + 1) (λ e. absurd (omega (arith, e))) (omega (arith, last)))
    ∙ ap (λ (y : ℕ). record { begins = true; id = word words (j + 1) + mark * y; lits = map literal_of (take n (drop (j + 3) new)) }) (front (j + 2) (λ e. absurd (omega (arith, e))) (omega (arith, last)))
    ∙ ap (λ (cs : List ℕ). record { begins = true; id = (marked_at words j).id; lits = map literal_of cs }) own
    ∙ ap (λ (ls : List Literal). record { begins = true; id = (marked_at words j).id; lits = ls }) (lits_of_codes lits)
