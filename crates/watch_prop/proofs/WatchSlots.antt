-- What keeps the watches right where slots come and go.
use Rattle.std.proofs.Common.{◌≡◌, ◌≢◌, true, ℕ, ◌<◌, ◌≤◌, inl, inr, List, [], ◌∷◌, ◌++◌, length, get_or, take, refl, sym, ◌∙◌, ap, subst, arith, length-set}
use Rattle.std.specs.List.{Contains}
use Rattle.std.proofs.lemmas.List.{get_or_append_left, get_or_push, length_push, get_or_past}
use Rattle.std.proofs.lemmas.List.Elements.{Contains-get_or}
use Rattle.std.proofs.lemmas.Bool.{cases_lt, false≢true}
use Rattle.scut_base.specs.Literal.{Literal}
use Rattle.scut_base.specs.LiteralCode.{code_of}
use Rattle.pb_lin.specs.Constraint.{opposite}
use Rattle.watch_prop.specs.declared.watch_lists.Entry.{Entry}
use Rattle.watch_prop.specs.Slot.{Slot}
use Rattle.watch_prop.specs.Watching.{IsBeside, IsKept, IsWatch, IsEntry, IsDistinct, IsPut, IsSlot, HasTrue, Names, clause_at, list_of, no_entry, no_literal, no_slot}
use Rattle.watch_prop.proofs.WatchLists.{at_put, at_set, begins_after, code_same}
use Rattle.watch_prop.proofs.WatchKept.{kept_entry, named_here, pushed_names, with_entry}

-- No literals.

-- no literal is among none
none_among : (l : Literal) → Contains [] l → ⊥
none_among l (k, below, is) = absurd (omega (arith, below))

distinct_none : IsDistinct []
distinct_none i k below = absurd (omega (arith, below))

-- A place gets a clause without literals: a new one, or one that loses them.

entry_emptied : (own new : List Slot) (n code slot : ℕ) (s : Slot) (e : Entry) → IsPut own new slot s → s.begins ≡ true → s.lits ≡ [] → IsEntry own n code e → IsEntry new n code e
entry_emptied own new n code slot s e put begins none entry = record {
  there = begins_after own new slot s put begins e.slot entry.there;
  upto = entry.upto;
  other = entry.other;
  among = λ l beside. at_put (λ j x. j ≡ e.slot → 2 ≤ length x.lits → Contains x.lits l) own new slot s put
      (λ j is. subst (λ i. 2 ≤ length (clause_at own i) → Contains (clause_at own i) l) (sym is) (entry.among l beside))
      (λ is long. absurd (omega (arith, long, ap length none)))
      e.slot refl;
}

pub kept_emptied : (own new : List Slot) (lists : List (List Entry)) (ends : List ℕ) (n : ℕ) (trail : List Literal) (slot : ℕ) (s : Slot) → IsPut own new slot s → s.begins ≡ true → s.lits ≡ [] → IsKept own lists ends n trail → IsKept new lists ends n trail
kept_emptied own new lists ends n trail slot s put begins none kept =
    let short : (l : Literal) → IsWatch s.lits l → ⊥ = λ l w. absurd (let long = w.0 in omega (arith, long, ap length none)) in
    let lacks : (l : Literal) → Contains s.lits l → ⊥ = λ l h. none_among l (subst (λ c. Contains c l) none h) in
    record {
      distinct = at_put (λ j x. IsDistinct x.lits) own new slot s put kept.distinct (subst IsDistinct (sym none) distinct_none);
      upto = λ j l. at_put (λ j x. Contains x.lits l → l.var ≤ n) own new slot s put (λ i h. kept.upto i l h) (λ h. absurd (lacks l h)) j;
      covered = λ j l. at_put (λ j x. Contains x.lits l → code_of l < length lists) own new slot s put (λ i h. kept.covered i l h) (λ h. absurd (lacks l h)) j;
      entries = λ c k h. entry_emptied own new n c slot s _ put begins none (kept.entries c k h);
      watched = λ j l watch. at_put (λ j x. IsWatch x.lits l → Names (list_of lists l) 0 j) own new slot s put (λ i w. kept.watched i l w) (λ w. absurd (short l w)) j watch;
      within = kept.within;
      rising = kept.rising;
      settled = λ j l p watch h is. at_put (λ j x. IsWatch x.lits l → HasTrue (take (get_or ends p 0) trail) x.lits) own new slot s put (λ i w. kept.settled i l p w h is) (λ w. absurd (short l w)) j watch;
    }

-- the entries of a slot stand by two literals of its clause
abbrev pub BlocksBy : List (List Entry) → ℕ → List Literal → Type 0
BlocksBy lists slot lits = (c k : ℕ) → k < length (get_or lists c []) → (get_or (get_or lists c []) k no_entry).slot ≡ slot → (l : Literal) → IsBeside c (get_or (get_or lists c []) k no_entry) l → Contains lits l

-- a slot without literals gets a clause, which stands in the lists of its watches
pub kept_filled : (own new : List Slot) (lists : List (List Entry)) (ends : List ℕ) (n : ℕ) (trail : List Literal) (slot : ℕ) (s : Slot) → IsPut own new slot s → s.begins ≡ true → IsKept own lists ends n trail
    → BlocksBy lists slot s.lits → IsDistinct s.lits → ((l : Literal) → Contains s.lits l → (l.var ≤ n) × (code_of l < length lists)) → ((l : Literal) → IsWatch s.lits l → Names (list_of lists l) 0 slot × ((p : ℕ) → p < length ends → get_or trail p no_literal ≢ opposite l)) → IsKept new lists ends n trail
kept_filled own new lists ends n trail slot s put begins kept blockers apart inside watches =
    record {
      distinct = at_put (λ j x. IsDistinct x.lits) own new slot s put kept.distinct apart;
      upto = λ j l. at_put (λ j x. Contains x.lits l → l.var ≤ n) own new slot s put (λ i h. kept.upto i l h) (λ h. (inside l h).0) j;
      covered = λ j l. at_put (λ j x. Contains x.lits l → code_of l < length lists) own new slot s put (λ i h. kept.covered i l h) (λ h. (inside l h).1) j;
      entries = λ c k h.
          let e = kept.entries c k h in
          let x : Entry = get_or (get_or lists c []) k no_entry in
          record {
            there = begins_after own new slot s put begins x.slot e.there;
            upto = e.upto;
            other = e.other;
            among = λ l beside. at_put (λ j y. j ≡ x.slot → 2 ≤ length y.lits → Contains y.lits l) own new slot s put
                (λ j is. subst (λ i. 2 ≤ length (clause_at own i) → Contains (clause_at own i) l) (sym is) (e.among l beside))
                (λ is _. blockers c k h (sym is) l beside)
                x.slot refl;
          };
      watched = λ j l watch. at_put (λ j x. IsWatch x.lits l → Names (list_of lists l) 0 j) own new slot s put (λ i w. kept.watched i l w) (λ w. (watches l w).0) j watch;
      within = kept.within;
      rising = kept.rising;
      settled = λ j l p watch h is. at_put (λ j x. IsWatch x.lits l → HasTrue (take (get_or ends p 0) trail) x.lits) own new slot s put (λ i w. kept.settled i l p w h is) (λ w. absurd ((watches l w).1 p h is)) j watch;
    }

-- No slot.

pub kept_none : (own : List Slot) (lists : List (List Entry)) (ends : List ℕ) (n : ℕ) → own ≡ [] → lists ≡ [] → ends ≡ [] → IsKept own lists ends n []
kept_none own lists ends n no_own no_lists no_ends = record {
  distinct = λ j. subst IsDistinct (sym (lits_none j)) distinct_none;
  upto = λ j l h. absurd (none_among l (subst (λ c. Contains c l) (lits_none j) h));
  covered = λ j l h. absurd (none_among l (subst (λ c. Contains c l) (lits_none j) h));
  entries = λ c k h. absurd (let none = ap (λ ls. length (get_or ls c [])) no_lists in let past = ap (λ (es : List Entry). length es) (get_or_past [] c [] (omega arith)) in omega (arith, h, none, past));
  watched = λ j l w. absurd (let long = w.0 in omega (arith, long, ap length (lits_none j)));
  within = λ p h. absurd (omega (arith, h, ap length no_ends));
  rising = λ p q up h. absurd (omega (arith, h, ap length no_ends));
  settled = λ j l p w. absurd (let long = w.0 in omega (arith, long, ap length (lits_none j)));
}
  where
    lits_none : (j : ℕ) → clause_at own j ≡ []
    lits_none j = ap (λ o. clause_at o j) no_own ∙ ap (λ (s : Slot). s.lits) (get_or_past [] j no_slot (omega arith))

-- A clause is taken up.

-- an entry of a clause without literals
pub entry_fresh : (own new : List Slot) (n code : ℕ) (s : Slot) (e : Entry) → IsPut own new e.slot s → s.begins ≡ true → s.lits ≡ [] → e.blocker.var ≤ n → code_of e.blocker ≢ code → IsEntry new n code e
entry_fresh own new n code s e put begins none upto other = record {
  there = ap (λ (x : Slot). x.begins) put.here ∙ begins;
  upto = upto;
  other = other;
  among = λ _ _ long. absurd (omega (arith, long, ap (λ (x : Slot). length x.lits) put.here, ap length none));
}

blocks_entry : (lists : List (List Entry)) (slot : ℕ) (lits : List Literal) (code : ℕ) (e : Entry) → BlocksBy lists slot lits → ((l : Literal) → IsBeside code e l → Contains lits l) → BlocksBy (with_entry lists code e) slot lits
blocks_entry lists slot lits code e blocks among =
    let old = get_or lists code [] in
    at_set [] (λ c es. (k : ℕ) → k < length es → (get_or es k no_entry).slot ≡ slot → (l : Literal) → IsBeside c (get_or es k no_entry) l → Contains lits l) lists code (old ++ e ∷ []) blocks (λ _ k h is. elim (cases_lt k (length old)) [
      | inl b ↦
          let same : get_or (old ++ e ∷ []) k no_entry ≡ get_or old k no_entry = get_or_append_left old (e ∷ []) no_entry k b in
          subst (λ (x : Entry). (l : Literal) → IsBeside code x l → Contains lits l) (sym same) (blocks code k b (ap (λ (x : Entry). x.slot) (sym same) ∙ is))
      | inr b ↦
          let k_is : length old ≡ k = omega (arith, h, b, length_push old e) in
          subst (λ i. (l : Literal) → IsBeside code (get_or (old ++ e ∷ []) i no_entry) l → Contains lits l) k_is (subst (λ (x : Entry). (l : Literal) → IsBeside code x l → Contains lits l) (sym (get_or_push old e no_entry (length old) refl)) among)
    ])

-- the first two literals of a clause have two codes
pub codes_apart : (lits : List Literal) (first second : Literal) → 2 ≤ length lits → IsDistinct lits → get_or lits 0 no_literal ≡ first → get_or lits 1 no_literal ≡ second → code_of second ≢ code_of first
codes_apart lits first second long apart is_first is_second e =
    apart 0 1 (omega (arith, long)) (omega (arith, long)) (λ f. absurd (omega (arith, f))) (is_first ∙ sym (code_same second first e) ∙ sym is_second)

-- a clause is opened at a place where none begins, gets its entries, and then its literals
pub kept_watched : (own opened new : List Slot) (slot : ℕ) (none s : Slot) (lists : List (List Entry)) (ends : List ℕ) (n : ℕ) (trail : List Literal) (first second : Literal) (e f : Entry) → IsKept own lists ends n trail → get_or own slot no_slot ≡ no_slot → IsPut own opened slot none → none.begins ≡ true → none.lits ≡ [] → IsPut opened new slot s → s.begins ≡ true → 2 ≤ length s.lits → IsDistinct s.lits
    → ((l : Literal) → Contains s.lits l → (l.var ≤ n) × (code_of l < length lists)) → get_or s.lits 0 no_literal ≡ first → get_or s.lits 1 no_literal ≡ second → e ≡ record { slot = slot; blocker = second } → f ≡ record { slot = slot; blocker = first } → ((k p : ℕ) → k < 2 → p < length ends → get_or trail p no_literal ≢ opposite (get_or s.lits k no_literal))
    → IsKept new (with_entry (with_entry lists (code_of first) e) (code_of second) f) ends n trail
kept_watched own opened new slot none s lists ends n trail first second e f kept fresh opening open_begins empty put begins long apart inside is_first is_second e_is f_is clear =
    let two = with_entry lists (code_of first) e in
    let three = with_entry two (code_of second) f in
    let first_in : Contains s.lits first = subst (Contains s.lits) is_first (Contains-get_or s.lits 0 no_literal (omega (arith, long))) in
    let second_in : Contains s.lits second = subst (Contains s.lits) is_second (Contains-get_or s.lits 1 no_literal (omega (arith, long))) in
    let e_slot : e.slot ≡ slot = ap (λ (x : Entry). x.slot) e_is in
    let f_slot : f.slot ≡ slot = ap (λ (x : Entry). x.slot) f_is in
    let e_second : e.blocker ≡ second = ap (λ (x : Entry). x.blocker) e_is in
    let f_first : f.blocker ≡ first = ap (λ (x : Entry). x.blocker) f_is in
    let codes : code_of second ≢ code_of first = codes_apart s.lits first second long apart is_first is_second in
    let e_in : (l : Literal) → IsBeside (code_of first) e l → Contains s.lits l = λ l beside. elim beside [ inl is ↦ subst (Contains s.lits) (sym (is ∙ e_second)) second_in | inr is ↦ subst (Contains s.lits) (sym (code_same l first is)) first_in ] in
    let f_in : (l : Literal) → IsBeside (code_of second) f l → Contains s.lits l = λ l beside. elim beside [ inl is ↦ subst (Contains s.lits) (sym (is ∙ f_first)) first_in | inr is ↦ subst (Contains s.lits) (sym (code_same l second is)) second_in ] in
    let k1 = kept_emptied own opened lists ends n trail slot none opening open_begins empty kept in
    let open_at : (x : Entry) → x.slot ≡ slot → IsPut own opened x.slot none = λ x is. subst (λ i. IsPut own opened i none) (sym is) opening in
    let k2 = kept_entry opened lists ends n trail (code_of first) e k1 (entry_fresh own opened n (code_of first) none e (open_at e e_slot) open_begins empty (inside e.blocker (e_in e.blocker (inl refl))).0 (λ f. codes (ap code_of (sym e_second) ∙ f))) in
    let k3 = kept_entry opened two ends n trail (code_of second) f k2 (entry_fresh own opened n (code_of second) none f (open_at f f_slot) open_begins empty (inside f.blocker (f_in f.blocker (inl refl))).0 (λ g. codes (sym g ∙ ap code_of f_first))) in
    let len_2 : length two ≡ length lists = length-set lists (code_of first) _ in
    let len_3 : length three ≡ length two = length-set two (code_of second) _ in
    let blocks_1 : BlocksBy lists slot s.lits = λ c k h is. absurd (false≢true (sym (ap (λ (x : Slot). x.begins) fresh) ∙ subst (λ i. IsSlot own i) is (kept.entries c k h).there)) in
    let blocks_3 : BlocksBy three slot s.lits = blocks_entry two slot s.lits (code_of second) f (blocks_entry lists slot s.lits (code_of first) e blocks_1 e_in) f_in in
    let named_first : Names (list_of three first) 0 slot = pushed_names two (code_of second) f first 0 slot (subst (Names (list_of two first) 0) e_slot (named_here lists first e (inside first first_in).1)) in
    let reach : code_of second < length two = (let c = (inside second second_in).1 in omega (arith, c, len_2)) in
    let named_second : Names (list_of three second) 0 slot = subst (Names (list_of three second) 0) f_slot (named_here two second f reach) in
    kept_filled opened new three ends n trail slot s put begins k3 blocks_3 apart (λ l h. let i = inside l h in (i.0, (let c = i.1 in omega (arith, c, len_2, len_3)))) (λ l w. elim w.1 [
      | inl g ↦ (subst (λ m. Names (list_of three m) 0 slot) (sym is_first ∙ g) named_first, λ p h is. clear 0 p (omega arith) h (is ∙ ap opposite (sym g)))
      | inr g ↦ (subst (λ m. Names (list_of three m) 0 slot) (sym is_second ∙ g) named_second, λ p h is. clear 1 p (omega arith) h (is ∙ ap opposite (sym g)))
    ])

pub kept_as : (own own_2 : List Slot) (lists lists_2 : List (List Entry)) (ends ends_2 : List ℕ) (n : ℕ) (trail : List Literal) → own_2 ≡ own → lists_2 ≡ lists → ends_2 ≡ ends → IsKept own lists ends n trail → IsKept own_2 lists_2 ends_2 n trail
kept_as own own_2 lists lists_2 ends ends_2 n trail same_own same_lists same_ends kept =
    subst (λ o. IsKept o lists_2 ends_2 n trail) (sym same_own) (subst (λ ls. IsKept own ls ends_2 n trail) (sym same_lists) (subst (λ es. IsKept own lists es n trail) (sym same_ends) kept))

-- more lists
pub kept_covers : (own : List Slot) (lists new : List (List Entry)) (ends : List ℕ) (n : ℕ) (trail : List Literal) → ((c : ℕ) → get_or new c [] ≡ get_or lists c []) → length lists ≤ length new → IsKept own lists ends n trail → IsKept own new ends n trail
kept_covers own lists new ends n trail same longer kept = record {
  distinct = kept.distinct;
  upto = kept.upto;
  covered = λ j l h. (let c = kept.covered j l h in omega (arith, c, longer));
  entries = λ c k h. subst (λ (es : List Entry). IsEntry own n c (get_or es k no_entry)) (sym (same c)) (kept.entries c k (subst (λ (es : List Entry). k < length es) (same c) h));
  watched = λ j l w. subst (λ (es : List Entry). Names es 0 j) (sym (same (code_of l))) (kept.watched j l w);
  within = kept.within;
  rising = kept.rising;
  settled = kept.settled;
}
