-- What keeps the watches right.
use Rattle.std.proofs.Common.{◌≡◌, ◌≢◌, true, ℕ, ◌+◌, ◌<◌, ◌≤◌, ◌⊎◌, inl, inr, List, [], ◌∷◌, ◌++◌, length, get_or, set, take, refl, sym, ◌∙◌, ap, subst, arith, length-set, length-append, get_or-set_same, get_or-set_other}
use Rattle.std.specs.List.{Contains, swap}
use Rattle.std.specs.List.Sorted.{IsPermutation}
use Rattle.std.proofs.lemmas.List.{take-append-le, take-take, get_or-take, get_or_append_left, get_or_push, length_push, length-take-le, length-take, take_all}
use Rattle.std.proofs.lemmas.List.Sorted.{Contains-permutation, IsPermutation-sym, IsPermutation-swap, length_permutation}
use Rattle.std.proofs.lemmas.List.Elements.{Contains-get_or}
use Rattle.std.proofs.lemmas.Bool.{cases_eq, cases_lt}
use Rattle.scut_base.specs.Literal.{Literal}
use Rattle.scut_base.specs.LiteralCode.{code_of}
use Rattle.pb_lin.specs.Constraint.{opposite}
use Rattle.watch_prop.specs.declared.watch_lists.Entry.{Entry}
use Rattle.watch_prop.specs.Slot.{Slot}
use Rattle.watch_prop.specs.Watching.{IsKept, IsLooking, IsRemoved, IsFree, IsWatch, IsEntry, IsDistinct, IsPut, IsSlot, HasTrue, Names, clause_at, list_of, no_entry, no_literal}
use Rattle.watch_prop.proofs.WatchLists.{at_set, at_others, at_put, begins_after, opposite_same, code_same, contains_at, true_push, watch_swapped, watch_moved, distinct_swapped}

-- More variables, and a longer trail.

pub entry_more : (own : List Slot) (n m c : ℕ) (e : Entry) → n ≤ m → IsEntry own n c e → IsEntry own m c e
entry_more own n m c e up entry = record { there = entry.there; upto = (let u = entry.upto in omega arith); other = entry.other; among = entry.among }

pub kept_more : (own : List Slot) (lists : List (List Entry)) (ends : List ℕ) (n m : ℕ) (trail : List Literal) → n ≤ m → IsKept own lists ends n trail → IsKept own lists ends m trail
kept_more own lists ends n m trail up kept = record {
  distinct = kept.distinct;
  upto = λ j l h. (let u = kept.upto j l h in omega arith);
  covered = kept.covered;
  entries = λ c k h. entry_more own n m c _ up (kept.entries c k h);
  watched = kept.watched;
  within = kept.within;
  rising = kept.rising;
  settled = kept.settled;
}

pub kept_push : (own : List Slot) (lists : List (List Entry)) (ends : List ℕ) (n : ℕ) (trail more : List Literal) → IsKept own lists ends n trail → IsKept own lists ends n (trail ++ more)
kept_push own lists ends n trail more kept =
    record {
      distinct = kept.distinct;
      upto = kept.upto;
      covered = kept.covered;
      entries = kept.entries;
      watched = kept.watched;
      within = λ p h. (let w = kept.within p h in (w.0, omega (arith, w.1, length-append trail more)));
      rising = kept.rising;
      settled = λ j l p watch h is.
          let w = kept.within p h in
          let old : get_or trail p no_literal ≡ opposite l = sym (get_or_append_left trail more no_literal p (omega (arith, w.0, w.1))) ∙ is in
          subst (λ ts. HasTrue ts (clause_at own j)) (sym (take-append-le (get_or ends p 0) trail more w.1)) (kept.settled j l p watch h old);
    }

pub looking_push : (own : List Slot) (lists : List (List Entry)) (ends : List ℕ) (n : ℕ) (trail more : List Literal) (lit : Literal) (at : ℕ) → IsLooking own lists ends n trail lit at → IsLooking own lists ends n (trail ++ more) lit at
looking_push own lists ends n trail more lit at looking =
    record {
      kept = kept_push own lists ends n trail more looking.kept;
      more = (let m = looking.more in omega (arith, m, length-append trail more));
      here = get_or_append_left trail more no_literal (length ends) looking.more ∙ looking.here;
      due = λ j watch. elim (looking.due j watch) [ inl n ↦ inl n | inr t ↦ inr (true_push trail (clause_at own j) more t) ];
    }

-- The list of a literal.

pub looking_start : (own : List Slot) (lists : List (List Entry)) (ends : List ℕ) (n : ℕ) (trail : List Literal) (lit : Literal) → IsKept own lists ends n trail → length ends < length trail → get_or trail (length ends) no_literal ≡ opposite lit → IsLooking own lists ends n trail lit 0
looking_start own lists ends n trail lit kept more here =
    record {
      kept = kept;
      more = more;
      here = here;
      due = λ j watch. inl (kept.watched j lit watch);
    }

pub looking_next : (own : List Slot) (lists : List (List Entry)) (ends : List ℕ) (n : ℕ) (trail : List Literal) (lit : Literal) (at j : ℕ) → IsLooking own lists ends n trail lit at → (get_or (list_of lists lit) at no_entry).slot ≡ j → (2 ≤ length (clause_at own j) → HasTrue trail (clause_at own j)) → IsLooking own lists ends n trail lit (at + 1)
looking_next own lists ends n trail lit at j looking entry holds =
    record {
      kept = looking.kept;
      more = looking.more;
      here = looking.here;
      due = λ i watch. elim (looking.due i watch) [
        | inl n ↦ elim (cases_eq n.0 at) [
          | inl e ↦
              let is : j ≡ i = sym entry ∙ ap (λ k. (get_or (list_of lists lit) k no_entry).slot) (sym e) ∙ n.3 in
              inr (subst (λ i. 2 ≤ length (clause_at own i) → HasTrue trail (clause_at own i)) is holds watch.0)
          | inr ne ↦ inl (n.0, (let from = n.1 in omega arith), n.2, n.3)
        ]
        | inr t ↦ inr t
      ];
    }

pub looking_end : (own : List Slot) (lists : List (List Entry)) (ends : List ℕ) (n : ℕ) (trail : List Literal) (lit : Literal) (at : ℕ) → IsLooking own lists ends n trail lit at → length (list_of lists lit) ≤ at → IsKept own lists (ends ++ length trail ∷ []) n trail
looking_end own lists ends n trail lit at looking past =
    let kept = looking.kept in
    let more : length ends < length trail = looking.more in
    let new = ends ++ length trail ∷ [] in
    let len : length new ≡ length ends + 1 = length_push ends (length trail) in
    let old : (p : ℕ) → p < length ends → get_or new p 0 ≡ get_or ends p 0 = λ p h. get_or_append_left ends (length trail ∷ []) 0 p h in
    let last : get_or new (length ends) 0 ≡ length trail = get_or_push ends (length trail) 0 (length ends) refl in
    record {
      distinct = kept.distinct;
      upto = kept.upto;
      covered = kept.covered;
      entries = kept.entries;
      watched = kept.watched;
      within = λ p h. elim (cases_lt p (length ends)) [
        | inl b ↦ subst (λ e. (p < e) × (e ≤ length trail)) (sym (old p b)) (kept.within p b)
        | inr b ↦
            let p_is : length ends ≡ p = omega arith in
            subst (λ i. (i < get_or new i 0) × (get_or new i 0 ≤ length trail)) p_is (subst (λ e. (length ends < e) × (e ≤ length trail)) (sym last) (more, omega arith))
      ];
      rising = λ p q up h. elim (cases_lt q (length ends)) [
        | inl b ↦ (let r = kept.rising p q up b in let op = old p (omega arith) in let oq = old q b in omega (arith, r, op, oq))
        | inr b ↦
            let q_is : length ends ≡ q = omega arith in
            let at_q : get_or new q 0 ≡ length trail = ap (λ i. get_or new i 0) (sym q_is) ∙ last in
            elim (cases_lt p (length ends)) [
              | inl a ↦ (let w = kept.within p a in let op = old p a in omega (arith, w.1, op, at_q))
              | inr a ↦
                  let p_is : length ends ≡ p = omega arith in
                  let at_p : get_or new p 0 ≡ length trail = ap (λ i. get_or new i 0) (sym p_is) ∙ last in
                  omega (arith, at_p, at_q)
            ]
      ];
      settled = λ j l p watch h is. elim (cases_lt p (length ends)) [
        | inl b ↦ subst (λ e. HasTrue (take e trail) (clause_at own j)) (sym (old p b)) (kept.settled j l p watch b is)
        | inr b ↦
            let p_is : p ≡ length ends = omega arith in
            let l_is : l ≡ lit = opposite_same l lit (sym is ∙ ap (λ i. get_or trail i no_literal) p_is ∙ looking.here) in
            let holds : HasTrue trail (clause_at own j) = elim (looking.due j (subst (IsWatch (clause_at own j)) l_is watch)) [ inl n ↦ absurd (let from = n.1 in let to = n.2 in omega arith) | inr t ↦ t ] in
            let all : take (get_or new p 0) trail ≡ trail = ap (λ e. take e trail) (ap (λ i. get_or new i 0) p_is ∙ last) ∙ take_all (length trail) trail (omega arith) in
            subst (λ ts. HasTrue ts (clause_at own j)) (sym all) holds
      ];
    }

-- A clause in another order, whose watches are watched and settled.

-- a true literal of a clause in another order
pub true_reordered : (trail clause new : List Literal) → IsPermutation clause new → HasTrue trail clause → HasTrue trail new
true_reordered trail clause new same (l, among, true_l) = (l, Contains-permutation _ _ l same among, true_l)

pub entry_reordered : (own new : List Slot) (n code slot : ℕ) (s : Slot) (e : Entry) → IsPut own new slot s → s.begins ≡ true → IsPermutation (clause_at own slot) s.lits → IsEntry own n code e → IsEntry new n code e
entry_reordered own new n code slot s e put begins same entry = record {
  there = begins_after own new slot s put begins e.slot entry.there;
  upto = entry.upto;
  other = entry.other;
  among = λ l beside. at_put (λ j x. j ≡ e.slot → 2 ≤ length x.lits → Contains x.lits l) own new slot s put
      (λ j is. subst (λ i. 2 ≤ length (clause_at own i) → Contains (clause_at own i) l) (sym is) (entry.among l beside))
      (λ is long. Contains-permutation _ _ l same (subst (λ i. 2 ≤ length (clause_at own i) → Contains (clause_at own i) l) (sym is) (entry.among l beside) (let len = length_permutation _ _ same in omega arith)))
      e.slot refl;
}

pub kept_reordered : (own new : List Slot) (lists : List (List Entry)) (ends : List ℕ) (n : ℕ) (trail : List Literal) (slot : ℕ) (s : Slot) → IsPut own new slot s → s.begins ≡ true → IsKept own lists ends n trail → IsPermutation (clause_at own slot) s.lits → IsDistinct s.lits
    → ((l : Literal) → IsWatch s.lits l → IsWatch (clause_at own slot) l ⊎ (Names (list_of lists l) 0 slot × ((p : ℕ) → p < length ends → get_or trail p no_literal ≢ opposite l))) → IsKept new lists ends n trail
kept_reordered own new lists ends n trail slot s put begins kept same apart watches =
    let back : (l : Literal) → Contains s.lits l → Contains (clause_at own slot) l = λ l h. Contains-permutation _ _ l (IsPermutation-sym _ _ same) h in
    record {
      distinct = at_put (λ j x. IsDistinct x.lits) own new slot s put kept.distinct apart;
      upto = λ j l. at_put (λ j x. Contains x.lits l → l.var ≤ n) own new slot s put (λ i h. kept.upto i l h) (λ h. kept.upto slot l (back l h)) j;
      covered = λ j l. at_put (λ j x. Contains x.lits l → code_of l < length lists) own new slot s put (λ i h. kept.covered i l h) (λ h. kept.covered slot l (back l h)) j;
      entries = λ c k h. entry_reordered own new n c slot s _ put begins same (kept.entries c k h);
      watched = λ j l watch. at_put (λ j x. IsWatch x.lits l → Names (list_of lists l) 0 j) own new slot s put (λ i w. kept.watched i l w) (λ w. elim (watches l w) [ inl old ↦ kept.watched slot l old | inr new ↦ new.0 ]) j watch;
      within = kept.within;
      rising = kept.rising;
      settled = λ j l p watch h is. at_put (λ j x. IsWatch x.lits l → HasTrue (take (get_or ends p 0) trail) x.lits) own new slot s put (λ i w. kept.settled i l p w h is)
          (λ w. elim (watches l w) [ inl old ↦ true_reordered _ _ _ same (kept.settled slot l p old h is) | inr new ↦ absurd (new.1 p h is) ]) j watch;
    }

pub looking_swapped : (own new : List Slot) (lists : List (List Entry)) (ends : List ℕ) (n : ℕ) (trail : List Literal) (lit : Literal) (at slot : ℕ) (s : Slot) → IsPut own new slot s → s.begins ≡ true → IsLooking own lists ends n trail lit at → s.lits ≡ swap (clause_at own slot) 0 1 → 2 ≤ length (clause_at own slot) → IsLooking new lists ends n trail lit at
looking_swapped own new lists ends n trail lit at slot s put begins looking is long =
    let kept = looking.kept in
    let clause = clause_at own slot in
    let same : IsPermutation clause s.lits = IsPermutation-swap clause s.lits 0 1 (omega arith) (omega arith) is in
    let watch : (l : Literal) → IsWatch s.lits l → IsWatch clause l = λ l w. watch_swapped clause l long (subst (λ c. IsWatch c l) is w) in
    record {
      kept = kept_reordered own new lists ends n trail slot s put begins kept same (subst IsDistinct (sym is) (distinct_swapped clause 0 1 (omega arith) (omega arith) (kept.distinct slot))) (λ l w. inl (watch l w));
      more = looking.more;
      here = looking.here;
      due = λ j w. at_put (λ j x. IsWatch x.lits lit → Names (list_of lists lit) at j ⊎ HasTrue trail x.lits) own new slot s put (λ i h. looking.due i h)
          (λ h. elim (looking.due slot (watch lit h)) [ inl names ↦ inl names | inr t ↦ inr (true_reordered _ _ _ same t) ]) j w;
    }

-- The literal at place 1 is exchanged with one that isn't false, in whose list the clause is.
pub looking_moved : (own new : List Slot) (lists : List (List Entry)) (ends : List ℕ) (n : ℕ) (trail : List Literal) (lit : Literal) (at slot place : ℕ) (s : Slot) → IsPut own new slot s → s.begins ≡ true → IsLooking own lists ends n trail lit at → s.lits ≡ swap (clause_at own slot) 1 place → IsFree (clause_at own slot) trail place → get_or (clause_at own slot) 1 no_literal ≡ lit
    → Names (list_of lists (get_or (clause_at own slot) place no_literal)) 0 slot
    → IsLooking new lists ends n trail lit at × ((l : Literal) → IsWatch (clause_at new slot) l → l ≢ lit)
looking_moved own new lists ends n trail lit at slot place s put begins looking is (from, to, free) second named =
    let kept = looking.kept in
    let clause = clause_at own slot in
    let apart = kept.distinct slot in
    let same : IsPermutation clause s.lits = IsPermutation-swap clause s.lits 1 place (omega arith) to is in
    let false_lit : Contains trail (opposite lit) = contains_at trail (length ends) (opposite lit) looking.more looking.here in
    let moved : (l : Literal) → IsWatch s.lits l → (get_or clause 0 no_literal ≡ l) ⊎ (get_or clause place no_literal ≡ l) = λ l w. watch_moved clause place l from to (subst (λ c. IsWatch c l) is w) in
    let other : (l : Literal) → IsWatch s.lits l → l ≢ lit =
    λ l w. elim (moved l w) [
      | inl e ↦ λ f. apart 0 1 (omega arith) (omega arith) (λ g. absurd (omega arith)) (e ∙ f ∙ sym second)
      | inr e ↦ λ f. free (subst (λ m. Contains trail (opposite m)) (sym (e ∙ f)) false_lit)
    ] in
    let watches : (l : Literal) → IsWatch s.lits l → IsWatch clause l ⊎ (Names (list_of lists l) 0 slot × ((p : ℕ) → p < length ends → get_or trail p no_literal ≢ opposite l)) =
    λ l w. elim (moved l w) [
      | inl e ↦ inl ((omega arith), inl e)
      | inr e ↦ inr (
        subst (λ m. Names (list_of lists m) 0 slot) e named,
        λ p h at_p. free (subst (λ m. Contains trail (opposite m)) (sym e) (contains_at trail p (opposite l) (let more = looking.more in omega arith) at_p)),
      )
    ] in (
      record {
        kept = kept_reordered own new lists ends n trail slot s put begins kept same (subst IsDistinct (sym is) (distinct_swapped clause 1 place (omega arith) to apart)) watches;
        more = looking.more;
        here = looking.here;
        due = λ j w. at_put (λ j x. IsWatch x.lits lit → Names (list_of lists lit) at j ⊎ HasTrue trail x.lits) own new slot s put (λ i h. looking.due i h) (λ h. absurd (other lit h refl)) j w;
      },
      λ l w. other l (subst (λ (x : Slot). IsWatch x.lits l) put.here w),
    )

-- Entries.

names_push : (entries : List Entry) (e : Entry) (from j : ℕ) → Names entries from j → Names (entries ++ e ∷ []) from j
names_push entries e from j (k, up, below, is) =
    (k, up, omega (arith, length_push entries e), ap (λ (x : Entry). x.slot) (get_or_append_left entries (e ∷ []) no_entry k below) ∙ is)

named_push : (entries : List Entry) (e : Entry) → Names (entries ++ e ∷ []) 0 e.slot
named_push entries e =
    (length entries, omega arith, omega (arith, length_push entries e), ap (λ (x : Entry). x.slot) (get_or_push entries e no_entry (length entries) refl))

-- a list with one entry more
abbrev pub with_entry : List (List Entry) → ℕ → Entry → List (List Entry)
with_entry lists code e = set lists code (get_or lists code [] ++ e ∷ [])

pub pushed_names : (lists : List (List Entry)) (code : ℕ) (e : Entry) (l : Literal) (from j : ℕ) → Names (list_of lists l) from j → Names (list_of (with_entry lists code e) l) from j
pushed_names lists code e l from j names =
    at_set [] (λ c es. c ≡ code_of l → Names es from j) lists code (get_or lists code [] ++ e ∷ []) (λ c is. subst (λ c. Names (get_or lists c []) from j) (sym is) names) (λ _ is. names_push (get_or lists code []) e from j (subst (λ c. Names (get_or lists c []) from j) (sym is) names)) (code_of l) refl

-- an entry in the list of another literal of a clause, whose blocker is the first one
pub entry_by : (own : List Slot) (n slot place : ℕ) (first l : Literal) → IsSlot own slot → 2 ≤ length (clause_at own slot) → IsDistinct (clause_at own slot) → first ≡ get_or (clause_at own slot) 0 no_literal → get_or (clause_at own slot) place no_literal ≡ l → first.var ≤ n → 0 < place → place < length (clause_at own slot)
    → IsEntry own n (code_of l) (record { slot = slot; blocker = first })
entry_by own n slot place first l in_own long apart is_first is_l upto above below =
    let clause = clause_at own slot in
    record {
      there = in_own;
      upto = upto;
      other = λ e. apart 0 place (omega (arith, long)) below (λ f. absurd (omega (arith, f, above))) (sym is_first ∙ code_same first l e ∙ sym is_l);
      among = λ m beside _. elim beside [
        | inl e ↦ contains_at clause 0 m (omega (arith, long)) (sym is_first ∙ sym e)
        | inr e ↦ contains_at clause place m below (is_l ∙ sym (code_same m l e))
      ];
    }

pub kept_entry : (own : List Slot) (lists : List (List Entry)) (ends : List ℕ) (n : ℕ) (trail : List Literal) (code : ℕ) (e : Entry) → IsKept own lists ends n trail → IsEntry own n code e → IsKept own (with_entry lists code e) ends n trail
kept_entry own lists ends n trail code e kept valid =
    let old = get_or lists code [] in
    record {
      distinct = kept.distinct;
      upto = kept.upto;
      covered = λ j l h. (let c = kept.covered j l h in omega (arith, c, length-set lists code (old ++ e ∷ [])));
      entries = at_set [] (λ c es. (k : ℕ) → k < length es → IsEntry own n c (get_or es k no_entry)) lists code (old ++ e ∷ []) kept.entries (λ _ k h. elim (cases_lt k (length old)) [
        | inl b ↦ subst (IsEntry own n code) (sym (get_or_append_left old (e ∷ []) no_entry k b)) (kept.entries code k b)
        | inr b ↦
            let k_is : length old ≡ k = omega (arith, length_push old e) in
            subst (λ i. IsEntry own n code (get_or (old ++ e ∷ []) i no_entry)) k_is (subst (IsEntry own n code) (sym (get_or_push old e no_entry (length old) refl)) valid)
      ]);
      watched = λ j l watch. pushed_names lists code e l 0 j (kept.watched j l watch);
      within = kept.within;
      rising = kept.rising;
      settled = kept.settled;
    }

pub looking_entry : (own : List Slot) (lists : List (List Entry)) (ends : List ℕ) (n : ℕ) (trail : List Literal) (lit : Literal) (at code : ℕ) (e : Entry) → IsLooking own lists ends n trail lit at → IsEntry own n code e → IsLooking own (with_entry lists code e) ends n trail lit at
looking_entry own lists ends n trail lit at code e looking valid =
    record {
      kept = kept_entry own lists ends n trail code e looking.kept valid;
      more = looking.more;
      here = looking.here;
      due = λ j watch. elim (looking.due j watch) [
        | inl names ↦ inl (pushed_names lists code e lit at j names)
        | inr t ↦ inr t
      ];
    }

pub named_here : (lists : List (List Entry)) (l : Literal) (e : Entry) → code_of l < length lists → Names (list_of (with_entry lists (code_of l) e) l) 0 e.slot
named_here lists l e within = subst (λ es. Names es 0 e.slot) (sym (get_or-set_same lists (code_of l) (list_of lists l ++ e ∷ []) [] within)) (named_push (list_of lists l) e)

-- another blocker
names_set : (entries : List Entry) (at : ℕ) (e : Entry) (from j : ℕ) → at < length entries → e.slot ≡ (get_or entries at no_entry).slot → Names entries from j → Names (set entries at e) from j
names_set entries at e from j within same (k, up, below, is) = (
  k,
  up,
  omega (arith, length-set entries at e),
  elim (cases_eq k at) [
    | inl f ↦ ap (λ (i : ℕ). (get_or (set entries at e) i no_entry).slot) f ∙ ap (λ (x : Entry). x.slot) (get_or-set_same entries at e no_entry within) ∙ same ∙ ap (λ (i : ℕ). (get_or entries i no_entry).slot) (sym f) ∙ is
    | inr n ↦ ap (λ (x : Entry). x.slot) (get_or-set_other entries at k e no_entry n) ∙ is
  ],
)

pub looking_blocker : (own : List Slot) (lists : List (List Entry)) (ends : List ℕ) (n : ℕ) (trail : List Literal) (lit : Literal) (at next : ℕ) (e : Entry) → IsLooking own lists ends n trail lit next → at < length (list_of lists lit) → e.slot ≡ (get_or (list_of lists lit) at no_entry).slot → IsEntry own n (code_of lit) e
    → IsLooking own (set lists (code_of lit) (set (list_of lists lit) at e)) ends n trail lit next
looking_blocker own lists ends n trail lit at next e looking within same valid =
    let kept = looking.kept in
    let code = code_of lit in
    let old = get_or lists code [] in
    let new = set old at e in
    record {
      kept = record {
        distinct = kept.distinct;
        upto = kept.upto;
        covered = λ j l h. (let c = kept.covered j l h in omega (arith, c, length-set lists code new));
        entries = at_set [] (λ c es. (k : ℕ) → k < length es → IsEntry own n c (get_or es k no_entry)) lists code new kept.entries (λ _ k h. at_set no_entry (λ i x. i < length old → IsEntry own n code x) old at e (kept.entries code) (λ _ _. valid) k (omega (arith, length-set old at e)));
        watched = λ j l watch. at_set [] (λ c es. c ≡ code_of l → Names es 0 j) lists code new (λ c is. subst (λ c. Names (get_or lists c []) 0 j) (sym is) (kept.watched j l watch)) (λ _ is. names_set old at e 0 j within same (subst (λ c. Names (get_or lists c []) 0 j) (sym is) (kept.watched j l watch))) (code_of l) refl;
        within = kept.within;
        rising = kept.rising;
        settled = kept.settled;
      };
      more = looking.more;
      here = looking.here;
      due = λ j watch. elim (looking.due j watch) [
        | inl names ↦ inl (at_set [] (λ c es. c ≡ code_of lit → Names es next j) lists code new (λ c is. subst (λ c. Names (get_or lists c []) next j) (sym is) names) (λ _ is. names_set old at e next j within same names) (code_of lit) refl)
        | inr t ↦ inr t
      ];
    }

-- an entry less
names_removed : (old new : List Entry) (at from j : ℕ) → IsRemoved old new at → at < length old → from ≤ at → (get_or old at no_entry).slot ≢ j → Names old from j → Names new from j
names_removed old new at from j removed within up other (k, low, below, is) =
    let len : length new + 1 ≡ length old = removed.len in
    let k_at : k ≢ at = λ e. other (ap (λ (i : ℕ). (get_or old i no_entry).slot) (sym e) ∙ is) in
    elim (cases_lt k (length new)) [
      | inl h ↦ (k, low, h, ap (λ (x : Entry). x.slot) (removed.others k k_at h) ∙ is)
      | inr h ↦
          let k_is : length new ≡ k = omega arith in
          let at_in : at < length new = elim (cases_lt at (length new)) [ inl b ↦ b | inr b ↦ absurd (k_at (omega arith)) ] in
          (at, up, at_in, ap (λ (x : Entry). x.slot) (removed.moved at_in ∙ ap (λ (i : ℕ). get_or old i no_entry) k_is) ∙ is)
    ]

pub looking_removed : (own : List Slot) (lists new : List (List Entry)) (ends : List ℕ) (n : ℕ) (trail : List Literal) (lit : Literal) (at slot : ℕ) → IsLooking own lists ends n trail lit at → at < length (list_of lists lit) → (get_or (list_of lists lit) at no_entry).slot ≡ slot → ((l : Literal) → IsWatch (clause_at own slot) l → l ≢ lit)
    → ((c : ℕ) → c ≢ code_of lit → get_or new c [] ≡ get_or lists c []) → IsRemoved (list_of lists lit) (list_of new lit) at → length new ≡ length lists → IsLooking own new ends n trail lit at
looking_removed own lists new ends n trail lit at slot looking within entry unwatched others removed len =
    let kept = looking.kept in
    let code = code_of lit in
    let old_list = get_or lists code [] in
    let new_list = get_or new code [] in
    let not_here : (j : ℕ) → IsWatch (clause_at own j) lit → (get_or old_list at no_entry).slot ≢ j = λ j w e. unwatched lit (subst (λ i. IsWatch (clause_at own i) lit) (sym (sym entry ∙ e)) w) refl in
    record {
      kept = record {
        distinct = kept.distinct;
        upto = kept.upto;
        covered = λ j l h. (let c = kept.covered j l h in omega (arith, c));
        entries = at_others [] (λ c es. (k : ℕ) → k < length es → IsEntry own n c (get_or es k no_entry)) lists new code others kept.entries (λ k h. elim (cases_eq k at) [
          | inl e ↦
              let at_in : at < length new_list = omega arith in
              subst (λ i. IsEntry own n code (get_or new_list i no_entry)) (sym e) (subst (IsEntry own n code) (sym (removed.moved at_in)) (kept.entries code (length new_list) (let l = removed.len in omega arith)))
          | inr n' ↦ subst (IsEntry own n code) (sym (removed.others k n' h)) (kept.entries code k (let l = removed.len in omega arith))
        ]);
        watched = λ j l watch. at_others [] (λ c es. c ≡ code_of l → Names es 0 j) lists new code others (λ c is. subst (λ c. Names (get_or lists c []) 0 j) (sym is) (kept.watched j l watch)) (λ is.
            let l_is : l ≡ lit = code_same l lit (sym is) in
            names_removed old_list new_list at 0 j removed within (omega arith) (not_here j (subst (IsWatch (clause_at own j)) l_is watch)) (subst (λ c. Names (get_or lists c []) 0 j) (sym is) (kept.watched j l watch))) (code_of l) refl;
        within = kept.within;
        rising = kept.rising;
        settled = kept.settled;
      };
      more = looking.more;
      here = looking.here;
      due = λ j watch. elim (looking.due j watch) [
        | inl names ↦ inl (names_removed old_list new_list at at j removed within (omega arith) (not_here j watch) names)
        | inr t ↦ inr t
      ];
    }

-- Fewer steps, and fewer of them looked at.

pub kept_cut : (own : List Slot) (lists : List (List Entry)) (ends : List ℕ) (n : ℕ) (trail : List Literal) (m keep : ℕ) → IsKept own lists ends n trail → m ≤ length ends → ((p : ℕ) → p < m → get_or ends p 0 ≤ keep) → IsKept own lists (take m ends) n (take keep trail)
kept_cut own lists ends n trail m keep kept some small =
    let len : length (take m ends) ≡ m = length-take-le m ends some in
    let old : (p : ℕ) → p < m → get_or (take m ends) p 0 ≡ get_or ends p 0 = λ p h. get_or-take m ends p 0 h in
    record {
      distinct = kept.distinct;
      upto = kept.upto;
      covered = kept.covered;
      entries = kept.entries;
      watched = kept.watched;
      within = λ p h.
          let b : p < m = omega arith in
          let w = kept.within p (omega arith) in
          subst (λ e. (p < e) × (e ≤ length (take keep trail))) (sym (old p b)) (w.0, (let s = small p b in omega (arith, s, w.1, length-take keep trail)));
      rising = λ p q up h. (let r = kept.rising p q up (omega arith) in let op = old p (omega arith) in let oq = old q (omega arith) in omega (arith, r, op, oq));
      settled = λ j l p watch h is.
          let b : p < m = omega arith in
          let w = kept.within p (omega arith) in
          let s = small p b in
          let was : get_or trail p no_literal ≡ opposite l = sym (get_or-take keep trail p no_literal (omega (arith, s, w.0))) ∙ is in
          let front : take (get_or (take m ends) p 0) (take keep trail) ≡ take (get_or ends p 0) trail = ap (λ e. take e (take keep trail)) (old p b) ∙ take-take (get_or ends p 0) keep trail s in
          subst (λ ts. HasTrue ts (clause_at own j)) (sym front) (kept.settled j l p watch (omega arith) was);
    }

pub kept_back : (own : List Slot) (lists : List (List Entry)) (ends : List ℕ) (n : ℕ) (trail : List Literal) (m : ℕ) → IsKept own lists ends n trail → m ≤ length ends → IsKept own lists (take m ends) n trail
kept_back own lists ends n trail m kept some =
    subst (IsKept own lists (take m ends) n) (take_all (length trail) trail (omega arith)) (kept_cut own lists ends n trail m (length trail) kept some (λ p h. (kept.within p (omega arith)).1))

-- The steps of a visit.

pub length_blocker : (lists : List (List Entry)) (code at : ℕ) (e : Entry) → length (get_or (set lists code (set (get_or lists code []) at e)) code []) ≡ length (get_or lists code [])
length_blocker lists code at e =
    at_set [] (λ c es. c ≡ code → length es ≡ length (get_or lists code [])) lists code (set (get_or lists code []) at e) (λ c is. ap (λ (i : ℕ). length (get_or lists i [])) is) (λ _ _. length-set (get_or lists code []) at e) code refl

pub replaced : (own own_2 : List Slot) (lists lists_2 lists_3 : List (List Entry)) (ends : List ℕ) (n : ℕ) (trail : List Literal) (lit : Literal) (at slot place : ℕ) (s : Slot) (e : Entry) → IsLooking own lists ends n trail lit at → at < length (list_of lists lit) → (get_or (list_of lists lit) at no_entry).slot ≡ slot
    → get_or (clause_at own slot) 1 no_literal ≡ lit → IsFree (clause_at own slot) trail place → e.slot ≡ slot → IsEntry own n (code_of (get_or (clause_at own slot) place no_literal)) e → lists_2 ≡ with_entry lists (code_of (get_or (clause_at own slot) place no_literal)) e → s.lits ≡ swap (clause_at own slot) 1 place → IsPut own own_2 slot s → s.begins ≡ true
    → ((c : ℕ) → c ≢ code_of lit → get_or lists_3 c [] ≡ get_or lists_2 c []) → IsRemoved (list_of lists_2 lit) (list_of lists_3 lit) at → length lists_3 ≡ length lists_2 → IsLooking own_2 lists_3 ends n trail lit at × (length (list_of lists lit) ≡ length (list_of lists_3 lit) + 1)
replaced own own_2 lists lists_2 lists_3 ends n trail lit at slot place s e looking within entry second free slot_is valid is_2 s_is put begins others removed len =
    let l = get_or (clause_at own slot) place no_literal in
    let kept = looking.kept in
    let reached : code_of l < length lists = kept.covered slot l (Contains-get_or (clause_at own slot) place no_literal free.1) in
    let false_lit : Contains trail (opposite lit) = contains_at trail (length ends) (opposite lit) looking.more looking.here in
    let other : code_of lit ≢ code_of l = λ f. free.2 (subst (λ m. Contains trail (opposite m)) (code_same lit l f) false_lit) in
    let list_is : list_of lists_2 lit ≡ list_of lists lit = ap (λ ls. list_of ls lit) is_2 ∙ get_or-set_other lists (code_of l) (code_of lit) _ [] other in
    let one : IsLooking own lists_2 ends n trail lit at = subst (λ ls. IsLooking own ls ends n trail lit at) (sym is_2) (looking_entry own lists ends n trail lit at (code_of l) e looking valid) in
    let named : Names (list_of lists_2 l) 0 slot = subst (λ ls. Names (list_of ls l) 0 slot) (sym is_2) (subst (Names (list_of (with_entry lists (code_of l) e) l) 0) slot_is (named_here lists l e reached)) in
    let two = looking_moved own own_2 lists_2 ends n trail lit at slot place s put begins one s_is free second named in
    let at_in : at < length (list_of lists_2 lit) = subst (λ (es : List Entry). at < length es) (sym list_is) within in
    let entry_is : (get_or (list_of lists_2 lit) at no_entry).slot ≡ slot = ap (λ (es : List Entry). (get_or es at no_entry).slot) list_is ∙ entry in
    let less : length (list_of lists_3 lit) + 1 ≡ length (list_of lists_2 lit) = removed.len in (
      looking_removed own_2 lists_2 lists_3 ends n trail lit at slot two.0 at_in entry_is two.1 others removed len,
      ap length (sym list_is) ∙ sym less,
    )

-- entries whose blockers are true are passed over
pub looking_skip : (own : List Slot) (lists : List (List Entry)) (ends : List ℕ) (n : ℕ) (trail : List Literal) (lit : Literal) (at to : ℕ) → IsLooking own lists ends n trail lit at → ((k : ℕ) → at ≤ k → k < to → (k < length (list_of lists lit)) × Contains trail (get_or (list_of lists lit) k no_entry).blocker) → IsLooking own lists ends n trail lit to
looking_skip own lists ends n trail lit at to looking held =
    record {
      kept = looking.kept;
      more = looking.more;
      here = looking.here;
      due = λ j watch. elim (looking.due j watch) [
        | inl names ↦ elim (cases_lt names.0 to) [
          | inl below ↦
              let h = held names.0 names.1 below in
              let e = looking.kept.entries (code_of lit) names.0 h.0 in
              let blocker : Literal = (get_or (list_of lists lit) names.0 no_entry).blocker in
              let among = subst (λ i. 2 ≤ length (clause_at own i) → Contains (clause_at own i) blocker) names.3 (e.among blocker (inl refl)) in
              inr (blocker, among watch.0, h.1)
          | inr past ↦ inl (names.0, past, names.2, names.3)
        ]
        | inr t ↦ inr t
      ];
    }
