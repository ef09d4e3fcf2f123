-- Lines under new ids, after one was put and after some were removed.
use Rattle.std.specs.Prelude.{◌≡◌, ◌≢◌, ◌⊎◌, ℕ, ◌+◌, ◌<◌, ◌≤◌, Bool, true, false, cond, ◌||◌, nat_eq, nat_le, Option, Some, None, List, [], ◌∷◌, fold, refl}
use Rattle.std.proofs.Common.{sym, ◌∙◌, ap, inl, inr, arith}
use Rattle.std.specs.Cmp.{nat_cmp_total, unsigned_tied}
use Rattle.std.specs.Map.{lookup}
use Rattle.std.specs.FinMap.{get, insert, remove, get-insert, get-remove}
use Rattle.std.proofs.lemmas.Bool.{cases_order, cond-true, cond-false, eq-eqb, ne_eqb, leb-true}
use Rattle.pb_lin.specs.Constraint.{ConstraintValue}
use Rattle.pb_lin.specs.LineMap.{LineMap}
use Rattle.command_trim.specs.Trimmed.{Renaming, new_id, in_front, new_ids, is_in}
use Rattle.command_trim.specs.Simulation.{IsRenaming, Carries}

-- ---- maps

pub get_put : (lines : LineMap) (n i : ℕ) (c : ConstraintValue) → get (insert lines n c) i ≡ cond (nat_eq i n) (Some c) (get lines i)
get_put lines n i c = get-insert nat_cmp_total lines n c i ∙ ap (λ (b : Bool). cond b (Some c) (get lines i)) (unsigned_tied i n)

pub get_removed : (lines : LineMap) (n i : ℕ) → get (remove lines n) i ≡ cond (nat_eq i n) None (get lines i)
get_removed lines n i = get-remove nat_cmp_total lines n i ∙ ap (λ (b : Bool). cond b None (get lines i)) (unsigned_tied i n)

pub same_place : (lines : LineMap) (n i : ℕ) (c : ConstraintValue) → i ≡ n → get (insert lines n c) i ≡ Some c
same_place lines n i c is = get_put lines n i c ∙ cond-true (nat_eq i n) (Some c) (get lines i) (eq-eqb i n is)

pub other_place : (lines : LineMap) (n i : ℕ) (c : ConstraintValue) → i ≢ n → get (insert lines n c) i ≡ get lines i
other_place lines n i c apart = get_put lines n i c ∙ cond-false (nat_eq i n) (Some c) (get lines i) (ne_eqb i n apart)

-- ---- a renaming with one id more

abbrev pub with_id : Renaming → ℕ → ℕ → Renaming
with_id r n k = record { rows = r.rows; made = (n, k) ∷ r.made }

some_same : (a b : ℕ) → Some a ≡ Some b → a ≡ b
some_same a b is = cc

module _ (r : Renaming) (n k : ℕ) (is : IsRenaming r n k) where
  -- the new one
  pub here_id : new_id (with_id r n k) n ≡ Some k
  here_id =
      let above : r.rows < n = is.rows.0 in
      cond-false (nat_le n r.rows) (Some n) (lookup (nat_eq n) ((n, k) ∷ r.made)) (no_le n r.rows above)
      ∙ cond-true (nat_eq n n) (Some k) (lookup (nat_eq n) r.made) (eq-eqb n n refl)
    where
      by_test : (b : Bool) (x y : ℕ) → nat_le x y ≡ b → y < x → b ≡ false
      by_test false x y test above = refl
      by_test true x y test above = absurd (let le = leb-true x y test in omega arith)

      no_le : (x y : ℕ) → y < x → nat_le x y ≡ false
      no_le x y above = by_test (nat_le x y) x y refl above

  -- the others
  pub other_id : (id : ℕ) → id ≢ n → new_id (with_id r n k) id ≡ new_id r id
  other_id id apart = ap (λ (o : Option ℕ). cond (nat_le id r.rows) (Some id) o) (cond-false (nat_eq id n) (Some k) (lookup (nat_eq id) r.made) (ne_eqb id n apart))

  pub old_id : (id new : ℕ) → new_id r id ≡ Some new → new_id (with_id r n k) id ≡ Some new
  old_id id new there = other_id id (λ same. let low : id < n = is.old id new there in omega arith) ∙ there

  -- an id of the longer one is the new one, or was there
  pub id_cases : (id new : ℕ) → new_id (with_id r n k) id ≡ Some new → ((id ≡ n) × (new ≡ k)) ⊎ ((id ≢ n) × (new_id r id ≡ Some new))
  id_cases id new there = elim (cases_order id n) [
    | inl same ↦ inl (same, some_same new k (sym there ∙ ap (new_id (with_id r n k)) same ∙ here_id))
    | inr apart ↦ inr (differ apart, sym (other_id id (differ apart)) ∙ there)
  ]
    where
      differ : (id < n) ⊎ (n < id) → id ≢ n
      differ (inl less) same = omega arith
      differ (inr more) same = omega arith

  pub longer_renaming : IsRenaming (with_id r n k) (n + 1) (k + 1)
  longer_renaming = record {
    rows = let one = is.rows.0 in let two = is.rows.1 in (omega arith, omega arith);
    old = λ id new there. elim (id_cases id new there) [
      | inl same ↦ (let e = same.0 in omega arith)
      | inr old ↦ (let low = is.old id new old.1 in omega arith)
    ];
    new = λ id new there. elim (id_cases id new there) [
      | inl same ↦ (let e = same.1 in omega arith)
      | inr old ↦ (let low = is.new id new old.1 in omega arith)
    ];
    rising = λ i j a b at_i at_j less. elim (id_cases i a at_i) [
      | inl first ↦ elim (id_cases j b at_j) [
        | inl second ↦ absurd (let e = first.0 in let f = second.0 in omega arith)
        | inr second ↦ absurd (let e = first.0 in let low = is.old j b second.1 in omega arith)
      ]
      | inr first ↦ elim (id_cases j b at_j) [
        | inl second ↦ (let e = second.1 in let low = is.new i a first.1 in omega arith)
        | inr second ↦ is.rising i j a b first.1 second.1 less
      ]
    ];
  }

  -- a line that both have, each under its next id
  pub put_both : (old new : LineMap) (c : ConstraintValue) → Carries r old new → Carries (with_id r n k) (insert old n c) (insert new k c)
  put_both old new c carries = record {
    kept = λ id new_one there. elim (id_cases id new_one there) [
      | inl same ↦ same_place new k new_one c same.1 ∙ sym (same_place old n id c same.0)
      | inr before ↦ other_place new k new_one c (λ e. let low = is.new id new_one before.1 in omega arith) ∙ carries.kept id new_one before.1 ∙ sym (other_place old n id c before.0)
    ];
    known = λ new_one d there. elim (cases_order new_one k) [
      | inl same ↦ (n, here_id ∙ ap Some (sym same))
      | inr apart ↦ (let found = carries.known new_one d (sym (other_place new k new_one c (differ new_one apart)) ∙ there) in (found.0, old_id found.0 new_one found.1))
    ];
  }
    where
      differ : (x : ℕ) → (x < k) ⊎ (k < x) → x ≢ k
      differ x (inl less) same = omega arith
      differ x (inr more) same = omega arith

  -- a line that the old one alone has
  pub put_old : (old new : LineMap) (c : ConstraintValue) → Carries r old new → Carries r (insert old n c) new
  put_old old new c carries = record {
    kept = λ id new_one there. carries.kept id new_one there ∙ sym (other_place old n id c (λ e. let low = is.old id new_one there in omega arith));
    known = carries.known;
  }

  pub later_renaming : (m : ℕ) → n ≤ m → IsRenaming r m k
  later_renaming m more = record {
    rows = (let one = is.rows.0 in omega arith, is.rows.1);
    old = λ id new there. (let low = is.old id new there in omega arith);
    new = is.new;
    rising = is.rising;
  }

  -- two ids with one new one are one
  pub one_id : (i j a : ℕ) → new_id r i ≡ Some a → new_id r j ≡ Some a → i ≡ j
  one_id i j a at_i at_j = elim (cases_order i j) [
    | inl same ↦ same
    | inr apart ↦ elim apart [
      | inl less ↦ absurd (let h = is.rising i j a a at_i at_j less in omega arith)
      | inr more ↦ absurd (let h = is.rising j i a a at_j at_i more in omega arith)
    ]
  ]

-- ---- lines that are removed

pub get_left : (ids : List ℕ) (lines : LineMap) (i : ℕ) → get (fold remove lines ids) i ≡ cond (is_in i ids) None (get lines i)
get_left [] lines i = refl
get_left (id ∷ ids) lines i = get_left ids (remove lines id) i ∙ ap (λ (o : Option ConstraintValue). cond (is_in i ids) None o) (get_removed lines id i) ∙ by_tests (nat_eq i id) (is_in i ids)
  where
    by_tests : (a b : Bool) → cond b None (cond a None (get lines i)) ≡ cond (a || b) None (get lines i)
    by_tests true true = refl
    by_tests true false = refl
    by_tests false true = refl
    by_tests false false = refl

module _ (r : Renaming) (n k : ℕ) (is : IsRenaming r n k) (id new : ℕ) (there : new_id r id ≡ Some new) where
  apart_id : (j : ℕ) → new_id r j ≡ None → nat_eq id j ≡ false
  apart_id j none = ne_eqb id j (λ same. let both : Some new ≡ None = sym there ∙ ap (new_id r) same ∙ none in cc)

  same_test : (j b : ℕ) → new_id r j ≡ Some b → nat_eq new b ≡ nat_eq id j
  same_test j b at = elim (cases_order id j) [
    | inl same ↦ eq-eqb new b (some_same new b (sym there ∙ ap (new_id r) same ∙ at)) ∙ sym (eq-eqb id j same)
    | inr apart ↦ ne_eqb new b (λ e. differ apart (one_id r n k is id j b (there ∙ ap Some e) at)) ∙ sym (ne_eqb id j (differ apart))
  ]
    where
      differ : (id < j) ⊎ (j < id) → id ≢ j
      differ (inl less) same = omega arith
      differ (inr more) same = omega arith

  -- an id is among these exactly where its new one is among theirs
  pub in_new_ids : (ids : List ℕ) → is_in new (new_ids r ids) ≡ is_in id ids
  in_new_ids [] = refl
  in_new_ids (j ∷ ids) = by_new (new_id r j) refl (in_new_ids ids)
    where
      by_new : (o : Option ℕ) → new_id r j ≡ o → is_in new (new_ids r ids) ≡ is_in id ids → is_in new (in_front (new_id r j) (new_ids r ids)) ≡ (nat_eq id j || is_in id ids)
      by_new None at rest =
          ap (λ (o : Option ℕ). is_in new (in_front o (new_ids r ids))) at ∙ rest ∙ sym (ap (λ (b : Bool). b || is_in id ids) (apart_id j at))
      by_new (Some b) at rest =
          ap (λ (o : Option ℕ). is_in new (in_front o (new_ids r ids))) at ∙ ap (λ (c : Bool). c || is_in new (new_ids r ids)) (same_test j b at) ∙ ap (λ (c : Bool). nat_eq id j || c) rest

-- lines that both remove
pub remove_both : (r : Renaming) (n k : ℕ) (old new : LineMap) (ids : List ℕ) → IsRenaming r n k → Carries r old new → Carries r (fold remove old ids) (fold remove new (new_ids r ids))
remove_both r n k old new ids is carries = record {
  kept = λ id new_one there.
      get_left (new_ids r ids) new new_one
      ∙ ap (λ (b : Bool). cond b None (get new new_one)) (in_new_ids r n k is id new_one there ids)
      ∙ ap (λ (o : Option ConstraintValue). cond (is_in id ids) None o) (carries.kept id new_one there)
      ∙ sym (get_left ids old id);
  known = λ new_one c there. carries.known new_one c (was_there (is_in new_one (new_ids r ids)) (get new new_one) c (sym (get_left (new_ids r ids) new new_one) ∙ there));
}
  where
    was_there : (b : Bool) (o : Option ConstraintValue) (c : ConstraintValue) → cond b None o ≡ Some c → o ≡ Some c
    was_there true o c found = cc
    was_there false o c found = found

-- lines that the old one alone removes
pub remove_old : (r : Renaming) (old new : LineMap) (ids : List ℕ) → ((id new_one : ℕ) → new_id r id ≡ Some new_one → is_in id ids ≡ false) → Carries r old new → Carries r (fold remove old ids) new
remove_old r old new ids none carries = record {
  kept = λ id new_one there. carries.kept id new_one there ∙ sym (get_left ids old id ∙ cond-false (is_in id ids) None (get old id) (none id new_one there));
  known = carries.known;
}
