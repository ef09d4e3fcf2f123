-- A pair more: what a front holds stands for the minimal vectors of all pairs that were inserted.
use Rattle.std.proofs.Common.{◌≡◌, ◌⊎◌, inl, inr, Bool, true, false, not, List, [], ◌∷◌, ◌++◌, get_or, refl, sym, subst, ◌∙◌, ℤ, arith}
use Rattle.std.specs.List.{All, Contains}
use Rattle.std.proofs.lemmas.Bool.{not-true, not_from_false, false≢true}
use Rattle.std.proofs.lemmas.List.{map-append}
use Rattle.std.proofs.lemmas.List.Elements.{All-nil, All-contains, All-filter, All-push, All-weaker, All-get_or, filter_passes, Contains-append_left, Contains-push, Contains-push_cases}
use Rattle.std.proofs.lemmas.List.Kept.{AllPairs-filter}
use Rattle.std.proofs.lemmas.List.Quantifiers.{all_pairs_push}
use Rattle.front_set.specs.declared.entry.Entry.{Entry}
use Rattle.front_set.specs.Vector.{is_below, IsBelow}
use Rattle.front_set.specs.Front.{vectors_of, AreIncomparable, IsMinimalOf, StandsFor, IsInserted, not_above}
use Rattle.front_set.specs.declared.set.Inserted.{Inserted}
use Rattle.front_set.specs.declared.set.Inserted.TheVariants.{Covered, Added}
use Rattle.front_set.proofs.FrontLaws.{IsBelow-refl, IsBelow-trans, IsBelow-antisym}
use Rattle.scut_base.proofs.Lists.{Contains-nil, Contains-head, Contains-cons, Contains-cons_cases, Contains-from_map, Contains-map, Contains-from_filter, Contains-filter, passes_from_place, fails_from_no_place}

-- a vector of the list, or u itself, that is below u, and below each vector of the list that is below it
record IsLowest (us : List (List ℤ)) (u c : List ℤ) : Type 0 where
  below : IsBelow c u
  among : (c ≡ u) ⊎ Contains us c
  least : (x : List ℤ) → Contains us x → IsBelow x c → IsBelow c x

lowest : (us : List (List ℤ)) (u : List ℤ) → (c : List ℤ) × IsLowest us u c
lowest [] u = (u, record { below = IsBelow-refl u; among = inl refl; least = λ x in' b. absurd (Contains-nil x in') })
lowest (y ∷ us) u = by (is_below y u) refl (lowest us y) (lowest us u)
  where
    by : (b : Bool) → is_below y u ≡ b → ((c : List ℤ) × IsLowest us y c) → ((c : List ℤ) × IsLowest us u c) → (c : List ℤ) × IsLowest (y ∷ us) u c
    by true e (c, under_y) under_u = (
      c,
      record {
        below = IsBelow-trans c y u under_y.below e;
        among = elim under_y.among [
          | inl same ↦ inr (subst (λ (z : List ℤ). Contains (y ∷ us) z) (sym same) (Contains-head y us))
          | inr later ↦ inr (Contains-cons y c us later)
        ];
        least = λ x in' b. elim (Contains-cons_cases y x us in') [
          | inl same ↦ subst (λ (z : List ℤ). IsBelow c z) same under_y.below
          | inr later ↦ under_y.least x later b
        ];
      },
    )
    by false e under_y (c, under_u) = (
      c,
      record {
        below = under_u.below;
        among = elim under_u.among [
          | inl same ↦ inl same
          | inr later ↦ inr (Contains-cons y c us later)
        ];
        least = λ x in' b. elim (Contains-cons_cases y x us in') [
          | inl same ↦ (let reached : is_below y u ≡ true = IsBelow-trans y c u (subst (λ (z : List ℤ). IsBelow z c) (sym same) b) under_u.below in cc)
          | inr later ↦ under_u.least x later b
        ];
      },
    )

-- each pair has a minimal vector that is below its own
pub minimal_below : (pairs : List Entry) (u : List ℤ) → Contains (vectors_of pairs) u → (c : List ℤ) × IsMinimalOf pairs c × IsBelow c u
minimal_below pairs u has = (let found = lowest (vectors_of pairs) u in let c = found.0 in let low = found.1 in (
  c,
  record {
    among = elim low.among [
      | inl same ↦ subst (λ (z : List ℤ). Contains (vectors_of pairs) z) (sym same) has
      | inr there ↦ there
    ];
    least = λ x in' strictly. strictly.1 (IsBelow-antisym x c strictly.0 (low.least x in' strictly.0));
  },
  low.below,
))

-- the vectors of the pairs, and of one more
more_vectors : (pairs : List Entry) (p : Entry) → vectors_of (pairs ++ p ∷ []) ≡ vectors_of pairs ++ p.costs ∷ []
more_vectors pairs p = map-append (λ e. e.costs) pairs (p ∷ [])

old_vector : (pairs : List Entry) (p : Entry) (u : List ℤ) → Contains (vectors_of pairs) u → Contains (vectors_of (pairs ++ p ∷ [])) u
old_vector pairs p u has = rw more_vectors (Contains-append_left (vectors_of pairs) (p.costs ∷ []) u has)

new_vector : (pairs : List Entry) (p : Entry) → Contains (vectors_of (pairs ++ p ∷ [])) p.costs
new_vector pairs p = rw more_vectors (Contains-push (vectors_of pairs) p.costs)

vector_cases : (pairs : List Entry) (p : Entry) (u : List ℤ) → Contains (vectors_of (pairs ++ p ∷ [])) u → Contains (vectors_of pairs) u ⊎ (p.costs ≡ u)
vector_cases pairs p u has = Contains-push_cases (vectors_of pairs) p.costs u (rw more_vectors at has)

-- what is minimal among more pairs is minimal among those where it stands
still_minimal : (pairs : List Entry) (p : Entry) (v : List ℤ) → Contains (vectors_of pairs) v → IsMinimalOf (pairs ++ p ∷ []) v → IsMinimalOf pairs v
still_minimal pairs p v has minimal = record { among = has; least = λ u in' strictly. minimal.least u (old_vector pairs p u in') strictly }

-- the empty front stands for no pairs
pub stands_for_none : StandsFor [] []
stands_for_none = record {
  minimal = λ v. (λ has. absurd (Contains-nil v has), λ minimal. minimal.among);
  once = λ i j d less in'. absurd (omega arith);
  inserted = All-nil _;
}

-- each vector of the front is that of a pair
vector_of_pair : (entries pairs : List Entry) → StandsFor entries pairs → (e : Entry) → Contains entries e → Contains (vectors_of pairs) e.costs
vector_of_pair entries pairs stands e has = ((stands.minimal e.costs).0 (Contains-map (λ (f : Entry). f.costs) entries e has)).among

all_inserted : (entries pairs : List Entry) (p : Entry) → StandsFor entries pairs → All (Contains (pairs ++ p ∷ [])) entries
all_inserted entries pairs p stands = All-weaker (Contains pairs) (Contains (pairs ++ p ∷ [])) (λ e has. Contains-append_left pairs (p ∷ []) e has) entries stands.inserted

-- a pair whose vector an entry is below changes nothing
pub stands_for_covered : (entries pairs : List Entry) (p e : Entry) → Contains entries e → IsBelow e.costs p.costs → StandsFor entries pairs → StandsFor entries (pairs ++ p ∷ [])
stands_for_covered entries pairs p e in' covers stands = record {
  minimal = λ v. (is_minimal v, is_held v);
  once = stands.once;
  inserted = all_inserted entries pairs p stands;
}
  where
    is_minimal : (v : List ℤ) → Contains (vectors_of entries) v → IsMinimalOf (pairs ++ p ∷ []) v
    is_minimal v has =
        let minimal = (stands.minimal v).0 has in
        record {
          among = old_vector pairs p v minimal.among;
          least = λ u among strictly. elim (vector_cases pairs p u among) [
            | inl old ↦ minimal.least u old strictly
            | inr same ↦ (
                let under : IsBelow p.costs v = subst (λ (z : List ℤ). IsBelow z v) (sym same) strictly.0 in
                minimal.least e.costs (vector_of_pair entries pairs stands e in') (IsBelow-trans e.costs p.costs v covers under, λ is. strictly.1 (sym same ∙ IsBelow-antisym p.costs v under (subst (λ (z : List ℤ). IsBelow z p.costs) is covers))))
          ];
        }

    equal : (v : List ℤ) → IsBelow e.costs v → IsMinimalOf (pairs ++ p ∷ []) v → (b : Bool) → is_below v e.costs ≡ b → e.costs ≡ v
    equal v under minimal true is = IsBelow-antisym e.costs v under is
    equal v under minimal false is = absurd (minimal.least e.costs (old_vector pairs p e.costs (vector_of_pair entries pairs stands e in')) (under, λ same. (let above : is_below v e.costs ≡ true = subst (λ (z : List ℤ). IsBelow z e.costs) same (IsBelow-refl e.costs) in cc)))

    is_held : (v : List ℤ) → IsMinimalOf (pairs ++ p ∷ []) v → Contains (vectors_of entries) v
    is_held v minimal = elim (vector_cases pairs p v minimal.among) [
      | inl old ↦ (stands.minimal v).1 (still_minimal pairs p v old minimal)
      | inr same ↦ (
          let under : IsBelow e.costs v = subst (λ (z : List ℤ). IsBelow e.costs z) same covers in
          let is : e.costs ≡ v = equal v under minimal (is_below v e.costs) refl in
          subst (λ (z : List ℤ). Contains (vectors_of entries) z) is (Contains-map (λ (f : Entry). f.costs) entries e in'))
    ]

-- a pair that no entry is below takes the place of the entries that it is below
kept_vectors : (v : List ℤ) (entries : List Entry) (e : Entry) → Contains (not_above v entries) e → Contains entries e × (is_below v e.costs ≡ false)
kept_vectors v entries e has =
    let old = Contains-from_filter (λ (f : Entry). not (is_below v f.costs)) entries e has in
    (old.0, not-true (is_below v e.costs) old.1)

pub incomparable_more : (entries : List Entry) (p : Entry) → All (λ e. is_below e.costs p.costs ≡ false) entries → AreIncomparable entries → AreIncomparable (not_above p.costs entries ++ p ∷ [])
incomparable_more entries p none once =
    all_pairs_push (λ (e f : Entry). (IsBelow e.costs f.costs → ⊥) × (IsBelow f.costs e.costs → ⊥)) (not_above p.costs entries) p
    (AllPairs-filter (λ (e f : Entry). (IsBelow e.costs f.costs → ⊥) × (IsBelow f.costs e.costs → ⊥)) (λ e. not (is_below p.costs e.costs)) entries once)
    (λ k d below. (
    let out = All-get_or (λ (e : Entry). is_below e.costs p.costs ≡ false) (not_above p.costs entries) k d below (All-filter (λ (e : Entry). not (is_below p.costs e.costs)) (λ (e : Entry). is_below e.costs p.costs ≡ false) entries none) in
    let pass = All-get_or (λ (e : Entry). not (is_below p.costs e.costs) ≡ true) (not_above p.costs entries) k d below (filter_passes (λ (e : Entry). not (is_below p.costs e.costs)) entries) in
    (λ b. false≢true (sym out ∙ b), λ b. false≢true (sym (not-true (is_below p.costs (get_or (not_above p.costs entries) k d).costs) pass) ∙ b))))

pub stands_for_added : (entries pairs : List Entry) (p : Entry) → All (λ e. is_below e.costs p.costs ≡ false) entries → StandsFor entries pairs → StandsFor (not_above p.costs entries ++ p ∷ []) (pairs ++ p ∷ [])
stands_for_added entries pairs p none stands = record {
  minimal = λ v. (is_minimal v, is_held v);
  once = incomparable_more entries p none stands.once;
  inserted = All-push (Contains (pairs ++ p ∷ [])) (not_above p.costs entries) p (All-filter (λ e. not (is_below p.costs e.costs)) (Contains (pairs ++ p ∷ [])) entries (all_inserted entries pairs p stands)) (Contains-push pairs p);
}
  where
    not_under : (e : Entry) → Contains entries e → IsBelow e.costs p.costs → ⊥
    not_under e in' b = false≢true (sym (All-contains (λ (f : Entry). is_below f.costs p.costs ≡ false) entries e none in') ∙ b)

    -- no minimal vector of the pairs is below the new one
    none_minimal : (c : List ℤ) → IsMinimalOf pairs c → IsBelow c p.costs → ⊥
    none_minimal c minimal b =
        let found = Contains-from_map (λ (f : Entry). f.costs) entries c ((stands.minimal c).1 minimal) in
        not_under found.0 found.1 (subst (λ (z : List ℤ). IsBelow z p.costs) (sym found.2) b)

    none_below : (u : List ℤ) → Contains (vectors_of pairs) u → IsBelow u p.costs → ⊥
    none_below u has b =
        let low = minimal_below pairs u has in
        none_minimal low.0 low.1 (IsBelow-trans low.0 u p.costs low.2 b)

    kept_is_minimal : (e : Entry) → Contains entries e → is_below p.costs e.costs ≡ false → IsMinimalOf (pairs ++ p ∷ []) e.costs
    kept_is_minimal e in' above =
        let minimal = (stands.minimal e.costs).0 (Contains-map (λ (f : Entry). f.costs) entries e in') in
        record {
          among = old_vector pairs p e.costs minimal.among;
          least = λ u among strictly. elim (vector_cases pairs p u among) [
            | inl old ↦ minimal.least u old strictly
            | inr same ↦ false≢true (sym above ∙ subst (λ (z : List ℤ). IsBelow z e.costs) (sym same) strictly.0)
          ];
        }

    new_is_minimal : IsMinimalOf (pairs ++ p ∷ []) p.costs
    new_is_minimal = record {
      among = new_vector pairs p;
      least = λ u among strictly. elim (vector_cases pairs p u among) [
        | inl old ↦ none_below u old strictly.0
        | inr same ↦ strictly.1 (sym same)
      ];
    }

    is_minimal : (v : List ℤ) → Contains (vectors_of (not_above p.costs entries ++ p ∷ [])) v → IsMinimalOf (pairs ++ p ∷ []) v
    is_minimal v has = elim (vector_cases (not_above p.costs entries) p v has) [
      | inl old ↦ (
          let found = Contains-from_map (λ (f : Entry). f.costs) (not_above p.costs entries) v old in
          let kept = kept_vectors p.costs entries found.0 found.1 in
          subst (λ (z : List ℤ). IsMinimalOf (pairs ++ p ∷ []) z) found.2 (kept_is_minimal found.0 kept.0 kept.1))
      | inr same ↦ subst (λ (z : List ℤ). IsMinimalOf (pairs ++ p ∷ []) z) same new_is_minimal
    ]

    not_over : (e : Entry) → Contains entries e → IsMinimalOf (pairs ++ p ∷ []) e.costs → (b : Bool) → is_below p.costs e.costs ≡ b → b ≡ false
    not_over e in' minimal true is = absurd (minimal.least p.costs (new_vector pairs p) (is, λ same. not_under e in' (subst (λ (z : List ℤ). IsBelow z p.costs) same (IsBelow-refl p.costs))))
    not_over e in' minimal false is = refl

    is_held : (v : List ℤ) → IsMinimalOf (pairs ++ p ∷ []) v → Contains (vectors_of (not_above p.costs entries ++ p ∷ [])) v
    is_held v minimal = elim (vector_cases pairs p v minimal.among) [
      | inl old ↦ (
          let found = Contains-from_map (λ (f : Entry). f.costs) entries v ((stands.minimal v).1 (still_minimal pairs p v old minimal)) in
          let above : is_below p.costs found.0.costs ≡ false = not_over found.0 found.1 (subst (λ (z : List ℤ). IsMinimalOf (pairs ++ p ∷ []) z) (sym found.2) minimal) (is_below p.costs found.0.costs) refl in
          let kept = Contains-filter (λ (f : Entry). not (is_below p.costs f.costs)) entries found.0 found.1 (not_from_false (is_below p.costs found.0.costs) above) in
          subst (λ (z : List ℤ). Contains (vectors_of (not_above p.costs entries ++ p ∷ [])) z) found.2 (old_vector (not_above p.costs entries) p found.0.costs (Contains-map (λ (f : Entry). f.costs) (not_above p.costs entries) found.0 kept)))
      | inr same ↦ subst (λ (z : List ℤ). Contains (vectors_of (not_above p.costs entries ++ p ∷ [])) z) same (new_vector (not_above p.costs entries) p)
    ]

-- after an insertion the entries stand for one pair more
pub stands_for_more : (old new pairs : List Entry) (p : Entry) (done : Inserted) → IsInserted old new p done → StandsFor old pairs → StandsFor new (pairs ++ p ∷ [])
stands_for_more old new pairs p (Covered by) is stands =
    let found = passes_from_place (λ (e : Entry). is_below e.costs p.costs) 0 by old is.0 in
    subst (λ (es : List Entry). StandsFor es (pairs ++ p ∷ [])) (sym is.1) (stands_for_covered old pairs p found.0 found.1 found.2 stands)
stands_for_more old new pairs p (Added removed) is stands =
    subst (λ (es : List Entry). StandsFor es (pairs ++ p ∷ [])) (sym is.1) (stands_for_added old pairs p (fails_from_no_place (λ (e : Entry). is_below e.costs p.costs) 0 old is.0) stands)
