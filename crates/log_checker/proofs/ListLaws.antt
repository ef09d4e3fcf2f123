-- Where a list goes wrong: at one entry alone, for one reason, and nowhere where it is right.
use Rattle.std.proofs.Common.{◌≡◌, ◌⊎◌, inl, inr, ℕ, zero, suc, ◌+◌, ◌<◌, ◌^◌, true, false, List, [], ◌∷◌, ◌++◌, length, get_or, refl, sym, subst, ap, ◌∙◌, ⊎_elim, arith, append_assoc, length-append}
use Rattle.std.specs.Prelude.{Contains}
use Rattle.std.proofs.lemmas.Bool.{false≢true}
use Rattle.std.proofs.lemmas.List.{get_or_append_left, get_or-append-add}
use Rattle.std.proofs.lemmas.List.Elements.{All-contains, Contains-append_right}
use Rattle.front_set.specs.declared.entry.Entry.{Entry}
use Rattle.front_set.specs.Vector.{AreRising}
use Rattle.front_set.specs.Front.{vectors_of}
use Rattle.front_text.specs.Spelling.{Spells, IsSyntaxAt}
use Rattle.front_text.proofs.Texts.{one_list_of, right_everywhere, one_fault_of}
use Rattle.instance.specs.Shape.{InstanceValue}
use Rattle.log_checker.specs.Accepted.{IsRightModel, IsRightList, AreIncomparable}
use Rattle.log_checker.specs.ListFaults.{ComesAfter, IsEntryFault, IsWrongAfter, IsListFault}
use Rattle.log_checker.specs.declared.fault.ListWhy.{ListWhy}
use Rattle.log_checker.specs.declared.fault.ListWhy.TheVariants.{Syntax, NotModel, Costs, Order, Comparable, NotComplete}

-- ---- right entries

rising_front : (xs ys : List Entry) → AreRising (vectors_of (xs ++ ys)) → AreRising (vectors_of xs)
rising_front [] ys rising = tt
rising_front (x ∷ []) ys rising = tt
rising_front (x ∷ y ∷ xs) ys rising = (rising.0, rising_front (y ∷ xs) ys rising.1)

-- nothing is wrong with an entry of a right list
right_entry : (i : InstanceValue) (before : List Entry) (e : Entry) (after : List Entry) (why : ListWhy) → IsRightList i (before ++ e ∷ after) → IsEntryFault i before e why → ⊥
right_entry i before e after why right = by why
  where
    own : IsRightModel i e
    own = All-contains (IsRightModel i) (before ++ e ∷ after) e right.models (Contains-append_right before (e ∷ after) e (0, omega arith, refl))

    follows : ComesAfter before e
    follows = rising_front (before ++ e ∷ []) after (subst (λ (es : List Entry). AreRising (vectors_of es)) (sym (append_assoc before (e ∷ []) after)) right.rising)

    apart : (f : Entry) → Contains before f → AreIncomparable i f.costs e.costs
    apart f there =
        let first : get_or (before ++ e ∷ after) there.0 f ≡ f = get_or_append_left before (e ∷ after) f there.0 there.1 ∙ there.2 in
        let place : length before + 0 ≡ length before = omega arith in
        let second : get_or (before ++ e ∷ after) (length before) f ≡ e = ap (λ (n : ℕ). get_or (before ++ e ∷ after) n f) (sym place) ∙ get_or-append-add before (e ∷ after) 0 f in
        let pair = right.incomparable there.0 (length before) f there.1 (omega (arith, length-append before (e ∷ after))) in
        subst (λ (g : Entry). AreIncomparable i g.costs e.costs) first (subst (λ (g : Entry). AreIncomparable i (get_or (before ++ e ∷ after) there.0 f).costs g.costs) second pair)

    by : (w : ListWhy) → IsEntryFault i before e w → ⊥
    by Syntax h = h
    by NotModel h = h own.model
    by Costs h = h.1 own.costs
    by Order h = h.1 follows
    by Comparable h = h.2.2 (apart h.2.0 h.2.1)
    by NotComplete h = h

one_entry_fault : (i : InstanceValue) (before : List Entry) (e : Entry) (why other : ListWhy) → IsEntryFault i before e why → IsEntryFault i before e other → why ≡ other
one_entry_fault i before e Syntax other a b = absurd a
one_entry_fault i before e NotComplete other a b = absurd a
one_entry_fault i before e why Syntax a b = absurd b
one_entry_fault i before e why NotComplete a b = absurd b
one_entry_fault i before e NotModel NotModel a b = refl
one_entry_fault i before e NotModel Costs a b = absurd (a b.0)
one_entry_fault i before e NotModel Order a b = absurd (a b.0.model)
one_entry_fault i before e NotModel Comparable a b = absurd (a b.0.model)
one_entry_fault i before e Costs NotModel a b = absurd (b a.0)
one_entry_fault i before e Costs Costs a b = refl
one_entry_fault i before e Costs Order a b = absurd (a.1 b.0.costs)
one_entry_fault i before e Costs Comparable a b = absurd (a.1 b.0.costs)
one_entry_fault i before e Order NotModel a b = absurd (b a.0.model)
one_entry_fault i before e Order Costs a b = absurd (b.1 a.0.costs)
one_entry_fault i before e Order Order a b = refl
one_entry_fault i before e Order Comparable a b = absurd (a.1 b.1)
one_entry_fault i before e Comparable NotModel a b = absurd (b a.0.model)
one_entry_fault i before e Comparable Costs a b = absurd (b.1 a.0.costs)
one_entry_fault i before e Comparable Order a b = absurd (b.1 a.1)
one_entry_fault i before e Comparable Comparable a b = refl

-- ---- two places in one list

abbrev Places : List Entry → List Entry → Entry → Entry → Type 0
Places xs ys x y = ((xs ≡ ys) × (x ≡ y)) ⊎ (((rest : List Entry) × (ys ≡ xs ++ x ∷ rest)) ⊎ ((rest : List Entry) × (xs ≡ ys ++ y ∷ rest)))

places : (xs ys : List Entry) (x y : Entry) (r s : List Entry) → xs ++ x ∷ r ≡ ys ++ y ∷ s → Places xs ys x y
places [] [] x y r s e = inl (refl, cc)
places [] (z ∷ ys) x y r s e = let same : z ≡ x = cc in inr (inl (ys, ap (λ (u : Entry). u ∷ ys) same))
places (z ∷ xs) [] x y r s e = let same : z ≡ y = cc in inr (inr (xs, ap (λ (u : Entry). u ∷ xs) same))
places (z ∷ xs) (w ∷ ys) x y r s e =
    let same : z ≡ w = cc in
    let rest : xs ++ x ∷ r ≡ ys ++ y ∷ s = cc in
    ⊎_elim
    (λ (h : (xs ≡ ys) × (x ≡ y)). inl (subst (λ (u : Entry). z ∷ xs ≡ u ∷ ys) same (ap (λ (us : List Entry). z ∷ us) h.0), h.1))
    (λ (o : ((rest : List Entry) × (ys ≡ xs ++ x ∷ rest)) ⊎ ((rest : List Entry) × (xs ≡ ys ++ y ∷ rest))). inr (⊎_elim
    (λ (h : (rest : List Entry) × (ys ≡ xs ++ x ∷ rest)). inl (h.0, subst (λ (u : Entry). w ∷ ys ≡ u ∷ (xs ++ x ∷ h.0)) (sym same) (ap (λ (us : List Entry). w ∷ us) h.1)))
    (λ (h : (rest : List Entry) × (xs ≡ ys ++ y ∷ rest)). inr (h.0, subst (λ (u : Entry). z ∷ xs ≡ u ∷ (ys ++ y ∷ h.0)) same (ap (λ (us : List Entry). z ∷ us) h.1)))
    o))
    (places xs ys x y r s rest)

module _ (i : InstanceValue) (list : List ℕ) (short : length list < 2 ^ 64) where
  record Wrong (k : ℕ) (why : ListWhy) : Type 0 where
    place : ℕ
    number : k ≡ suc place
    after : IsWrongAfter i list place why

  abbrev Seen : ℕ → ListWhy → Type 0
  Seen k why = ((why ≡ Syntax) × IsSyntaxAt list k) ⊎ (((why ≡ NotComplete) × (k ≡ 0) × (entries : List Entry) × Spells list false entries) ⊎ Wrong k why)

  seen : (k : ℕ) (why : ListWhy) → IsListFault i list k why → Seen k why
  seen k Syntax h = inl (refl, h)
  seen k NotComplete h = inr (inl (refl, h.0, h.1, h.2))
  seen zero why h = absurd h
  seen (suc k) why h = inr (inr (record { place = k; number = refl; after = h }))

  wrong_same : (k j : ℕ) (why other : ListWhy) → Wrong k why → Wrong j other → (k ≡ j) × (why ≡ other)
  wrong_same k j why other a b =
      let all = (one_list_of list true true _ _ short a.after.spelled b.after.spelled).1 in
      ⊎_elim
      (λ (h : (a.after.before ≡ b.after.before) × (a.after.entry ≡ b.after.entry)).
      let moved : IsEntryFault i a.after.before a.after.entry other = subst (λ (es : List Entry). IsEntryFault i es a.after.entry other) (sym h.0) (subst (λ (e : Entry). IsEntryFault i b.after.before e other) (sym h.1) b.after.wrong) in
      (omega (arith, a.number, b.number, a.after.place, b.after.place, ap length h.0), one_entry_fault i a.after.before a.after.entry why other a.after.wrong moved))
      (λ (o : ((rest : List Entry) × (b.after.before ≡ a.after.before ++ a.after.entry ∷ rest)) ⊎ ((rest : List Entry) × (a.after.before ≡ b.after.before ++ b.after.entry ∷ rest))). absurd (⊎_elim
      (λ (h : (rest : List Entry) × (b.after.before ≡ a.after.before ++ a.after.entry ∷ rest)). right_entry i a.after.before a.after.entry h.0 why (subst (IsRightList i) h.1 b.after.right) a.after.wrong)
      (λ (h : (rest : List Entry) × (a.after.before ≡ b.after.before ++ b.after.entry ∷ rest)). right_entry i b.after.before b.after.entry h.0 other (subst (IsRightList i) h.1 a.after.right) b.after.wrong)
      o))
      (places a.after.before b.after.before a.after.entry b.after.entry a.after.after b.after.after all)

  not_both : (entries others : List Entry) → Spells list true entries → Spells list false others → ⊥
  not_both entries others a b = false≢true (sym (one_list_of list true false entries others short a b).0)

  seen_same : (k j : ℕ) (why other : ListWhy) → Seen k why → Seen j other → (k ≡ j) × (why ≡ other)
  seen_same k j why other (inl a) (inl b) = (one_fault_of list k j short a.1 b.1, a.0 ∙ sym b.0)
  seen_same k j why other (inl a) (inr (inl b)) = absurd (right_everywhere list false b.2 k short b.3 a.1)
  seen_same k j why other (inl a) (inr (inr b)) = absurd (right_everywhere list true _ k short b.after.spelled a.1)
  seen_same k j why other (inr (inl a)) (inl b) = absurd (right_everywhere list false a.2 j short a.3 b.1)
  seen_same k j why other (inr (inl a)) (inr (inl b)) = (a.1 ∙ sym b.1, a.0 ∙ sym b.0)
  seen_same k j why other (inr (inl a)) (inr (inr b)) = absurd (not_both _ a.2 b.after.spelled a.3)
  seen_same k j why other (inr (inr a)) (inl b) = absurd (right_everywhere list true _ j short a.after.spelled b.1)
  seen_same k j why other (inr (inr a)) (inr (inl b)) = absurd (not_both _ b.2 a.after.spelled b.3)
  seen_same k j why other (inr (inr a)) (inr (inr b)) = wrong_same k j why other a b

  pub list_faults_same : (k j : ℕ) (why other : ListWhy) → IsListFault i list k why → IsListFault i list j other → (k ≡ j) × (why ≡ other)
  list_faults_same k j why other a b = seen_same k j why other (seen k why a) (seen j other b)

  pub right_has_no_fault : (entries : List Entry) (k : ℕ) (why : ListWhy) → Spells list true entries → IsRightList i entries → IsListFault i list k why → ⊥
  right_has_no_fault entries k why spelled right fault = by (seen k why fault)
    where
      by : Seen k why → ⊥
      by (inl a) = right_everywhere list true entries k short spelled a.1
      by (inr (inl a)) = not_both entries a.2 spelled a.3
      by (inr (inr a)) = right_entry i a.after.before a.after.entry a.after.after why (subst (IsRightList i) (one_list_of list true true entries _ short spelled a.after.spelled).1 right) a.after.wrong
