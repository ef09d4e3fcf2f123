-- Which entries of a list are comparable, and with which ones a further entry has to be compared.
use Rattle.std.proofs.Common.{◌≡◌, ◌⊎◌, ◌↔◌, inl, inr, ℕ, zero, suc, ◌+◌, ◌-◌, ◌<◌, ◌≤◌, Bool, true, false, not, ◌&&◌, ◌||◌, List, [], ◌∷◌, ◌++◌, length, get_or, take, drop, refl, if◌then◌else◌, add-one, sym, subst, ap, ◌∙◌, ⊎_elim, ℤ, arith, rules}
use Rattle.std.specs.Prelude.{IsTrue, nat_le, int_lt, ◌<ℤ◌, ◌≤ℤ◌}
use Rattle.std.specs.Ordering.{int_cmp, ordering_then, is_lt}
use Rattle.std.specs.declared.cmp.Ordering.{Ordering}
use Rattle.std.specs.declared.cmp.Ordering.TheVariants.{Less, Equal, Greater}
use Rattle.std.proofs.lemmas.Bool.{cases_eq, false≢true}
use Rattle.std.proofs.lemmas.Bool.Decides.{nat_tests}
use Rattle.std.proofs.lemmas.Cmp.{int_ranked}
use Rattle.std.proofs.lemmas.Int.{ints, by_lt_z}
use Rattle.std.proofs.lemmas.List.{get_or-drop, length-drop, length-map, drop_more, get_or-map, get_or_default, take-append-drop, take_more, length-take-le}
use Rattle.std.proofs.lemmas.List.Elements.{All-push}
use Rattle.std.proofs.lemmas.List.Folds.{Any-from_list_any, list_any_at}
use Rattle.std.proofs.lemmas.List.Quantifiers.{all_pairs_push}
use Rattle.front_set.specs.declared.entry.Entry.{Entry}
use Rattle.front_set.specs.Vector.{is_below, vector_cmp, AreRising}
use Rattle.front_set.specs.Front.{vectors_of}
use Rattle.front_set.proofs.FrontLaws.{vector_cmp_total}
use Rattle.instance.specs.declared.objective.Objective.{Objective}
use Rattle.instance.specs.declared.objective.Sense.{Sense}
use Rattle.instance.specs.declared.objective.Sense.TheVariants.{Min, Max}
use Rattle.instance.specs.Shape.{InstanceValue}
use Rattle.front_text.specs.Spelling.{Spells}
use Rattle.instance.specs.ParetoFront.{AreProblemVectors, IsProblemVector, is_as_good, weakly_dominates, problem_number}
use Rattle.instance.proofs.Dominance.{weakly_dominates-is_below}
use Rattle.log_checker.specs.Accepted.{IsRightModel, IsRightList, AreIncomparable}
use Rattle.log_checker.specs.ListFaults.{ComesAfter, HasComparable, IsEntryFault, IsWrongAt, IsListFault}
use Rattle.log_checker.specs.ListJudging.{are_comparable, any_comparable, compared_from, IsApartFrom, IsFirstWrong}
use Rattle.log_checker.specs.declared.fault.ListWhy.{ListWhy}
use Rattle.log_checker.specs.declared.fault.ListWhy.TheVariants.{Syntax, NotModel, Costs, Order, Comparable, NotComplete}
use Rattle.log_checker.proofs.AcceptedFront.{costs_have_numbers}

-- ---- weak dominance, number by number

and_false : (b r : Bool) → false ≡ r → false ≡ (b && r)
and_false true r e = e
and_false false r e = refl

pub unequal_lengths : (os : List Objective) (u v : List ℤ) → ((length u ≡ length os) × (length v ≡ length os) → ⊥) → false ≡ weakly_dominates os u v
unequal_lengths [] [] [] apart = absurd (apart (refl, refl))
unequal_lengths [] [] (y ∷ v) apart = refl
unequal_lengths [] (x ∷ u) [] apart = refl
unequal_lengths [] (x ∷ u) (y ∷ v) apart = refl
unequal_lengths (o ∷ os) [] [] apart = refl
unequal_lengths (o ∷ os) [] (y ∷ v) apart = refl
unequal_lengths (o ∷ os) (x ∷ u) [] apart = refl
unequal_lengths (o ∷ os) (x ∷ u) (y ∷ v) apart = and_false (is_as_good o.sense x y) (weakly_dominates os u v) (unequal_lengths os u v (λ same. apart (omega (arith, same.0), omega (arith, same.1))))

-- ---- the order

pub is_lt_less : (o : Ordering) → IsTrue (is_lt o) ↔ (o ≡ Less)
is_lt_less Less = (λ h. refl, λ e. search rules)
is_lt_less Equal = (λ h. search rules, λ e. cc)
is_lt_less Greater = (λ h. search rules, λ e. cc)

-- an entry comes after rising ones exactly where it comes after the last
pub rising_push : (before : List Entry) (e last : Entry) → 0 < length before → get_or before (length before - 1) last ≡ last → AreRising (vectors_of before) → (vector_cmp last.costs e.costs ≡ Less) ↔ ComesAfter before e
rising_push [] e last some is rising = absurd (omega arith)
rising_push (x ∷ []) e last some is rising = (λ h. (subst (λ (f : Entry). vector_cmp f.costs e.costs ≡ Less) (sym is) h, tt), λ h. subst (λ (f : Entry). vector_cmp f.costs e.costs ≡ Less) is h.0)
rising_push (x ∷ y ∷ rest) e last some is rising =
    let n : ℕ = length rest in
    let one : suc n - 1 ≡ n = omega arith in
    let two : suc (suc n) - 1 ≡ suc n = omega arith in
    let last_is : get_or (y ∷ rest) (suc n - 1) last ≡ last = ap (λ (m : ℕ). get_or (y ∷ rest) m last) one ∙ sym (ap (λ (m : ℕ). get_or (x ∷ y ∷ rest) m last) two) ∙ is in
    let more = rising_push (y ∷ rest) e last (omega arith) last_is rising.1 in
    (λ h. (rising.0, more.0 h), λ h. more.1 h.1)

first_at_most : (x y : ℤ) (rest : Ordering) → ordering_then (int_cmp x y) rest ≡ Less → x ≤ℤ y
first_at_most x y rest = by (int_cmp x y) refl
  where
    by : (o : Ordering) → o ≡ int_cmp x y → ordering_then o rest ≡ Less → x ≤ℤ y
    by Less is e = let below = int_ranked x y Less is in omega (arith, ints)
    by Equal is e = let same = int_ranked x y Equal is in omega (arith, ints)
    by Greater is e = cc

cmp-trans : (u v w : List ℤ) → vector_cmp u v ≡ Less → vector_cmp v w ≡ Less → vector_cmp u w ≡ Less
cmp-trans u v w p q = vector_cmp_total.trans u v w p q

-- an earlier vector is before a later one
rising_apart : (vs : List (List ℤ)) → AreRising vs → (j k : ℕ) (d : List ℤ) → j < k → k < length vs → vector_cmp (get_or vs j d) (get_or vs k d) ≡ Less
rising_apart [] rising j k d less within = absurd (omega arith)
rising_apart (v ∷ []) rising j k d less within = absurd (omega arith)
rising_apart (v ∷ w ∷ vs) rising j zero d less within = absurd (omega arith)
rising_apart (v ∷ w ∷ vs) rising zero (suc zero) d less within = rising.0
rising_apart (v ∷ w ∷ vs) rising zero (suc (suc k)) d less within = cmp-trans v w (get_or vs k d) rising.0 (rising_apart (w ∷ vs) rising.1 zero (suc k) d (omega arith) (omega arith))
rising_apart (v ∷ w ∷ vs) rising (suc j) (suc k) d less within = rising_apart (w ∷ vs) rising.1 j k d (omega arith) (omega arith)

-- ---- one objective or two

abbrev Apart : List Objective → List ℤ → List ℤ → Type 0
Apart os u v = (weakly_dominates os u v ≡ true → ⊥) × (weakly_dominates os v u ≡ true → ⊥)

-- some number of the first pair is above that of the second
not_below : (a b c d : ℤ) → (is_below (a ∷ b ∷ []) (c ∷ d ∷ []) ≡ true → ⊥) → (c <ℤ a) ⊎ (d <ℤ b)
not_below a b c d apart = by_lt_z c a (λ less. inl less) (λ most. by_lt_z d b (λ less. inr less) (λ low. absurd (apart (grind (arith, ints)))))

above : (a b c d : ℤ) → (c <ℤ a) ⊎ (d <ℤ b) → is_below (a ∷ b ∷ []) (c ∷ d ∷ []) ≡ true → ⊥
above a b c d (inl less) e = by (int_lt c a) (grind (arith, ints)) e
  where
    by : (t : Bool) → t ≡ true → (not t && (not (int_lt d b) && true)) ≡ true → ⊥
    by true p q = false≢true q
    by false p q = false≢true p
above a b c d (inr less) e = by (int_lt c a) (int_lt d b) (grind (arith, ints)) e
  where
    by : (s t : Bool) → t ≡ true → (not s && (not t && true)) ≡ true → ⊥
    by true true p q = false≢true q
    by false true p q = false≢true q
    by s false p q = false≢true p

-- of three pairs whose first numbers rise, where each is apart from the next, the first is apart from the last
turns : (s : Sense) (x y z a b c : ℤ) → x ≤ℤ y → y ≤ℤ z →
    (problem_number s y <ℤ problem_number s x) ⊎ (b <ℤ a) → (problem_number s x <ℤ problem_number s y) ⊎ (a <ℤ b) →
    (problem_number s z <ℤ problem_number s y) ⊎ (c <ℤ b) → (problem_number s y <ℤ problem_number s z) ⊎ (b <ℤ c) →
    ((problem_number s z <ℤ problem_number s x) ⊎ (c <ℤ a)) × ((problem_number s x <ℤ problem_number s z) ⊎ (a <ℤ c))
turns Min x y z a b c p q h1 h2 h3 h4 =
    let first : b <ℤ a = elim h1 [ inl l ↦ absurd (omega (arith, ints)) | inr r ↦ r ] in
    let second : c <ℤ b = elim h3 [ inl l ↦ absurd (omega (arith, ints)) | inr r ↦ r ] in
    let third : x <ℤ y = elim h2 [ inl l ↦ l | inr r ↦ absurd (omega (arith, ints)) ] in
    (inr (omega (arith, ints)), inl (omega (arith, ints)))
turns Max x y z a b c p q h1 h2 h3 h4 =
    let first : a <ℤ b = elim h2 [ inl l ↦ absurd (omega (arith, ints)) | inr r ↦ r ] in
    let second : b <ℤ c = elim h4 [ inl l ↦ absurd (omega (arith, ints)) | inr r ↦ r ] in
    let third : problem_number Max y <ℤ problem_number Max x = elim h1 [ inl l ↦ l | inr r ↦ absurd (omega (arith, ints)) ] in
    (inl (omega (arith, ints)), inr (omega (arith, ints)))

apart_pairs : (o r : Objective) (u1 u2 v1 v2 : ℤ) → Apart (o ∷ r ∷ []) (u1 ∷ u2 ∷ []) (v1 ∷ v2 ∷ []) →
    ((problem_number o.sense v1 <ℤ problem_number o.sense u1) ⊎ (problem_number r.sense v2 <ℤ problem_number r.sense u2))
    × ((problem_number o.sense u1 <ℤ problem_number o.sense v1) ⊎ (problem_number r.sense u2 <ℤ problem_number r.sense v2))
apart_pairs o r u1 u2 v1 v2 apart = (
  not_below _ _ _ _ (λ e. apart.0 (weakly_dominates-is_below (o ∷ r ∷ []) (u1 ∷ u2 ∷ []) (v1 ∷ v2 ∷ []) refl refl ∙ e)),
  not_below _ _ _ _ (λ e. apart.1 (weakly_dominates-is_below (o ∷ r ∷ []) (v1 ∷ v2 ∷ []) (u1 ∷ u2 ∷ []) refl refl ∙ e)),
)

pairs_apart : (o r : Objective) (u1 u2 v1 v2 : ℤ) →
    ((problem_number o.sense v1 <ℤ problem_number o.sense u1) ⊎ (problem_number r.sense v2 <ℤ problem_number r.sense u2))
    × ((problem_number o.sense u1 <ℤ problem_number o.sense v1) ⊎ (problem_number r.sense u2 <ℤ problem_number r.sense v2)) →
    Apart (o ∷ r ∷ []) (u1 ∷ u2 ∷ []) (v1 ∷ v2 ∷ [])
pairs_apart o r u1 u2 v1 v2 h = (
  λ e. above _ _ _ _ h.0 (sym (weakly_dominates-is_below (o ∷ r ∷ []) (u1 ∷ u2 ∷ []) (v1 ∷ v2 ∷ []) refl refl) ∙ e),
  λ e. above _ _ _ _ h.1 (sym (weakly_dominates-is_below (o ∷ r ∷ []) (v1 ∷ v2 ∷ []) (u1 ∷ u2 ∷ []) refl refl) ∙ e),
)

-- of two numbers one is as good as the other
one_is_good : (s : Sense) (x y : ℤ) → (is_as_good s x y ≡ true) ⊎ (is_as_good s y x ≡ true)
one_is_good Min x y = by_lt_z y x (λ less. inr (grind (arith, ints))) (λ most. inl (grind (arith, ints)))
one_is_good Max x y = by_lt_z x y (λ less. inr (grind (arith, ints))) (λ most. inl (grind (arith, ints)))

chain : (os : List Objective) (u v w : List ℤ) → length os ≤ 2 → length u ≡ length os → length v ≡ length os → length w ≡ length os →
    vector_cmp u v ≡ Less → vector_cmp v w ≡ Less → Apart os u v → Apart os v w → Apart os u w
chain [] [] [] w few p q r c d h g = cc
chain [] [] (y ∷ v) w few p q r c d h g = absurd (omega arith)
chain [] (x ∷ u) v w few p q r c d h g = absurd (omega arith)
chain (o ∷ os) [] v w few p q r c d h g = absurd (omega arith)
chain (o ∷ os) (x ∷ u) [] w few p q r c d h g = absurd (omega arith)
chain (o ∷ os) (x ∷ u) (y ∷ v) [] few p q r c d h g = absurd (omega arith)
chain (o ∷ []) (x ∷ []) (y ∷ []) (z ∷ w) few p q r c d h g = absurd (⊎_elim
    (λ (e : is_as_good o.sense x y ≡ true). h.0 (subst (λ (t : Bool). (t && true) ≡ true) (sym e) refl))
    (λ (e : is_as_good o.sense y x ≡ true). h.1 (subst (λ (t : Bool). (t && true) ≡ true) (sym e) refl))
    (one_is_good o.sense x y))
chain (o ∷ []) (x ∷ x' ∷ u) (y ∷ v) (z ∷ w) few p q r c d h g = absurd (omega arith)
chain (o ∷ []) (x ∷ []) (y ∷ y' ∷ v) (z ∷ w) few p q r c d h g = absurd (omega arith)
chain (o ∷ o' ∷ []) (x ∷ a ∷ []) (y ∷ b ∷ []) (z ∷ c' ∷ []) few p q r c d h g =
    let first = apart_pairs o o' x a y b h in
    let second = apart_pairs o o' y b z c' g in
    pairs_apart o o' x a z c' (turns o.sense x y z _ _ _ (first_at_most x y _ c) (first_at_most y z _ d) first.0 first.1 second.0 second.1)
chain (o ∷ o' ∷ []) (x ∷ []) (y ∷ v) (z ∷ w) few p q r c d h g = absurd (omega arith)
chain (o ∷ o' ∷ []) (x ∷ a ∷ a' ∷ u) (y ∷ v) (z ∷ w) few p q r c d h g = absurd (omega arith)
chain (o ∷ o' ∷ []) (x ∷ a ∷ []) (y ∷ []) (z ∷ w) few p q r c d h g = absurd (omega arith)
chain (o ∷ o' ∷ []) (x ∷ a ∷ []) (y ∷ b ∷ b' ∷ v) (z ∷ w) few p q r c d h g = absurd (omega arith)
chain (o ∷ o' ∷ []) (x ∷ a ∷ []) (y ∷ b ∷ []) (z ∷ []) few p q r c d h g = absurd (omega arith)
chain (o ∷ o' ∷ []) (x ∷ a ∷ []) (y ∷ b ∷ []) (z ∷ c' ∷ c'' ∷ w) few p q r c d h g = absurd (omega arith)
chain (o ∷ o' ∷ o'' ∷ os) (x ∷ u) (y ∷ v) (z ∷ w) few p q r c d h g = absurd (omega arith)

-- ---- lists

or_false : (b c : Bool) → (b || c) ≡ true → (b ≡ true → ⊥) → (c ≡ true → ⊥) → ⊥
or_false true c e p q = p refl
or_false false c e p q = q e

either : (b c : Bool) → (b ≡ true) ⊎ (c ≡ true) → (b || c) ≡ true
either true c h = refl
either false c (inl e) = absurd (false≢true e)
either false c (inr e) = e

-- some of the entries from the n-th on is comparable
pub some_comparable : (i : InstanceValue) (before : List Entry) (e : Entry) (n : ℕ) → any_comparable i.objectives (drop n before) e.costs ≡ true → HasComparable i before e
some_comparable i before e n found =
    let w = Any-from_list_any (λ (f : Entry). are_comparable i.objectives f.costs e.costs) (drop n before) found in
    let within : n + w.0 < length before = omega (arith, length-drop n before, w.2) in
    (w.1, (n + w.0, within, sym (get_or-drop n before w.0 w.1) ∙ w.3), λ apart. or_false _ _ w.4 apart.first apart.second)

-- none of the entries from the n-th on is
pub none_comparable : (i : InstanceValue) (before : List Entry) (e : Entry) (n : ℕ) → any_comparable i.objectives (drop n before) e.costs ≡ false → (k : ℕ) (d : Entry) → n ≤ k → k < length before → AreIncomparable i (get_or before k d).costs e.costs
none_comparable i before e n none k d low within =
    let place : n + (k - n) ≡ k = omega arith in
    let is : get_or (drop n before) (k - n) d ≡ get_or before k d = get_or-drop n before (k - n) d ∙ ap (λ (m : ℕ). get_or before m d) place in
    let inside : k - n < length (drop n before) = omega (arith, length-drop n before) in
    let test : Entry → Bool = λ f. are_comparable i.objectives f.costs e.costs in
    let no : test (get_or before k d) ≡ true → ⊥ = λ yes. false≢true (sym none ∙ list_any_at test (drop n before) (k - n) d inside (ap test is ∙ yes)) in
    record { first = λ h. no (either _ _ (inl h)); second = λ h. no (either _ _ (inr h)) }

pub right_push : (i : InstanceValue) (before : List Entry) (e : Entry) → IsRightList i before → IsRightModel i e → ComesAfter before e → ((k : ℕ) (d : Entry) → k < length before → AreIncomparable i (get_or before k d).costs e.costs) → IsRightList i (before ++ e ∷ [])
right_push i before e right own after apart = record {
  models = All-push (IsRightModel i) before e right.models own;
  rising = after;
  incomparable = all_pairs_push (λ (f g : Entry). AreIncomparable i f.costs g.costs) before e right.incomparable apart;
}

-- with one objective or two the last entry tells for all
pub last_tells : (i : InstanceValue) (before : List Entry) (e : Entry) → length i.objectives ≤ 2 → IsRightList i before → IsRightModel i e → ComesAfter before e →
    ((d : Entry) → 0 < length before → AreIncomparable i (get_or before (length before - 1) d).costs e.costs) → (k : ℕ) (d : Entry) → k < length before → AreIncomparable i (get_or before k d).costs e.costs
last_tells i before e few right own after last k d within = ⊎_elim
    (λ (at_end : k ≡ length before - 1). subst (λ (m : ℕ). AreIncomparable i (get_or before m d).costs e.costs) (sym at_end) (last d (omega arith)))
    (λ (earlier : k ≡ length before - 1 → ⊥).
    let n : ℕ = length before - 1 in
    let f : Entry = get_or before k d in
    let l : Entry = get_or before n d in
    let less : k < n = omega arith in
    let inside : n < length before = omega arith in
    let first = right.incomparable k n d less inside in
    let second = last d (omega arith) in
    let numbers : (g : Entry) → IsRightModel i g → length g.costs ≡ length i.objectives = λ g is. subst (λ (u : List ℤ). length u ≡ length i.objectives) is.costs (costs_have_numbers i g.model) in
    let model_at : (m : ℕ) → m < length before → IsRightModel i (get_or before m d) = λ m low. right.models m d low in
    let step = chain i.objectives f.costs l.costs e.costs few (numbers f (model_at k within)) (numbers l (model_at n inside)) (numbers e own)
    (vectors_apart k n less inside) (last_before inside) (first.first, first.second) (second.first, second.second) in
    record { first = step.0; second = step.1 })
    (cases_eq k (length before - 1))
  where
    costs_at : (es : List Entry) (m : ℕ) → m < length es → get_or (vectors_of es) m d.costs ≡ (get_or es m d).costs
    costs_at es m low = get_or-map (λ (g : Entry). g.costs) es m d d.costs low

    vectors_apart : (m n : ℕ) → m < n → n < length before → vector_cmp (get_or before m d).costs (get_or before n d).costs ≡ Less
    vectors_apart m n less inside =
        let p = rising_apart (vectors_of before) right.rising m n d.costs less (omega (arith, length-map before (λ (g : Entry). g.costs))) in
        subst (λ (u : List ℤ). vector_cmp u (get_or before n d).costs ≡ Less) (costs_at before m (omega arith)) (subst (λ (u : List ℤ). vector_cmp (get_or (vectors_of before) m d.costs) u ≡ Less) (costs_at before n inside) p)

    last_before : length before - 1 < length before → vector_cmp (get_or before (length before - 1) d).costs e.costs ≡ Less
    last_before inside = let l : Entry = get_or before (length before - 1) d in (rising_push before e l (omega arith) (get_or_default before (length before - 1) l d inside) right.rising).1 after

-- ---- the entries with which a further one is compared

cond-true-or : (b : Bool) (n m k : ℕ) → m ≡ (if b then n else k) → ((b ≡ true) × (m ≡ n)) ⊎ (m ≡ k)
cond-true-or true n m k e = inl (refl, e)
cond-true-or false n m k e = inr e

pub apart_from_all : (i : InstanceValue) (before : List Entry) (e : Entry) (from : ℕ) → IsRightList i before → IsRightModel i e → ComesAfter before e → from ≡ compared_from i.objectives before → any_comparable i.objectives (drop from before) e.costs ≡ false → IsApartFrom i before e
apart_from_all i before e from right own after is none = ⊎_elim
    (λ (few : (nat_le (length i.objectives) 2 ≡ true) × (from ≡ length before - 1)).
    last_tells i before e (grind (arith, nat_tests, few.0)) right own after
    (λ d some. none_comparable i before e from none (length before - 1) d (omega (arith, few.1)) (omega arith)))
    (λ (all : from ≡ 0). λ k d within. none_comparable i before e from none k d (omega (arith, all)) within)
    (cond-true-or (nat_le (length i.objectives) 2) (length before - 1) from 0 is)

-- ---- a walk over a list

pub first_wrong : (i : InstanceValue) (entries before : List Entry) (at : ℕ) (e : Entry) (why : ListWhy) → before ≡ take at entries → at < length entries → e ≡ get_or entries at e → IsRightList i (take at entries) → IsEntryFault i before e why → IsFirstWrong i entries (at + 1) why
first_wrong i entries before at e why is within read right wrong = record {
  before = before;
  entry = e;
  after = drop (at + 1) entries;
  is = sym (take-append-drop at entries) ∙ ap (λ (es : List Entry). es ++ drop at entries) (sym is) ∙ ap (λ (es : List Entry). before ++ es) (drop_more entries at e within ∙ ap (λ (f : Entry). f ∷ drop (at + 1) entries) (sym read));
  right = subst (IsRightList i) (sym is) right;
  place = omega (arith, ap length is, length-take-le at entries (omega arith));
  wrong = wrong;
}

pub one_more_right : (i : InstanceValue) (entries before : List Entry) (at : ℕ) (e : Entry) → before ≡ take at entries → at < length entries → e ≡ get_or entries at e → IsRightList i (before ++ e ∷ []) → IsProblemVector i e.costs → AreProblemVectors i (take at entries) → IsRightList i (take (at + 1) entries) × AreProblemVectors i (take (at + 1) entries)
one_more_right i entries before at e is within read right vector all =
    let more : take (at + 1) entries ≡ before ++ e ∷ [] = take_more entries at e within ∙ ap (λ (f : Entry). take at entries ++ f ∷ []) (sym read) ∙ ap (λ (es : List Entry). es ++ e ∷ []) (sym is) in
    let vectors : AreProblemVectors i before = subst (AreProblemVectors i) (sym is) all in
    (subst (IsRightList i) (sym more) right, subst (AreProblemVectors i) (sym more) (All-push (λ (f : Entry). IsProblemVector i f.costs) before e vectors vector))

pub list_fault : (i : InstanceValue) (text : List ℕ) (entries : List Entry) (k : ℕ) (why : ListWhy) → Spells text true entries → IsFirstWrong i entries k why → IsListFault i text k why
list_fault i text entries k why spelled first = by why first.wrong (λ w wrong. subst (λ (n : ℕ). IsWrongAt i text n w) (sym (add-one (length first.before)) ∙ first.place) (record {
  before = first.before;
  entry = first.entry;
  after = first.after;
  spelled = subst (Spells text true) first.is spelled;
  right = first.right;
  place = refl;
  wrong = wrong;
}))
  where
    by : (w : ListWhy) → IsEntryFault i first.before first.entry w → ((v : ListWhy) → IsEntryFault i first.before first.entry v → IsWrongAt i text k v) → IsListFault i text k w
    by Syntax wrong all = absurd wrong
    by NotModel wrong all = all NotModel wrong
    by Costs wrong all = all Costs wrong
    by Order wrong all = all Order wrong
    by Comparable wrong all = all Comparable wrong
    by NotComplete wrong all = absurd wrong
