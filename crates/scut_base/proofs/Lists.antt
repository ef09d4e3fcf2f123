-- Lemmas on lists of any element type that several crates need and std lacks.
use Rattle.std.proofs.Common.{◌≡◌, ◌≢◌, ◌⊎◌, inl, inr, ⊎_elim, ℕ, zero, suc, ◌+◌, ◌<◌, ◌≤◌, ◌==◌, Bool, true, false, not, cond, ltb, if◌then◌else◌, List, [], ◌∷◌, ◌++◌, length, map, take, drop, get_or, sum_by, Option, None, Some, refl, sym, ap, subst, ◌∙◌, arith}
use Rattle.std.proofs.Math.ListN.{set}
use Rattle.std.specs.Prelude.{Any, slice_index_or, unwrap_or}
use Rattle.std.specs.List.{All, AllPairs, AllZip, Contains, filter, position_from, position_or_len, slice_split, onto_first, swap}
use Rattle.std.specs.List.Sorted.{IsPermutation, IsNonDecreasingBy}
use Rattle.std.proofs.lemmas.Bool.{cases_order, cases_eq, eq-eqb, ne_eqb, cond-true, cond-false, cond_both}
use Rattle.std.proofs.lemmas.Bool.Decides.{nat_tests}
use Rattle.std.proofs.lemmas.List.{get_or_append_left, get_or_push, length_push, get_or-set_same, get_or-set_other, length-set}
use Rattle.std.proofs.lemmas.List.Edits.{swap_is}
use Rattle.std.proofs.lemmas.List.Elements.{All-nil, All-cons, All-head, All-tail}
use Rattle.std.proofs.lemmas.List.Filters.{sum_by-filter_both}
use Rattle.std.proofs.lemmas.List.Sorted.{IsPermutation-keeps}
use Rattle.std.proofs.lemmas.List.Sums.{sum_by-cons, sum_by-le-sum_by, sum_by-take-drop, sum_by-drop_more, prefix_len-le-length}

-- ---- members

pub Contains-nil : {X : Type 0} (x : X) → Contains [] x → ⊥
Contains-nil x h = omega (arith, h.1)

pub Contains-head : {X : Type 0} (x : X) (xs : List X) → Contains (x ∷ xs) x
Contains-head x xs = (0, omega arith, refl)

pub Contains-cons : {X : Type 0} (y x : X) (xs : List X) → Contains xs x → Contains (y ∷ xs) x
Contains-cons y x xs (k, below, is) = (suc k, omega arith, is)

pub Contains-cons_cases : {X : Type 0} (y x : X) (xs : List X) → Contains (y ∷ xs) x → (y ≡ x) ⊎ Contains xs x
Contains-cons_cases y x xs (zero, below, is) = inl is
Contains-cons_cases y x xs (suc k, below, is) = inr (k, omega arith, is)

-- a member of a mapped list is what a member of the list gives
pub Contains-from_map : {X Y : Type 0} (f : X → Y) (xs : List X) (y : Y) → Contains (map f xs) y → (x : X) × Contains xs x × (f x ≡ y)
Contains-from_map f [] y h = absurd (Contains-nil y h)
Contains-from_map f (x ∷ xs) y h = elim (Contains-cons_cases (f x) y (map f xs) h) [
  | inl same ↦ (x, Contains-head x xs, same)
  | inr rest ↦ (let found = Contains-from_map f xs y rest in (found.0, Contains-cons x found.0 xs found.1, found.2))
]

pub Contains-map : {X Y : Type 0} (f : X → Y) (xs : List X) (x : X) → Contains xs x → Contains (map f xs) (f x)
Contains-map f [] x h = absurd (Contains-nil x h)
Contains-map f (y ∷ xs) x h = elim (Contains-cons_cases y x xs h) [
  | inl same ↦ subst (λ z. Contains (map f (y ∷ xs)) (f z)) same (Contains-head (f y) (map f xs))
  | inr rest ↦ Contains-cons (f y) (f x) (map f xs) (Contains-map f xs x rest)
]

-- what a filter keeps was there, and passes
pub Contains-from_filter : {X : Type 0} (p : X → Bool) (xs : List X) (x : X) → Contains (filter p xs) x → Contains xs x × (p x ≡ true)
Contains-from_filter p [] x h = absurd (Contains-nil x h)
Contains-from_filter p (y ∷ xs) x h = by (p y) refl (Contains-from_filter p xs x) h
  where
    by : (b : Bool) → p y ≡ b → (Contains (filter p xs) x → Contains xs x × (p x ≡ true)) → Contains (cond b (y ∷ filter p xs) (filter p xs)) x → Contains (y ∷ xs) x × (p x ≡ true)
    by true e below kept = elim (Contains-cons_cases y x (filter p xs) kept) [
      | inl same ↦ (subst (λ z. Contains (y ∷ xs) z) same (Contains-head y xs), ap p (sym same) ∙ e)
      | inr rest ↦ (let old = below rest in (Contains-cons y x xs old.0, old.1))
    ]
    by false e below kept = let old = below kept in (Contains-cons y x xs old.0, old.1)

-- what is there and passes is kept
pub Contains-filter : {X : Type 0} (p : X → Bool) (xs : List X) (x : X) → Contains xs x → p x ≡ true → Contains (filter p xs) x
Contains-filter p [] x h pass = absurd (Contains-nil x h)
Contains-filter p (y ∷ xs) x h pass = by (p y) refl (λ rest. Contains-filter p xs x rest pass)
  where
    by : (b : Bool) → p y ≡ b → (Contains xs x → Contains (filter p xs) x) → Contains (cond b (y ∷ filter p xs) (filter p xs)) x
    by true e kept = elim (Contains-cons_cases y x xs h) [
      | inl same ↦ subst (λ z. Contains (y ∷ filter p xs) z) same (Contains-head y (filter p xs))
      | inr rest ↦ Contains-cons y x (filter p xs) (kept rest)
    ]
    by false e kept = elim (Contains-cons_cases y x xs h) [
      | inl same ↦ (let out : p x ≡ false = ap p (sym same) ∙ e in cc)
      | inr rest ↦ kept rest
    ]

-- where a first place was found an element passes
pub passes_from_place : {X : Type 0} (p : X → Bool) (i at : ℕ) (xs : List X) → position_from p i xs ≡ Some at → (x : X) × Contains xs x × (p x ≡ true)
passes_from_place p i at [] h = cc
passes_from_place p i at (y ∷ xs) h = by (p y) refl (passes_from_place p (i + 1) at xs) h
  where
    by : (b : Bool) → p y ≡ b → (position_from p (i + 1) xs ≡ Some at → (x : _) × Contains xs x × (p x ≡ true)) → cond b (Some i) (position_from p (i + 1) xs) ≡ Some at → (x : _) × Contains (y ∷ xs) x × (p x ≡ true)
    by true e rest found = (y, Contains-head y xs, e)
    by false e rest found = let later = rest found in (later.0, Contains-cons y later.0 xs later.1, later.2)

-- where none was found no element passes
pub fails_from_no_place : {X : Type 0} (p : X → Bool) (i : ℕ) (xs : List X) → position_from p i xs ≡ None → All (λ x. p x ≡ false) xs
fails_from_no_place p i [] h = All-nil _
fails_from_no_place p i (y ∷ xs) h = by (p y) refl (fails_from_no_place p (i + 1) xs) h
  where
    by : (b : Bool) → p y ≡ b → (position_from p (i + 1) xs ≡ None → All (λ x. p x ≡ false) xs) → cond b (Some i) (position_from p (i + 1) xs) ≡ None → All (λ x. p x ≡ false) (y ∷ xs)
    by true e rest found = cc
    by false e rest found = All-cons (λ x. p x ≡ false) y xs e (rest found)

-- ---- some element

pub any_none : {X : Type 0} (P : X → Type 0) → Any P [] → ⊥
any_none P found = let within : found.0 < 0 = found.2 in omega arith

pub any_first : {X : Type 0} (P : X → Type 0) (x : X) (xs : List X) → P x → Any P (x ∷ xs)
any_first P x xs holds = let within : 0 < length (x ∷ xs) = omega arith in (0, x, within, refl, holds)

pub any_later : {X : Type 0} (P : X → Type 0) (x : X) (xs : List X) → Any P xs → Any P (x ∷ xs)
any_later P x xs found = let within : suc found.0 < length (x ∷ xs) = omega arith in (suc found.0, found.1, within, found.3, found.4)

pub any_cases : {X : Type 0} (P : X → Type 0) (x : X) (xs : List X) (k : ℕ) (y : X) → k < length (x ∷ xs) → slice_index_or (x ∷ xs) k y ≡ y → P y → P x ⊎ Any P xs
any_cases P x xs zero y within is holds = inl (subst P (sym is) holds)
any_cases P x xs (suc k) y within is holds = let inside : k < length xs = omega arith in inr (k, y, inside, is, holds)

-- ---- all elements, and each two

pub All-prefix : {X : Type 0} (P : X → Type 0) (xs : List X) (x : X) → All P (xs ++ x ∷ []) → All P xs
All-prefix P xs x all k d short = subst P (get_or_append_left xs (x ∷ []) d k short) (all k d (omega (arith, length_push xs x)))

pub All-last : {X : Type 0} (P : X → Type 0) (xs : List X) (x : X) → All P (xs ++ x ∷ []) → P x
All-last P xs x all = subst P (get_or_push xs x x (length xs) refl) (all (length xs) x (omega (arith, length_push xs x)))

pub AllPairs-prefix : {X : Type 0} (R : X → X → Type 0) (xs : List X) (x : X) → AllPairs R (xs ++ x ∷ []) → AllPairs R xs
AllPairs-prefix {X} R xs x all i j d less short =
    subst (λ (y : X). R y (get_or xs j d)) (get_or_append_left xs (x ∷ []) d i (omega arith))
    (subst (R (get_or (xs ++ x ∷ []) i d)) (get_or_append_left xs (x ∷ []) d j short) (all i j d less (omega (arith, length_push xs x))))

-- each is below the last
pub AllPairs-last : {X : Type 0} (R : X → X → Type 0) (xs : List X) (x : X) → AllPairs R (xs ++ x ∷ []) → All (λ y. R y x) xs
AllPairs-last {X} R xs x all k d short =
    subst (λ (y : X). R y x) (get_or_append_left xs (x ∷ []) d k short)
    (subst (R (get_or (xs ++ x ∷ []) k d)) (get_or_push xs x d (length xs) refl) (all k (length xs) d short (omega (arith, length_push xs x))))

pub all_filter_if : {X : Type 0} (P : X → Type 0) (test : X → Bool) (xs : List X) → All (λ x. test x ≡ true → P x) xs → All P (filter test xs)
all_filter_if P test [] each = All-nil P
all_filter_if P test (x ∷ xs) each =
    let rest : All P (filter test xs) = all_filter_if P test xs (All-tail (λ x. test x ≡ true → P x) x xs each) in
    by_test (test x) refl rest
  where
    by_test : (b : Bool) → test x ≡ b → All P (filter test xs) → All P (cond b (x ∷ filter test xs) (filter test xs))
    by_test true is rest = All-cons P x (filter test xs) (All-head (λ x. test x ≡ true → P x) x xs each is) rest
    by_test false is rest = rest

-- ---- each two elements, in another order of the list

-- in both directions
abbrev pub AllApart : {X : Type 0} → (X → X → Type 0) → List X → Type 0
AllApart {X} R xs = (i j : ℕ) (d : X) → i ≢ j → i < length xs → j < length xs → R (get_or xs i d) (get_or xs j d)

pub AllApart-from_pairs : {X : Type 0} (R : X → X → Type 0) (xs : List X) → ((x y : X) → R x y → R y x) → AllPairs R xs → AllApart R xs
AllApart-from_pairs R xs flip all i j d apart short short' = ⊎_elim (λ (e : i ≡ j). absurd (apart e)) (λ (h : (i < j) ⊎ (j < i)). ⊎_elim (λ (less : i < j). all i j d less short') (λ (less : j < i). flip _ _ (all j i d less short)) h) (cases_order i j)

-- numbers that don't fall and are distinct rise
pub rising_from_distinct : {X : Type 0} (n : X → ℕ) (xs : List X) → IsNonDecreasingBy n xs → AllApart (λ x y. n x ≢ n y) xs → AllPairs (λ x y. n x < n y) xs
rising_from_distinct n xs up apart i j d less short =
    let le : n (get_or xs i d) ≤ n (get_or xs j d) = up i j d (omega arith) short in
    let other : n (get_or xs i d) ≢ n (get_or xs j d) = apart i j d (λ e. omega arith) (omega arith) short in
    omega arith

-- the element that stands at k after the exchange of i and j
at_swap : {X : Type 0} (xs : List X) (i j : ℕ) (d : X) → i < length xs → j < length xs → swap xs i j ≡ set (set xs i (get_or xs j d)) j (get_or xs i d)
at_swap xs i j d si sj = sym (swap_is xs i j d si sj)

place_before : ℕ → ℕ → ℕ → ℕ
place_before i j k = if k == j then i else (if k == i then j else k)

get_or-swap : {X : Type 0} (xs : List X) (i j k : ℕ) (d : X) → i < length xs → j < length xs → get_or (swap xs i j) k d ≡ get_or xs (place_before i j k) d
unfolding place_before
get_or-swap {X} xs i j k d si sj =
    ap (λ (ys : List X). get_or ys k d) (at_swap xs i j d si sj)
    ∙ ⊎_elim (λ (e : k ≡ j).
    ap (λ (m : ℕ). get_or (set (set xs i (get_or xs j d)) j (get_or xs i d)) m d) e
    ∙ get_or-set_same (set xs i (get_or xs j d)) j (get_or xs i d) d (omega (arith, length-set xs i (get_or xs j d)))
    ∙ ap (λ (m : ℕ). get_or xs m d) (sym (cond-true (k == j) i (cond (k == i) j k) (eq-eqb k j e))))
    (λ (n : k ≢ j). get_or-set_other (set xs i (get_or xs j d)) j k (get_or xs i d) d n ∙ ⊎_elim
    (λ (e : k ≡ i).
    ap (λ (m : ℕ). get_or (set xs i (get_or xs j d)) m d) e
    ∙ get_or-set_same xs i (get_or xs j d) d si
    ∙ ap (λ (m : ℕ). get_or xs m d) (sym (cond-false (k == j) i (cond (k == i) j k) (ne_eqb k j n) ∙ cond-true (k == i) j k (eq-eqb k i e))))
    (λ (o : k ≢ i).
    get_or-set_other xs i k (get_or xs j d) d o
    ∙ ap (λ (m : ℕ). get_or xs m d) (sym (cond-false (k == j) i (cond (k == i) j k) (ne_eqb k j n) ∙ cond-false (k == i) j k (ne_eqb k i o))))
    (cases_eq k i))
    (cases_eq k j)

place_before-lt : (i j k n : ℕ) → i < n → j < n → k < n → place_before i j k < n
unfolding place_before
place_before-lt i j k n si sj sk = cond_both (k == j) i (cond (k == i) j k) (λ (m : ℕ). m < n) (λ _. si) (λ _. cond_both (k == i) j k (λ (m : ℕ). m < n) (λ _. sj) (λ _. sk))

place_before-apart : (i j k m : ℕ) → k ≢ m → place_before i j k ≢ place_before i j m
unfolding place_before
place_before-apart i j k m apart = grind (arith, nat_tests)

AllApart-swap : {X : Type 0} (R : X → X → Type 0) (xs : List X) (i j : ℕ) → i < length xs → j < length xs → AllApart R xs → AllApart R (swap xs i j)
AllApart-swap {X} R xs i j si sj all k m d apart sk sm =
    let sk' : k < length xs = omega (arith, ap length (at_swap xs i j d si sj), length-set (set xs i (get_or xs j d)) j (get_or xs i d), length-set xs i (get_or xs j d)) in
    let sm' : m < length xs = omega (arith, ap length (at_swap xs i j d si sj), length-set (set xs i (get_or xs j d)) j (get_or xs i d), length-set xs i (get_or xs j d)) in
    subst (λ (x : X). R x (get_or (swap xs i j) m d)) (sym (get_or-swap xs i j k d si sj))
    (subst (λ (y : X). R (get_or xs (place_before i j k) d) y) (sym (get_or-swap xs i j m d si sj))
    (all (place_before i j k) (place_before i j m) d (place_before-apart i j k m apart) (place_before-lt i j k (length xs) si sj sk') (place_before-lt i j m (length xs) si sj sm')))

pub AllApart-IsPermutation : {X : Type 0} (R : X → X → Type 0) (xs ys : List X) → IsPermutation xs ys → AllApart R xs → AllApart R ys
AllApart-IsPermutation R xs ys moved all = IsPermutation-keeps xs (AllApart R) all (λ l i j si sj. AllApart-swap R l i j si sj) ys moved

-- the same of each element and each later one, where R holds both ways
pub AllPairs-permutation : {X : Type 0} (R : X → X → Type 0) → ((x y : X) → R x y → R y x) → (xs ys : List X) → IsPermutation xs ys → AllPairs R xs → AllPairs R ys
AllPairs-permutation R flip xs ys permuted pairs = λ i j d less short. AllApart-IsPermutation R xs ys permuted (AllApart-from_pairs R xs flip pairs) i j d (λ e. absurd (omega arith)) (omega arith) short

-- ---- sums

pub sum_by_zero : {X : Type 0} (f : X → ℕ) (xs : List X) → All (λ x. f x ≡ 0) xs → sum_by f xs ≡ 0
sum_by_zero f [] all = refl
sum_by_zero f (x ∷ xs) all =
    let one : f x ≡ 0 = All-head (λ y. f y ≡ 0) x xs all in
    let rest : sum_by f xs ≡ 0 = sum_by_zero f xs (All-tail (λ y. f y ≡ 0) x xs all) in
    let sum : sum_by f (x ∷ xs) ≡ f x + sum_by f xs = sum_by-cons f x xs in
    omega arith

-- all other terms are 0
pub sum_by_single : {X : Type 0} (f : X → ℕ) (xs : List X) (i : ℕ) (d : X) → i < length xs → ((k : ℕ) (e : X) → k < length xs → k ≢ i → f (get_or xs k e) ≡ 0) → sum_by f xs ≡ f (get_or xs i d)
sum_by_single f [] i d short other = absurd (omega arith)
sum_by_single f (x ∷ xs) zero d short other =
    let rest : sum_by f xs ≡ 0 = sum_by_zero f xs (λ k e h. other (suc k) e (omega arith) (λ same. omega arith)) in
    let sum : sum_by f (x ∷ xs) ≡ f x + sum_by f xs = sum_by-cons f x xs in
    omega arith
sum_by_single f (x ∷ xs) (suc i) d short other =
    let one : f x ≡ 0 = other 0 x (omega arith) (λ same. omega arith) in
    let rest : sum_by f xs ≡ f (get_or xs i d) = sum_by_single f xs i d (omega arith) (λ k e h apart. other (suc k) e (omega arith) (λ same. apart (omega arith))) in
    let sum : sum_by f (x ∷ xs) ≡ f x + sum_by f xs = sum_by-cons f x xs in
    omega arith

pub sum_by_same : {X : Type 0} (f g : X → ℕ) → ((x : X) → f x ≡ g x) → (xs : List X) → sum_by f xs ≡ sum_by g xs
sum_by_same f g same [] = refl
sum_by_same f g same (x ∷ xs) =
    let one = same x in
    let rest = sum_by_same f g same xs in
    let left = sum_by-cons f x xs in
    let right = sum_by-cons g x xs in
    omega arith

pub sum_by-filter-le : {X : Type 0} (f : X → ℕ) (p : X → Bool) (xs : List X) → sum_by f (filter p xs) ≤ sum_by f xs
sum_by-filter-le f p xs = let both = sum_by-filter_both p (λ x. not (p x)) (λ x. refl) f xs in omega arith

-- the sums of two functions, added
pub sum_by-add : {X : Type 0} (f g : X → ℕ) (xs : List X) → sum_by (λ x. f x + g x) xs ≡ sum_by f xs + sum_by g xs
sum_by-add f g [] = omega arith
sum_by-add f g (x ∷ xs) =
    let rest = sum_by-add f g xs in
    let both = sum_by-cons (λ y. f y + g y) x xs in
    let left = sum_by-cons f x xs in
    let right = sum_by-cons g x xs in
    omega arith

pub sum_by_same_in : {X : Type 0} (f g : X → ℕ) (xs : List X) → All (λ x. f x ≡ g x) xs → sum_by f xs ≡ sum_by g xs
sum_by_same_in f g [] all = refl
sum_by_same_in f g (x ∷ xs) all =
    let one : f x ≡ g x = All-head (λ y. f y ≡ g y) x xs all in
    let rest = sum_by_same_in f g xs (All-tail (λ y. f y ≡ g y) x xs all) in
    let left = sum_by-cons f x xs in
    let right = sum_by-cons g x xs in
    omega arith

-- what one term is below, the sum is below
pub sum_gap : {X : Type 0} (f g : X → ℕ) (xs : List X) (k n : ℕ) (d : X) → ((x : X) → f x ≤ g x) → k < length xs → f (get_or xs k d) + n ≤ g (get_or xs k d) → sum_by f xs + n ≤ sum_by g xs
sum_gap f g xs k n d each within gap =
    let before : sum_by f (take k xs) ≤ sum_by g (take k xs) = sum_by-le-sum_by f g (take k xs) each in
    let after : sum_by f (drop (k + 1) xs) ≤ sum_by g (drop (k + 1) xs) = sum_by-le-sum_by f g (drop (k + 1) xs) each in
    let f_whole : sum_by f (take k xs) + sum_by f (drop k xs) ≡ sum_by f xs = sum_by-take-drop f xs k in
    let g_whole : sum_by g (take k xs) + sum_by g (drop k xs) ≡ sum_by g xs = sum_by-take-drop g xs k in
    let f_more : sum_by f (drop k xs) ≡ f (get_or xs k d) + sum_by f (drop (k + 1) xs) = sum_by-drop_more f xs k d within in
    let g_more : sum_by g (drop k xs) ≡ g (get_or xs k d) + sum_by g (drop (k + 1) xs) = sum_by-drop_more g xs k d within in
    omega arith

-- ---- equal lists

pub head_same : {X : Type 0} (a b : X) (xs ys : List X) → a ∷ xs ≡ b ∷ ys → a ≡ b
head_same a b xs ys e = cc

pub tail_same : {X : Type 0} (a b : X) (xs ys : List X) → a ∷ xs ≡ b ∷ ys → xs ≡ ys
tail_same a b xs ys e = cc

pub zip_same : {X Y : Type 0} (R : X → Y → Type 0) → ((x : X) (y z : Y) → R x y → R x z → y ≡ z) → (xs : List X) (ys zs : List Y) → AllZip R xs ys → AllZip R xs zs → ys ≡ zs
zip_same R one [] [] [] left right = refl
zip_same R one [] [] (z ∷ zs) left right = absurd right
zip_same R one [] (y ∷ ys) zs left right = absurd left
zip_same R one (x ∷ xs) [] zs left right = absurd left
zip_same R one (x ∷ xs) (y ∷ ys) [] left right = absurd right
zip_same R one (x ∷ xs) (y ∷ ys) (z ∷ zs) left right = ap (λ w. w ∷ ys) (one x y z left.0 right.0) ∙ ap (λ ws. z ∷ ws) (zip_same R one xs ys zs left.1 right.1)

pub map_agree : {X Y : Type 0} (f g : X → Y) → ((x : X) → f x ≡ g x) → (xs : List X) → map f xs ≡ map g xs
map_agree f g same [] = refl
map_agree f g same (x ∷ xs) = ap (λ y. y ∷ map f xs) (same x) ∙ ap (λ ys. g x ∷ ys) (map_agree f g same xs)

-- ---- first places, and parts

at_most : (n m : ℕ) → n ≤ m → unwrap_or (cond (ltb n m) (Some n) None) m ≡ n
at_most n m le = grind (arith, nat_tests)

-- the first place that passes, or the length
pub first_or_length : {X : Type 0} (p : X → Bool) (xs : List X) (r : Option ℕ) → r ≡ cond (ltb (position_or_len p xs) (length xs)) (Some (position_or_len p xs)) None → unwrap_or r (length xs) ≡ position_or_len p xs
first_or_length p xs r e = ap (λ o. unwrap_or o (length xs)) e ∙ at_most (position_or_len p xs) (length xs) (prefix_len-le-length (λ x. not (p x)) xs)

pub first_within : {X : Type 0} (p : X → Bool) (xs : List X) → position_or_len p xs ≤ length xs
first_within p xs = prefix_len-le-length (λ x. not (p x)) xs

-- the lengths of the parts, added up
abbrev pub total_length : {X : Type 0} → List (List X) → ℕ
total_length [] = 0
total_length (x ∷ xs) = length x + total_length xs

onto_length : {X : Type 0} (x : X) (parts : List (List X)) → total_length (onto_first x parts) ≤ total_length parts + 1
onto_length x [] = omega arith
onto_length x (part ∷ parts) = omega arith

either_length : {X : Type 0} (b : Bool) (xs ys : List (List X)) (n : ℕ) → total_length xs ≤ n → total_length ys ≤ n → total_length (cond b xs ys) ≤ n
either_length true xs ys n left right = left
either_length false xs ys n left right = right

-- the parts of a list have no more elements than it
pub split_length : {X : Type 0} (p : X → Bool) (xs : List X) → total_length (slice_split p xs) ≤ length xs
split_length p [] = omega arith
split_length p (x ∷ xs) =
    let rest : total_length (slice_split p xs) ≤ length xs = split_length p xs in
    let onto : total_length (onto_first x (slice_split p xs)) ≤ total_length (slice_split p xs) + 1 = onto_length x (slice_split p xs) in
    either_length (p x) ([] ∷ slice_split p xs) (onto_first x (slice_split p xs)) (length (x ∷ xs)) (omega (arith, rest)) (omega (arith, rest, onto))
