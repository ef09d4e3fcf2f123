-- What holds of each element of lists that are joined, mapped and tested.
use Rattle.std.proofs.Common.{◌≡◌, ◌⊎◌, inl, inr, Bool, true, false, List, [], ◌∷◌, ◌++◌, map, get_or, refl, ap, ◌∙◌}
use Rattle.std.specs.Prelude.{◌||◌, All, Contains}
use Rattle.std.specs.List.{list_any, list_all, flat_map, filter}
use Rattle.std.proofs.lemmas.Bool.{and_from, and_parts, and_cases, cond-false}
use Rattle.std.proofs.lemmas.List.Elements.{All-nil, All-cons, All-head, All-tail, All-append}
use Rattle.std.proofs.lemmas.List.Folds.{Any-from_list_any, list_any_at}
use Rattle.scut_base.proofs.Lists.{Contains-head, Contains-cons}

pub all_split : {X : Type 0} (P : X → Type 0) (xs ys : List X) → All P (xs ++ ys) → All P xs × All P ys
all_split P [] ys all = (All-nil P, all)
all_split P (x ∷ xs) ys all =
    let rest = all_split P xs ys (All-tail P x (xs ++ ys) all) in
    (All-cons P x xs (All-head P x (xs ++ ys) all) rest.0, rest.1)

pub all_unmapped : {X Y : Type 0} (P : Y → Type 0) (f : X → Y) (xs : List X) → All P (map f xs) → All (λ x. P (f x)) xs
all_unmapped P f [] all = All-nil (λ x. P (f x))
all_unmapped P f (x ∷ xs) all = All-cons (λ y. P (f y)) x xs (All-head P (f x) (map f xs) all) (all_unmapped P f xs (All-tail P (f x) (map f xs) all))

pub all_unflattened : {X Y : Type 0} (P : Y → Type 0) (f : X → List Y) (xs : List X) → All P (flat_map f xs) → All (λ x. All P (f x)) xs
all_unflattened P f [] all = All-nil (λ x. All P (f x))
all_unflattened P f (x ∷ xs) all =
    let parts = all_split P (f x) (flat_map f xs) all in
    All-cons (λ y. All P (f y)) x xs parts.0 (all_unflattened P f xs parts.1)

pub all_flattened : {X Y : Type 0} (P : Y → Type 0) (f : X → List Y) (xs : List X) → All (λ x. All P (f x)) xs → All P (flat_map f xs)
all_flattened P f [] all = All-nil P
all_flattened P f (x ∷ xs) all = All-append P (f x) (flat_map f xs) (All-head (λ y. All P (f y)) x xs all) (all_flattened P f xs (All-tail (λ y. All P (f y)) x xs all))

pub all_both : {X : Type 0} (P Q R : X → Type 0) (xs : List X) → ((x : X) → P x → Q x → R x) → All P xs → All Q xs → All R xs
all_both P Q R xs both p q = λ k d short. both (get_or xs k d) (p k d short) (q k d short)

pub test_from_all : {X : Type 0} (p : X → Bool) (xs : List X) → All (λ x. p x ≡ true) xs → list_all p xs ≡ true
test_from_all p [] all = refl
test_from_all p (x ∷ xs) all = and_from (p x) (list_all p xs) (All-head (λ y. p y ≡ true) x xs all) (test_from_all p xs (All-tail (λ y. p y ≡ true) x xs all))

pub all_from_test : {X : Type 0} (p : X → Bool) (xs : List X) → list_all p xs ≡ true → All (λ x. p x ≡ true) xs
all_from_test p [] test = All-nil (λ x. p x ≡ true)
all_from_test p (x ∷ xs) test =
    let parts = and_parts (p x) (list_all p xs) test in
    All-cons (λ y. p y ≡ true) x xs parts.0 (all_from_test p xs parts.1)

-- where not all pass, one fails
pub one_fails : {X : Type 0} (p : X → Bool) (xs : List X) → list_all p xs ≡ false → (x : X) × Contains xs x × (p x ≡ false)
one_fails {X} p [] test = absurd (contrary test)
  where
    contrary : true ≡ false → ⊥
    contrary e = cc
one_fails {X} p (x ∷ xs) test = by (and_cases (p x) (list_all p xs) test) (one_fails p xs)
  where
    by : (p x ≡ false) ⊎ (list_all p xs ≡ false) → (list_all p xs ≡ false → (y : X) × Contains xs y × (p y ≡ false)) → (y : X) × Contains (x ∷ xs) y × (p y ≡ false)
    by (inl here) rest = (x, Contains-head x xs, here)
    by (inr later) rest = (let found = rest later in (found.0, Contains-cons x found.0 xs found.1, found.2))

-- a member that passes
pub one_passes : {X : Type 0} (p : X → Bool) (xs : List X) → list_any p xs ≡ true → (x : X) × Contains xs x × (p x ≡ true)
one_passes p xs test = (let found = Any-from_list_any p xs test in (found.1, (found.0, found.2, found.3), found.4))

pub any_from_member : {X : Type 0} (p : X → Bool) (xs : List X) (x : X) → Contains xs x → p x ≡ true → list_any p xs ≡ true
any_from_member p xs x (k, below, is) pass = list_any_at p xs k x below (ap p is ∙ pass)

-- a test that some member of one list passes, and so of one with the same members
pub any_of_members : {X : Type 0} (p : X → Bool) (xs ys : List X) → ((x : X) → Contains xs x → Contains ys x) → list_any p xs ≡ true → list_any p ys ≡ true
any_of_members p xs ys within test =
    let found = one_passes p xs test in
    any_from_member p ys found.0 (within found.0 found.1) found.2

-- tests that agree on each element
pub any_agrees : {X : Type 0} (p q : X → Bool) (xs : List X) → All (λ x. p x ≡ q x) xs → list_any p xs ≡ list_any q xs
any_agrees p q [] all = refl
any_agrees p q (x ∷ xs) all =
    ap (λ b. b || list_any p xs) (All-head (λ y. p y ≡ q y) x xs all) ∙ ap (λ b. q x || b) (any_agrees p q xs (All-tail (λ y. p y ≡ q y) x xs all))

-- no element passes a filter
pub none_kept : {X : Type 0} (p : X → Bool) (xs : List X) → All (λ x. p x ≡ false) xs → filter p xs ≡ []
none_kept p [] all = refl
none_kept {X} p (x ∷ xs) all = cond-false (p x) (x ∷ filter p xs) (filter p xs) (All-head (λ y. p y ≡ false) x xs all) ∙ none_kept p xs (All-tail (λ y. p y ≡ false) x xs all)
