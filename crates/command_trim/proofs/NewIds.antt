-- The new ids that a table holds.
use Rattle.std.proofs.Common.{◌≡◌, ◌≢◌, ℕ, suc, ◌+◌, ◌-◌, ◌<◌, ◌≤◌, ◌==◌, Bool, true, false, cond, ◌||◌, nat_eq, if◌then◌else◌, Option, Some, None, List, [], ◌∷◌, ◌++◌, length, get_or, refl, sym, ap, subst, ◌∙◌, arith, inl, inr}
use Rattle.std.specs.Prelude.{is_some}
use Rattle.std.specs.List.{list_any}
use Rattle.std.specs.Map.{lookup}
use Rattle.std.proofs.lemmas.Bool.{cases_eq, eq-eqb, ne_eqb}
use Rattle.std.proofs.lemmas.List.{append_assoc, append-nil}
use Rattle.command_trim.specs.Renames.{pairs}

-- a number that stands for none where it is 0
abbrev pub some_of : ℕ → Option ℕ
some_of n = cond (n == 0) None (Some n)

pub some_of_zero : some_of 0 ≡ None
some_of_zero = refl

pub some_of_other : (n : ℕ) → n ≢ 0 → some_of n ≡ Some n
some_of_other n other = ap (λ (b : Bool). let o : Option ℕ = cond b None (Some n) in o) (ne_eqb n 0 other)

lookup_first : (id : ℕ) (xs ys : List (ℕ × ℕ)) (v : ℕ) → lookup (nat_eq id) xs ≡ Some v → lookup (nat_eq id) (xs ++ ys) ≡ Some v
lookup_first id [] ys v found = cc
lookup_first id (e ∷ xs) ys v found = by_test (nat_eq id e.0) found (lookup_first id xs ys v)
  where
    by_test : (b : Bool) → cond b (Some e.1) (lookup (nat_eq id) xs) ≡ Some v → (lookup (nat_eq id) xs ≡ Some v → lookup (nat_eq id) (xs ++ ys) ≡ Some v) → cond b (Some e.1) (lookup (nat_eq id) (xs ++ ys)) ≡ Some v
    by_test true here rest = here
    by_test false later rest = rest later

lookup_second : (id : ℕ) (xs ys : List (ℕ × ℕ)) → lookup (nat_eq id) xs ≡ None → lookup (nat_eq id) (xs ++ ys) ≡ lookup (nat_eq id) ys
lookup_second id [] ys none = refl
lookup_second id (e ∷ xs) ys none = by_test (nat_eq id e.0) none (lookup_second id xs ys)
  where
    by_test : (b : Bool) → cond b (Some e.1) (lookup (nat_eq id) xs) ≡ None → (lookup (nat_eq id) xs ≡ None → lookup (nat_eq id) (xs ++ ys) ≡ lookup (nat_eq id) ys) → cond b (Some e.1) (lookup (nat_eq id) (xs ++ ys)) ≡ lookup (nat_eq id) ys
    by_test true here rest = cc
    by_test false later rest = rest later

other_pair : (id first v : ℕ) → id ≢ first → lookup (nat_eq id) (if v == 0 then [] else (first, v) ∷ []) ≡ None
other_pair id first v other = by_test (v == 0)
  where
    by_test : (b : Bool) → lookup (nat_eq id) (if b then [] else (first, v) ∷ []) ≡ None
    by_test true = refl
    by_test false = ap (λ (b : Bool). let o : Option ℕ = cond b (Some v) None in o) (ne_eqb id first other)

own_pair : (first v : ℕ) → lookup (nat_eq first) (if v == 0 then [] else (first, v) ∷ []) ≡ some_of v
own_pair first v = by_test (v == 0)
  where
    by_test : (b : Bool) → lookup (nat_eq first) (if b then [] else (first, v) ∷ []) ≡ cond b None (Some v)
    by_test true = refl
    by_test false = ap (λ (b : Bool). let o : Option ℕ = cond b (Some v) None in o) (eq-eqb first first refl)

-- an id before the first has no pair
pub none_below : (first : ℕ) (ids : List ℕ) (id : ℕ) → id < first → lookup (nat_eq id) (pairs first ids) ≡ None
none_below first [] id below = refl
none_below first (v ∷ vs) id below =
    lookup_second id (pairs (first + 1) vs) (if v == 0 then [] else (first, v) ∷ []) (none_below (first + 1) vs id (omega (arith, below)))
    ∙ other_pair id first v (λ e. omega (arith, below, e))

-- an id from there on has the new one at its place
pub found_from : (first : ℕ) (ids : List ℕ) (id : ℕ) → first ≤ id → lookup (nat_eq id) (pairs first ids) ≡ some_of (get_or ids (id - first) 0)
found_from first [] id from = refl
found_from first (v ∷ vs) id from = elim (cases_eq id first) [
  | inl is ↦ subst (λ i. lookup (nat_eq i) (pairs first (v ∷ vs)) ≡ some_of (get_or (v ∷ vs) (i - first) 0)) (sym is)
      (lookup_second first (pairs (first + 1) vs) (if v == 0 then [] else (first, v) ∷ []) (none_below (first + 1) vs first (omega arith))
      ∙ own_pair first v ∙ ap (λ k. some_of (get_or (v ∷ vs) k 0)) (let e : 0 ≡ first - first = omega arith in e))
  | inr other ↦ by_rest (lookup (nat_eq id) (pairs (first + 1) vs)) refl
      (found_from (first + 1) vs id (omega (arith, from, other)) ∙ ap some_of (let e : id - first ≡ suc (id - (first + 1)) = omega (arith, from, other) in
      sym (ap (λ k. get_or (v ∷ vs) k 0) e)))
      other
]
  where
    by_rest : (o : Option ℕ) → lookup (nat_eq id) (pairs (first + 1) vs) ≡ o → lookup (nat_eq id) (pairs (first + 1) vs) ≡ some_of (get_or (v ∷ vs) (id - first) 0) → id ≢ first
        → lookup (nat_eq id) (pairs first (v ∷ vs)) ≡ some_of (get_or (v ∷ vs) (id - first) 0)
    by_rest None none is other =
        lookup_second id (pairs (first + 1) vs) (if v == 0 then [] else (first, v) ∷ []) none ∙ other_pair id first v other ∙ sym none ∙ is
    by_rest (Some n) some is other = lookup_first id (pairs (first + 1) vs) (if v == 0 then [] else (first, v) ∷ []) n some ∙ sym some ∙ is

-- whether an id has a pair
pub any_pair : (id : ℕ) (es : List (ℕ × ℕ)) → is_some (lookup (nat_eq id) es) ≡ list_any (λ e. nat_eq id e.0) es
any_pair id [] = refl
any_pair id (e ∷ es) = by_test (nat_eq id e.0) (any_pair id es)
  where
    by_test : (b : Bool) → is_some (lookup (nat_eq id) es) ≡ list_any (λ (f : ℕ × ℕ). nat_eq id f.0) es → is_some (cond b (Some e.1) (lookup (nat_eq id) es)) ≡ (b || list_any (λ (f : ℕ × ℕ). nat_eq id f.0) es)
    by_test true rest = refl
    by_test false rest = rest

-- one more
pub pairs_behind : (first : ℕ) (ids : List ℕ) (v : ℕ) → pairs first (ids ++ v ∷ []) ≡ (if v == 0 then [] else (first + length ids, v) ∷ []) ++ pairs first ids
pairs_behind first [] v = ap (λ k. if v == 0 then [] else (k, v) ∷ []) (let e : first ≡ first + 0 = omega arith in e) ∙ sym (append-nil (if v == 0 then [] else (first + 0, v) ∷ []))
pairs_behind first (x ∷ xs) v =
    ap (λ (es : List (ℕ × ℕ)). es ++ (if x == 0 then [] else (first, x) ∷ [])) (pairs_behind (first + 1) xs v)
    ∙ append_assoc (if v == 0 then [] else (first + 1 + length xs, v) ∷ []) (pairs (first + 1) xs) (if x == 0 then [] else (first, x) ∷ [])
    ∙ ap (λ k. (if v == 0 then [] else (k, v) ∷ []) ++ (pairs (first + 1) xs ++ (if x == 0 then [] else (first, x) ∷ []))) (let e : first + 1 + length xs ≡ first + suc (length xs) = omega arith in e)
