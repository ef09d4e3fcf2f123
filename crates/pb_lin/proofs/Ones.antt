-- Terms whose coefficients are all 1.
use Rattle.std.proofs.Common.{◌≡◌, ℕ, zero, suc, ◌+◌, ◌^◌, ◌<◌, ◌≤◌, Bool, true, false, cond, List, [], ◌∷◌, length, get_or, map, sum_by, filter, refl, arith, ap, sym, subst, ◌∙◌}
use Rattle.std.specs.List.{All, AllPairs}
use Rattle.std.proofs.lemmas.List.{get_or-map, length-map}
use Rattle.std.proofs.lemmas.List.Elements.{All-nil, All-cons, All-head, All-tail, All-map}
use Rattle.std.proofs.lemmas.List.Sums.{sum_by-cons}
use Rattle.scut_base.specs.Literal.{Literal}
use Rattle.pb_lin.specs.Constraint.{IsNormal, AreOnes, literals, ones, total}
use Rattle.pb_lin.specs.Stored.{IsStored}
use Rattle.pb_lin.proofs.Terms.{terms_of-none}

-- what holds of each two images
pub AllPairs-map : {X Y : Type 0} (R : Y → Y → Type 0) (f : X → Y) (default : Y → X) (xs : List X) → AllPairs (λ x y. R (f x) (f y)) xs → AllPairs R (map f xs)
AllPairs-map {X} {Y} R f default xs all i j d less short =
    let inside : j < length xs = omega (arith, length-map xs f) in
    subst (λ (y : Y). R y (get_or (map f xs) j d)) (sym (get_or-map f xs i (default d) d (omega arith)))
    (subst (R (f (get_or xs i (default d)))) (sym (get_or-map f xs j (default d) d inside)) (all i j (default d) less inside))

-- sums over the literals
pub sum_ones : (f : Literal → ℕ → ℕ) (ts : List (Literal × ℕ)) → AreOnes ts → sum_by (λ l. f l 1) (literals ts) ≡ sum_by (λ t. f t.0 t.1) ts
sum_ones f [] all = refl
sum_ones f (t ∷ ts) all =
    let left = sum_by-cons (λ l. f l 1) t.0 (literals ts) in
    let right = sum_by-cons (λ s. f s.0 s.1) t ts in
    let one : f t.0 1 ≡ f t.0 t.1 = ap (f t.0) (sym (All-head (λ s. s.1 ≡ 1) t ts all)) in
    let rest = sum_ones f ts (All-tail (λ s. s.1 ≡ 1) t ts all) in
    omega arith

pub total_ones : (ts : List (Literal × ℕ)) → AreOnes ts → total ts ≡ length ts
total_ones [] all = refl
total_ones (t ∷ ts) all =
    let whole = sum_by-cons (λ s. s.1) t ts in
    let one : t.1 ≡ 1 = All-head (λ s. s.1 ≡ 1) t ts all in
    let rest = total_ones ts (All-tail (λ s. s.1 ≡ 1) t ts all) in
    omega arith

-- ---- made of literals

pub AreOnes-ones : (ls : List Literal) → AreOnes (ones ls)
AreOnes-ones [] = All-nil (λ t. t.1 ≡ 1)
AreOnes-ones (l ∷ ls) = All-cons (λ t. t.1 ≡ 1) (l, 1) (ones ls) refl (AreOnes-ones ls)

-- variables that rise from 1 on
from_one : (ls : List Literal) → AllPairs (λ l m. l.var < m.var) ls → ((d : Literal) → 0 < length ls → 0 < (get_or ls 0 d).var) → All (λ l. 0 < l.var) ls
from_one ls rising first zero d short = first d short
from_one ls rising first (suc k) d short = let more = rising 0 (suc k) d (omega arith) short in omega arith

pub normal-ones : (ls : List Literal) (degree : ℕ) → AllPairs (λ l m. l.var < m.var) ls → ((d : Literal) → 0 < length ls → 0 < (get_or ls 0 d).var) → length ls + degree ≤ 2 ^ 100 → IsNormal (ones ls) degree
normal-ones ls degree rising first fits = record {
  merged = record {
    positive = All-map (λ t. 0 < t.1) (λ l. (l, 1)) ls (λ k d h. omega arith);
    from_one = All-map (λ t. 0 < t.0.var) (λ l. (l, 1)) ls (from_one ls rising first);
    rising = AllPairs-map (λ s t. s.0.var < t.0.var) (λ l. (l, 1)) (λ t. t.0) ls rising;
  };
  small = let sum = total_ones (ones ls) (AreOnes-ones ls) in let long : length (ones ls) ≡ length ls = length-map ls (λ l. (l, 1)) in omega arith;
}

-- stored without coefficients
pub stored-ones : (ls : List Literal) (degree : ℕ) → AllPairs (λ l m. l.var < m.var) ls → ((d : Literal) → 0 < length ls → 0 < (get_or ls 0 d).var) → length ls + degree ≤ 2 ^ 100 → IsStored ls [] degree
stored-ones ls degree rising first fits = record {
  normal = subst (λ (ts : List (Literal × ℕ)). IsNormal ts degree) (sym (terms_of-none ls)) (normal-ones ls degree rising first fits);
  short = λ _. refl;
}

-- ---- restricted

pub ones-filter : (p : Literal → Bool) (ts : List (Literal × ℕ)) → AreOnes ts → ones (filter p (literals ts)) ≡ filter (λ t. p t.0) ts
ones-filter p [] all = refl
ones-filter p (t ∷ ts) all =
    let one : (t.0, 1) ≡ t = ap (λ (n : ℕ). (t.0, n)) (sym (All-head (λ s. s.1 ≡ 1) t ts all)) in
    let rest = ones-filter p ts (All-tail (λ s. s.1 ≡ 1) t ts all) in
    by_test (p t.0) one rest
  where
    by_test : (b : Bool) → (t.0, 1) ≡ t → ones (filter p (literals ts)) ≡ filter (λ s. p s.0) ts → ones (cond b (t.0 ∷ filter p (literals ts)) (filter p (literals ts))) ≡ cond b (t ∷ filter (λ s. p s.0) ts) (filter (λ s. p s.0) ts)
    by_test true one rest = ap (λ (s : Literal × ℕ). s ∷ ones (filter p (literals ts))) one ∙ ap (λ (ss : List (Literal × ℕ)). t ∷ ss) rest
    by_test false one rest = rest

pub rising-literals : (ts : List (Literal × ℕ)) → AllPairs (λ s t. s.0.var < t.0.var) ts → AllPairs (λ l m. l.var < m.var) (literals ts)
rising-literals ts rising = AllPairs-map (λ l m. l.var < m.var) (λ t. t.0) (λ l. (l, 0)) ts rising
