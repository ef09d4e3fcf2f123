-- The first element of a list that is made part by part, and the first place that passes.
use Rattle.std.proofs.Common.{◌≡◌, ℕ, ◌+◌, ◌<◌, ◌≤◌, Bool, true, false, cond, Some, None, List, [], ◌∷◌, ◌++◌, map, length, get_or, drop, nat_lt, refl, ap, ◌∙◌, sym}
use Rattle.std.specs.Option.{option_or}
use Rattle.std.specs.List.{All, find, flat_map, position_from}
use Rattle.std.proofs.Math.ListN.{drop_of_length-le}
use Rattle.std.proofs.lemmas.Bool.{cond-false, le-ltb}
use Rattle.std.proofs.lemmas.List.{drop_more}
use Rattle.std.proofs.lemmas.List.Elements.{All-head, All-tail}
use Rattle.std.proofs.lemmas.List.Folds.{find-append}
use Rattle.scut_base.specs.Literal.{Literal}
use Rattle.pb_lin.specs.Constraint.{literals}
use Rattle.proof_laws.specs.Refusal.{term_variables}

pub found_first : {X : Type 0} (test : X → Bool) (xs ys : List X) (x : X) → find test xs ≡ Some x → find test (xs ++ ys) ≡ Some x
found_first test xs ys x is = find-append test xs ys ∙ ap (λ o. option_or o (find test ys)) is

pub found_later : {X : Type 0} (test : X → Bool) (xs ys : List X) → find test xs ≡ None → find test (xs ++ ys) ≡ find test ys
found_later test xs ys none = find-append test xs ys ∙ ap (λ o. option_or o (find test ys)) none

-- ---- the parts from the i-th on

pub found_here : {X Y : Type 0} (test : Y → Bool) (part : X → List Y) (xs : List X) (i : ℕ) (x d : X) (y : Y) → i < length xs → x ≡ get_or xs i d → find test (part x) ≡ Some y → find test (flat_map part (drop i xs)) ≡ Some y
found_here {X} test part xs i x d y within at is =
    ap (λ (us : List X). find test (flat_map part us)) (drop_more xs i d within)
    ∙ found_first test (part (get_or xs i d)) (flat_map part (drop (i + 1) xs)) y (ap (λ (z : X). find test (part z)) (sym at) ∙ is)

pub not_found_here : {X Y : Type 0} (test : Y → Bool) (part : X → List Y) (xs : List X) (i : ℕ) (x d : X) → i < length xs → x ≡ get_or xs i d → find test (part x) ≡ None → find test (flat_map part (drop i xs)) ≡ find test (flat_map part (drop (i + 1) xs))
not_found_here {X} test part xs i x d within at none =
    ap (λ (us : List X). find test (flat_map part us)) (drop_more xs i d within)
    ∙ found_later test (part (get_or xs i d)) (flat_map part (drop (i + 1) xs)) (ap (λ (z : X). find test (part z)) (sym at) ∙ none)

pub found_nowhere : {X Y : Type 0} (test : Y → Bool) (part : X → List Y) (xs : List X) (i : ℕ) → length xs ≤ i → find test (flat_map part (drop i xs)) ≡ None
found_nowhere {X} test part xs i past = ap (λ (us : List X). find test (flat_map part us)) (drop_of_length-le xs past)

-- ---- the places from the i-th on, where that is counted as n

pub place_here : {X : Type 0} (test : X → Bool) (n : ℕ) (xs : List X) (i : ℕ) (x d : X) → i < length xs → x ≡ get_or xs i d → test x ≡ true → position_from test n (drop i xs) ≡ Some n
place_here {X} test n xs i x d within at passes =
    ap (position_from test n) (drop_more xs i d within) ∙ ap (λ b. cond b (Some n) (position_from test (n + 1) (drop (i + 1) xs))) (ap test (sym at) ∙ passes)

pub place_later : {X : Type 0} (test : X → Bool) (n : ℕ) (xs : List X) (i : ℕ) (x d : X) → i < length xs → x ≡ get_or xs i d → test x ≡ false → position_from test n (drop i xs) ≡ position_from test (n + 1) (drop (i + 1) xs)
place_later {X} test n xs i x d within at fails =
    ap (position_from test n) (drop_more xs i d within) ∙ ap (λ b. cond b (Some n) (position_from test (n + 1) (drop (i + 1) xs))) (ap test (sym at) ∙ fails)

pub place_nowhere : {X : Type 0} (test : X → Bool) (n : ℕ) (xs : List X) (i : ℕ) → length xs ≤ i → position_from test n (drop i xs) ≡ None
place_nowhere test n xs i past = ap (position_from test n) (drop_of_length-le xs past)

-- the variables of a constraint's literals
pub literal_variables : (terms : List (Literal × ℕ)) → map (λ (l : Literal). l.var) (literals terms) ≡ term_variables terms
literal_variables [] = refl
literal_variables (t ∷ terms) = ap (λ (vars : List ℕ). t.0.var ∷ vars) (literal_variables terms)

-- no variable is above n where no literal's is
pub none_above : (n : ℕ) (ls : List Literal) → All (λ l. l.var ≤ n) ls → find (λ v. nat_lt n v) (map (λ (l : Literal). l.var) ls) ≡ None
none_above n [] all = refl
none_above n (l ∷ ls) all =
    cond-false (nat_lt n l.var) (Some l.var) (find (λ v. nat_lt n v) (map (λ (m : Literal). m.var) ls)) (le-ltb n l.var (All-head (λ (m : Literal). m.var ≤ n) l ls all))
    ∙ none_above n ls (All-tail (λ (m : Literal). m.var ≤ n) l ls all)
