-- Clauses that one assignment makes false.
use Rattle.std.specs.Prelude.{◌≡◌, ◌≢◌, ◌↔◌, ℕ, ◌+◌, ◌-◌, ◌<◌, ◌≤◌, ◌^◌, Bool, true, false, not, cond, if◌then◌else◌, List, [], ◌∷◌, ◌++◌, map, length, take, All, AllPairs, refl}
use Rattle.std.proofs.Common.{zero, suc, sym, ◌∙◌, ap, get_or, arith}
use Rattle.std.proofs.lemmas.List.{length-map}
use Rattle.std.proofs.lemmas.List.Elements.{All-nil, All-cons, All-weaker}
use Rattle.std.proofs.lemmas.List.Kept.{AllPairs-cons}
use Rattle.std.proofs.lemmas.List.Sums.{sum_by-cons}
use Rattle.scut_base.specs.Literal.{Literal}
use Rattle.scut_base.specs.Assignment.{value_of}
use Rattle.scut_base.proofs.Lists.{head_same, tail_same}
use Rattle.instance_normal.specs.Fitting.{Fits}
use Rattle.instance_normal.proofs.Distinct.{clause_fits}
use Rattle.pb_lin.specs.Constraint.{Holds, IsNormal, term_value, value}
use Rattle.pb_lin.proofs.Ones.{normal-ones}
use Rattle.representatives.specs.Bounded.{false_literals, blocking}

abbrev worth : List Bool → ℕ → List Bool → ℕ
worth b k m = value b (map (λ l. (l, 1)) (false_literals k m))

-- whether two truth values differ
abbrev differ : Bool → Bool → Bool
differ true x = not x
differ false x = x

abbrev one_if : Bool → ℕ
one_if true = 1
one_if false = 0

literal_worth : (v x : Bool) (n : ℕ) → n ≡ cond (if x then not v else v) 1 0 → n ≡ one_if (differ x v)
literal_worth true true n is = is
literal_worth true false n is = is
literal_worth false true n is = is
literal_worth false false n is = is

-- the values from a place on, one by one: some differs exactly where the sum is at least 1
abbrev IsCounted : ℕ → List Bool → List Bool → List Bool → Type 0
IsCounted k m b rest = (1 ≤ worth b k m → take (length m) rest ≢ m) × (take (length m) rest ≢ m → 1 ≤ worth b k m)

-- by the first value and the sum of the rest
by_bits : (x v : Bool) (k n more : ℕ) (m b rest : List Bool) → n ≡ one_if (differ x v) + more → (1 ≤ more → take (length m) rest ≢ m) → (take (length m) rest ≢ m → 1 ≤ more) → (1 ≤ n → v ∷ take (length m) rest ≢ x ∷ m) × (v ∷ take (length m) rest ≢ x ∷ m → 1 ≤ n)
by_bits true true k n more m b rest sum one two = ((λ le e. one (omega (arith, sum, le)) (tail_same true true _ _ e)), (λ apart. (let le = two (λ e. apart (ap (λ (xs : List Bool). true ∷ xs) e)) in omega (arith, sum, le))))
by_bits false false k n more m b rest sum one two = ((λ le e. one (omega (arith, sum, le)) (tail_same false false _ _ e)), (λ apart. (let le = two (λ e. apart (ap (λ (xs : List Bool). false ∷ xs) e)) in omega (arith, sum, le))))
by_bits true false k n more m b rest sum one two = ((λ le e. (let h : false ≡ true = head_same false true _ _ e in cc)), (λ apart. omega (arith, sum)))
by_bits false true k n more m b rest sum one two = ((λ le e. (let h : true ≡ false = head_same true false _ _ e in cc)), (λ apart. omega (arith, sum)))

counted : (m b : List Bool) (k : ℕ) (rest : List Bool) → ((i : ℕ) → get_or rest i false ≡ get_or b (k + i) false) → length m ≤ length rest → IsCounted (k + 1) m b rest
counted [] b k rest same long = ((λ le. absurd (omega arith)), (λ apart. absurd (apart refl)))
counted (x ∷ m) b k [] same long = absurd (omega arith)
counted (x ∷ m) b k (v ∷ rest) same long =
    let later = counted m b (k + 1) rest (λ i. let e : k + suc i ≡ (k + 1) + i = omega arith in same (suc i) ∙ ap (λ (j : ℕ). get_or b j false) e) (omega arith) in
    let e : k + zero ≡ (k + 1) - 1 = omega arith in
    let first : v ≡ value_of b (k + 1) = same zero ∙ ap (λ (j : ℕ). get_or b j false) e in
    let own : term_value b (record { var = k + 1; neg = x }, 1) ≡ one_if (differ x v) = literal_worth v x (term_value b (record { var = k + 1; neg = x }, 1)) (ap (λ (w : Bool). cond (if x then not w else w) 1 0) (sym first)) in
    let sum : worth b (k + 1) (x ∷ m) ≡ one_if (differ x v) + worth b ((k + 1) + 1) m = sum_by-cons (term_value b) (record { var = k + 1; neg = x }, 1) (map (λ (l : Literal). (l, 1)) (false_literals ((k + 1) + 1) m)) ∙ ap (λ (n : ℕ). n + worth b ((k + 1) + 1) m) own in
    by_bits x v k (worth b (k + 1) (x ∷ m)) (worth b ((k + 1) + 1) m) m b rest sum later.0 later.1

-- the clause of an assignment holds exactly where another one begins
pub blocking_law : (m b : List Bool) → length m ≤ length b → (Holds b (blocking m) ↔ (take (length m) b ≢ m))
blocking_law m b long = let it = counted m b 0 b (λ i. let e : i ≡ 0 + i = omega arith in ap (λ (j : ℕ). get_or b j false) e) long in (it.0, it.1)

-- ---- the literals of such a clause

pub false_literals-push : (k : ℕ) (xs : List Bool) (x : Bool) → false_literals k (xs ++ x ∷ []) ≡ false_literals k xs ++ record { var = k + length xs; neg = x } ∷ []
false_literals-push k [] x = let here : k ≡ k + 0 = omega arith in ap (λ (n : ℕ). let ls : List Literal = record { var = n; neg = x } ∷ [] in ls) here
false_literals-push k (y ∷ xs) x =
    let there : (k + 1) + length xs ≡ k + length (y ∷ xs) = omega arith in
    ap (λ (ls : List Literal). record { var = k; neg = y } ∷ ls) (false_literals-push (k + 1) xs x ∙ ap (λ (n : ℕ). false_literals (k + 1) xs ++ record { var = n; neg = x } ∷ []) there)

literals_from : (k : ℕ) (xs : List Bool) → All (λ l. k ≤ l.var) (false_literals k xs)
literals_from k [] = All-nil (λ l. k ≤ l.var)
literals_from k (x ∷ xs) = All-cons (λ l. k ≤ l.var) (record { var = k; neg = x }) (false_literals (k + 1) xs) (omega arith) (All-weaker (λ (l : Literal). k + 1 ≤ l.var) (λ (l : Literal). k ≤ l.var) (λ l low. omega arith) (false_literals (k + 1) xs) (literals_from (k + 1) xs))

literals_upto : (k n : ℕ) (xs : List Bool) → k + length xs ≤ n + 1 → All (λ l. l.var ≤ n) (false_literals k xs)
literals_upto k n [] room = All-nil (λ l. l.var ≤ n)
literals_upto k n (x ∷ xs) room = All-cons (λ l. l.var ≤ n) (record { var = k; neg = x }) (false_literals (k + 1) xs) (omega arith) (literals_upto (k + 1) n xs (omega arith))

pub literals_rising : (k : ℕ) (xs : List Bool) → AllPairs (λ l m. l.var < m.var) (false_literals k xs)
literals_rising k [] = λ i j d less short. absurd (omega arith)
literals_rising k (x ∷ xs) = AllPairs-cons (λ l m. l.var < m.var) (record { var = k; neg = x }) (false_literals (k + 1) xs) (All-weaker (λ (l : Literal). k + 1 ≤ l.var) (λ (l : Literal). k < l.var) (λ l low. omega arith) (false_literals (k + 1) xs) (literals_from (k + 1) xs)) (literals_rising (k + 1) xs)

literals_long : (k : ℕ) (xs : List Bool) → length (false_literals k xs) ≡ length xs
literals_long k [] = refl
literals_long k (x ∷ xs) = omega (arith, literals_long (k + 1) xs)

pub blocking_normal : (a : List Bool) → length a < 2 ^ 64 → IsNormal (blocking a).terms (blocking a).degree
blocking_normal a short = normal-ones (false_literals 1 a) 1 (literals_rising 1 a) (λ d some. let low : 1 ≤ (get_or (false_literals 1 a) 0 d).var = literals_from 1 a 0 d some in omega arith) (omega (arith, literals_long 1 a))

pub blocking_fits : (n : ℕ) (a : List Bool) → length a ≤ n → length a < 2 ^ 64 → Fits n (blocking a)
blocking_fits n a le short = clause_fits n (false_literals 1 a) (blocking a) refl (omega (arith, length-map {B = Literal × ℕ} (false_literals 1 a) (λ (l : Literal). (l, 1)), literals_long 1 a)) (literals_upto 1 n a (omega arith))
