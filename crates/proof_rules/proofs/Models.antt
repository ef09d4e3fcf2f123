-- Literals of the variables in order, and the assignment that they make true.
use Rattle.std.proofs.Common.{◌≡◌, ◌≢◌, ℕ, zero, suc, ◌+◌, ◌-◌, ◌<◌, ◌≤◌, ◌==◌, Bool, true, false, not, if◌then◌else◌, Option, Some, None, List, [], ◌∷◌, ◌++◌, map, length, get_or, set, take, drop, refl, arith, sym, ap, ◌∙◌, ⊎_elim}
use Rattle.std.specs.Prelude.{nat_lt, ◌↔◌, IsTrue}
use Rattle.std.proofs.Math.ListN.{drop_of_length-le}
use Rattle.std.proofs.lemmas.Bool.{cases_lt, lt-ltb, le-ltb, ltb-false, ltb-true, eqb-true, eq-eqb, ne_eqb}
use Rattle.std.proofs.lemmas.List.{drop_more, take_more, take_more_set, take_all, map-append, length-map}
use Rattle.scut_base.specs.Literal.{Literal}
use Rattle.pb_lin.specs.Constraint.{ConstraintValue, Holds, value}
use Rattle.proof_laws.specs.Refusal.{misplaced, assignment_of}

-- ---- the first place that is wrong

-- what a place answers, by its two tests
abbrev by_tests : Bool → Bool → Option ℕ → Option ℕ → Option ℕ
by_tests beyond same here later = if beyond then here else if same then later else here

misplaced_at : (n : ℕ) (model : List Literal) (i : ℕ) (l d : Literal) → i < length model → l ≡ get_or model i d → misplaced (i + 1) n (drop i model) ≡ by_tests (nat_lt n (i + 1)) (l.var == i + 1) (Some (i + 1)) (misplaced (i + 1 + 1) n (drop (i + 1) model))
misplaced_at n model i l d within at =
    ap (misplaced (i + 1) n) (drop_more model i d within)
    ∙ ap (λ (m : Literal). by_tests (nat_lt n (i + 1)) (m.var == i + 1) (Some (i + 1)) (misplaced (i + 1 + 1) n (drop (i + 1) model))) (sym at)

pub misplaced_beyond : (n : ℕ) (model : List Literal) (i : ℕ) (l d : Literal) → i < length model → l ≡ get_or model i d → n < i + 1 → misplaced (i + 1) n (drop i model) ≡ Some (i + 1)
misplaced_beyond n model i l d within at beyond =
    misplaced_at n model i l d within at ∙ ap (λ b. by_tests b (l.var == i + 1) (Some (i + 1)) (misplaced (i + 1 + 1) n (drop (i + 1) model))) (lt-ltb n (i + 1) beyond)

pub misplaced_other : (n : ℕ) (model : List Literal) (i : ℕ) (l d : Literal) → i < length model → l ≡ get_or model i d → i + 1 ≤ n → l.var ≢ i + 1 → misplaced (i + 1) n (drop i model) ≡ Some (i + 1)
misplaced_other n model i l d within at inside other =
    misplaced_at n model i l d within at
    ∙ ap (λ b. by_tests b (l.var == i + 1) (Some (i + 1)) (misplaced (i + 1 + 1) n (drop (i + 1) model))) (le-ltb n (i + 1) inside)
    ∙ ap (λ b. by_tests false b (Some (i + 1)) (misplaced (i + 1 + 1) n (drop (i + 1) model))) (ne_eqb l.var (i + 1) other)

pub misplaced_later : (n : ℕ) (model : List Literal) (i : ℕ) (l d : Literal) → i < length model → l ≡ get_or model i d → i + 1 ≤ n → l.var ≡ i + 1 → misplaced (i + 1) n (drop i model) ≡ misplaced (i + 1 + 1) n (drop (i + 1) model)
misplaced_later n model i l d within at inside same =
    misplaced_at n model i l d within at
    ∙ ap (λ b. by_tests b (l.var == i + 1) (Some (i + 1)) (misplaced (i + 1 + 1) n (drop (i + 1) model))) (le-ltb n (i + 1) inside)
    ∙ ap (λ b. by_tests false b (Some (i + 1)) (misplaced (i + 1 + 1) n (drop (i + 1) model))) (eq-eqb l.var (i + 1) same)

misplaced_end : (n : ℕ) (model : List Literal) (i : ℕ) → length model ≤ i → misplaced (i + 1) n (drop i model) ≡ (if nat_lt n (i + 1) then None else Some (i + 1))
misplaced_end n model i past = ap (misplaced (i + 1) n) (drop_of_length-le model past)

pub misplaced_short : (n : ℕ) (model : List Literal) (i : ℕ) → length model ≤ i → i + 1 ≤ n → misplaced (i + 1) n (drop i model) ≡ Some (i + 1)
misplaced_short n model i past inside = misplaced_end n model i past ∙ ap (λ (b : Bool). if b then None else Some (i + 1)) (le-ltb n (i + 1) inside)

-- ---- where no place is wrong

none_wrong : (n k v : ℕ) (later : Option ℕ) → by_tests (nat_lt n k) (v == k) (Some k) later ≡ None → (k ≤ n) × (v ≡ k) × (later ≡ None)
none_wrong n k v later none = by (nat_lt n k) (v == k) refl refl none
  where
    by : (b e : Bool) → nat_lt n k ≡ b → (v == k) ≡ e → by_tests b e (Some k) later ≡ None → (k ≤ n) × (v ≡ k) × (later ≡ None)
    by true e beyond same never = cc
    by false true inside same rest = (ltb-false n k inside, eqb-true v k same, rest)
    by false false inside other never = cc

pub placed : (n k : ℕ) (model : List Literal) → misplaced k n model ≡ None → (i : ℕ) (d : Literal) → i < length model → (get_or model i d).var ≡ k + i
placed n k [] none i d short = absurd (omega arith)
placed n k (l ∷ model) none zero d short =
    let parts = none_wrong n k l.var (misplaced (k + 1) n model) none in
    let here : l.var ≡ k = parts.1 in
    omega arith
placed n k (l ∷ model) none (suc i) d short =
    let parts = none_wrong n k l.var (misplaced (k + 1) n model) none in
    let later : (get_or model i d).var ≡ k + 1 + i = placed n (k + 1) model parts.2 i d (omega arith) in
    omega arith

all_there : (n k : ℕ) → (if nat_lt n k then None else Some k) ≡ None → n < k
all_there n k none = by (nat_lt n k) refl none
  where
    by : (b : Bool) → nat_lt n k ≡ b → (if b then None else Some k) ≡ None → n < k
    by true is fine = ltb-true n k is
    by false is never = cc

pub placed_length : (n k : ℕ) (model : List Literal) → k ≤ n + 1 → misplaced k n model ≡ None → k + length model ≡ n + 1
placed_length n k [] le none = let beyond : n < k = all_there n k none in omega arith
placed_length n k (l ∷ model) le none =
    let parts = none_wrong n k l.var (misplaced (k + 1) n model) none in
    let inside : k ≤ n = parts.0 in
    let rest : k + 1 + length model ≡ n + 1 = placed_length n (k + 1) model (omega arith) parts.2 in
    omega arith

-- ---- the assignment

abbrev truth : Literal → Bool
truth l = not l.neg

pub assigned_more : (a : List Bool) (model : List Literal) (i : ℕ) (l d : Literal) → i < length model → l ≡ get_or model i d → l.var ≡ i + 1 → length a ≡ length model → take i a ≡ assignment_of (take i model) → take (i + 1) (set a (l.var - 1) (not l.neg)) ≡ assignment_of (take (i + 1) model)
assigned_more a model i l d within at var long before =
    let place : l.var - 1 ≡ i = omega arith in
    ap (λ (k : ℕ). take (i + 1) (set a k (not l.neg))) place
    ∙ take_more_set a i (not l.neg) (omega arith)
    ∙ ap (λ (bs : List Bool). bs ++ truth l ∷ []) before
    ∙ ap (λ (m : Literal). map truth (take i model) ++ truth m ∷ []) at
    ∙ sym (map-append truth (take i model) (get_or model i d ∷ []))
    ∙ ap (map truth) (sym (take_more model i d within))

pub assigned_all : (a : List Bool) (model : List Literal) (i : ℕ) → length model ≤ i → length a ≡ length model → take i a ≡ assignment_of (take i model) → a ≡ assignment_of model
assigned_all a model i past long is = sym (take_all i a (omega arith)) ∙ is ∙ ap (map truth) (take_all i model past)

pub length-assignment_of : (model : List Literal) → length (assignment_of model) ≡ length model
length-assignment_of model = length-map model truth

-- ---- rows that hold

pub row_broken : (a : List Bool) (c : ConstraintValue) (b : Bool) → (IsTrue b ↔ Holds a c) → b ≡ false → nat_lt (value a c.terms) c.degree ≡ true
row_broken a c b test fails = ⊎_elim
    (λ (less : value a c.terms < c.degree). lt-ltb (value a c.terms) c.degree less)
    (λ (holds : c.degree ≤ value a c.terms). let passes : b ≡ true = test.1 holds in cc)
    (cases_lt (value a c.terms) c.degree)

pub row_holds : (a : List Bool) (c : ConstraintValue) (b : Bool) → (IsTrue b ↔ Holds a c) → b ≡ true → nat_lt (value a c.terms) c.degree ≡ false
row_holds a c b test passes = le-ltb (value a c.terms) c.degree (test.0 passes)
