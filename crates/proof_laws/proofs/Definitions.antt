-- A new variable's two lines hold where it is as true as the sum reaches its degree.
use Rattle.std.proofs.Common.{◌≡◌, ◌⊎◌, ℕ, eqb, ◌+◌, ◌-◌, ◌<◌, ◌≤◌, Bool, true, false, not, if◌then◌else◌, List, [], ◌∷◌, ◌++◌, length, map, zero, suc, ap, sym, ◌∙◌, refl, arith, add-zero, ⊎_elim, inl, inr}
use Rattle.std.specs.List.{All}
use Rattle.std.proofs.lemmas.Bool.{cases_lt, cases_Bool, cond-true, cond-false, ne_eqb}
use Rattle.std.proofs.lemmas.List.{get_or_push}
use Rattle.std.proofs.lemmas.List.Elements.{All-nil, All-cons, All-map}
use Rattle.std.proofs.lemmas.List.Sums.{sum_by-cons, sum_by-append}
use Rattle.scut_base.specs.Literal.{Literal}
use Rattle.scut_base.specs.Assignment.{value_of, lit_true}
use Rattle.pb_lin.specs.Constraint.{ConstraintValue, Holds, term_value, value, opposite, total}
use Rattle.proof_laws.proofs.Images.{value-push}
use Rattle.proof_laws.specs.Steps.{reached_if, reached_only_if, missed_by, term_of, clause}
use Rattle.proof_laws.proofs.Semantics.{AreWithin}

one_of_two : (neg b : Bool) (n : ℕ) → (if (if not neg then not b else b) then n else 0) + (if (if neg then not b else b) then n else 0) ≡ n
one_of_two true true n = omega arith
one_of_two true false n = omega arith
one_of_two false true n = omega arith
one_of_two false false n = omega arith

pub value-opposites : (a : List Bool) (terms : List (Literal × ℕ)) → value a (map (λ t. (opposite t.0, t.1)) terms) + value a terms ≡ total terms
value-opposites a [] = refl
value-opposites a (t ∷ terms) =
    let opposites = sum_by-cons (term_value a) (opposite t.0, t.1) (map (λ r. (opposite r.0, r.1)) terms) in
    let own = sum_by-cons (term_value a) t terms in
    let whole = sum_by-cons (λ r. r.1) t terms in
    let one = one_of_two t.0.neg (value_of a t.0.var) t.1 in
    let rest = value-opposites a terms in
    omega arith

last_value : (x : List Bool) (v : Bool) (n : ℕ) → length x + 1 ≡ n → value_of (x ++ v ∷ []) n ≡ v
last_value x v n e = get_or_push x v false (n - 1) (omega arith)

nothing : (b : Bool) (n : ℕ) → n ≡ 0 → (if b then n else 0) ≡ 0
nothing true n e = e
nothing false n e = refl

pub zero_or_more : (n : ℕ) → (n ≡ 0) ⊎ (0 < n)
zero_or_more zero = inl refl
zero_or_more (suc n) = inr (omega arith)

last_term : (x : List Bool) (v neg : Bool) (var n : ℕ) → length x + 1 ≡ var → value (x ++ v ∷ []) (term_of (record { var = var; neg = neg }) n) ≡ (if (if neg then not v else v) then n else 0)
last_term x v neg var n e = ⊎_elim
    (λ (zero' : n ≡ 0). ap (value (x ++ v ∷ [])) (ap (λ k. term_of (record { var = var; neg = neg }) k) zero') ∙ sym (nothing (if neg then not v else v) n zero'))
    (λ (more : 0 < n).
    let one : term_of (record { var = var; neg = neg }) n ≡ (record { var = var; neg = neg }, n) ∷ [] = cond-false (eqb n 0) [] ((record { var = var; neg = neg }, n) ∷ []) (ne_eqb n 0 (λ e. omega arith)) in
    let single = sum_by-cons (term_value (x ++ v ∷ [])) (record { var = var; neg = neg }, n) [] in
    let last : term_value (x ++ v ∷ []) (record { var = var; neg = neg }, n) ≡ (if (if neg then not v else v) then n else 0) = ap (λ (b : Bool). if (if neg then not b else b) then n else 0) (last_value x v var e) in
    ap (value (x ++ v ∷ [])) one ∙ single ∙ add-zero _ ∙ last)
    (zero_or_more n)

pub definition_holds : (x : List Bool) (var : ℕ) (sum : ConstraintValue) → length x + 1 ≡ var → AreWithin (length x) sum.terms → (v : Bool) × Holds (x ++ v ∷ []) (reached_if var sum) × Holds (x ++ v ∷ []) (reached_only_if var sum)
definition_holds x var sum new within = ⊎_elim below reached (cases_lt (value x sum.terms) sum.degree)
  where
    first : (v : Bool) → value (x ++ v ∷ []) (reached_if var sum).terms ≡ value x sum.terms + (if not v then sum.degree else 0)
    first v =
        let push = sum_by-append (term_value (x ++ v ∷ [])) sum.terms (term_of (record { var = var; neg = true }) sum.degree) in
        let same = value-push x v sum.terms within in
        let last = last_term x v true var sum.degree new in
        omega arith

    second : (v : Bool) → value (x ++ v ∷ []) (reached_only_if var sum).terms ≡ value x (map (λ t. (opposite t.0, t.1)) sum.terms) + (if v then missed_by sum else 0)
    second v =
        let push = sum_by-append (term_value (x ++ v ∷ [])) (map (λ t. (opposite t.0, t.1)) sum.terms) (term_of (record { var = var; neg = false }) (missed_by sum)) in
        let same = value-push x v (map (λ t. (opposite t.0, t.1)) sum.terms) (All-map (λ t. (0 < t.0.var) × (t.0.var ≤ length x)) (λ t. (opposite t.0, t.1)) sum.terms within) in
        let last = last_term x v false var (missed_by sum) new in
        omega arith

    below : value x sum.terms < sum.degree → (v : Bool) × Holds (x ++ v ∷ []) (reached_if var sum) × Holds (x ++ v ∷ []) (reached_only_if var sum)
    below h = let one = first false in let two = second false in let both = value-opposites x sum.terms in (false, omega arith, omega arith)

    reached : sum.degree ≤ value x sum.terms → (v : Bool) × Holds (x ++ v ∷ []) (reached_if var sum) × Holds (x ++ v ∷ []) (reached_only_if var sum)
    reached h = let one = first true in let two = second true in (true, omega arith, omega arith)

-- the literals of a clause are false, or it holds
pub clause_cases : (x : List Bool) (lits : List Literal) → All (λ l. lit_true x l ≡ false) lits ⊎ Holds x (clause lits)
clause_cases x [] = inl (All-nil (λ l. lit_true x l ≡ false))
clause_cases x (l ∷ lits) = ⊎_elim
    (λ (e : lit_true x l ≡ true). let one : term_value x (l, 1) ≡ 1 = cond-true (lit_true x l) 1 0 e in let sum = sum_by-cons (term_value x) (l, 1) (map (λ m. (m, 1)) lits) in inr (omega arith))
    (λ (e : lit_true x l ≡ false). ⊎_elim
    (λ (all : All (λ m. lit_true x m ≡ false) lits). inl (All-cons (λ m. lit_true x m ≡ false) l lits e all))
    (λ (holds : Holds x (clause lits)). let sum = sum_by-cons (term_value x) (l, 1) (map (λ m. (m, 1)) lits) in inr (omega arith))
    (clause_cases x lits))
    (cases_Bool (lit_true x l))
