-- The two constraints that define a variable, put together term by term.
use Rattle.std.proofs.Common.{◌≡◌, ℕ, ◌+◌, ◌≤◌, ◌^◌, false, true, not, List, [], ◌∷◌, ◌++◌, take, Some, Ok, Err, Result, sym, subst, ap, ◌∙◌}
use Rattle.std.specs.Prelude.{IfOk, slice_get}
use Rattle.std.proofs.lemmas.List.{map-append}
use Rattle.scut_base.specs.Literal.{Literal}
use Rattle.pb_lin.specs.Constraint.{ConstraintValue, IsNormal, TermsUpTo, opposite, opposite_terms, size}
use Rattle.pb_lin.proofs.AtPlace.{take_place}
use Rattle.proof_laws.specs.Steps.{term_of, missed_by, reached_if, reached_only_if}
use Rattle.proof_laws.proofs.NextStates.{lower_is_normal, upper_is_normal}

literal_is : (l m : Literal) → l.var ≡ m.var → l.neg ≡ m.neg → l ≡ m
literal_is l m var neg = λ i. record { var = var i; neg = neg i }

-- one more of the opposite terms
pub opposite_more : (terms made : List (Literal × ℕ)) (i : ℕ) (t : Literal × ℕ) (l : Literal) → made ≡ opposite_terms (take i terms) → slice_get terms i ≡ Some t → l.var ≡ t.0.var → l.neg ≡ not t.0.neg →
    made ++ (l, t.1) ∷ [] ≡ opposite_terms (take (i + 1) terms)
opposite_more terms made i t l so_far found var neg =
    ap (λ (ts : List (Literal × ℕ)). ts ++ (l, t.1) ∷ []) so_far
    ∙ ap (λ (k : Literal). opposite_terms (take i terms) ++ (k, t.1) ∷ []) (literal_is l (opposite t.0) var neg)
    ∙ sym (ap opposite_terms (take_place terms i t found) ∙ map-append (λ (u : Literal × ℕ). (opposite u.0, u.1)) (take i terms) (t ∷ []))

-- the terms with that of the variable are those of the constraint that its truth implies
pub upper_is : (n : ℕ) (sum : ConstraintValue) (made ts : List (Literal × ℕ)) (l : Literal) (k : ℕ) → made ≡ sum.terms → l.var ≡ n + 1 → l.neg ≡ true → k ≡ sum.degree → ts ≡ made ++ term_of l k →
    record { terms = ts; degree = k } ≡ reached_if (n + 1) sum
upper_is n sum made ts l k same var neg degree is =
    let last : Literal = record { var = n + 1; neg = true } in
    let whole : ts ≡ sum.terms ++ term_of last sum.degree = is
    ∙ ap (λ (us : List (Literal × ℕ)). us ++ term_of l k) same
    ∙ ap (λ (m : Literal). sum.terms ++ term_of m k) (literal_is l last var neg)
    ∙ ap (λ (j : ℕ). sum.terms ++ term_of last j) degree in
    λ i. record { terms = whole i; degree = degree i }

-- the opposite terms with that of the variable are those of the constraint that its negation implies
pub lower_is : (n : ℕ) (sum : ConstraintValue) (made ts : List (Literal × ℕ)) (l : Literal) (k : ℕ) → made ≡ opposite_terms sum.terms → l.var ≡ n + 1 → l.neg ≡ false → k ≡ missed_by sum → ts ≡ made ++ term_of l k →
    record { terms = ts; degree = k } ≡ reached_only_if (n + 1) sum
lower_is n sum made ts l k opposites var neg missed is =
    let last : Literal = record { var = n + 1; neg = false } in
    let whole : ts ≡ opposite_terms sum.terms ++ term_of last (missed_by sum) = is
    ∙ ap (λ (us : List (Literal × ℕ)). us ++ term_of l k) opposites
    ∙ ap (λ (m : Literal). opposite_terms sum.terms ++ term_of m k) (literal_is l last var neg)
    ∙ ap (λ (j : ℕ). opposite_terms sum.terms ++ term_of last j) missed in
    λ i. record { terms = whole i; degree = missed i }

-- what is in normal form stays so under another name
normal_as : (c d : ConstraintValue) → c ≡ d → IsNormal d.terms d.degree → IsNormal c.terms c.degree
normal_as c d same normal = subst (λ (e : ConstraintValue). IsNormal e.terms e.degree) (sym same) normal

pub upper_normal : (n : ℕ) (sum : ConstraintValue) (ts : List (Literal × ℕ)) (k : ℕ) → IsNormal sum.terms sum.degree → TermsUpTo n sum.terms → size (reached_if (n + 1) sum) ≤ 2 ^ 100 → record { terms = ts; degree = k } ≡ reached_if (n + 1) sum → IsNormal ts k
upper_normal n sum ts k normal upto small is = normal_as (record { terms = ts; degree = k }) (reached_if (n + 1) sum) is (upper_is_normal n sum normal upto small)

pub lower_normal : (n : ℕ) (sum : ConstraintValue) (ts : List (Literal × ℕ)) (k : ℕ) → IsNormal sum.terms sum.degree → TermsUpTo n sum.terms → size (reached_only_if (n + 1) sum) ≤ 2 ^ 100 → record { terms = ts; degree = k } ≡ reached_only_if (n + 1) sum → IsNormal ts k
lower_normal n sum ts k normal upto small is = normal_as (record { terms = ts; degree = k }) (reached_only_if (n + 1) sum) is (lower_is_normal n sum normal upto small)

-- an answer that is one constraint is another
pub if_ok_as : {E : Type 0} (r : Result ConstraintValue E) (c d : ConstraintValue) → c ≡ d → IfOk r (λ e. e ≡ c) → IfOk r (λ e. e ≡ d)
if_ok_as (Ok e) c d same is = is ∙ same
if_ok_as (Err e) c d same is = tt
