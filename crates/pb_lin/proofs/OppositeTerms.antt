-- Sums over the terms of a negation.
use Rattle.std.specs.Prelude.{◌≡◌, ℕ, ◌+◌, ◌<◌, ◌≤◌, ◌^◌, Bool, true, false, not, if◌then◌else◌, List, [], ◌∷◌, map, refl, AllPairs}
use Rattle.std.proofs.Common.{sym, ◌∙◌, ap, subst, length, get_or, arith}
use Rattle.std.proofs.lemmas.List.{get_or-map, length-map}
use Rattle.std.proofs.lemmas.List.Elements.{All-map}
use Rattle.std.proofs.lemmas.List.Sums.{sum_by-cons}
use Rattle.scut_base.specs.Literal.{Literal}
use Rattle.scut_base.specs.Assignment.{value_of}
use Rattle.pb_lin.specs.Constraint.{IsNormal, opposite, total, term_value, value}

-- a term with the opposite literal
abbrev pub opposite_term : Literal × ℕ → Literal × ℕ
opposite_term t = (opposite t.0, t.1)

pub total-opposite : (terms : List (Literal × ℕ)) → total (map opposite_term terms) ≡ total terms
total-opposite [] = refl
total-opposite (t ∷ terms) =
    sum_by-cons (λ t. t.1) (opposite_term t) (map opposite_term terms) ∙ ap (λ n. t.1 + n) (total-opposite terms) ∙ sym (sum_by-cons (λ t. t.1) t terms)

one_of_two : (neg b : Bool) (n : ℕ) → (if (if not neg then not b else b) then n else 0) + (if (if neg then not b else b) then n else 0) ≡ n
one_of_two true true n = omega arith
one_of_two true false n = omega arith
one_of_two false true n = omega arith
one_of_two false false n = omega arith

-- of a literal and its opposite one is true
term_or_opposite : (a : List Bool) (t : Literal × ℕ) → term_value a (opposite_term t) + term_value a t ≡ t.1
term_or_opposite a t = one_of_two t.0.neg (value_of a t.0.var) t.1

pub value-opposite : (a : List Bool) (terms : List (Literal × ℕ)) → value a (map opposite_term terms) + value a terms ≡ total terms
value-opposite a [] = refl
value-opposite a (t ∷ terms) =
    let opposites : value a (map opposite_term (t ∷ terms)) ≡ term_value a (opposite_term t) + value a (map opposite_term terms) = sum_by-cons (term_value a) (opposite_term t) (map opposite_term terms) in
    let own : value a (t ∷ terms) ≡ term_value a t + value a terms = sum_by-cons (term_value a) t terms in
    let whole : total (t ∷ terms) ≡ t.1 + total terms = sum_by-cons (λ t. t.1) t terms in
    let one : term_value a (opposite_term t) + term_value a t ≡ t.1 = term_or_opposite a t in
    let rest : value a (map opposite_term terms) + value a terms ≡ total terms = value-opposite a terms in
    omega arith

rising-opposite : (terms : List (Literal × ℕ)) → AllPairs (λ s t. s.0.var < t.0.var) terms → AllPairs (λ s t. s.0.var < t.0.var) (map opposite_term terms)
rising-opposite terms rising = λ i j d before within.
    let inside : j < length terms = omega (arith, length-map terms opposite_term) in
    let first : (get_or (map opposite_term terms) i d).0.var ≡ (get_or terms i d).0.var = ap (λ t. t.0.var) (get_or-map opposite_term terms i d d (omega arith)) in
    let second : (get_or (map opposite_term terms) j d).0.var ≡ (get_or terms j d).0.var = ap (λ t. t.0.var) (get_or-map opposite_term terms j d d inside) in
    let rise : (get_or terms i d).0.var < (get_or terms j d).0.var = rising i j d before inside in
    omega arith

-- opposite literals keep the normal form, where the size is still small
pub normal-opposite : (terms opposites : List (Literal × ℕ)) (degree degree' : ℕ) → IsNormal terms degree → opposites ≡ map opposite_term terms → total terms + degree' ≤ 2 ^ 100 → IsNormal opposites degree'
normal-opposite terms opposites degree degree' normal is fits =
    let turned : IsNormal (map opposite_term terms) degree' = record {
      merged = record {
        positive = All-map (λ t. 0 < t.1) opposite_term terms normal.merged.positive;
        from_one = All-map (λ t. 0 < t.0.var) opposite_term terms normal.merged.from_one;
        rising = rising-opposite terms normal.merged.rising;
      };
      small = let same : total (map opposite_term terms) ≡ total terms = total-opposite terms in omega arith;
    } in
    subst (λ (ts : List (Literal × ℕ)). IsNormal ts degree') (sym is) turned
