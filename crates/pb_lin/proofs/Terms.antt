-- Terms by their literals and stored coefficients.
use Rattle.std.proofs.Common.{◌≡◌, ℕ, zero, suc, ◌+◌, ◌^◌, ◌≤◌, List, [], ◌∷◌, length, get_or, map, refl, ap, sym, ◌∙◌, Some, subst}
use Rattle.std.specs.Prelude.{slice_get, IsTrue, nat_eq}
use Rattle.std.proofs.lemmas.Bool.{eqb-true, eq-eqb}
use Rattle.std.proofs.lemmas.List.Elements.{All-nil, All-cons, All-head, All-tail}
use Rattle.scut_base.specs.Literal.{Literal}
use Rattle.pb_lin.specs.Constraint.{AreOnes, literals, ones, opposite, opposite_terms, total}
use Rattle.pb_lin.specs.Stored.{terms_of, IsStored}
use Rattle.pb_lin.proofs.OppositeTerms.{normal-opposite}

pub length-terms_of : (ls : List Literal) (ns : List ℕ) → length (terms_of ls ns) ≡ length ls
length-terms_of [] ns = refl
length-terms_of (l ∷ ls) [] = ap suc (length-terms_of ls [])
length-terms_of (l ∷ ls) (n ∷ ns) = ap suc (length-terms_of ls ns)

-- the term at a place
pub slice_get-terms_of : (ls : List Literal) (ns : List ℕ) (i : ℕ) (l : Literal) → slice_get ls i ≡ Some l → slice_get (terms_of ls ns) i ≡ Some (l, get_or ns i 1)
slice_get-terms_of [] ns i l e = cc
slice_get-terms_of (m ∷ ls) [] zero l e = let same : m ≡ l = cc in ap (λ (k : Literal). Some (k, 1)) same
slice_get-terms_of (m ∷ ls) [] (suc i) l e = slice_get-terms_of ls [] i l e
slice_get-terms_of (m ∷ ls) (n ∷ ns) zero l e = let same : m ≡ l = cc in ap (λ (k : Literal). Some (k, n)) same
slice_get-terms_of (m ∷ ls) (n ∷ ns) (suc i) l e = slice_get-terms_of ls ns i l e

pub literals-terms_of : (ls : List Literal) (ns : List ℕ) → literals (terms_of ls ns) ≡ ls
literals-terms_of [] ns = refl
literals-terms_of (l ∷ ls) [] = ap (λ (ms : List Literal). l ∷ ms) (literals-terms_of ls [])
literals-terms_of (l ∷ ls) (n ∷ ns) = ap (λ (ms : List Literal). l ∷ ms) (literals-terms_of ls ns)

-- terms are those of their literals and coefficients
pub terms_of-both : (ts : List (Literal × ℕ)) → terms_of (literals ts) (map (λ t. t.1) ts) ≡ ts
terms_of-both [] = refl
terms_of-both (t ∷ ts) = ap (λ (rs : List (Literal × ℕ)). t ∷ rs) (terms_of-both ts)

-- and of their literals alone where all coefficients are 1
pub terms_of-ones : (ts : List (Literal × ℕ)) → AreOnes ts → terms_of (literals ts) [] ≡ ts
terms_of-ones [] all = refl
terms_of-ones (t ∷ ts) all =
    ap (λ (n : ℕ). let r : Literal × ℕ = (t.0, n) in r ∷ terms_of (literals ts) []) (sym (All-head (λ s. s.1 ≡ 1) t ts all))
    ∙ ap (λ (rs : List (Literal × ℕ)). t ∷ rs) (terms_of-ones ts (All-tail (λ s. s.1 ≡ 1) t ts all))

pub terms_of-none : (ls : List Literal) → terms_of ls [] ≡ ones ls
terms_of-none [] = refl
terms_of-none (l ∷ ls) = ap (λ (ts : List (Literal × ℕ)). (l, 1) ∷ ts) (terms_of-none ls)

ones_of_none : (ls : List Literal) → AreOnes (terms_of ls [])
ones_of_none [] = All-nil (λ t. t.1 ≡ 1)
ones_of_none (l ∷ ls) = All-cons (λ t. t.1 ≡ 1) (l, 1) (terms_of ls []) refl (ones_of_none ls)

-- no coefficient is stored
pub ones_where_none : (ls : List Literal) (ns : List ℕ) → ns ≡ [] → AreOnes (terms_of ls ns)
ones_where_none ls ns none = subst (λ (ms : List ℕ). AreOnes (terms_of ls ms)) (sym none) (ones_of_none ls)

-- no coefficient is stored: it is a clause where the degree is 1
pub clause_of_none : (ls : List Literal) (ns : List ℕ) (n : ℕ) → ns ≡ [] → (IsTrue (nat_eq n 1) → AreOnes (terms_of ls ns) × (n ≡ 1)) × (AreOnes (terms_of ls ns) × (n ≡ 1) → IsTrue (nat_eq n 1))
clause_of_none ls ns n none = ((λ e. (ones_where_none ls ns none, eqb-true n 1 e)), (λ h. eq-eqb n 1 h.1))

pub terms_of-opposite : (ls : List Literal) (ns : List ℕ) → terms_of (map opposite ls) ns ≡ opposite_terms (terms_of ls ns)
terms_of-opposite [] ns = refl
terms_of-opposite (l ∷ ls) [] = ap (λ (ts : List (Literal × ℕ)). (opposite l, 1) ∷ ts) (terms_of-opposite ls [])
terms_of-opposite (l ∷ ls) (n ∷ ns) = ap (λ (ts : List (Literal × ℕ)). (opposite l, n) ∷ ts) (terms_of-opposite ls ns)

ones_from_opposite : (ts : List (Literal × ℕ)) → AreOnes (opposite_terms ts) → AreOnes ts
ones_from_opposite [] all = All-nil (λ t. t.1 ≡ 1)
ones_from_opposite (t ∷ ts) all =
    let first : t.1 ≡ 1 = All-head (λ s. s.1 ≡ 1) (opposite t.0, t.1) (opposite_terms ts) all in
    All-cons (λ s. s.1 ≡ 1) t ts first (ones_from_opposite ts (All-tail (λ s. s.1 ≡ 1) (opposite t.0, t.1) (opposite_terms ts) all))

-- the opposite literals with the same coefficients
pub stored-opposite : (ls : List Literal) (ns : List ℕ) (degree degree' : ℕ) → IsStored ls ns degree → total (terms_of ls ns) + degree' ≤ 2 ^ 100 → IsStored (map opposite ls) ns degree'
stored-opposite ls ns degree degree' stored fits = record {
  normal = normal-opposite (terms_of ls ns) (terms_of (map opposite ls) ns) degree degree' stored.normal (terms_of-opposite ls ns) fits;
  short = λ all. stored.short (ones_from_opposite (terms_of ls ns) (subst AreOnes (terms_of-opposite ls ns) all));
}
