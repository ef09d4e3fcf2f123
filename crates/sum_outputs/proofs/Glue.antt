-- Assignments that are put together of two, and such that make none or all of some literals true.
use Rattle.std.proofs.Common.{◌≡◌, ◌≢◌, ℕ, suc, ◌+◌, ◌-◌, ◌<◌, ◌≤◌, ◌==◌, Bool, true, false, not, if◌then◌else◌, List, [], ◌∷◌, map, get_or, refl, ap, sym, ◌∙◌, arith}
use Rattle.std.specs.List.{All, AllPairs, range_with_len}
use Rattle.std.proofs.lemmas.Bool.{cond-true, cond-false, eq-eqb, ne_eqb}
use Rattle.std.proofs.lemmas.List.Elements.{All-nil, All-cons, All-head, All-tail}
use Rattle.std.proofs.lemmas.List.FromFn.{get_or-map-range_with_len}
use Rattle.std.proofs.lemmas.List.Sums.{sum_by-cons, sum_by-le-sum_by}
use Rattle.scut_base.specs.Literal.{Literal}
use Rattle.scut_base.specs.Assignment.{value_of}
use Rattle.pb_lin.specs.Constraint.{term_value, total, value}
use Rattle.cutting_planes.proofs.Terms.{Terms}
use Rattle.proof_laws.proofs.Semantics.{AreWithin}
use Rattle.proof_laws.proofs.Images.{value_same}

-- the assignment of the variables 1 to n by a function
abbrev pub table : ℕ → (ℕ → Bool) → List Bool
table n f = map f (range_with_len 1 n)

pub table_at : (n : ℕ) (f : ℕ → Bool) (v : ℕ) → 0 < v → v ≤ n → value_of (table n f) v ≡ f v
table_at n f v from_one upto = get_or-map-range_with_len f 1 n (v - 1) v false (omega arith) (omega arith)

-- the one assignment on the variables inside, and the other on all others
abbrev pub glued : ℕ → (ℕ → Bool) → List Bool → List Bool → List Bool
glued n inside x y = table n (λ v. if inside v then value_of x v else value_of y v)

module _ (n : ℕ) (inside : ℕ → Bool) (x y : List Bool) where
  pub glued_inside : (v : ℕ) → 0 < v → v ≤ n → inside v ≡ true → value_of (glued n inside x y) v ≡ value_of x v
  glued_inside v from_one upto is = table_at n (λ u. if inside u then value_of x u else value_of y u) v from_one upto ∙ cond-true (inside v) (value_of x v) (value_of y v) is

  pub glued_outside : (v : ℕ) → 0 < v → v ≤ n → inside v ≡ false → value_of (glued n inside x y) v ≡ value_of y v
  glued_outside v from_one upto is = table_at n (λ u. if inside u then value_of x u else value_of y u) v from_one upto ∙ cond-false (inside v) (value_of x v) (value_of y v) is

  pub value_inside : (terms : Terms) → AreWithin n terms → All (λ t. inside t.0.var ≡ true) terms → value (glued n inside x y) terms ≡ value x terms
  value_inside terms within all = value_same (glued n inside x y) x terms (λ k d short. let w = within k d short in glued_inside (get_or terms k d).0.var w.0 w.1 (all k d short))

  pub value_outside : (terms : Terms) → AreWithin n terms → All (λ t. inside t.0.var ≡ false) terms → value (glued n inside x y) terms ≡ value y terms
  value_outside terms within all = value_same (glued n inside x y) y terms (λ k d short. let w = within k d short in glued_outside (get_or terms k d).0.var w.0 w.1 (all k d short))

-- ---- terms of distinct variables

abbrev pub AreApart : Terms → Type 0
AreApart terms = AllPairs (λ s t. s.0.var ≢ t.0.var) terms

apart_head : (t : Literal × ℕ) (terms : Terms) → AreApart (t ∷ terms) → All (λ u. t.0.var ≢ u.0.var) terms
apart_head t terms apart k d short = apart 0 (suc k) d (omega arith) (omega arith)

apart_tail : (t : Literal × ℕ) (terms : Terms) → AreApart (t ∷ terms) → AreApart terms
apart_tail t terms apart i j d before short = apart (suc i) (suc j) d (omega arith) (omega arith)

pub apart_from_rising : (terms : Terms) → AllPairs (λ s t. s.0.var < t.0.var) terms → AreApart terms
apart_from_rising terms rising i j d before short e = let less = rising i j d before short in omega arith

-- ---- variables within a bound

pub within_more : (m n : ℕ) (terms : Terms) → m ≤ n → AreWithin m terms → AreWithin n terms
within_more m n terms le within k d short = let w = within k d short in (w.0, omega arith)

unfoldable pub bound : Terms → ℕ
bound [] = 0
bound (t ∷ terms) = t.0.var + bound terms

pub bound_within : (terms : Terms) → All (λ t. 0 < t.0.var) terms → AreWithin (bound terms) terms
unfolding bound
bound_within [] from_one = All-nil (λ t. (0 < t.0.var) × (t.0.var ≤ 0))
bound_within (t ∷ terms) from_one = All-cons (λ u. (0 < u.0.var) × (u.0.var ≤ t.0.var + bound terms)) t terms
    (All-head (λ u. 0 < u.0.var) t terms from_one, omega arith)
    (within_more (bound terms) (t.0.var + bound terms) terms (omega arith) (bound_within terms (All-tail (λ u. 0 < u.0.var) t terms from_one)))

-- ---- no literal true, or all

if_self : (neg : Bool) (k : ℕ) → (if (if neg then not neg else neg) then k else 0) ≡ 0
if_self true k = refl
if_self false k = refl

if_other : (neg : Bool) (k : ℕ) → (if (if neg then not (not neg) else not neg) then k else 0) ≡ k
if_other true k = refl
if_other false k = refl

-- one variable's truth changed
module _ (n : ℕ) (t : Literal × ℕ) (b : Bool) (x : List Bool) (terms : Terms) (apart : AreApart (t ∷ terms)) (within : AreWithin n (t ∷ terms)) where
  abbrev with_first : List Bool
  with_first = table n (λ v. if v == t.0.var then b else value_of x v)

  first_is : value_of with_first t.0.var ≡ b
  first_is = let w = All-head (λ u. (0 < u.0.var) × (u.0.var ≤ n)) t terms within in
      table_at n (λ v. if v == t.0.var then b else value_of x v) t.0.var w.0 w.1 ∙ cond-true (t.0.var == t.0.var) b (value_of x t.0.var) (eq-eqb t.0.var t.0.var refl)

  others_are : value with_first terms ≡ value x terms
  others_are = value_same with_first x terms (λ k d short.
      let w = All-tail (λ u. (0 < u.0.var) × (u.0.var ≤ n)) t terms within k d short in
      let other = apart_head t terms apart k d short in
      table_at n (λ v. if v == t.0.var then b else value_of x v) (get_or terms k d).0.var w.0 w.1
      ∙ cond-false ((get_or terms k d).0.var == t.0.var) b (value_of x (get_or terms k d).0.var) (ne_eqb (get_or terms k d).0.var t.0.var (λ e. other (sym e))))

  with_first_value : value with_first (t ∷ terms) ≡ (if (if t.0.neg then not b else b) then t.1 else 0) + value x terms
  with_first_value = let cons = sum_by-cons (term_value with_first) t terms in
      let head : term_value with_first t ≡ (if (if t.0.neg then not b else b) then t.1 else 0) = ap (λ (v : Bool). if (if t.0.neg then not v else v) then t.1 else 0) first_is in
      let rest = others_are in
      omega arith

pub none_true : (n : ℕ) (terms : Terms) → AreApart terms → AreWithin n terms → (x : List Bool) × (value x terms ≡ 0)
none_true n [] apart within = ([], refl)
none_true n (t ∷ terms) apart within =
    let rest = none_true n terms (apart_tail t terms apart) (All-tail (λ u. (0 < u.0.var) × (u.0.var ≤ n)) t terms within) in
    let here = with_first_value n t t.0.neg rest.0 terms apart within in
    let none = if_self t.0.neg t.1 in
    let zero = rest.1 in
    (with_first n t t.0.neg rest.0 terms apart within, omega arith)

pub all_true : (n : ℕ) (terms : Terms) → AreApart terms → AreWithin n terms → (x : List Bool) × (value x terms ≡ total terms)
all_true n [] apart within = ([], refl)
all_true n (t ∷ terms) apart within =
    let rest = all_true n terms (apart_tail t terms apart) (All-tail (λ u. (0 < u.0.var) × (u.0.var ≤ n)) t terms within) in
    let here = with_first_value n t (not t.0.neg) rest.0 terms apart within in
    let all = if_other t.0.neg t.1 in
    let whole = rest.1 in
    let cons = sum_by-cons (λ (u : Literal × ℕ). u.1) t terms in
    (with_first n t (not t.0.neg) rest.0 terms apart within, omega arith)

kept_or_none : (b : Bool) (n : ℕ) → (if b then n else 0) ≤ n
kept_or_none true n = omega arith
kept_or_none false n = omega arith

-- a value is at most the sum of the coefficients
pub value-le-total : (x : List Bool) (terms : Terms) → value x terms ≤ total terms
value-le-total x terms = sum_by-le-sum_by (term_value x) (λ t. t.1) terms (λ t. kept_or_none (if t.0.neg then not (value_of x t.0.var) else value_of x t.0.var) t.1)
