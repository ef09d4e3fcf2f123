-- What the rules make of terms: their normal form, and their values under an assignment.
use Rattle.std.specs.Prelude.{◌≡◌, ℕ, ◌+◌, ◌-◌, ◌*◌, ◌/◌, ◌<◌, ◌≤◌, ◌^◌, ◌==◌, min, Bool, true, false, not, cond, if◌then◌else◌, List, [], ◌∷◌, map, refl, sum_by}
use Rattle.std.specs.List.{filter}
use Rattle.std.proofs.Common.{◌∙◌, ap, length, get_or, set, take, drop, ◌++◌, arith}
use Rattle.std.proofs.lemmas.List.{length-map, get_or-append_right, get_or-drop, get_or_default, length-take-le}
use Rattle.std.proofs.lemmas.List.Edits.{map_over_more}
use Rattle.std.proofs.lemmas.List.Elements.{All-map, All-weaker, All-filter}
use Rattle.std.proofs.lemmas.List.Filters.{sum_by-filter_both}
use Rattle.std.proofs.lemmas.List.Kept.{AllPairs-filter}
use Rattle.std.proofs.lemmas.Bool.Decides.{nat_tests}
use Rattle.std.proofs.lemmas.List.Sums.{sum_by-cons, get_or-le-sum_by}
use Rattle.std.proofs.Math.Nat.{mul-le-mul_left}
use Rattle.std.proofs.lemmas.Nat.{div_below, le-div}
use Rattle.scut_base.specs.Literal.{Literal}
use Rattle.scut_base.specs.Assignment.{lit_true}
use Rattle.pb_lin.specs.Constraint.{ConstraintValue, IsNormal, Holds, total, term_value, value}
use Rattle.pb_lin.proofs.Ones.{AllPairs-map}
use Rattle.pb_lin.proofs.Sums.{term_value-le}
use Rattle.cutting_planes.specs.Rules.{IsSum, literal_axiom, multiplied, rounded_up, divided, saturated, coefficient_in, weakened}

abbrev pub Terms : Type 0
Terms = List (Literal × ℕ)

-- a term with its coefficient changed
abbrev pub changed : (ℕ → ℕ) → Literal × ℕ → Literal × ℕ
changed g t = (t.0, g t.1)

pub total-cons : (t : Literal × ℕ) (ts : Terms) → total (t ∷ ts) ≡ t.1 + total ts
total-cons t ts = sum_by-cons (λ t. t.1) t ts

pub value-cons : (a : List Bool) (t : Literal × ℕ) (ts : Terms) → value a (t ∷ ts) ≡ term_value a t + value a ts
value-cons a t ts = sum_by-cons (term_value a) t ts

-- ---- normal form

-- positive coefficients changed to positive ones, where the size stays small
pub normal-changed : (g : ℕ → ℕ) (ts : Terms) (degree degree' : ℕ) → IsNormal ts degree → ((n : ℕ) → 0 < n → 0 < g n) → total (map (changed g) ts) + degree' ≤ 2 ^ 100 → IsNormal (map (changed g) ts) degree'
normal-changed g ts degree degree' normal positive fits = record {
  merged = record {
    positive = All-map (λ t. 0 < t.1) (changed g) ts (All-weaker (λ t. 0 < t.1) (λ t. 0 < g t.1) (λ t h. positive t.1 h) ts normal.merged.positive);
    from_one = All-map (λ t. 0 < t.0.var) (changed g) ts normal.merged.from_one;
    rising = AllPairs-map (λ s t. s.0.var < t.0.var) (changed g) (λ t. t) ts normal.merged.rising;
  };
  small = fits;
}

-- coefficients that aren't raised
total-lowered : (g : ℕ → ℕ) → ((n : ℕ) → g n ≤ n) → (ts : Terms) → total (map (changed g) ts) ≤ total ts
total-lowered g below [] = omega arith
total-lowered g below (t ∷ ts) =
    let whole : total (t ∷ ts) ≡ t.1 + total ts = total-cons t ts in
    let lowered : total (map (changed g) (t ∷ ts)) ≡ g t.1 + total (map (changed g) ts) = total-cons (changed g t) (map (changed g) ts) in
    let one : g t.1 ≤ t.1 = below t.1 in
    let rest : total (map (changed g) ts) ≤ total ts = total-lowered g below ts in
    omega arith

-- ---- in place: the terms before i are changed

pub unchanged_at : (g : ℕ → ℕ) (xs ys : Terms) (i : ℕ) (x : Literal × ℕ) → i < length xs → ys ≡ map (changed g) (take i xs) ++ drop i xs → get_or ys i x ≡ get_or xs i x
unchanged_at g xs ys i x within is =
    ap (λ (zs : Terms). get_or zs i x) is ∙ get_or-append_right (map (changed g) (take i xs)) (drop i xs) i i x (length-map (take i xs) (changed g) ∙ length-take-le i xs (omega arith)) (omega arith)
    ∙ get_or-drop i xs (i - i) x ∙ ap (λ (n : ℕ). get_or xs n x) (omega arith)

pub coefficient-le-total : (g : ℕ → ℕ) (xs ys : Terms) (i : ℕ) (x : Literal × ℕ) → i < length xs → ys ≡ map (changed g) (take i xs) ++ drop i xs → (get_or ys i x).1 ≤ total xs
coefficient-le-total g xs ys i x within is =
    let same : (get_or ys i x).1 ≡ (get_or xs i x).1 = ap (λ t. t.1) (unchanged_at g xs ys i x within is) in
    let below : (get_or xs i x).1 ≤ total xs = get_or-le-sum_by (λ t. t.1) xs i x within in
    omega arith

pub change_more : (g : ℕ → ℕ) (xs ys : Terms) (i : ℕ) (x : Literal × ℕ) (n : ℕ) → i < length xs → i < length ys → ys ≡ map (changed g) (take i xs) ++ drop i xs → n ≡ g (get_or ys i x).1 → set ys i ((get_or ys i x).0, n) ≡ map (changed g) (take (i + 1) xs) ++ drop (i + 1) xs
change_more g xs ys i x n within inside is made =
    ap (λ (m : ℕ). set ys i ((get_or ys i x).0, m)) made ∙ map_over_more (changed g) xs ys i (get_or ys i x) within is (get_or_default ys i x (get_or ys i x) inside)

mul_le_right : (m n k : ℕ) → m ≤ n → m * k ≤ n * k
mul_le_right m n k h = let l : k * m ≤ k * n = mul-le-mul_left k h in omega arith

pub product_small : (n m k : ℕ) → n ≤ m → m * k ≤ 2 ^ 100 → n * k ≤ 2 ^ 100
product_small n m k h l = let product : n * k ≤ m * k = mul_le_right n m k h in omega arith

-- ---- multiplied

mul_positive : (n k : ℕ) → 0 < n → 0 < k → 0 < n * k
mul_positive n k h l = let m : n * 1 ≤ n * k = mul-le-mul_left n l in omega arith

pub total-multiplied : (k : ℕ) (ts : Terms) → total (map (changed (λ n. n * k)) ts) ≡ total ts * k
total-multiplied k [] = omega arith
total-multiplied k (t ∷ ts) =
    let whole : total (t ∷ ts) ≡ t.1 + total ts = total-cons t ts in
    let made : total (map (changed (λ n. n * k)) (t ∷ ts)) ≡ t.1 * k + total (map (changed (λ n. n * k)) ts) = total-cons (t.0, t.1 * k) (map (changed (λ n. n * k)) ts) in
    let rest : total (map (changed (λ n. n * k)) ts) ≡ total ts * k = total-multiplied k ts in
    let product : total (t ∷ ts) * k ≡ (t.1 + total ts) * k = ap (λ n. n * k) whole in
    omega arith

pub normal-multiplied : (k : ℕ) (c : ConstraintValue) → IsNormal c.terms c.degree → 0 < k → (total c.terms + c.degree) * k ≤ 2 ^ 100 → IsNormal (multiplied k c).terms (multiplied k c).degree
normal-multiplied k c normal from_one fits =
    normal-changed (λ n. n * k) c.terms c.degree (c.degree * k) normal (λ n h. mul_positive n k h from_one)
    (let whole : total (map (changed (λ n. n * k)) c.terms) ≡ total c.terms * k = total-multiplied k c.terms in omega arith)

if_scaled : (b : Bool) (n k : ℕ) → (if b then n * k else 0) ≡ (if b then n else 0) * k
if_scaled true n k = refl
if_scaled false n k = omega arith

value-multiplied : (a : List Bool) (k : ℕ) (ts : Terms) → value a (map (changed (λ n. n * k)) ts) ≡ value a ts * k
value-multiplied a k [] = omega arith
value-multiplied a k (t ∷ ts) =
    let whole : value a (t ∷ ts) ≡ term_value a t + value a ts = value-cons a t ts in
    let made : value a (map (changed (λ n. n * k)) (t ∷ ts)) ≡ term_value a (t.0, t.1 * k) + value a (map (changed (λ n. n * k)) ts) = value-cons a (t.0, t.1 * k) (map (changed (λ n. n * k)) ts) in
    let one : term_value a (t.0, t.1 * k) ≡ term_value a t * k = if_scaled (lit_true a t.0) t.1 k in
    let rest : value a (map (changed (λ n. n * k)) ts) ≡ value a ts * k = value-multiplied a k ts in
    let product : value a (t ∷ ts) * k ≡ (term_value a t + value a ts) * k = ap (λ n. n * k) whole in
    omega arith

pub multiplied_holds : (a : List Bool) (k : ℕ) (c : ConstraintValue) → Holds a c → Holds a (multiplied k c)
multiplied_holds a k c holds =
    let made : value a (map (changed (λ n. n * k)) c.terms) ≡ value a c.terms * k = value-multiplied a k c.terms in
    let above : c.degree * k ≤ value a c.terms * k = mul_le_right c.degree (value a c.terms) k holds in
    omega arith

multiplied_terms-one : (ts : Terms) → map (changed (λ n. n * 1)) ts ≡ ts
multiplied_terms-one [] = refl
multiplied_terms-one (t ∷ ts) =
    let rest : map (changed (λ n. n * 1)) ts ≡ ts = multiplied_terms-one ts in
    ap (λ (n : ℕ). (t.0, n) ∷ map (changed (λ n. n * 1)) ts) (omega arith) ∙ ap (λ (us : Terms). t ∷ us) rest

pub multiplied-one : (c : ConstraintValue) → multiplied 1 c ≡ c
multiplied-one c =
    ap (λ (ts : Terms). record { terms = ts; degree = c.degree * 1 }) (multiplied_terms-one c.terms)
    ∙ ap (λ (n : ℕ). record { terms = c.terms; degree = n }) (omega arith)

-- ---- divided

le-rounded_up : (n k : ℕ) → 0 < k → n ≤ rounded_up n k * k
le-rounded_up n k h = omega arith

div_positive : (n k : ℕ) → 0 < k → k ≤ n → 0 < n / k
div_positive n k h l = le-div 1 n k h (omega arith)

rounded_up_positive : (n k : ℕ) → 0 < k → 0 < n → 0 < rounded_up n k
rounded_up_positive n k h l = div_positive (n + (k - 1)) k h (omega arith)

rounded_up_le : (n k m : ℕ) → 0 < k → n ≤ m * k → rounded_up n k ≤ m
rounded_up_le n k m h l = let below : (n + (k - 1)) / k < m + 1 = div_below (n + (k - 1)) k (m + 1) h (omega arith) in omega arith

rounded_up_lowers : (k : ℕ) → 0 < k → (n : ℕ) → rounded_up n k ≤ n
rounded_up_lowers k h n = rounded_up_le n k n h (let m : n * 1 ≤ n * k = mul-le-mul_left n h in omega arith)

sums_below : (m n x y z : ℕ) → m ≤ x → n ≤ y → x + y ≤ z → m + n ≤ z
sums_below m n x y z h l s = omega arith

pub normal-divided : (k : ℕ) (c : ConstraintValue) → IsNormal c.terms c.degree → 0 < k → IsNormal (divided k c).terms (divided k c).degree
normal-divided k c normal from_one =
    normal-changed (λ n. rounded_up n k) c.terms c.degree (rounded_up c.degree k) normal (λ n h. rounded_up_positive n k from_one h)
    (let terms : total (map (changed (λ n. rounded_up n k)) c.terms) ≤ total c.terms = total-lowered (λ n. rounded_up n k) (rounded_up_lowers k from_one) c.terms in
    let degree : rounded_up c.degree k ≤ c.degree = rounded_up_lowers k from_one c.degree in
    let small : total c.terms + c.degree ≤ 2 ^ 100 = normal.small in
    sums_below (total (map (changed (λ n. rounded_up n k)) c.terms)) (rounded_up c.degree k) (total c.terms) c.degree (2 ^ 100) terms degree small)

if_divided : (b : Bool) (n k : ℕ) → 0 < k → (if b then n else 0) ≤ (if b then rounded_up n k else 0) * k
if_divided true n k h = le-rounded_up n k h
if_divided false n k h = omega arith

value_divided_step : (v x y w m n k : ℕ) → v ≡ x + y → w ≡ m + n → x ≤ m * k → y ≤ n * k → v ≤ w * k
value_divided_step v x y w m n k e f g h = let product : w * k ≡ (m + n) * k = ap (λ z. z * k) f in omega arith

value-divided : (a : List Bool) (k : ℕ) → 0 < k → (ts : Terms) → value a ts ≤ value a (map (changed (λ n. rounded_up n k)) ts) * k
value-divided a k h [] = omega arith
value-divided a k h (t ∷ ts) =
    let made : value a (map (changed (λ n. rounded_up n k)) (t ∷ ts)) ≡ term_value a (t.0, rounded_up t.1 k) + value a (map (changed (λ n. rounded_up n k)) ts) = value-cons a (t.0, rounded_up t.1 k) (map (changed (λ n. rounded_up n k)) ts) in
    value_divided_step (value a (t ∷ ts)) (term_value a t) (value a ts) (value a (map (changed (λ n. rounded_up n k)) (t ∷ ts))) (term_value a (t.0, rounded_up t.1 k)) (value a (map (changed (λ n. rounded_up n k)) ts)) k
    (value-cons a t ts) made (if_divided (lit_true a t.0) t.1 k h) (value-divided a k h ts)

pub divided_holds : (a : List Bool) (k : ℕ) (c : ConstraintValue) → 0 < k → Holds a c → Holds a (divided k c)
divided_holds a k c from_one holds =
    let v : ℕ = value a (map (changed (λ n. rounded_up n k)) c.terms) in
    rounded_up_le c.degree k v from_one (let up : value a c.terms ≤ v * k = value-divided a k from_one c.terms in omega arith)

-- ---- saturated

min_positive : (d : ℕ) → 0 < d → (n : ℕ) → 0 < n → 0 < min n d
min_positive d h n l = omega arith

min_lowers : (d n : ℕ) → min n d ≤ n
min_lowers d n = omega arith

pub normal-nil : (degree : ℕ) → degree ≤ 2 ^ 100 → IsNormal [] degree
normal-nil degree fits = record {
  merged = record {
    positive = λ k d h. absurd (omega arith);
    from_one = λ k d h. absurd (omega arith);
    rising = λ i j d h l. absurd (omega arith);
  };
  small = omega arith;
}

pub normal-cut : (c : ConstraintValue) → IsNormal c.terms c.degree → 0 < c.degree → IsNormal (map (changed (λ n. min n c.degree)) c.terms) c.degree
normal-cut c normal above =
    normal-changed (λ n. min n c.degree) c.terms c.degree c.degree normal (min_positive c.degree above)
    (let terms : total (map (changed (λ n. min n c.degree)) c.terms) ≤ total c.terms = total-lowered (λ n. min n c.degree) (min_lowers c.degree) c.terms in
    let small : total c.terms + c.degree ≤ 2 ^ 100 = normal.small in
    sums_below (total (map (changed (λ n. min n c.degree)) c.terms)) c.degree (total c.terms) c.degree (2 ^ 100) terms (omega arith) small)

pub normal-saturated : (c : ConstraintValue) → IsNormal c.terms c.degree → IsNormal (saturated c).terms (saturated c).degree
normal-saturated c normal = by (c.degree == 0) refl
  where
    above : (n : ℕ) → (n == 0) ≡ false → 0 < n
    above n e = grind (arith, nat_tests)

    by : (b : Bool) → (c.degree == 0) ≡ b → IsNormal (if b then [] else map (changed (λ n. min n c.degree)) c.terms) c.degree
    by true e = normal-nil c.degree (let small : total c.terms + c.degree ≤ 2 ^ 100 = normal.small in omega arith)
    by false e = normal-cut c normal (above c.degree e)

if_cut : (b : Bool) (n d : ℕ) → (if b then min n d else 0) ≡ min (if b then n else 0) d
if_cut true n d = refl
if_cut false n d = omega arith

value_cut_step : (v x y w m n d : ℕ) → v ≡ x + y → w ≡ m + n → m ≡ min x d → min y d ≤ n → min v d ≤ w
value_cut_step v x y w m n d e f g h = omega arith

value-cut : (a : List Bool) (d : ℕ) (ts : Terms) → min (value a ts) d ≤ value a (map (changed (λ n. min n d)) ts)
value-cut a d [] = omega arith
value-cut a d (t ∷ ts) =
    let whole : value a (t ∷ ts) ≡ term_value a t + value a ts = value-cons a t ts in
    let made : value a (map (changed (λ n. min n d)) (t ∷ ts)) ≡ term_value a (t.0, min t.1 d) + value a (map (changed (λ n. min n d)) ts) = value-cons a (t.0, min t.1 d) (map (changed (λ n. min n d)) ts) in
    let one : term_value a (t.0, min t.1 d) ≡ min (term_value a t) d = if_cut (lit_true a t.0) t.1 d in
    let rest : min (value a ts) d ≤ value a (map (changed (λ n. min n d)) ts) = value-cut a d ts in
    value_cut_step (value a (t ∷ ts)) (term_value a t) (value a ts) (value a (map (changed (λ n. min n d)) (t ∷ ts))) (term_value a (t.0, min t.1 d)) (value a (map (changed (λ n. min n d)) ts)) d whole made one rest

cut_or_none_holds : (b : Bool) (a : List Bool) (c : ConstraintValue) → (b ≡ true → c.degree ≡ 0) → Holds a c → c.degree ≤ value a (if b then [] else map (changed (λ n. min n c.degree)) c.terms)
cut_or_none_holds true a c none holds = let zero_degree : c.degree ≡ 0 = none refl in omega arith
cut_or_none_holds false a c none holds = let cut : min (value a c.terms) c.degree ≤ value a (map (changed (λ n. min n c.degree)) c.terms) = value-cut a c.degree c.terms in omega arith

eq_true : (m n : ℕ) → (m == n) ≡ true → m ≡ n
eq_true m n h = grind (arith, nat_tests)

pub saturated_holds : (a : List Bool) (c : ConstraintValue) → Holds a c → Holds a (saturated c)
saturated_holds a c holds = cut_or_none_holds (c.degree == 0) a c (eq_true c.degree 0) holds

-- ---- weakened

pub normal-weakened : (var : ℕ) (c : ConstraintValue) → IsNormal c.terms c.degree → IsNormal (weakened var c).terms (weakened var c).degree
normal-weakened var c normal = record {
  merged = record {
    positive = All-filter (λ t. not (t.0.var == var)) (λ t. 0 < t.1) c.terms normal.merged.positive;
    from_one = All-filter (λ t. not (t.0.var == var)) (λ t. 0 < t.0.var) c.terms normal.merged.from_one;
    rising = AllPairs-filter (λ s t. s.0.var < t.0.var) (λ t. not (t.0.var == var)) c.terms normal.merged.rising;
  };
  small =
      let both : total (filter (λ t. not (t.0.var == var)) c.terms) + total (filter (λ t. not (not (t.0.var == var))) c.terms) ≡ total c.terms =
      sum_by-filter_both (λ t. not (t.0.var == var)) (λ t. not (not (t.0.var == var))) (λ _. refl) (λ t. t.1) c.terms in
      let small : total c.terms + c.degree ≤ 2 ^ 100 = normal.small in
      sums_below (total (filter (λ t. not (t.0.var == var)) c.terms)) (c.degree - sum_by (coefficient_in var) c.terms) (total c.terms) c.degree (2 ^ 100) (omega arith) (omega arith) small;
}

weakened_step : (a : List Bool) (b : Bool) (t : Literal × ℕ) (ts : Terms) → term_value a t + value a ts ≤ value a (cond (not b) (t ∷ ts) ts) + (if b then t.1 else 0)
weakened_step a true t ts = let one : term_value a t ≤ t.1 = term_value-le a t in omega arith
weakened_step a false t ts = let whole : value a (t ∷ ts) ≡ term_value a t + value a ts = value-cons a t ts in omega arith

value_weakened_step : (v x y w m n u z : ℕ) → v ≡ x + y → w ≡ m + n → x + u ≤ z + m → y ≤ u + n → v ≤ z + w
value_weakened_step v x y w m n u z e f g h = omega arith

value-weakened : (a : List Bool) (var : ℕ) (ts : Terms) → value a ts ≤ value a (filter (λ t. not (t.0.var == var)) ts) + sum_by (coefficient_in var) ts
value-weakened a var [] = omega arith
value-weakened a var (t ∷ ts) =
    let kept : Terms = filter (λ t. not (t.0.var == var)) ts in
    let whole : value a (t ∷ ts) ≡ term_value a t + value a ts = value-cons a t ts in
    let dropped : sum_by (coefficient_in var) (t ∷ ts) ≡ coefficient_in var t + sum_by (coefficient_in var) ts = sum_by-cons (coefficient_in var) t ts in
    let one : term_value a t + value a kept ≤ value a (cond (not (t.0.var == var)) (t ∷ kept) kept) + (if t.0.var == var then t.1 else 0) = weakened_step a (t.0.var == var) t kept in
    let rest : value a ts ≤ value a kept + sum_by (coefficient_in var) ts = value-weakened a var ts in
    value_weakened_step (value a (t ∷ ts)) (term_value a t) (value a ts) (sum_by (coefficient_in var) (t ∷ ts)) (coefficient_in var t) (sum_by (coefficient_in var) ts) (value a kept) (value a (cond (not (t.0.var == var)) (t ∷ kept) kept)) whole dropped one rest

pub weakened_holds : (a : List Bool) (var : ℕ) (c : ConstraintValue) → Holds a c → Holds a (weakened var c)
weakened_holds a var c holds =
    let kept : value a c.terms ≤ value a (filter (λ t. not (t.0.var == var)) c.terms) + sum_by (coefficient_in var) c.terms = value-weakened a var c.terms in omega arith

-- ---- literals and sums

pub literal_axiom_holds : (a : List Bool) (l : Literal) → Holds a (literal_axiom l)
literal_axiom_holds a l = omega arith

pub sum_holds : (a : List Bool) (r p q : ConstraintValue) → IsSum r p q → Holds a p → Holds a q → Holds a r
sum_holds a r p q sum above_p above_q =
    let same : value a p.terms + value a q.terms ≡ value a r.terms + sum.cancelled = sum.same a in
    let degree : r.degree ≡ (p.degree + q.degree) - sum.cancelled = sum.degree in omega arith
