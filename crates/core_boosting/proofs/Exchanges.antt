-- What a core makes of weighted terms.
use Rattle.std.proofs.Common.{◌≡◌, ◌≢◌, ℕ, ◌+◌, ◌-◌, ◌*◌, ◌<◌, ◌≤◌, ◌==◌, zero, suc, Bool, true, false, cond, ◌&&◌, ◌||◌, if◌then◌else◌, List, [], ◌∷◌, ◌++◌, map, length, get_or, sum_by, refl, ap, sym, subst, ◌∙◌, arith}
use Rattle.std.specs.Prelude.{nat_lt, Contains}
use Rattle.std.proofs.Math.Bool.{beq}
use Rattle.std.specs.List.{All, AllPairs, filter}
use Rattle.std.proofs.lemmas.Bool.{cond-true, cond-false, eq-eqb, ne_eqb, ltb-false, and_left}
use Rattle.std.proofs.lemmas.List.{get_or-map, length-map}
use Rattle.std.proofs.lemmas.List.Elements.{All-head, All-tail, All-append, All-map, All-filter}
use Rattle.std.proofs.lemmas.List.Kept.{AllPairs-cons, AllPairs-filter}
use Rattle.std.proofs.lemmas.List.Sums.{sum_by-cons, sum_by-append}
use Rattle.scut_base.specs.Literal.{Literal}
use Rattle.scut_base.specs.Assignment.{lit_true}
use Rattle.scut_base.proofs.Lists.{all_filter_if}
use Rattle.pb_lin.specs.Constraint.{ones, term_value, total, value}
use Rattle.pb_lin.specs.Restriction.{is_among}
use Rattle.pb_lin.proofs.Ones.{AllPairs-map}
use Rattle.pb_lin.proofs.Truths.{beq_same, not_among}
use Rattle.cutting_planes.proofs.Terms.{Terms}
use Rattle.sum_outputs.specs.Totals.{AreWeights}
use Rattle.sum_outputs.proofs.Glue.{AreApart}
use Rattle.core_boosting.proofs.Countings.{scaled, scaled_value, scaled_total, scaled_positive}
use Rattle.core_boosting.specs.Exchanging.{lowered, remaining, exchanged, CanExchange, ExchangeSums}

-- ---- pairs

pub pairs_head : {X : Type 0} (R : X → X → Type 0) (x : X) (xs : List X) → AllPairs R (x ∷ xs) → All (R x) xs
pairs_head R x xs all k d short = all 0 (suc k) d (omega arith) (omega arith)

pub pairs_tail : {X : Type 0} (R : X → X → Type 0) (x : X) (xs : List X) → AllPairs R (x ∷ xs) → AllPairs R xs
pairs_tail R x xs all i j d before short = all (suc i) (suc j) d (omega arith) (omega arith)

pub pairs_append : {X : Type 0} (R : X → X → Type 0) (xs ys : List X) → AllPairs R xs → AllPairs R ys → All (λ x. All (R x) ys) xs → AllPairs R (xs ++ ys)
pairs_append {X} R [] ys left right both = right
pairs_append {X} R (x ∷ xs) ys left right both = AllPairs-cons R x (xs ++ ys)
    (All-append (R x) xs ys (pairs_head R x xs left) (All-head (λ z. All (R z) ys) x xs both))
    (pairs_append R xs ys (pairs_tail R x xs left) right (All-tail (λ z. All (R z) ys) x xs both))

-- ---- sums over terms of some literals

-- whether both are the same literal
abbrev is_same : Literal → Literal → Bool
is_same m l = m.var == l.var && beq m.neg l.neg

literal_same : (m l : Literal) → m.var ≡ l.var → m.neg ≡ l.neg → m ≡ l
literal_same m l one two = ap (λ (v : ℕ). record { var = v; neg = m.neg }) one ∙ ap (λ (b : Bool). record { var = l.var; neg = b }) two

is_same_itself : (l : Literal) → is_same l l ≡ true
is_same_itself l = ap (λ (b : Bool). b && beq l.neg l.neg) (eq-eqb l.var l.var refl) ∙ beq_same l.neg l.neg refl

not_same : (m l : Literal) → m.var ≢ l.var → is_same m l ≡ false
not_same m l other = and_left (m.var == l.var) (beq m.neg l.neg) (ne_eqb m.var l.var other)

abbrev sum_among : (Literal → ℕ) → List Literal → Terms → ℕ
sum_among f lits ts = sum_by (λ t. if is_among lits t.0 then f t.0 else 0) ts

abbrev sum_of : (Literal → ℕ) → Literal → Terms → ℕ
sum_of f l ts = sum_by (λ t. if is_same l t.0 then f t.0 else 0) ts

sum_of_none : (f : Literal → ℕ) (l : Literal) (ts : Terms) → All (λ t. l.var ≢ t.0.var) ts → sum_of f l ts ≡ 0
sum_of_none f l [] none = refl
sum_of_none f l (t ∷ ts) none =
    let cons = sum_by-cons (λ (u : Literal × ℕ). if is_same l u.0 then f u.0 else 0) t ts in
    let here : (if is_same l t.0 then f t.0 else 0) ≡ 0 = cond-false (is_same l t.0) (f t.0) 0 (not_same l t.0 (All-head (λ u. l.var ≢ u.0.var) t ts none)) in
    let rest = sum_of_none f l ts (All-tail (λ u. l.var ≢ u.0.var) t ts none) in
    omega arith

-- the literal is that of one of the terms
sum_of_one : (f : Literal → ℕ) (l : Literal) (ts : Terms) → AreApart ts → Contains (map (λ t. t.0) ts) l → sum_of f l ts ≡ f l
sum_of_one f l [] apart has = absurd (let short = has.1 in omega arith)
sum_of_one f l (t ∷ ts) apart has = at (λ more. sum_of_one f l ts (pairs_tail (λ s u. s.0.var ≢ u.0.var) t ts apart) more) has.0 has.1 has.2
  where
    at : (Contains (map (λ u. u.0) ts) l → sum_of f l ts ≡ f l) → (k : ℕ) → k < length (map (λ u. u.0) (t ∷ ts)) → get_or (map (λ u. u.0) (t ∷ ts)) k l ≡ l → sum_of f l (t ∷ ts) ≡ f l
    at rest zero short is =
        let cons = sum_by-cons (λ (u : Literal × ℕ). if is_same l u.0 then f u.0 else 0) t ts in
        let none = sum_of_none f l ts (subst (λ (m : Literal). All (λ u. m.var ≢ u.0.var) ts) is (pairs_head (λ s u. s.0.var ≢ u.0.var) t ts apart)) in
        let here : (if is_same l t.0 then f t.0 else 0) ≡ f l =
        ap (λ (m : Literal). if is_same l m then f m else 0) is ∙ cond-true (is_same l l) (f l) 0 (is_same_itself l) in
        omega arith
    at rest (suc k) short is =
        let cons = sum_by-cons (λ (u : Literal × ℕ). if is_same l u.0 then f u.0 else 0) t ts in
        let all = rest (k, omega arith, is) in
        let inside : k < length ts = omega (arith, length-map ts (λ (u : Literal × ℕ). u.0)) in
        let there : (get_or ts k (l, 0)).0 ≡ l = sym (get_or-map (λ (u : Literal × ℕ). u.0) ts k (l, 0) l inside) ∙ is in
        let other : t.0.var ≢ l.var = λ e. pairs_head (λ s u. s.0.var ≢ u.0.var) t ts apart k (l, 0) inside (e ∙ sym (ap (λ (m : Literal). m.var) there)) in
        let here : (if is_same l t.0 then f t.0 else 0) ≡ 0 = cond-false (is_same l t.0) (f t.0) 0 (not_same l t.0 (λ e. other (sym e))) in
        omega arith

sum_both : {X : Type 0} (f g h : X → ℕ) (xs : List X) → ((x : X) → f x ≡ g x + h x) → sum_by f xs ≡ sum_by g xs + sum_by h xs
sum_both f g h [] same = refl
sum_both f g h (x ∷ xs) same =
    let a = sum_by-cons f x xs in
    let b = sum_by-cons g x xs in
    let c = sum_by-cons h x xs in
    let here = same x in
    let rest = sum_both f g h xs same in
    omega arith

-- a literal is one of these once
pub sum_among_all : (f : Literal → ℕ) (lits : List Literal) (ts : Terms) → AreApart ts → AllPairs (λ l m. l.var < m.var) lits → All (λ l. Contains (map (λ t. t.0) ts) l) lits → sum_among f lits ts ≡ sum_by f lits
sum_among_all f [] ts apart rising among = none ts
  where
    none : (us : Terms) → sum_by (λ t. if false then f t.0 else 0) us ≡ 0
    none [] = refl
    none (u ∷ us) = let cons = sum_by-cons (λ (t : Literal × ℕ). if false then f t.0 else 0) u us in let rest = none us in omega arith
sum_among_all f (l ∷ ls) ts apart rising among =
    let split = sum_both (λ (t : Literal × ℕ). if is_among (l ∷ ls) t.0 then f t.0 else 0) (λ t. if is_same l t.0 then f t.0 else 0) (λ t. if is_among ls t.0 then f t.0 else 0) ts
    (λ t. by (is_same l t.0) (is_among ls t.0) (f t.0) (λ e. not_among ls t.0 (others t.0 e))) in
    let one = sum_of_one f l ts apart (All-head (λ m. Contains (map (λ t. t.0) ts) m) l ls among) in
    let rest = sum_among_all f ls ts apart (pairs_tail (λ m n. m.var < n.var) l ls rising) (All-tail (λ m. Contains (map (λ t. t.0) ts) m) l ls among) in
    let cons = sum_by-cons f l ls in
    omega arith
  where
    by : (a b : Bool) (n : ℕ) → (a ≡ true → b ≡ false) → (if a || b then n else 0) ≡ (if a then n else 0) + (if b then n else 0)
    by true true n never = let e = never refl in cc
    by true false n never = omega arith
    by false b n never = omega arith

    others : (m : Literal) → is_same l m ≡ true → All (λ n. n.var ≢ m.var) ls
    others m is k d short e =
        let less = pairs_head (λ p n. p.var < n.var) l ls rising k d short in
        absurd (not_self (not_same l m (λ same. omega arith)) is)
      where
        not_self : is_same l m ≡ false → is_same l m ≡ true → ⊥
        not_self one other = cc

-- ---- what is left of terms

lowered_value : (x : List Bool) (lits : List Literal) (w : ℕ) (ts : Terms) → All (λ t. is_among lits t.0 ≡ true → w ≤ t.1) ts → value x (map (lowered lits w) ts) + sum_among (λ l. w * term_value x (l, 1)) lits ts ≡ value x ts
lowered_value x lits w [] least = refl
lowered_value x lits w (t ∷ ts) least =
    let a = sum_by-cons (term_value x) (lowered lits w t) (map (lowered lits w) ts) in
    let b = sum_by-cons (λ (u : Literal × ℕ). if is_among lits u.0 then w * term_value x (u.0, 1) else 0) t ts in
    let c = sum_by-cons (term_value x) t ts in
    let here = by (is_among lits t.0) (lit_true x t.0) t.1 (All-head (λ u. is_among lits u.0 ≡ true → w ≤ u.1) t ts least) in
    let rest = lowered_value x lits w ts (All-tail (λ u. is_among lits u.0 ≡ true → w ≤ u.1) t ts least) in
    omega arith
  where
    by : (b c : Bool) (n : ℕ) → (b ≡ true → w ≤ n) → (if c then (if b then n - w else n) else 0) + (if b then w * (if c then 1 else 0) else 0) ≡ (if c then n else 0)
    by true true n most = let le = most refl in omega arith
    by true false n most = omega arith
    by false true n most = omega arith
    by false false n most = omega arith

lowered_total : (lits : List Literal) (w : ℕ) (ts : Terms) → All (λ t. is_among lits t.0 ≡ true → w ≤ t.1) ts → total (map (lowered lits w) ts) + sum_among (λ l. w) lits ts ≡ total ts
lowered_total lits w [] least = refl
lowered_total lits w (t ∷ ts) least =
    let a = sum_by-cons (λ (u : Literal × ℕ). u.1) (lowered lits w t) (map (lowered lits w) ts) in
    let b = sum_by-cons (λ (u : Literal × ℕ). if is_among lits u.0 then w else 0) t ts in
    let c = sum_by-cons (λ (u : Literal × ℕ). u.1) t ts in
    let here = by (is_among lits t.0) t.1 (All-head (λ u. is_among lits u.0 ≡ true → w ≤ u.1) t ts least) in
    let rest = lowered_total lits w ts (All-tail (λ u. is_among lits u.0 ≡ true → w ≤ u.1) t ts least) in
    omega arith
  where
    by : (b : Bool) (n : ℕ) → (b ≡ true → w ≤ n) → (if b then n - w else n) + (if b then w else 0) ≡ n
    by true n most = let le = most refl in omega arith
    by false n most = omega arith

-- terms without a coefficient are worth nothing
kept_sum : (f : Literal × ℕ → ℕ) → ((t : Literal × ℕ) → t.1 ≡ 0 → f t ≡ 0) → (ts : Terms) → sum_by f (filter (λ t. nat_lt 0 t.1) ts) ≡ sum_by f ts
kept_sum f zero_of [] = refl
kept_sum f zero_of (t ∷ ts) = by (nat_lt 0 t.1) (λ e. zero_of t (let most = ltb-false 0 t.1 e in omega arith)) (kept_sum f zero_of ts)
  where
    by : (b : Bool) → (b ≡ false → f t ≡ 0) → sum_by f (filter (λ u. nat_lt 0 u.1) ts) ≡ sum_by f ts → sum_by f (cond b (t ∷ filter (λ u. nat_lt 0 u.1) ts) (filter (λ u. nat_lt 0 u.1) ts)) ≡ sum_by f (t ∷ ts)
    by true zero_here rest =
        let a = sum_by-cons f t (filter (λ u. nat_lt 0 u.1) ts) in
        let b = sum_by-cons f t ts in
        omega arith
    by false zero_here rest = let b = sum_by-cons f t ts in let z = zero_here refl in omega arith

zero_value : (x : List Bool) (t : Literal × ℕ) → t.1 ≡ 0 → term_value x t ≡ 0
zero_value x t e = by (lit_true x t.0) t.1 e
  where
    by : (b : Bool) (n : ℕ) → n ≡ 0 → (if b then n else 0) ≡ 0
    by true n none = none
    by false n none = refl

positive_kept : (ts : Terms) → All (λ t. 0 < t.1) (filter (λ t. nat_lt 0 t.1) ts)
positive_kept ts = all_filter_if (λ t. 0 < t.1) (λ t. nat_lt 0 t.1) ts (λ k d short is. by (get_or ts k d).1 is)
  where
    by : (n : ℕ) → nat_lt 0 n ≡ true → 0 < n
    by zero is = cc
    by (suc n) is = omega arith

-- a sum over literals, by their terms
times_value : (x : List Bool) (w : ℕ) (lits : List Literal) → sum_by (λ l. w * term_value x (l, 1)) lits ≡ w * value x (ones lits)
times_value x w [] = omega arith
times_value x w (l ∷ ls) =
    let a = sum_by-cons (λ (m : Literal). w * term_value x (m, 1)) l ls in
    let b = sum_by-cons (term_value x) (l, 1) (ones ls) in
    let rest = times_value x w ls in
    let product : w * value x (ones (l ∷ ls)) ≡ w * (term_value x (l, 1) + value x (ones ls)) = ap (λ (n : ℕ). w * n) b in
    omega arith

times_length : (w : ℕ) (lits : List Literal) → sum_by (λ l. w) lits ≡ w * length lits
times_length w [] = omega arith
times_length w (l ∷ ls) = let a = sum_by-cons (λ (m : Literal). w) l ls in let rest = times_length w ls in omega arith

-- ---- the exchange

module _ (terms : Terms) (lits outputs : List Literal) (w : ℕ) (can : CanExchange terms lits outputs w) where
  left_total : total (remaining lits w terms) + w * length lits ≡ total terms
  left_total =
      let kept = kept_sum (λ t. t.1) (λ t e. e) (map (lowered lits w) terms) in
      let less = lowered_total lits w terms can.least in
      let all = sum_among_all (λ l. w) lits terms can.weights.apart can.apart can.among in
      let many = times_length w lits in
      omega arith

  left_value : (x : List Bool) → value x (remaining lits w terms) + w * value x (ones lits) ≡ value x terms
  left_value x =
      let kept = kept_sum (term_value x) (zero_value x) (map (lowered lits w) terms) in
      let less = lowered_value x lits w terms can.least in
      let all = sum_among_all (λ l. w * term_value x (l, 1)) lits terms can.weights.apart can.apart can.among in
      let many = times_value x w lits in
      omega arith

  new_total : total (exchanged lits w outputs terms) + w ≡ total terms
  new_total =
      let parts = sum_by-append (λ (t : Literal × ℕ). t.1) (remaining lits w terms) (scaled w outputs) in
      let left = left_total in
      let made = scaled_total w outputs in
      let product : w * length lits ≡ w * (length outputs + 1) = ap (λ (n : ℕ). w * n) (sym can.fewer) in
      omega arith

  abbrev IsBelowAll : Literal × ℕ → Type 0
  IsBelowAll t = All (λ o. t.0.var < o.var) outputs

  terms_below : All IsBelowAll terms
  terms_below k d short j e inside = can.above j e inside k d short

  left_below : All IsBelowAll (remaining lits w terms)
  left_below = All-filter (λ t. nat_lt 0 t.1) IsBelowAll (map (lowered lits w) terms) (All-map IsBelowAll (lowered lits w) terms terms_below)

  left_apart : AreApart (remaining lits w terms)
  left_apart = AllPairs-filter (λ s t. s.0.var ≢ t.0.var) (λ t. nat_lt 0 t.1) (map (lowered lits w) terms)
      (AllPairs-map (λ s t. s.0.var ≢ t.0.var) (lowered lits w) (λ t. t) terms can.weights.apart)

  left_from_one : All (λ t. 0 < t.0.var) (remaining lits w terms)
  left_from_one = All-filter (λ t. nat_lt 0 t.1) (λ t. 0 < t.0.var) (map (lowered lits w) terms) (All-map (λ t. 0 < t.0.var) (lowered lits w) terms can.weights.from_one)

  made_apart : AreApart (scaled w outputs)
  made_apart = AllPairs-map (λ s t. s.0.var ≢ t.0.var) (λ l. (l, w)) (λ t. t.0) outputs (λ i j d before short e. let less = can.rising i j d before short in omega arith)

  new_weights : AreWeights (exchanged lits w outputs terms)
  new_weights = record {
    positive = All-append (λ t. 0 < t.1) (remaining lits w terms) (scaled w outputs) (positive_kept (map (lowered lits w) terms)) (scaled_positive w outputs can.some);
    from_one = All-append (λ t. 0 < t.0.var) (remaining lits w terms) (scaled w outputs) left_from_one (All-map (λ t. 0 < t.0.var) (λ l. (l, w)) outputs can.from_one);
    apart = pairs_append (λ s t. s.0.var ≢ t.0.var) (remaining lits w terms) (scaled w outputs) left_apart made_apart
        (λ k d short. All-map (λ t. (get_or (remaining lits w terms) k d).0.var ≢ t.0.var) (λ l. (l, w)) outputs (λ j e inside same. let less = left_below k d short j e inside in omega arith));
    small = let falls = new_total in let small = can.weights.small in omega arith;
  }

  new_value : (x : List Bool) → value x (exchanged lits w outputs terms) + w * value x (ones lits) ≡ value x terms + w * value x (ones outputs)
  new_value x =
      let parts = sum_by-append (term_value x) (remaining lits w terms) (scaled w outputs) in
      let left = left_value x in
      let made = scaled_value x w outputs in
      omega arith

  pub exchange_sums : ExchangeSums terms lits outputs w
  exchange_sums = record { weights = new_weights; same = new_value; falls = new_total; product = let left = left_total in omega arith }
