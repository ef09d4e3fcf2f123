-- An instance has one normal form.
use Rattle.std.proofs.Common.{◌≡◌, ◌≢◌, ◌⊎◌, inl, inr, ◌↔◌, ℕ, zero, suc, ◌+◌, ◌-◌, ◌<◌, Bool, true, false, not, if◌then◌else◌, List, [], ◌∷◌, map, fold, refl, sym, ap, ap₂, ◌∙◌, subst, ℤ, pos, ◌+ℤ◌, ◌-ℤ◌, get_or, arith}
use Rattle.std.specs.Prelude.{◌==◌, MatchBool, All, AllPairs, Contains}
use Rattle.std.specs.List.{AllZip}
use Rattle.std.proofs.lemmas.Int.{ints}
use Rattle.std.proofs.lemmas.Bool.{eqb-true}
use Rattle.std.proofs.lemmas.List.Elements.{All-head, All-tail, All-contains}
use Rattle.std.proofs.lemmas.List.Sums.{sum_by-cons}
use Rattle.scut_base.proofs.Lists.{Contains-nil, Contains-head, Contains-cons, Contains-cons_cases, sum_by_same_in}
use Rattle.scut_base.specs.Literal.{Literal}
use Rattle.instance.specs.Shape.{InstanceValue}
use Rattle.pb_lin.specs.Constraint.{ConstraintValue, ones, term_value, value}
use Rattle.pb_lin.specs.CostRow.{CostRowValue}
use Rattle.pb_lin.specs.NormalForm.{sum_value}
use Rattle.pb_lin.specs.Problem.{ProblemValue}
use Rattle.pb_lin.proofs.Unique.{equal_excess}
use Rattle.instance_normal.specs.NormalForm.{RowSource, Clause, Sum, CostSource, AreSomeOf, IsRowOf, IsClauseRow, IsCostRowOf, IsNormalFormOf, is_tautology, trivial_row, first_seen, with_variable, row_sources, cost_sources}
use Rattle.instance_normal.proofs.Members.{all_unmapped}
use Rattle.instance_normal.proofs.Merging.{some_members, distinct_with}
use Rattle.instance_normal.proofs.Distinct.{first_below, rest_rising}

-- ---- rows

-- literals of rising variables are fixed by their members
same_rising : (xs ys : List Literal) → AllPairs (λ l m. l.var < m.var) xs → AllPairs (λ l m. l.var < m.var) ys → ((l : Literal) → Contains xs l ↔ Contains ys l) → xs ≡ ys
same_rising [] [] ux uy same = refl
same_rising [] (y ∷ ys) ux uy same = absurd (Contains-nil y ((same y).1 (Contains-head y ys)))
same_rising (x ∷ xs) [] ux uy same = absurd (Contains-nil x ((same x).0 (Contains-head x xs)))
same_rising (x ∷ xs) (y ∷ ys) ux uy same =
    let first : x ≡ y = elim (Contains-cons_cases y x ys ((same x).0 (Contains-head x xs))) [
      | inl is ↦ sym is
      | inr x_later ↦ elim (Contains-cons_cases x y xs ((same y).1 (Contains-head y ys))) [
        | inl is ↦ is
        | inr y_later ↦ (
            let below = All-contains (λ (l : Literal). y.var < l.var) ys x (first_below y ys uy) x_later in
            let above = All-contains (λ (l : Literal). x.var < l.var) xs y (first_below x xs ux) y_later in
            absurd (omega arith))
      ]
    ] in
    ap₂ (λ (l : Literal) (ls : List Literal). l ∷ ls) first (same_rising xs ys (rest_rising x xs ux) (rest_rising y ys uy) (λ l. (
      later x xs y ys first ux (λ k. (same k).0) l,
      later y ys x xs (sym first) uy (λ k. (same k).1) l,
    )))
  where
    later : (u : Literal) (us : List Literal) (v : Literal) (vs : List Literal) → u ≡ v → AllPairs (λ l m. l.var < m.var) (u ∷ us) → ((l : Literal) → Contains (u ∷ us) l → Contains (v ∷ vs) l) → (l : Literal) → Contains us l → Contains vs l
    later u us v vs is up within l there = elim (Contains-cons_cases v l vs (within l (Contains-cons u l us there))) [
      | inl at ↦ (
          let below = All-contains (λ (m : Literal). u.var < m.var) us l (first_below u us up) there in
          let here : u.var ≡ l.var = ap (λ (m : Literal). m.var) (is ∙ at) in
          absurd (omega arith))
      | inr found ↦ found
    ]

row_same : (s : RowSource) (c d : ConstraintValue) → IsRowOf s c → IsRowOf s d → c ≡ d
row_same (Clause lits) c d row other = by (is_tautology lits) row.says other.says
  where
    by : (b : Bool) → MatchBool b (c ≡ trivial_row) (IsClauseRow lits c) → MatchBool b (d ≡ trivial_row) (IsClauseRow lits d) → c ≡ d
    by true e f = e ∙ sym f
    by false e f = e.row ∙ ap (λ (ls : List Literal). let r : ConstraintValue = record { terms = ones ls; degree = 1 } in r) (same_rising e.distinct f.distinct e.literals.rising f.literals.rising (λ l. ((λ there. (f.literals.same l).1 ((e.literals.same l).0 there)), (λ there. (e.literals.same l).1 ((f.literals.same l).0 there))))) ∙ sym f.row
row_same (Sum terms bound) c d row other = equal_excess c d row.normal other.normal (λ a. sum_value a terms -ℤ bound) row.says other.says

-- ---- assignments that make one variable true, and none

abbrev Terms : Type 0
Terms = List (Literal × ℕ)

-- true at this place alone
abbrev only : ℕ → List Bool
only zero = true ∷ []
only (suc k) = false ∷ only k

only_here : (k : ℕ) → get_or (only k) k false ≡ true
only_here zero = refl
only_here (suc k) = only_here k

only_there : (k j : ℕ) → j ≢ k → get_or (only k) j false ≡ false
only_there zero zero apart = absurd (apart refl)
only_there zero (suc j) apart = refl
only_there (suc k) zero apart = refl
only_there (suc k) (suc j) apart = only_there k j (λ e. apart (ap suc e))

-- a coefficient, by the sign of its literal and the value of its variable
abbrev worth : Bool → Bool → ℕ → ℕ
worth neg value n = if (if neg then not value else value) then n else 0

-- positive, on a variable
record IsTerm (t : Literal × ℕ) : Type 0 where
  from_one : 0 < t.0.var
  positive : 0 < t.1

-- terms of other variables are worth the same
others : (v : ℕ) (ts : Terms) → 0 < v → All IsTerm ts → All (λ t. v ≢ t.0.var) ts → value (only (v - 1)) ts ≡ value [] ts
others v ts some are apart = sum_by_same_in (term_value (only (v - 1))) (term_value []) ts (λ k d short.
    let from_one = (are k d short).from_one in
    let away : (get_or ts k d).0.var - 1 ≢ v - 1 = λ e. apart k d short (omega arith) in
    ap (λ b. worth (get_or ts k d).0.neg b (get_or ts k d).1) (only_there (v - 1) ((get_or ts k d).0.var - 1) away))

with_first : (v : ℕ) (t : Literal × ℕ) (ts : Terms) → t.0.var ≡ v → IsTerm t → All IsTerm ts → All (λ u. v ≢ u.0.var) ts → value (only (v - 1)) (t ∷ ts) ≡ worth t.0.neg true t.1 + value [] ts
with_first v t ts at is are apart =
    let first : term_value (only (v - 1)) t ≡ worth t.0.neg true t.1 = ap (λ b. worth t.0.neg b t.1) (ap (λ n. get_or (only (v - 1)) (n - 1) false) at ∙ only_here (v - 1)) in
    let some : 0 < v = omega (arith, is.from_one) in
    sum_by-cons (term_value (only (v - 1))) t ts ∙ ap₂ (λ m n. m + n) first (others v ts some are apart)

without_first : (t : Literal × ℕ) (ts : Terms) → value [] (t ∷ ts) ≡ worth t.0.neg false t.1 + value [] ts
without_first t ts = sum_by-cons (term_value []) t ts

signs : (b c : Bool) (x y s t : ℕ) (m n : ℤ) → 0 < x → 0 < y → pos (worth b true x + s) +ℤ m ≡ pos (worth c true y + t) +ℤ n → pos (worth b false x + s) +ℤ m ≡ pos (worth c false y + t) +ℤ n → (b ≡ c) × (x ≡ y)
signs true true x y s t m n some more on off = (refl, omega (arith, ints))
signs false false x y s t m n some more on off = (refl, omega (arith, ints))
signs true false x y s t m n some more on off = absurd (omega (arith, ints))
signs false true x y s t m n some more on off = absurd (omega (arith, ints))

lone : (b : Bool) (x s t : ℕ) (m n : ℤ) → 0 < x → pos (worth b true x + s) +ℤ m ≡ pos t +ℤ n → pos (worth b false x + s) +ℤ m ≡ pos t +ℤ n → ⊥
lone true x s t m n some on off = omega (arith, ints)
lone false x s t m n some on off = omega (arith, ints)

-- ---- terms in a given order of variables

abbrev variables_of : Terms → List ℕ
variables_of ts = map (λ t. t.0.var) ts

-- the first term is that of the first variable
record HasFirst (v : ℕ) (all : List ℕ) (ts : Terms) : Type 0 where
  first : Literal × ℕ
  rest : Terms
  is : ts ≡ first ∷ rest
  at : first.0.var ≡ v
  order : AreSomeOf (variables_of rest) all

split : (v : ℕ) (all : List ℕ) (ts : Terms) → AreSomeOf (variables_of ts) (v ∷ all) → HasFirst v all ts ⊎ AreSomeOf (variables_of ts) all
split v all [] order = inr tt
split v all (t ∷ ts) order = by (t.0.var == v) refl order
  where
    by : (b : Bool) → (t.0.var == v) ≡ b → MatchBool b (AreSomeOf (variables_of ts) all) (AreSomeOf (t.0.var ∷ variables_of ts) all) → HasFirst v all (t ∷ ts) ⊎ AreSomeOf (variables_of (t ∷ ts)) all
    by true e o = inl (record { first = t; rest = ts; is = refl; at = eqb-true t.0.var v e; order = o })
    by false e o = inr o

away : (v : ℕ) (all : List ℕ) (ts : Terms) → AllPairs (λ x y. x ≢ y) (v ∷ all) → AreSomeOf (variables_of ts) all → All (λ t. v ≢ t.0.var) ts
away v all ts apart order = all_unmapped (λ w. v ≢ w) (λ (t : Literal × ℕ). t.0.var) ts (some_members (λ w. v ≢ w) (variables_of ts) all order (λ k d short. apart 0 (suc k) d (omega arith) (omega arith)))

rest_apart : (v : ℕ) (all : List ℕ) → AllPairs (λ x y. x ≢ y) (v ∷ all) → AllPairs (λ x y. x ≢ y) all
rest_apart v all apart = λ i j d less short. apart (suc i) (suc j) d (omega arith) (omega arith)

-- one side has a term of the variable, and the other has none
not_lone : (v : ℕ) (t : Literal × ℕ) (ts us : Terms) (m n : ℤ) → t.0.var ≡ v → All IsTerm (t ∷ ts) → All IsTerm us → All (λ u. v ≢ u.0.var) ts → All (λ u. v ≢ u.0.var) us → ((a : List Bool) → pos (value a (t ∷ ts)) +ℤ m ≡ pos (value a us) +ℤ n) → ⊥
not_lone v t ts us m n at are others_are ts_apart us_apart same =
    let is : IsTerm t = All-head IsTerm t ts are in
    let some : 0 < v = omega (arith, is.from_one) in
    let on : pos (worth t.0.neg true t.1 + value [] ts) +ℤ m ≡ pos (value [] us) +ℤ n = sym (ap (λ k. pos k +ℤ m) (with_first v t ts at is (All-tail IsTerm t ts are) ts_apart)) ∙ same (only (v - 1)) ∙ ap (λ k. pos k +ℤ n) (others v us some others_are us_apart) in
    let off : pos (worth t.0.neg false t.1 + value [] ts) +ℤ m ≡ pos (value [] us) +ℤ n = sym (ap (λ k. pos k +ℤ m) (without_first t ts)) ∙ same [] in
    lone t.0.neg t.1 (value [] ts) (value [] us) m n is.positive on off

first_same : (v : ℕ) (x y : Literal × ℕ) (xs ys : Terms) (m n : ℤ) → x.0.var ≡ v → y.0.var ≡ v → All IsTerm (x ∷ xs) → All IsTerm (y ∷ ys) → All (λ u. v ≢ u.0.var) xs → All (λ u. v ≢ u.0.var) ys → ((a : List Bool) → pos (value a (x ∷ xs)) +ℤ m ≡ pos (value a (y ∷ ys)) +ℤ n) → x ≡ y
first_same v x y xs ys m n x_at y_at xs_are ys_are xs_apart ys_apart same =
    let x_is : IsTerm x = All-head IsTerm x xs xs_are in
    let y_is : IsTerm y = All-head IsTerm y ys ys_are in
    let on : pos (worth x.0.neg true x.1 + value [] xs) +ℤ m ≡ pos (worth y.0.neg true y.1 + value [] ys) +ℤ n = sym (ap (λ k. pos k +ℤ m) (with_first v x xs x_at x_is (All-tail IsTerm x xs xs_are) xs_apart)) ∙ same (only (v - 1)) ∙ ap (λ k. pos k +ℤ n) (with_first v y ys y_at y_is (All-tail IsTerm y ys ys_are) ys_apart) in
    let off : pos (worth x.0.neg false x.1 + value [] xs) +ℤ m ≡ pos (worth y.0.neg false y.1 + value [] ys) +ℤ n = sym (ap (λ k. pos k +ℤ m) (without_first x xs)) ∙ same [] ∙ ap (λ k. pos k +ℤ n) (without_first y ys) in
    let both = signs x.0.neg y.0.neg x.1 y.1 (value [] xs) (value [] ys) m n x_is.positive y_is.positive on off in
    put (x_at ∙ sym y_at) both.0 both.1
  where
    put : x.0.var ≡ y.0.var → x.0.neg ≡ y.0.neg → x.1 ≡ y.1 → x ≡ y
    put var neg number = ap₂ (λ (l : Literal) (k : ℕ). let t : Literal × ℕ = (l, k) in t) (ap₂ (λ (k : ℕ) (b : Bool). let l : Literal = record { var = k; neg = b } in l) var neg) number

-- Terms in this order of distinct variables are fixed, with an offset, by their values.
abbrev Fixed : List ℕ → Type 0
Fixed all = (xs ys : Terms) (m n : ℤ) → AllPairs (λ x y. x ≢ y) all → All IsTerm xs → All IsTerm ys → AreSomeOf (variables_of xs) all → AreSomeOf (variables_of ys) all → ((a : List Bool) → pos (value a xs) +ℤ m ≡ pos (value a ys) +ℤ n) → (xs ≡ ys) × (m ≡ n)

both_first : (v : ℕ) (all : List ℕ) (x y : Literal × ℕ) (xs ys : Terms) (m n : ℤ) → Fixed all → AllPairs (λ u w. u ≢ w) (v ∷ all) → x.0.var ≡ v → y.0.var ≡ v → AreSomeOf (variables_of xs) all → AreSomeOf (variables_of ys) all → All IsTerm (x ∷ xs) → All IsTerm (y ∷ ys) → ((a : List Bool) → pos (value a (x ∷ xs)) +ℤ m ≡ pos (value a (y ∷ ys)) +ℤ n) → ((x ∷ xs) ≡ (y ∷ ys)) × (m ≡ n)
both_first v all x y xs ys m n fixed apart x_at y_at xs_order ys_order xs_are ys_are same =
    let first = first_same v x y xs ys m n x_at y_at xs_are ys_are (away v all xs apart xs_order) (away v all ys apart ys_order) same in
    let rest = fixed xs ys m n (rest_apart v all apart) (All-tail IsTerm x xs xs_are) (All-tail IsTerm y ys ys_are) xs_order ys_order (λ a.
    let left = sum_by-cons (term_value a) x xs in
    let right = sum_by-cons (term_value a) y ys in
    let one = ap (term_value a) first in
    let whole = same a in
    omega (arith, ints)) in
    (ap₂ (λ (t : Literal × ℕ) (ts : Terms). t ∷ ts) first rest.0, rest.1)

fixed_from : (v : ℕ) (all : List ℕ) → Fixed all → Fixed (v ∷ all)
fixed_from v all fixed xs ys m n apart xs_are ys_are xs_order ys_order same = by (split v all xs xs_order) (split v all ys ys_order)
  where
    by : HasFirst v all xs ⊎ AreSomeOf (variables_of xs) all → HasFirst v all ys ⊎ AreSomeOf (variables_of ys) all → (xs ≡ ys) × (m ≡ n)
    by (inl p) (inl q) =
        let done = both_first v all p.first q.first p.rest q.rest m n fixed apart p.at q.at p.order q.order (subst (All IsTerm) p.is xs_are) (subst (All IsTerm) q.is ys_are) (λ a. ap (λ ts. pos (value a ts) +ℤ m) (sym p.is) ∙ same a ∙ ap (λ ts. pos (value a ts) +ℤ n) q.is) in
        (p.is ∙ done.0 ∙ sym q.is, done.1)
    by (inl p) (inr later) = absurd (not_lone v p.first p.rest ys m n p.at (subst (All IsTerm) p.is xs_are) ys_are (away v all p.rest apart p.order) (away v all ys apart later) (λ a. ap (λ ts. pos (value a ts) +ℤ m) (sym p.is) ∙ same a))
    by (inr later) (inl q) = absurd (not_lone v q.first q.rest xs n m q.at (subst (All IsTerm) q.is ys_are) xs_are (away v all q.rest apart q.order) (away v all xs apart later) (λ a. ap (λ ts. pos (value a ts) +ℤ n) (sym q.is) ∙ sym (same a)))
    by (inr earlier) (inr later) = fixed xs ys m n (rest_apart v all apart) xs_are ys_are earlier later same

-- so are all, by the variables in turn
same_sums : (all : List ℕ) → Fixed all
same_sums [] [] [] m n apart xs_are ys_are xs_order ys_order same = (refl, (let none = same [] in omega (arith, ints)))
same_sums [] [] (y ∷ ys) m n apart xs_are ys_are xs_order ys_order same = absurd ys_order
same_sums [] (x ∷ xs) ys m n apart xs_are ys_are xs_order ys_order same = absurd xs_order
same_sums (v ∷ all) xs ys m n apart xs_are ys_are xs_order ys_order same = fixed_from v all (same_sums all) xs ys m n apart xs_are ys_are xs_order ys_order same

-- ---- cost rows

seen_apart : (seen vars : List ℕ) → AllPairs (λ x y. x ≢ y) seen → AllPairs (λ x y. x ≢ y) (fold with_variable seen vars)
seen_apart seen [] apart = apart
seen_apart seen (v ∷ vars) apart = seen_apart (with_variable seen v) vars (distinct_with seen v apart)

cost_same : (s : CostSource) (r t : CostRowValue) → IsCostRowOf s r → IsCostRowOf s t → r ≡ t
cost_same s r t row other =
    let terms_of : (u : CostRowValue) → IsCostRowOf s u → All IsTerm u.terms = λ u is k d short. (let x = is.row.from_one k d short in let y = is.row.positive k d short in record { from_one = x; positive = y }) in
    let both = same_sums (first_seen s.terms) r.terms t.terms r.offset t.offset (seen_apart [] (map (λ u. u.1.var) s.terms) (λ i j d less short. absurd (omega arith))) (terms_of r row) (terms_of t other) row.order other.order (λ a. row.value a ∙ sym (other.value a)) in
    ap₂ (λ (ts : Terms) (k : ℤ). let c : CostRowValue = record { terms = ts; offset = k } in c) both.0 both.1

-- ---- the whole

zipped_same : {X Y : Type 0} (R : X → Y → Type 0) → ((x : X) (y z : Y) → R x y → R x z → y ≡ z) → (xs : List X) (ys zs : List Y) → AllZip R xs ys → AllZip R xs zs → ys ≡ zs
zipped_same R same [] [] [] left right = refl
zipped_same R same [] [] (z ∷ zs) left right = absurd right
zipped_same R same [] (y ∷ ys) zs left right = absurd left
zipped_same R same (x ∷ xs) [] zs left right = absurd left
zipped_same R same (x ∷ xs) (y ∷ ys) [] left right = absurd right
zipped_same R same (x ∷ xs) (y ∷ ys) (z ∷ zs) left right = ap₂ (λ w ws. w ∷ ws) (same x y z left.0 right.0) (zipped_same R same xs ys zs left.1 right.1)

pub one_form : (i : InstanceValue) (p q : ProblemValue) → IsNormalFormOf i p → IsNormalFormOf i q → p ≡ q
one_form i p q form other =
    let vars : p.vars ≡ q.vars = form.vars ∙ sym other.vars in
    let rows : p.rows ≡ q.rows = zipped_same IsRowOf row_same (row_sources i) p.rows q.rows form.rows other.rows in
    let costs : p.costs ≡ q.costs = zipped_same IsCostRowOf cost_same (cost_sources (i.vars + 1) i.objectives) p.costs q.costs form.costs other.costs in
    ap (λ (n : ℕ). let r : ProblemValue = record { vars = n; rows = p.rows; costs = p.costs } in r) vars
    ∙ ap (λ (cs : List ConstraintValue). let r : ProblemValue = record { vars = q.vars; rows = cs; costs = p.costs } in r) rows
    ∙ ap (λ (rs : List CostRowValue). let r : ProblemValue = record { vars = q.vars; rows = q.rows; costs = rs } in r) costs
