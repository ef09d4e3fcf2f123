-- What the tokens of a clause make: a sum of lines, of which variables are weakened, and which is cut to a clause.
use Rattle.std.proofs.Common.{◌≡◌, ℕ, ◌+◌, ◌-◌, ◌/◌, ◌<◌, ◌≤◌, ◌==◌, Bool, true, false, not, ◌&&◌, ◌||◌, cond, if◌then◌else◌, Option, None, Some, List, [], ◌∷◌, ◌++◌, map, get_or, sum_by, refl, ap, sym, subst, ◌∙◌, arith, Ok, Err, append_assoc, append-nil, pos, ⊎_elim}
use Rattle.std.specs.Prelude.{◌^◌, min, nat_lt, int_lt, MatchOption}
use Rattle.std.specs.List.{All, filter, list_any, list_all}
use Rattle.std.specs.FinMap.{get}
use Rattle.std.proofs.lemmas.Bool.{cond-true, cond-false, eq-eqb, ne_eqb, le-ltb, ltb-false, cases_Bool}
use Rattle.std.proofs.lemmas.Nat.{div_below, le-div}
use Rattle.pb_lin.proofs.Sums.{filter_same}
use Rattle.std.proofs.lemmas.List.{get_or_default}
use Rattle.std.proofs.lemmas.List.Elements.{All-head, All-tail, All-filter, All-map}
use Rattle.std.proofs.lemmas.List.Folds.{list_any-from_Any}
use Rattle.std.proofs.lemmas.List.Filters.{sum_by-filter_both}
use Rattle.std.proofs.lemmas.List.Sums.{sum_by-cons, sum_by-append}
use Rattle.scut_base.specs.Literal.{Literal}
use Rattle.scut_base.specs.Assignment.{lit_true}
use Rattle.pb_lin.specs.Constraint.{ConstraintValue, Holds, IsNormal, opposite, opposite_terms, size, term_value, total, value}
use Rattle.pb_lin.specs.Given.{Given}
use Rattle.pb_lin.proofs.OppositeTerms.{value-opposite, total-opposite}
use Rattle.cutting_planes.specs.Rules.{coefficient_in, divided, rounded_up, saturated, weakened}
use Rattle.cutting_planes.specs.Stack.{token_fault, named_fault, size_fault, factor_fault, IsPushed, IsStep, IsValueOn, Answer}
use Rattle.cutting_planes.specs.declared.token.PolToken.{PolToken}
use Rattle.cutting_planes.specs.declared.token.PolToken.TheVariants.{Id, Add, Div, Saturate, Weaken}
use Rattle.cutting_planes.specs.declared.fault.PolFault.{PolFault}
use Rattle.cutting_planes.specs.declared.fault.PolFault.TheVariants.{BadFactor}
use Rattle.cutting_planes.proofs.Terms.{Terms, changed}
use Rattle.proof_laws.specs.Refusal.{is_clause}
use Rattle.proof_laws.proofs.Images.{value_same}
use Rattle.proof_laws.proofs.NormalForms.{sum_exists}
use Rattle.proof_laws.proofs.Ranges.{all_prefix}
use Rattle.sum_outputs.specs.ClauseTokens.{added, summed, weakens, cuts}
use Rattle.sum_outputs.proofs.Weakened.{IsSplit, amounts, kept_zero, terms_outside}
use Rattle.sum_outputs.proofs.Glue.{AreApart, apart_from_rising, all_true, none_true, bound, bound_within, within_more, value-le-total}

-- ---- steps

-- an answer that goes on where there is no fault
on_none : (P : Type 0) (Q : PolFault → Type 0) (o : Option PolFault) → o ≡ None → P → MatchOption o P Q
on_none P Q None e p = p
on_none P Q (Some f) e p = cc

pub step : (given : Given) (token : PolToken) (stack next : List ConstraintValue) (rest : List PolToken) (answer : Answer) → token_fault given token stack ≡ None → IsStep given token stack next → IsValueOn given next rest answer → IsValueOn given stack (token ∷ rest) answer
step given token stack next rest answer fine is goes = on_none _ (λ f. answer ≡ Err f) (token_fault given token stack) fine (next, is, goes)

named_fine : (o : Option ConstraintValue) (id : ℕ) (c : ConstraintValue) → o ≡ Some c → named_fault o id ≡ None
named_fine None id c e = cc
named_fine (Some d) id c e = refl

named_pushed : (o : Option ConstraintValue) (c : ConstraintValue) (stack : List ConstraintValue) → o ≡ Some c → IsPushed o stack (c ∷ stack)
named_pushed None c stack e = cc
named_pushed (Some d) c stack e = let same : c ≡ d = cc in ap (λ (x : ConstraintValue). x ∷ stack) same

pub push_line : (given : Given) (id : ℕ) (c : ConstraintValue) (stack : List ConstraintValue) (rest : List PolToken) (answer : Answer) → get given.lines id ≡ Some c → IsValueOn given (c ∷ stack) rest answer → IsValueOn given stack (Id id ∷ rest) answer
push_line given id c stack rest answer is goes = step given (Id id) stack (c ∷ stack) rest answer (named_fine (get given.lines id) id c is) (named_pushed (get given.lines id) c stack is) goes

not_less : (m n : ℕ) → n ≤ m → nat_lt m n ≡ false
not_less m n le = le-ltb m n le

pub size_fine : (n : ℕ) → n ≤ 2 ^ 100 → size_fault n ≡ None
size_fine n le = cond-false (nat_lt (2 ^ 100) n) _ None (not_less (2 ^ 100) n le)

-- ---- sums of lines

abbrev pub values : List Bool → List ConstraintValue → ℕ
values x cs = sum_by (λ c. value x c.terms) cs

abbrev pub degrees : List ConstraintValue → ℕ
degrees cs = sum_by (λ c. c.degree) cs

abbrev pub sizes : List ConstraintValue → ℕ
sizes cs = sum_by (λ c. size c) cs

-- The tokens make r of the constraints, where this has cancelled.
pub record SumsTo (given : Given) (tokens : List PolToken) (cs : List ConstraintValue) (r : ConstraintValue) (c : ℕ) : Type 0 where
  pub normal : IsNormal r.terms r.degree
  pub same : (x : List Bool) → value x r.terms + c ≡ values x cs
  pub degree : r.degree ≡ degrees cs - c
  pub steps : (rest : List PolToken) (answer : Answer) → IsValueOn given (r ∷ []) rest answer → IsValueOn given [] (tokens ++ rest) answer

-- what is true of no literal is at most the degrees
abbrev pub LowAt : List Bool → List ConstraintValue → Type 0
LowAt x cs = All (λ c. value x c.terms ≤ c.degree) cs

one_line : (given : Given) (id : ℕ) (c : ConstraintValue) → get given.lines id ≡ Some c → IsNormal c.terms c.degree → SumsTo given (Id id ∷ []) (c ∷ []) c 0
one_line given id c is normal = record {
  normal = normal;
  same = λ x. let cons = sum_by-cons (λ (d : ConstraintValue). value x d.terms) c [] in omega arith;
  degree = let cons = sum_by-cons (λ (d : ConstraintValue). d.degree) c [] in omega arith;
  steps = λ rest answer goes. push_line given id c [] rest answer is goes;
}

one_more : (given : Given) (tokens : List PolToken) (cs : List ConstraintValue) (r : ConstraintValue) (c : ℕ) (id : ℕ) (q : ConstraintValue) → SumsTo given tokens cs r c → c ≤ degrees cs → get given.lines id ≡ Some q → IsNormal q.terms q.degree → size r + size q ≤ 2 ^ 100 →
    (t : ConstraintValue) × (d : ℕ) × SumsTo given (tokens ++ Id id ∷ Add ∷ []) (cs ++ q ∷ []) t d
one_more given tokens cs r c id q sums low is normal fits =
    let made = sum_exists r q sums.normal normal fits in
    let t = made.0 in
    let sum = made.1 in (
      t,
      c + sum.cancelled,
      record {
        normal = sum.normal;
        same = λ x.
            let more = sum_by-append (λ (d : ConstraintValue). value x d.terms) cs (q ∷ []) in
            let cons = sum_by-cons (λ (d : ConstraintValue). value x d.terms) q [] in
            let here = sum.same x in let before = sums.same x in omega arith;
        degree =
            let more = sum_by-append (λ (d : ConstraintValue). d.degree) cs (q ∷ []) in
            let cons = sum_by-cons (λ (d : ConstraintValue). d.degree) q [] in
            let here = sum.degree in let before = sums.degree in omega arith;
        steps = λ rest answer goes.
            let added = step given Add (q ∷ r ∷ []) (t ∷ []) rest answer (size_fine (size r + size q) fits) (t, sum, refl) goes in
            let pushed = push_line given id q (r ∷ []) (Add ∷ rest) answer is added in
            subst (λ (ts : List PolToken). IsValueOn given [] ts answer) (sym (append_assoc tokens (Id id ∷ Add ∷ []) rest)) (sums.steps (Id id ∷ Add ∷ rest) answer pushed);
      },
    )

-- ---- all lines summed

-- the lines of the ids
abbrev pub AreLines : Given → List ℕ → List ConstraintValue → Type 0
AreLines given [] [] = Unit {0}
AreLines given [] (c ∷ cs) = ⊥
AreLines given (id ∷ ids) [] = ⊥
AreLines given (id ∷ ids) (c ∷ cs) = (get given.lines id ≡ Some c) × IsNormal c.terms c.degree × AreLines given ids cs

-- what is made of constraints is no larger than they are
sum_small : (given : Given) (tokens : List PolToken) (cs : List ConstraintValue) (r : ConstraintValue) (c : ℕ) → SumsTo given tokens cs r c → size r ≤ sizes cs
sum_small given tokens cs r c sums =
    let top = all_true (bound r.terms) r.terms (apart_from_rising r.terms sums.normal.merged.rising) (bound_within r.terms sums.normal.merged.from_one) in
    let all = top.1 in
    let here = sums.same top.0 in
    let degree = sums.degree in
    let most = values_degrees_sizes top.0 cs in
    omega arith
  where
    values_degrees_sizes : (x : List Bool) (ds : List ConstraintValue) → values x ds + degrees ds ≤ sizes ds
    values_degrees_sizes x [] = omega arith
    values_degrees_sizes x (d ∷ ds) =
        let one = sum_by-cons (λ (e : ConstraintValue). value x e.terms) d ds in
        let two = sum_by-cons (λ (e : ConstraintValue). e.degree) d ds in
        let three = sum_by-cons (λ (e : ConstraintValue). size e) d ds in
        let here = value-le-total x d.terms in
        let rest = values_degrees_sizes x ds in
        omega arith

-- what has cancelled is at most the degrees
low_cancels : (given : Given) (tokens : List PolToken) (cs : List ConstraintValue) (r : ConstraintValue) (c : ℕ) (x : List Bool) → LowAt x cs → SumsTo given tokens cs r c → c ≤ degrees cs
low_cancels given tokens cs r c x low sums =
    let here = sums.same x in
    let most = values_degrees x cs low in
    omega arith
  where
    values_degrees : (x : List Bool) (ds : List ConstraintValue) → LowAt x ds → values x ds ≤ degrees ds
    values_degrees x [] low = omega arith
    values_degrees x (d ∷ ds) low =
        let one = sum_by-cons (λ (e : ConstraintValue). value x e.terms) d ds in
        let two = sum_by-cons (λ (e : ConstraintValue). e.degree) d ds in
        let here = All-head (λ (e : ConstraintValue). value x e.terms ≤ e.degree) d ds low in
        let rest = values_degrees x ds (All-tail (λ (e : ConstraintValue). value x e.terms ≤ e.degree) d ds low) in
        omega arith

-- a sum of lines, all low at x but for the last, with those that come
module _ (given : Given) (x : List Bool) where
  -- some constraint is made by the tokens
  abbrev HasSum : List PolToken → List ConstraintValue → Type 0
  HasSum tokens cs = (r : ConstraintValue) × (c : ℕ) × SumsTo given tokens cs r c

  pub sum_lines : (ids : List ℕ) (cs : List ConstraintValue) (tokens : List PolToken) (before : List ConstraintValue) (id : ℕ) (u : ConstraintValue) → AreLines given ids cs → LowAt x (before ++ cs) → get given.lines id ≡ Some u → IsNormal u.terms u.degree → sizes ((before ++ cs) ++ u ∷ []) ≤ 2 ^ 100 →
      HasSum tokens before → HasSum (tokens ++ added (ids ++ id ∷ [])) ((before ++ cs) ++ u ∷ [])
  sum_lines [] [] tokens before id u are low live normal fits has =
      let none = append-nil before in
      let same : (before ++ []) ++ u ∷ [] ≡ before ++ u ∷ [] = ap (λ (ds : List ConstraintValue). ds ++ u ∷ []) none in
      let whole = sum_by-append (λ (e : ConstraintValue). size e) (before ++ []) (u ∷ []) in
      let one = sum_by-cons (λ (e : ConstraintValue). size e) u [] in
      let small = sum_small given tokens before has.0 has.1 has.2 in
      let sizes_same : sizes (before ++ []) ≡ sizes before = ap sizes none in
      subst (λ (ds : List ConstraintValue). HasSum (tokens ++ Id id ∷ Add ∷ []) ds) (sym same)
      (one_more given tokens before has.0 has.1 id u has.2 (low_cancels given tokens before has.0 has.1 x (subst (λ (ds : List ConstraintValue). LowAt x ds) none low) has.2) live normal (omega arith))
  sum_lines [] (c ∷ cs) tokens before id u are low live normal fits has = absurd are
  sum_lines (i ∷ ids) [] tokens before id u are low live normal fits has = absurd are
  sum_lines (i ∷ ids) (c ∷ cs) tokens before id u are low live normal fits has =
      let shift : before ++ (c ∷ cs) ≡ (before ++ c ∷ []) ++ cs = sym (append_assoc before (c ∷ []) cs) in
      let whole = sum_by-append (λ (e : ConstraintValue). size e) (before ++ c ∷ cs) (u ∷ []) in
      let parts = sum_by-append (λ (e : ConstraintValue). size e) before (c ∷ cs) in
      let one = sum_by-cons (λ (e : ConstraintValue). size e) c cs in
      let small = sum_small given tokens before has.0 has.1 has.2 in
      let low_before : LowAt x before = All-prefix x before (c ∷ cs) low in
      let next = one_more given tokens before has.0 has.1 i c has.2 (low_cancels given tokens before has.0 has.1 x low_before has.2) are.0 are.1 (omega arith) in
      let rest = sum_lines ids cs (tokens ++ Id i ∷ Add ∷ []) (before ++ c ∷ []) id u are.2 (subst (λ (ds : List ConstraintValue). LowAt x ds) shift low) live normal (subst (λ (ds : List ConstraintValue). sizes (ds ++ u ∷ []) ≤ 2 ^ 100) shift fits) next in
      let same_tokens : (tokens ++ Id i ∷ Add ∷ []) ++ added (ids ++ id ∷ []) ≡ tokens ++ (Id i ∷ Add ∷ added (ids ++ id ∷ [])) = append_assoc tokens (Id i ∷ Add ∷ []) (added (ids ++ id ∷ [])) in
      subst (λ (ds : List ConstraintValue). HasSum (tokens ++ (Id i ∷ Add ∷ added (ids ++ id ∷ []))) (ds ++ u ∷ [])) (sym shift)
      (subst (λ (ts : List PolToken). HasSum ts (((before ++ c ∷ []) ++ cs) ++ u ∷ [])) same_tokens rest)
    where
      All-prefix : (y : List Bool) (ds es : List ConstraintValue) → LowAt y (ds ++ es) → LowAt y ds
      All-prefix y ds es all = all_prefix (λ (e : ConstraintValue). value y e.terms ≤ e.degree) ds es all

  -- all from the first
  pub sum_of_lines : (ids : List ℕ) (cs : List ConstraintValue) (id : ℕ) (u : ConstraintValue) → AreLines given ids cs → LowAt x cs → get given.lines id ≡ Some u → IsNormal u.terms u.degree → sizes (cs ++ u ∷ []) ≤ 2 ^ 100 →
      HasSum (summed (ids ++ id ∷ [])) (cs ++ u ∷ [])
  sum_of_lines [] [] id u are low live normal fits = (u, 0, one_line given id u live normal)
  sum_of_lines [] (c ∷ cs) id u are low live normal fits = absurd are
  sum_of_lines (i ∷ ids) [] id u are low live normal fits = absurd are
  sum_of_lines (i ∷ ids) (c ∷ cs) id u are low live normal fits = sum_lines ids cs (Id i ∷ []) (c ∷ []) id u are.2 low live normal fits (c, 0, one_line given i c are.0 are.1)

-- ---- weakened variables

-- whether a variable is one of these terms
abbrev pub is_of : Terms → ℕ → Bool
is_of ws v = list_any (λ w. v == w.0.var) ws

filter_twice : (q p : Literal × ℕ → Bool) (ts : Terms) → filter p (filter q ts) ≡ filter (λ t. q t && p t) ts
filter_twice q p [] = refl
filter_twice q p (t ∷ ts) = by (q t) (p t) (filter_twice q p ts) refl
  where
    by : (b d : Bool) → filter p (filter q ts) ≡ filter (λ u. q u && p u) ts → p t ≡ d → filter p (cond b (t ∷ filter q ts) (filter q ts)) ≡ cond (b && d) (t ∷ filter (λ u. q u && p u) ts) (filter (λ u. q u && p u) ts)
    by true true rest is = cond-true (p t) (t ∷ filter p (filter q ts)) (filter p (filter q ts)) is ∙ ap (λ (us : Terms). t ∷ us) rest
    by true false rest is = cond-false (p t) (t ∷ filter p (filter q ts)) (filter p (filter q ts)) is ∙ rest
    by false d rest is = rest

not_either : (a b : Bool) → (not a && not b) ≡ not (a || b)
not_either true b = refl
not_either false b = refl

lost_by : (v : ℕ) (t : Literal × ℕ) (ts : Terms) (b : Bool) (s n : ℕ) (us : Terms) → s ≡ (if b then t.1 else 0) + n → n + total us ≡ total ts → s + total (cond (not b) (t ∷ us) us) ≡ t.1 + total ts
lost_by v t ts true s n us is rest = omega arith
lost_by v t ts false s n us is rest = let cons = sum_by-cons (λ (u : Literal × ℕ). u.1) t us in omega arith

-- what the terms of a variable lose
lost_total : (v : ℕ) (ts : Terms) → sum_by (coefficient_in v) ts + total (filter (λ t. not (t.0.var == v)) ts) ≡ total ts
lost_total v [] = refl
lost_total v (t ∷ ts) =
    let whole = sum_by-cons (λ (u : Literal × ℕ). u.1) t ts in
    let here = lost_by v t ts (t.0.var == v) (sum_by (coefficient_in v) (t ∷ ts)) (sum_by (coefficient_in v) ts) (filter (λ u. not (u.0.var == v)) ts) (sum_by-cons (coefficient_in v) t ts) (lost_total v ts) in
    omega arith

-- ---- a clause is made

-- the constraint without variables, one after the other
abbrev pub weakened_by : Terms → ConstraintValue → ConstraintValue
weakened_by [] c = c
weakened_by (w ∷ ws) c = weakened_by ws (weakened w.0.var c)

weakened_terms : (ws : Terms) (c : ConstraintValue) → (weakened_by ws c).terms ≡ terms_outside (is_of ws) c.terms
weakened_terms [] c = sym (filter_all c.terms)
  where
    filter_all : (ts : Terms) → filter (λ t. true) ts ≡ ts
    filter_all [] = refl
    filter_all (t ∷ ts) = ap (λ (us : Terms). t ∷ us) (filter_all ts)
weakened_terms (w ∷ ws) c =
    weakened_terms ws (weakened w.0.var c)
    ∙ filter_twice (λ t. not (t.0.var == w.0.var)) (λ t. not (is_of ws t.0.var)) c.terms
    ∙ filter_same (λ t. not (t.0.var == w.0.var) && not (is_of ws t.0.var)) (λ t. not (is_of (w ∷ ws) t.0.var)) (λ t. not_either (t.0.var == w.0.var) (is_of ws t.0.var)) c.terms

-- the degree falls by what the terms lose
weakened_degree : (ws : Terms) (c : ConstraintValue) → (lost : ℕ) × (lost + total (weakened_by ws c).terms ≡ total c.terms) × ((weakened_by ws c).degree ≡ c.degree - lost)
weakened_degree [] c = (0, omega arith, omega arith)
weakened_degree (w ∷ ws) c =
    let rest = weakened_degree ws (weakened w.0.var c) in
    let here = lost_total w.0.var c.terms in
    let one = rest.1 in
    let two = rest.2 in
    (sum_by (coefficient_in w.0.var) c.terms + rest.0, omega arith, omega arith)

weaken_steps : (given : Given) (ws : Terms) (c : ConstraintValue) (rest : List PolToken) (answer : Answer) → IsValueOn given (weakened_by ws c ∷ []) rest answer → IsValueOn given (c ∷ []) (weakens ws ++ rest) answer
weaken_steps given [] c rest answer goes = goes
weaken_steps given (w ∷ ws) c rest answer goes = step given (Weaken w.0.var) (c ∷ []) (weakened w.0.var c ∷ []) (weakens ws ++ rest) answer refl refl (weaken_steps given ws (weakened w.0.var c) rest answer goes)

-- the same terms with the coefficient 1
abbrev pub with_ones : Terms → Terms
with_ones ts = map (λ t. (t.0, 1)) ts

one_quotient : (n m : ℕ) → 0 < n → n ≤ m → rounded_up n m ≡ 1
one_quotient n m some most =
    let below : (n + (m - 1)) / m < 2 = div_below (n + (m - 1)) m 2 (omega arith) (omega arith) in
    let above : 1 ≤ (n + (m - 1)) / m = le-div 1 (n + (m - 1)) m (omega arith) (omega arith) in
    omega arith

map_ones : (f : ℕ → ℕ) (ts : Terms) → ((n : ℕ) → 0 < n → f n ≡ 1) → All (λ t. 0 < t.1) ts → map (changed f) ts ≡ with_ones ts
map_ones f [] one positive = refl
map_ones f (t ∷ ts) one positive =
    let here : f t.1 ≡ 1 = one t.1 (All-head (λ u. 0 < u.1) t ts positive) in
    let rest = map_ones f ts one (All-tail (λ u. 0 < u.1) t ts positive) in
    ap (λ (k : ℕ). (t.0, k) ∷ map (changed f) ts) here ∙ ap (λ (us : Terms). (t.0, 1) ∷ us) rest

map_twice : (f g : ℕ → ℕ) (ts : Terms) → map (changed g) (map (changed f) ts) ≡ map (changed (λ n. g (f n))) ts
map_twice f g [] = refl
map_twice f g (t ∷ ts) = ap (λ (us : Terms). (t.0, g (f t.1)) ∷ us) (map_twice f g ts)

ones_are_clause : (ts : Terms) → is_clause (record { terms = with_ones ts; degree = 1 }) ≡ true
ones_are_clause ts = ap (λ (b : Bool). b && true) (all_ones ts)
  where
    all_ones : (us : Terms) → list_all (λ t. t.1 == 1) (with_ones us) ≡ true
    all_ones [] = refl
    all_ones (u ∷ us) = all_ones us

constraint_same : (ts us : Terms) (d e : ℕ) → ts ≡ us → d ≡ e → ◌≡◌ {A = ConstraintValue} (record { terms = ts; degree = d }) (record { terms = us; degree = e })
constraint_same ts us d e one two = ap (λ (vs : Terms). record { terms = vs; degree = d }) one ∙ ap (λ (k : ℕ). record { terms = us; degree = k }) two

factor_fine : (n : ℕ) → 0 < n → factor_fault (pos n) None ≡ None
factor_fine n more = cond-false (int_lt (pos n) (pos 1)) (Some BadFactor) None (le-ltb n 1 (omega arith))

cut_steps : (given : Given) (c : ConstraintValue) → 0 < c.degree → All (λ t. 0 < t.1) c.terms → c.degree < 2 ^ 64 → IsValueOn given (c ∷ []) (cuts c.degree) (Ok (record { terms = with_ones c.terms; degree = 1 }))
cut_steps given c some positive small = step given Saturate (c ∷ []) (saturated c ∷ []) (if nat_lt 1 c.degree then Div (pos c.degree) ∷ [] else []) (Ok (record { terms = with_ones c.terms; degree = 1 })) refl refl
    (⊎_elim
    (λ (large : nat_lt 1 c.degree ≡ true). subst (λ (b : Bool). IsValueOn given (saturated c ∷ []) (if b then Div (pos c.degree) ∷ [] else []) (Ok (record { terms = with_ones c.terms; degree = 1 }))) (sym large) divides)
    (λ (one : nat_lt 1 c.degree ≡ false). subst (λ (b : Bool). IsValueOn given (saturated c ∷ []) (if b then Div (pos c.degree) ∷ [] else []) (Ok (record { terms = with_ones c.terms; degree = 1 }))) (sym one) (stays (ltb-false 1 c.degree one)))
    (cases_Bool (nat_lt 1 c.degree)))
  where
    saturated_is : (saturated c).terms ≡ map (changed (λ n. min n c.degree)) c.terms
    saturated_is = cond-false (c.degree == 0) [] (map (changed (λ n. min n c.degree)) c.terms) (ne_eqb c.degree 0 (λ e. omega arith))

    stays : c.degree ≤ 1 → IsValueOn given (saturated c ∷ []) [] (Ok (record { terms = with_ones c.terms; degree = 1 }))
    stays le = ap (λ (d : ConstraintValue). Ok d) (sym (constraint_same (saturated c).terms (with_ones c.terms) c.degree 1 (saturated_is ∙ map_ones (λ n. min n c.degree) c.terms (λ n more. omega arith) positive) (omega arith)))

    divides : IsValueOn given (saturated c ∷ []) (Div (pos c.degree) ∷ []) (Ok (record { terms = with_ones c.terms; degree = 1 }))
    divides = step given (Div (pos c.degree)) (saturated c ∷ []) (divided c.degree (saturated c) ∷ []) [] (Ok (record { terms = with_ones c.terms; degree = 1 })) (factor_fine c.degree some) refl
        (ap (λ (d : ConstraintValue). Ok d) (sym (constraint_same (divided c.degree (saturated c)).terms (with_ones c.terms) (rounded_up c.degree c.degree) 1
        (ap (λ (ts : Terms). map (changed (λ n. rounded_up n c.degree)) ts) saturated_is
        ∙ map_twice (λ n. min n c.degree) (λ n. rounded_up n c.degree) c.terms
        ∙ map_ones (λ n. rounded_up (min n c.degree) c.degree) c.terms (λ n more. one_quotient (min n c.degree) c.degree (omega arith) (omega arith)) positive)
        (one_quotient c.degree c.degree some (omega arith)))))

one_less : (b : Bool) (n : ℕ) → 0 < n → (if b then 1 else 0) ≤ (if b then n else 0)
one_less true n some = omega arith
one_less false n some = omega arith

ones_less : (x : List Bool) (ts : Terms) → All (λ t. 0 < t.1) ts → value x (with_ones ts) ≤ value x ts
ones_less x [] positive = omega arith
ones_less x (t ∷ ts) positive =
    let one = sum_by-cons (term_value x) (t.0, 1) (with_ones ts) in
    let two = sum_by-cons (term_value x) t ts in
    let here = one_less (lit_true x t.0) t.1 (All-head (λ u. 0 < u.1) t ts positive) in
    let rest = ones_less x ts (All-tail (λ u. 0 < u.1) t ts positive) in
    omega arith

-- ---- all of it

-- A sum of lines and what it is worth: with what is weakened and an amount it is worth the terms of a clause, with as much as they cancel.
pub record MakesClause (given : Given) (ids : List ℕ) (lowers : List ConstraintValue) (id : ℕ) (upper : ConstraintValue) (weak terms : Terms) (amount cancelled degree : ℕ) : Type 0 where
  pub lines : AreLines given ids lowers
  pub live : get given.lines id ≡ Some upper
  pub normal : IsNormal upper.terms upper.degree
  pub small : sizes (lowers ++ upper ∷ []) ≤ 2 ^ 100
  pub same : (x : List Bool) → (values x lowers + value x upper.terms) + (amount + value x weak) ≡ value x terms + cancelled
  pub degrees : (degrees lowers + upper.degree) + amount ≡ cancelled + degree
  pub from_one : 0 < degree
  pub fits : degree < 2 ^ 64
  pub none : (x : List Bool) × LowAt x lowers × (value x weak ≡ 0)
  pub terms_apart : AreApart terms
  pub terms_from_one : All (λ t. 0 < t.0.var) terms
  pub weak_from_one : All (λ t. 0 < t.0.var) weak
  pub outside : All (λ t. is_of weak t.0.var ≡ false) terms

module _ (given : Given) (ids : List ℕ) (lowers : List ConstraintValue) (id : ℕ) (upper : ConstraintValue) (weak terms : Terms) (amount cancelled degree : ℕ) (makes : MakesClause given ids lowers id upper weak terms amount cancelled degree) where
  made : HasSum given makes.none.0 (summed (ids ++ id ∷ [])) (lowers ++ upper ∷ [])
  made = sum_of_lines given makes.none.0 ids lowers id upper makes.lines makes.none.1 makes.live makes.normal makes.small

  abbrev sum : ConstraintValue
  sum = made.0

  abbrev n : ℕ
  n = (bound sum.terms + bound weak) + bound terms

  weak_inside : (ws : Terms) → All (λ t. is_of ws t.0.var ≡ true) ws
  weak_inside ws k d short = list_any-from_Any (λ w. (get_or ws k d).0.var == w.0.var) ws (k, get_or ws k d, short, get_or_default ws k (get_or ws k d) d short, eq-eqb (get_or ws k d).0.var (get_or ws k d).0.var refl)

  split : IsSplit n (is_of weak) sum.terms (made.1 + (amount + total weak)) (λ x. value x terms) (opposite_terms weak) cancelled
  split = record {
    within = within_more (bound sum.terms) n sum.terms (omega arith) (bound_within sum.terms made.2.normal.merged.from_one);
    rising = made.2.normal.merged.rising;
    inner_within = All-map (λ t. (0 < t.0.var) × (t.0.var ≤ n)) (λ t. (opposite t.0, t.1)) weak (within_more (bound weak) n weak (omega arith) (bound_within weak makes.weak_from_one));
    inner = All-map (λ t. is_of weak t.0.var ≡ true) (λ t. (opposite t.0, t.1)) weak (weak_inside weak);
    local = λ x y agree. value_same x y terms (λ k d short. agree (get_or terms k d).0.var (makes.terms_from_one k d short) (let w = within_more (bound terms) n terms (omega arith) (bound_within terms makes.terms_from_one) k d short in w.1) (makes.outside k d short));
    same = λ x.
        let here = made.2.same x in
        let all = makes.same x in
        let both = value-opposite x weak in
        let whole = sum_by-append (λ (e : ConstraintValue). value x e.terms) lowers (upper ∷ []) in
        let one = sum_by-cons (λ (e : ConstraintValue). value x e.terms) upper [] in
        omega arith;
    zero = none_true n terms makes.terms_apart (within_more (bound terms) n terms (omega arith) (bound_within terms makes.terms_from_one));
    full = (makes.none.0, let both = value-opposite makes.none.0 weak in let all = total-opposite weak in let zero = makes.none.2 in omega arith);
  }

  abbrev kept : Terms
  kept = terms_outside (is_of weak) sum.terms

  abbrev clause_of : ConstraintValue
  clause_of = record { terms = with_ones kept; degree = 1 }

  left_degree : (weakened_by weak sum).degree ≡ degree
  left_degree =
      let lost = weakened_degree weak sum in
      let l = lost.1 in
      let d = lost.2 in
      let same_total : total (weakened_by weak sum).terms ≡ total kept = ap total (weakened_terms weak sum) in
      let all = amounts n (is_of weak) sum.terms (made.1 + (amount + total weak)) (λ x. value x terms) (opposite_terms weak) cancelled split in
      let parts = sum_by-filter_both (λ t. is_of weak t.0.var) (λ t. not (is_of weak t.0.var)) (λ t. refl) (λ (t : Literal × ℕ). t.1) sum.terms in
      let opposite_total = total-opposite weak in
      let start = made.2.degree in
      let whole = sum_by-append (λ (e : ConstraintValue). e.degree) lowers (upper ∷ []) in
      let one = sum_by-cons (λ (e : ConstraintValue). e.degree) upper [] in
      let target = makes.degrees in
      omega arith

  kept_positive : All (λ t. 0 < t.1) kept
  kept_positive = All-filter (λ t. not (is_of weak t.0.var)) (λ t. 0 < t.1) sum.terms made.2.normal.merged.positive

  left_is : weakened_by weak sum ≡ record { terms = kept; degree = degree }
  left_is = constraint_same (weakened_by weak sum).terms kept (weakened_by weak sum).degree degree (weakened_terms weak sum) left_degree

  -- the tokens make a clause
  clause_made : IsValueOn given [] (summed (ids ++ id ∷ []) ++ (weakens weak ++ cuts degree)) (Ok clause_of)
  clause_made = made.2.steps (weakens weak ++ cuts degree) (Ok clause_of)
      (weaken_steps given weak sum (cuts degree) (Ok clause_of)
      (subst (λ (c : ConstraintValue). IsValueOn given (c ∷ []) (cuts degree) (Ok clause_of)) (sym left_is)
      (cut_steps given (record { terms = kept; degree = degree }) makes.from_one kept_positive makes.fits)))

  clause_is : is_clause clause_of ≡ true
  clause_is = ones_are_clause kept

  -- where it holds, some literal of the terms is true
  clause_holds : (x : List Bool) → Holds x clause_of → value x terms ≡ 0 → ⊥
  clause_holds x holds nothing =
      let none = kept_zero n (is_of weak) sum.terms (made.1 + (amount + total weak)) (λ y. value y terms) (opposite_terms weak) cancelled split x nothing in
      let less = ones_less x kept kept_positive in
      omega arith

  -- the tokens make a clause, and where it holds some literal of the terms is true
  pub has_clause : (c : ConstraintValue) × IsValueOn given [] (summed (ids ++ id ∷ []) ++ (weakens weak ++ cuts degree)) (Ok c) × (is_clause c ≡ true) × ((x : List Bool) → Holds x c → value x terms ≡ 0 → ⊥)
  has_clause = (clause_of, clause_made, clause_is, clause_holds)
