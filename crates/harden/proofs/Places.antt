-- What a table says of literals after one more term, row or objective.
use Rattle.std.proofs.Common.{◌≡◌, ◌≢◌, ℕ, ◌+◌, ◌*◌, ◌<◌, ◌≤◌, ◌==◌, zero, suc, Bool, true, false, ◌&&◌, ◌||◌, cond, if◌then◌else◌, List, [], ◌∷◌, ◌++◌, map, length, get_or, set, take, refl, ap, sym, subst, ◌∙◌, arith, append-nil}
use Rattle.std.proofs.Math.Bool.{beq, or-false, or-true}
use Rattle.std.specs.Prelude.{nat_lt, slice_get, Some}
use Rattle.std.specs.List.{All, filter, list_any}
use Rattle.std.proofs.lemmas.Bool.{eq-eqb, ne_eqb}
use Rattle.std.proofs.lemmas.List.{get_or-set_other, get_or-take, get_or_default, length-take, map-append, take_more}
use Rattle.std.proofs.lemmas.List.Elements.{All-head, All-tail, filter-append}
use Rattle.std.proofs.lemmas.List.Folds.{list_any-append, list_any_none}
use Rattle.std.proofs.lemmas.Grind.{get_or-set_at}
use Rattle.std.proofs.lemmas.Option.{get_or_from_slice_get, slice_get_within}
use Rattle.scut_base.specs.Literal.{Literal, is_same}
use Rattle.scut_base.specs.LiteralCode.{code_of}
use Rattle.pb_lin.specs.Constraint.{ConstraintValue, IsMerged, TermsUpTo}
use Rattle.pb_lin.specs.CostRow.{CostRowValue}
use Rattle.pb_lin.proofs.Covers.{is_same-true, same_literal}
use Rattle.proof_laws.specs.State.{numbered}
use Rattle.harden.specs.Hardened.{occurs, open_rows, stays_open}
use Rattle.harden.specs.Noted.{AreWithin, in_row, named_if, no_occurrence, occurrence_at, occurrence_in, with_cost, with_costs, with_row}
use Rattle.harden.specs.declared.occurrence.Occurrence.{Occurrence}

abbrev pub Terms : Type 0
Terms = List (Literal × ℕ)

-- ---- literals

-- literals that aren't the same have places of their own
other_place : (l m : Literal) → is_same l m ≡ false → code_of l ≢ code_of m
other_place l m e same = by l.var m.var l.neg m.neg e same
  where
    by : (v w : ℕ) (a b : Bool) → (v == w && beq a b) ≡ false → 2 * v + (if a then 1 else 0) ≢ 2 * w + (if b then 1 else 0)
    by v w true true e same = let is = eq-eqb v w (omega arith) in cc
    by v w false false e same = let is = eq-eqb v w (omega arith) in cc
    by v w true false e same = absurd (omega arith)
    by v w false true e same = absurd (omega arith)

-- ---- one place more

-- What a table says of each literal after a write at the place of one.
at_write : (table : List Occurrence) (l : Literal) (now : Occurrence) (says : Literal → Occurrence) → code_of l < length table
    → says l ≡ now → ((m : Literal) → is_same m l ≡ false → occurrence_at table m ≡ says m)
    → (m : Literal) → occurrence_at (set table (code_of l) now) m ≡ says m
at_write table l now says short here others m = by (is_same m l) refl
  where
    by : (b : Bool) → is_same m l ≡ b → occurrence_at (set table (code_of l) now) m ≡ says m
    by true e = let same : m ≡ l = is_same-true m l e in
        get_or-set_at table (code_of l) (code_of m) now no_occurrence (ap code_of same) short ∙ sym here ∙ ap says (sym same)
    by false e = get_or-set_other table (code_of l) (code_of m) now no_occurrence (other_place m l e) ∙ others m e

-- the last passes
any_last : {X : Type 0} (p : X → Bool) (xs : List X) (x : X) → p x ≡ true → list_any p (xs ++ x ∷ []) ≡ true
any_last p xs x e = list_any-append p xs (x ∷ []) ∙ ap (λ (b : Bool). list_any p xs || (b || false)) e ∙ or-true (list_any p xs)

-- the last doesn't
any_others : {X : Type 0} (p : X → Bool) (xs : List X) (x : X) → p x ≡ false → list_any p (xs ++ x ∷ []) ≡ list_any p xs
any_others p xs x e = list_any-append p xs (x ∷ []) ∙ ap (λ (b : Bool). list_any p xs || (b || false)) e ∙ or-false (list_any p xs)

-- none before it does
any_here : {X : Type 0} (p : X → Bool) (xs : List X) (x : X) → list_any p xs ≡ false → list_any p (xs ++ x ∷ []) ≡ p x
any_here p xs x e = list_any-append p xs (x ∷ []) ∙ ap (λ (b : Bool). b || (p x || false)) e ∙ or-false (p x)

occurrence_same : (a b : Bool) (c : Bool) (o r : List ℕ) → a ≡ b → o ≡ r → ◌≡◌ {A = Occurrence} (record { in_rows = a; in_costs = c; open_rows = o }) (record { in_rows = b; in_costs = c; open_rows = r })
occurrence_same a b c o r e f = ap (λ (d : Bool). record { in_rows = d; in_costs = c; open_rows = o }) e ∙ ap (λ (q : List ℕ). record { in_rows = b; in_costs = c; open_rows = q }) f

not_here : (a b : Bool) → a ≡ false → (a && b) ≡ false
not_here true b e = cc
not_here false b e = refl

-- ---- a term of a row

module _ (c : ConstraintValue) (id at : ℕ) (t : Literal × ℕ) (merged : IsMerged c.terms) (short : at < length c.terms) (is : get_or c.terms at t ≡ t) where
  abbrev before : Terms
  before = take at c.terms

  abbrev row_to : Terms → ConstraintValue
  row_to terms = record { terms = terms; degree = c.degree }

  more : take (at + 1) c.terms ≡ before ++ t ∷ []
  more = take_more c.terms at t short ∙ ap (λ (u : Literal × ℕ). before ++ u ∷ []) is

  -- the terms before it are of lower variables
  apart : (p : Literal × ℕ → Bool) → ((u : Literal × ℕ) → u.0.var < t.0.var → p u ≡ false) → list_any p before ≡ false
  apart p none = list_any_none p before (λ k d inside.
      let below : k < at = let long = length-take at c.terms in omega arith in
      let less : (get_or c.terms k d).0.var < (get_or c.terms at d).0.var = merged.rising k at d below short in
      let last : get_or c.terms at d ≡ t = get_or_default c.terms at d t short ∙ is in
      let place : get_or before k d ≡ get_or c.terms k d = get_or-take at c.terms k d below in
      let var : (get_or c.terms at d).0.var ≡ t.0.var = ap (λ (u : Literal × ℕ). u.0.var) last in
      subst (λ (u : Literal × ℕ). p u ≡ false) (sym place) (none (get_or c.terms k d) (omega arith)))

  other : (u : Literal × ℕ) → u.0.var < t.0.var → is_same t.0 u.0 ≡ false
  other u less = not_here (t.0.var == u.0.var) (beq t.0.neg u.0.neg) (ne_eqb t.0.var u.0.var (λ same. omega arith))

  pub row_more : (table : List Occurrence) (was : Literal → Occurrence) → code_of t.0 < length table
      → ((m : Literal) → occurrence_at table m ≡ with_row (row_to before) id m (was m))
      → (m : Literal) → occurrence_at (set table (code_of t.0) (in_row (nat_lt t.1 c.degree) id (occurrence_at table t.0))) m
      ≡ with_row (row_to (take (at + 1) c.terms)) id m (was m)
  row_more table was room noted = subst (λ (terms : Terms). (m : Literal) → occurrence_at (set table (code_of t.0) (in_row (nat_lt t.1 c.degree) id (occurrence_at table t.0))) m ≡ with_row (row_to terms) id m (was m))
      (sym more)
      (at_write table t.0 (in_row (nat_lt t.1 c.degree) id (occurrence_at table t.0)) (λ m. with_row (row_to (before ++ t ∷ [])) id m (was m)) room here
      (λ m e. noted m ∙ sym (elsewhere m e)))
    where
      itself : is_same t.0 t.0 ≡ true
      itself = same_literal t.0 t.0 refl

      open_none : stays_open t.0 (row_to before) ≡ false
      open_none = apart (λ u. is_same t.0 u.0 && nat_lt u.1 c.degree) (λ u less. not_here (is_same t.0 u.0) (nat_lt u.1 c.degree) (other u less))

      open_here : stays_open t.0 (row_to (before ++ t ∷ [])) ≡ nat_lt t.1 c.degree
      open_here = any_here (λ u. is_same t.0 u.0 && nat_lt u.1 c.degree) before t open_none ∙ ap (λ (b : Bool). b && nat_lt t.1 c.degree) itself

      here : with_row (row_to (before ++ t ∷ [])) id t.0 (was t.0) ≡ in_row (nat_lt t.1 c.degree) id (occurrence_at table t.0)
      here = occurrence_same ((was t.0).in_rows || occurs t.0 (before ++ t ∷ [])) true (was t.0).in_costs
          ((was t.0).open_rows ++ named_if (stays_open t.0 (row_to (before ++ t ∷ []))) id)
          (((was t.0).open_rows ++ named_if (stays_open t.0 (row_to before)) id) ++ named_if (nat_lt t.1 c.degree) id)
          (ap (λ (b : Bool). (was t.0).in_rows || b) (any_last (λ u. is_same t.0 u.0) before t itself) ∙ or-true (was t.0).in_rows)
          (ap (λ (b : Bool). (was t.0).open_rows ++ named_if b id) open_here
          ∙ sym (ap (λ (b : Bool). ((was t.0).open_rows ++ named_if b id) ++ named_if (nat_lt t.1 c.degree) id) open_none ∙ ap (λ (q : List ℕ). q ++ named_if (nat_lt t.1 c.degree) id) (append-nil (was t.0).open_rows)))
          ∙ ap (in_row (nat_lt t.1 c.degree) id) (sym (noted t.0))

      elsewhere : (m : Literal) → is_same m t.0 ≡ false → with_row (row_to (before ++ t ∷ [])) id m (was m) ≡ with_row (row_to before) id m (was m)
      elsewhere m e = occurrence_same ((was m).in_rows || occurs m (before ++ t ∷ [])) ((was m).in_rows || occurs m before) (was m).in_costs
          ((was m).open_rows ++ named_if (stays_open m (row_to (before ++ t ∷ []))) id) ((was m).open_rows ++ named_if (stays_open m (row_to before)) id)
          (ap (λ (b : Bool). (was m).in_rows || b) (any_others (λ u. is_same m u.0) before t e))
          (ap (λ (b : Bool). (was m).open_rows ++ named_if b id) (any_others (λ u. is_same m u.0 && nat_lt u.1 c.degree) before t (not_here (is_same m t.0) (nat_lt t.1 c.degree) e)))

-- ---- a term of an objective

with_cost_more : (terms : Terms) (t : Literal × ℕ) (m : Literal) (o : Occurrence) → is_same m t.0 ≡ false → with_cost (terms ++ t ∷ []) m o ≡ with_cost terms m o
with_cost_more terms t m o e = ap (λ (b : Bool). record o { in_costs = o.in_costs || b }) (any_others (λ u. is_same m u.0) terms t e)

pub cost_more : (terms : Terms) (at : ℕ) (t : Literal × ℕ) (table : List Occurrence) (was : Literal → Occurrence) → at < length terms → get_or terms at t ≡ t → code_of t.0 < length table
    → ((m : Literal) → occurrence_at table m ≡ with_cost (take at terms) m (was m))
    → (m : Literal) → occurrence_at (set table (code_of t.0) (record (occurrence_at table t.0) { in_costs = true })) m ≡ with_cost (take (at + 1) terms) m (was m)
cost_more terms at t table was short is room noted = subst (λ (us : Terms). (m : Literal) → occurrence_at (set table (code_of t.0) (record (occurrence_at table t.0) { in_costs = true })) m ≡ with_cost us m (was m))
    (sym more)
    (at_write table t.0 (record (occurrence_at table t.0) { in_costs = true }) (λ m. with_cost (take at terms ++ t ∷ []) m (was m)) room here
    (λ m e. noted m ∙ sym (with_cost_more (take at terms) t m (was m) e)))
  where
    more : take (at + 1) terms ≡ take at terms ++ t ∷ []
    more = take_more terms at t short ∙ ap (λ (u : Literal × ℕ). take at terms ++ u ∷ []) is

    here : with_cost (take at terms ++ t ∷ []) t.0 (was t.0) ≡ record (occurrence_at table t.0) { in_costs = true }
    here = ap (λ (b : Bool). record (was t.0) { in_costs = (was t.0).in_costs || b }) (any_last (λ u. is_same t.0 u.0) (take at terms) t (same_literal t.0 t.0 refl))
        ∙ ap (λ (b : Bool). record (was t.0) { in_costs = b }) (or-true (was t.0).in_costs)
        ∙ ap (λ (o : Occurrence). record o { in_costs = true }) (sym (noted t.0))

-- ---- rows and objectives

numbered_last : (n : ℕ) (rows : List ConstraintValue) (c : ConstraintValue) (id : ℕ) → id ≡ n + length rows → numbered n (rows ++ c ∷ []) ≡ numbered n rows ++ (id, c) ∷ []
numbered_last n [] c id e = let same : n ≡ id = omega arith in ap one same
  where
    one : ℕ → List (ℕ × ConstraintValue)
    one k = (k, c) ∷ []
numbered_last n (d ∷ rows) c id e = ap (λ (rest : List (ℕ × ConstraintValue)). (n, d) ∷ rest) (numbered_last (n + 1) rows c id (omega arith))

open_last : (m : Literal) (rows : List ConstraintValue) (c : ConstraintValue) (id : ℕ) → id ≡ length rows + 1
    → open_rows m (numbered 1 (rows ++ c ∷ [])) ≡ open_rows m (numbered 1 rows) ++ named_if (stays_open m c) id
open_last m rows c id e =
    ap (open_rows m) (numbered_last 1 rows c id (omega arith))
    ∙ ap (map (λ (q : ℕ × ConstraintValue). q.0)) (filter-append (λ q. stays_open m q.1) (numbered 1 rows) ((id, c) ∷ []))
    ∙ map-append (λ (q : ℕ × ConstraintValue). q.0) (filter (λ q. stays_open m q.1) (numbered 1 rows)) (cond (stays_open m c) ((id, c) ∷ []) [])
    ∙ ap (λ (ids : List ℕ). open_rows m (numbered 1 rows) ++ ids) (by (stays_open m c))
  where
    by : (b : Bool) → map (λ (q : ℕ × ConstraintValue). q.0) (cond b ((id, c) ∷ []) []) ≡ named_if b id
    by true = refl
    by false = refl

pub rows_more : (rows : List ConstraintValue) (c : ConstraintValue) (id : ℕ) (m : Literal) → id ≡ length rows + 1
    → with_row c id m (occurrence_in rows [] m) ≡ occurrence_in (rows ++ c ∷ []) [] m
rows_more rows c id m e = occurrence_same (list_any (λ d. occurs m d.terms) rows || occurs m c.terms) (list_any (λ d. occurs m d.terms) (rows ++ c ∷ [])) false
    (open_rows m (numbered 1 rows) ++ named_if (stays_open m c) id) (open_rows m (numbered 1 (rows ++ c ∷ [])))
    (sym (list_any-append (λ d. occurs m d.terms) rows (c ∷ []) ∙ ap (λ (b : Bool). list_any (λ d. occurs m d.terms) rows || b) (or-false (occurs m c.terms))))
    (sym (open_last m rows c id e))

pub costs_more : (costs : List CostRowValue) (r : CostRowValue) (m : Literal) (o : Occurrence)
    → with_cost r.terms m (with_costs costs m o) ≡ with_costs (costs ++ r ∷ []) m o
costs_more costs r m o = ap (λ (b : Bool). record o { in_costs = b })
    (or_assoc o.in_costs (list_any (λ q. occurs m q.terms) costs) (occurs m r.terms)
    ∙ ap (λ (b : Bool). o.in_costs || b) (sym (list_any-append (λ q. occurs m q.terms) costs (r ∷ []) ∙ ap (λ (b : Bool). list_any (λ q. occurs m q.terms) costs || b) (or-false (occurs m r.terms)))))
  where
    or_assoc : (a b c : Bool) → ((a || b) || c) ≡ (a || (b || c))
    or_assoc true b c = refl
    or_assoc false b c = refl

-- nothing is noted in a table of blanks
pub blank_at : (table : List Occurrence) → All (λ o. o ≡ no_occurrence) table → (c : ℕ) → get_or table c no_occurrence ≡ no_occurrence
blank_at [] all c = refl
blank_at (o ∷ table) all zero = All-head (λ q. q ≡ no_occurrence) o table all
blank_at (o ∷ table) all (suc c) = blank_at table (All-tail (λ q. q ≡ no_occurrence) o table all) c

-- literals of variables up to n have places
pub terms_within : (n : ℕ) (terms : Terms) → TermsUpTo n terms → AreWithin (2 * n + 2) terms
terms_within n terms upto k d short = let less = upto k d short in below (get_or terms k d).0.neg (get_or terms k d).0.var less
  where
    below : (b : Bool) (v : ℕ) → v ≤ n → 2 * v + (if b then 1 else 0) < 2 * n + 2
    below true v less = omega arith
    below false v less = omega arith

-- ---- the steps of the loops

-- what stands at the place of a literal
at_place : (table : List Occurrence) (l : Literal) (code : ℕ) (place : Occurrence) → code ≡ code_of l → code < length table → place ≡ get_or table code place → place ≡ occurrence_at table l
at_place table l code place is short own = own ∙ get_or_default table code place no_occurrence short ∙ ap (λ (k : ℕ). get_or table k no_occurrence) is

pub row_step : (c : ConstraintValue) (id at : ℕ) (t : Literal × ℕ) (table : List Occurrence) (was : Literal → Occurrence) (code : ℕ) (place now : Occurrence)
    → IsMerged c.terms → slice_get c.terms at ≡ Some t → code ≡ code_of t.0 → code < length table → place ≡ get_or table code place → now ≡ in_row (nat_lt t.1 c.degree) id place
    → ((m : Literal) → occurrence_at table m ≡ with_row (record { terms = take at c.terms; degree = c.degree }) id m (was m))
    → (m : Literal) → occurrence_at (set table code now) m ≡ with_row (record { terms = take (at + 1) c.terms; degree = c.degree }) id m (was m)
row_step c id at t table was code place now merged found is short own noted before m =
    let last : now ≡ in_row (nat_lt t.1 c.degree) id (occurrence_at table t.0) = noted ∙ ap (in_row (nat_lt t.1 c.degree) id) (at_place table t.0 code place is short own) in
    ap (λ (k : ℕ). occurrence_at (set table k now) m) is ∙ ap (λ (o : Occurrence). occurrence_at (set table (code_of t.0) o) m) last
    ∙ row_more c id at t merged (slice_get_within c.terms at t found) (get_or_from_slice_get c.terms at t t found) table was (subst (λ (k : ℕ). k < length table) is short) before m

pub cost_step : (terms : Terms) (at : ℕ) (t : Literal × ℕ) (table : List Occurrence) (was : Literal → Occurrence) (code : ℕ) (place : Occurrence)
    → at < length terms → get_or terms at t ≡ t → code ≡ code_of t.0 → code < length table → place ≡ get_or table code place
    → ((m : Literal) → occurrence_at table m ≡ with_cost (take at terms) m (was m))
    → (m : Literal) → occurrence_at (set table code (record place { in_costs = true })) m ≡ with_cost (take (at + 1) terms) m (was m)
cost_step terms at t table was code place inside found is short own before m =
    ap (λ (k : ℕ). occurrence_at (set table k (record place { in_costs = true })) m) is
    ∙ ap (λ (o : Occurrence). occurrence_at (set table (code_of t.0) (record o { in_costs = true })) m) (at_place table t.0 code place is short own)
    ∙ cost_more terms at t table was inside found (subst (λ (k : ℕ). k < length table) is short) before m

-- the place of a term's literal is in the table
pub cost_place : (n : ℕ) (terms : Terms) (at : ℕ) (t : Literal × ℕ) (code : ℕ) → AreWithin n terms → at < length terms → get_or terms at t ≡ t → code ≡ code_of t.0 → code < n
cost_place n terms at t code within inside found is =
    let less = within at t inside in
    let same : code_of (get_or terms at t).0 ≡ code_of t.0 = ap (λ (u : Literal × ℕ). code_of u.0) found in
    omega arith

pub row_place : (n : ℕ) (terms : Terms) (at : ℕ) (t : Literal × ℕ) (code : ℕ) → AreWithin n terms → slice_get terms at ≡ Some t → code ≡ code_of t.0 → code < n
row_place n terms at t code within found is = cost_place n terms at t code within (slice_get_within terms at t found) (get_or_from_slice_get terms at t t found) is
