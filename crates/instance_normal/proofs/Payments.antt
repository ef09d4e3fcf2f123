-- What soft clauses cost, by how they are paid for.
use Rattle.std.proofs.Common.{◌≡◌, inl, inr, ℕ, ◌+◌, ◌≤◌, Bool, true, false, not, cond, if◌then◌else◌, List, [], ◌∷◌, ◌++◌, length, filter, refl, sym, ap, ◌∙◌, subst, ℤ, pos, ◌+ℤ◌, ◌≤ℤ◌, arith}
use Rattle.std.specs.Prelude.{◌||◌, ◌&&◌, ◌==◌, All}
use Rattle.std.specs.List.{list_all}
use Rattle.std.proofs.Math.Bool.{beq}
use Rattle.std.proofs.lemmas.Int.{ints}
use Rattle.std.proofs.lemmas.Bool.{false≢true, or_cases, or_parts, and_from, and_cases, eqb-true, eq-eqb, eqb-false}
use Rattle.std.proofs.lemmas.List.Elements.{All-nil, All-cons, All-head, All-tail, All-contains}
use Rattle.std.proofs.lemmas.List.Folds.{list_any-append}
use Rattle.std.proofs.lemmas.List.Sums.{sum_by-cons}
use Rattle.scut_base.specs.Literal.{Literal, is_same}
use Rattle.scut_base.specs.Assignment.{value_of, lit_true}
use Rattle.scut_base.proofs.Lists.{Contains-head, Contains-cons}
use Rattle.instance.specs.declared.objective.Soft.{Soft}
use Rattle.instance.specs.Shape.{ClauseUpTo}
use Rattle.instance.specs.Meaning.{clause_true, int_sum_by, terms_value, term_value, soft_cost}
use Rattle.pb_lin.specs.Constraint.{opposite}
use Rattle.pb_lin.specs.Restriction.{is_among}
use Rattle.pb_lin.proofs.Covers.{is_same-true}
use Rattle.instance_normal.specs.NormalForm.{Clause, is_tautology, Payment, Never, Always, Where, Relaxed, clause_payment, payment, needs_variable, is_relaxed, positive, relaxed_clauses, payment_terms, payment_offset, next_variable, soft_terms, soft_offset}
use Rattle.instance_normal.proofs.Members.{one_fails, any_from_member, all_from_test}
use Rattle.instance_normal.proofs.Truth.{truth-opposite, int_sum-append}
use Rattle.instance_normal.proofs.RowTruth.{SourceHolds, tautology_true}

-- ---- one soft clause

-- what a payment says of a cost
abbrev Paid : List Bool → ℤ → ℕ → Payment → Type 0
Paid a cost weight Never = cost ≡ pos 0
Paid a cost weight Always = cost ≡ pos weight
Paid a cost weight (Where l) = cost ≡ (if lit_true a l then pos weight else pos 0)
Paid a cost weight Relaxed = Unit {0}

abbrev cost_by : ℕ → Bool → ℤ
cost_by weight b = if b then pos 0 else pos weight

same_truths : (a : List Bool) (l : Literal) (lits : List Literal) → All (λ m. is_same l m ≡ true) lits → clause_true a (l ∷ lits) ≡ lit_true a l
same_truths a l [] same = by (lit_true a l)
  where
    by : (b : Bool) → (b || false) ≡ b
    by true = refl
    by false = refl
same_truths a l (m ∷ lits) same = by (lit_true a l) refl (same_truths a l lits (All-tail (λ k. is_same l k ≡ true) m lits same))
  where
    equal : l ≡ m
    equal = is_same-true l m (All-head (λ k. is_same l k ≡ true) m lits same)

    by : (b : Bool) → lit_true a l ≡ b → clause_true a (l ∷ lits) ≡ lit_true a l → clause_true a (l ∷ m ∷ lits) ≡ lit_true a l
    by true is rest = ap (λ c. c || (lit_true a m || clause_true a lits)) is ∙ sym is
    by false is rest =
        let other : lit_true a m ≡ false = ap (lit_true a) (sym equal) ∙ is in
        ap (λ c. lit_true a l || (c || clause_true a lits)) other ∙ rest

opposite_cost : (weight : ℕ) (b : Bool) → cost_by weight b ≡ (if not b then pos weight else pos 0)
opposite_cost weight true = refl
opposite_cost weight false = refl

paid_clause : (a : List Bool) (weight : ℕ) (lits : List Literal) → Paid a (cost_by weight (clause_true a lits)) weight (clause_payment lits)
paid_clause a weight [] = refl
paid_clause a weight (l ∷ lits) = by (list_all (is_same l) lits) refl
  where
    by : (b : Bool) → list_all (is_same l) lits ≡ b → Paid a (cost_by weight (clause_true a (l ∷ lits))) weight (if b then Where (opposite l) else Relaxed)
    by true test = ap (cost_by weight) (same_truths a l lits (all_from_test (is_same l) lits test)) ∙ opposite_cost weight (lit_true a l) ∙ ap (λ (b : Bool). if b then pos weight else pos 0) (sym (truth-opposite a l))
    by false test = tt

no_weight : (b : Bool) (weight : ℕ) → weight ≡ 0 → cost_by weight b ≡ pos 0
no_weight true weight none = refl
no_weight false weight none = ap pos none

pub paid : (a : List Bool) (s : Soft) → Paid a (soft_cost a s) s.weight (payment s)
paid a s = by (s.weight == 0 || is_tautology s.lits) refl
  where
    by : (b : Bool) → (s.weight == 0 || is_tautology s.lits) ≡ b → Paid a (soft_cost a s) s.weight (if b then Never else clause_payment s.lits)
    by true test = elim (or_cases (s.weight == 0) (is_tautology s.lits) test) [
      | inl none ↦ no_weight (clause_true a s.lits) s.weight (eqb-true s.weight 0 none)
      | inr taut ↦ ap (cost_by s.weight) (tautology_true a s.lits taut)
    ]
    by false test = paid_clause a s.weight s.lits

-- ---- without variables

-- Over no variables there are only two literals, and a clause with both needs no variable.
unrelaxed_clause : (lits : List Literal) → is_tautology lits ≡ false → ClauseUpTo 0 lits → needs_variable (clause_payment lits) ≡ false
unrelaxed_clause [] plain upto = refl
unrelaxed_clause (l ∷ lits) plain upto = by (list_all (is_same l) lits) refl
  where
    by : (b : Bool) → list_all (is_same l) lits ≡ b → needs_variable (if b then Where (opposite l) else Relaxed) ≡ false
    by true test = refl
    by false test =
        let other = one_fails (is_same l) lits test in
        let m = other.0 in
        let l_low : l.var ≤ 0 = All-head (λ k. k.var ≤ 0) l lits upto in
        let m_low : m.var ≤ 0 = All-contains (λ k. k.var ≤ 0) (l ∷ lits) m upto (Contains-cons l m lits other.1) in
        let vars : l.var ≡ m.var = omega arith in
        absurd (false≢true (sym plain ∙ any_from_member (λ k. is_among (l ∷ lits) (opposite k)) (l ∷ lits) l (Contains-head l lits) (any_from_member (λ k. k.var == l.var && beq k.neg (not l.neg)) (l ∷ lits) m (Contains-cons l m lits other.1) (and_from (m.var == l.var) (beq m.neg (not l.neg)) (eq-eqb m.var l.var (sym vars)) (signs l.neg m.neg (differ l m vars other.2))))))
      where
        differ : (l m : Literal) → l.var ≡ m.var → is_same l m ≡ false → beq l.neg m.neg ≡ false
        differ l m vars test = elim (and_cases (l.var == m.var) (beq l.neg m.neg) test) [
          | inl apart ↦ absurd (eqb-false l.var m.var apart vars)
          | inr signs ↦ signs
        ]

        signs : (x y : Bool) → beq x y ≡ false → beq y (not x) ≡ true
        signs true true e = cc
        signs true false e = refl
        signs false true e = refl
        signs false false e = cc

pub unrelaxed : (s : Soft) → ClauseUpTo 0 s.lits → is_relaxed s ≡ false
unrelaxed s upto = by (s.weight == 0 || is_tautology s.lits) refl
  where
    by : (b : Bool) → (s.weight == 0 || is_tautology s.lits) ≡ b → needs_variable (if b then Never else clause_payment s.lits) ≡ false
    by true test = refl
    by false test = unrelaxed_clause s.lits (or_parts (s.weight == 0) (is_tautology s.lits) test).1 upto

-- ---- relaxation variables

-- of soft clauses that have a variable each, from this one on: it is true where the clause is false
abbrev pub AreTight : List Bool → ℕ → List Soft → Type 0
AreTight b var [] = Unit {0}
AreTight b var (s ∷ softs) = (value_of b var ≡ not (clause_true b s.lits)) × AreTight b (var + 1) softs

-- the same, where it may also be true elsewhere
abbrev pub AreHeld : List Bool → ℕ → List Soft → Type 0
AreHeld b var [] = Unit {0}
AreHeld b var (s ∷ softs) = ((clause_true b s.lits || value_of b var) ≡ true) × AreHeld b (var + 1) softs

tight_or : (x y : Bool) → y ≡ not x → (x || y) ≡ true
tight_or true y e = refl
tight_or false y e = e

pub tight_held : (b : List Bool) (var : ℕ) (softs : List Soft) → AreTight b var softs → AreHeld b var softs
tight_held b var [] tight = tt
tight_held b var (s ∷ softs) tight = (tight_or (clause_true b s.lits) (value_of b var) tight.0, tight_held b (var + 1) softs tight.1)

or-false : (b : Bool) → (b || false) ≡ b
or-false true = refl
or-false false = refl

widened : (b : List Bool) (var : ℕ) (lits : List Literal) → clause_true b (lits ++ positive var ∷ []) ≡ (clause_true b lits || value_of b var)
widened b var lits = list_any-append (lit_true b) lits (positive var ∷ []) ∙ ap (λ c. clause_true b lits || c) (or-false (value_of b var))

pub held_sources : (b : List Bool) (var : ℕ) (softs : List Soft) → AreHeld b var softs → All (SourceHolds b) (relaxed_clauses var softs)
held_sources b var [] held = All-nil (SourceHolds b)
held_sources b var (s ∷ softs) held = All-cons (SourceHolds b) (Clause (s.lits ++ positive var ∷ [])) (relaxed_clauses (var + 1) softs) (widened b var s.lits ∙ held.0) (held_sources b (var + 1) softs held.1)

pub held_from_sources : (b : List Bool) (var : ℕ) (softs : List Soft) → All (SourceHolds b) (relaxed_clauses var softs) → AreHeld b var softs
held_from_sources b var [] all = tt
held_from_sources b var (s ∷ softs) all = (sym (widened b var s.lits) ∙ All-head (SourceHolds b) (Clause (s.lits ++ positive var ∷ [])) (relaxed_clauses (var + 1) softs) all, held_from_sources b (var + 1) softs (All-tail (SourceHolds b) (Clause (s.lits ++ positive var ∷ [])) (relaxed_clauses (var + 1) softs) all))

pub held_split : (b : List Bool) (var : ℕ) (xs ys : List Soft) → AreHeld b var (xs ++ ys) → AreHeld b var xs × AreHeld b (var + length xs) ys
held_split b var [] ys held = (tt, subst (λ (v : ℕ). AreHeld b v ys) (let same : var ≡ var + 0 = omega arith in same) held)
held_split b var (s ∷ xs) ys held = (let rest = held_split b (var + 1) xs ys held.1 in ((held.0, rest.0), subst (λ (v : ℕ). AreHeld b v ys) (let same : var + 1 + length xs ≡ var + length (s ∷ xs) = omega arith in same) rest.1))

pub tight_split : (b : List Bool) (var : ℕ) (xs ys : List Soft) → AreTight b var (xs ++ ys) → AreTight b var xs × AreTight b (var + length xs) ys
tight_split b var [] ys tight = (tt, subst (λ (v : ℕ). AreTight b v ys) (let same : var ≡ var + 0 = omega arith in same) tight)
tight_split b var (s ∷ xs) ys tight = (let rest = tight_split b (var + 1) xs ys tight.1 in ((tight.0, rest.0), subst (λ (v : ℕ). AreTight b v ys) (let same : var + 1 + length xs ≡ var + length (s ∷ xs) = omega arith in same) rest.1))

-- ---- sums

-- what soft clauses add under an assignment
abbrev pub softs_sum : List Bool → ℕ → List Soft → ℤ
softs_sum b var softs = terms_value b (soft_terms var softs) +ℤ pos (soft_offset softs)

-- what one adds
abbrev soft_sum : List Bool → ℕ → ℕ → Payment → ℤ
soft_sum b var weight p = terms_value b (payment_terms var weight p) +ℤ pos (payment_offset weight p)

one_soft : (b : List Bool) (var : ℕ) (s : Soft) (softs : List Soft) → softs_sum b var (s ∷ softs) ≡ soft_sum b var s.weight (payment s) +ℤ softs_sum b (next_variable var (payment s)) softs
one_soft b var s softs =
    let terms = int_sum-append (term_value b) (payment_terms var s.weight (payment s)) (soft_terms (next_variable var (payment s)) softs) in
    let offset = sum_by-cons (λ (x : Soft). payment_offset x.weight (payment x)) s softs in
    omega (arith, ints)

-- A payment adds the cost, where its variable is tight.
tight_payment : (b : List Bool) (var weight : ℕ) (c : Bool) (p : Payment) → Paid b (cost_by weight c) weight p → (p ≡ Relaxed → value_of b var ≡ not c) → soft_sum b var weight p ≡ cost_by weight c
tight_payment b var weight c Never is tight = omega (arith, ints)
tight_payment b var weight c Always is tight = omega (arith, ints)
tight_payment b var weight c (Where l) is tight = omega (arith, ints)
tight_payment b var weight c Relaxed is tight =
    let term : (if value_of b var then pos weight else pos 0) ≡ cost_by weight c = ap (λ (x : Bool). if x then pos weight else pos 0) (tight refl) ∙ sym (opposite_cost weight c) in
    omega (arith, ints)

low : (weight : ℕ) (x y : Bool) → (x || y) ≡ true → cost_by weight x ≤ℤ (if y then pos weight else pos 0)
low weight true true e = omega (arith, ints)
low weight true false e = omega (arith, ints)
low weight false true e = omega (arith, ints)
low weight false false e = absurd (false≢true e)

held_payment : (b : List Bool) (var weight : ℕ) (c : Bool) (p : Payment) → Paid b (cost_by weight c) weight p → (p ≡ Relaxed → (c || value_of b var) ≡ true) → cost_by weight c ≤ℤ soft_sum b var weight p
held_payment b var weight c Never is held = omega (arith, ints)
held_payment b var weight c Always is held = omega (arith, ints)
held_payment b var weight c (Where l) is held = omega (arith, ints)
held_payment b var weight c Relaxed is held = (let term = low weight c (value_of b var) (held refl) in omega (arith, ints))

pub tight_sum : (b : List Bool) (var : ℕ) (softs : List Soft) → AreTight b var (filter is_relaxed softs) → softs_sum b var softs ≡ int_sum_by (soft_cost b) softs
tight_sum b var [] tight = omega (arith, ints)
tight_sum b var (s ∷ softs) tight =
    let parts = by (payment s) refl tight in
    let here : soft_sum b var s.weight (payment s) ≡ soft_cost b s = tight_payment b var s.weight (clause_true b s.lits) (payment s) (paid b s) parts.0 in
    let rest : softs_sum b (next_variable var (payment s)) softs ≡ int_sum_by (soft_cost b) softs = tight_sum b (next_variable var (payment s)) softs parts.1 in
    let both = one_soft b var s softs in
    omega (arith, ints)
  where
    by : (p : Payment) → payment s ≡ p → AreTight b var (cond (needs_variable p) (s ∷ filter is_relaxed softs) (filter is_relaxed softs)) → (p ≡ Relaxed → value_of b var ≡ not (clause_true b s.lits)) × AreTight b (next_variable var p) (filter is_relaxed softs)
    by Never is t = ((λ e. cc), t)
    by Always is t = ((λ e. cc), t)
    by (Where l) is t = ((λ e. cc), t)
    by Relaxed is t = ((λ e. t.0), t.1)

pub held_sum : (b : List Bool) (var : ℕ) (softs : List Soft) → AreHeld b var (filter is_relaxed softs) → int_sum_by (soft_cost b) softs ≤ℤ softs_sum b var softs
held_sum b var [] held = omega (arith, ints)
held_sum b var (s ∷ softs) held =
    let parts = by (payment s) refl held in
    let here : soft_cost b s ≤ℤ soft_sum b var s.weight (payment s) = held_payment b var s.weight (clause_true b s.lits) (payment s) (paid b s) parts.0 in
    let rest : int_sum_by (soft_cost b) softs ≤ℤ softs_sum b (next_variable var (payment s)) softs = held_sum b (next_variable var (payment s)) softs parts.1 in
    let both = one_soft b var s softs in
    omega (arith, ints)
  where
    by : (p : Payment) → payment s ≡ p → AreHeld b var (cond (needs_variable p) (s ∷ filter is_relaxed softs) (filter is_relaxed softs)) → (p ≡ Relaxed → (clause_true b s.lits || value_of b var) ≡ true) × AreHeld b (next_variable var p) (filter is_relaxed softs)
    by Never is t = ((λ e. cc), t)
    by Always is t = ((λ e. cc), t)
    by (Where l) is t = ((λ e. cc), t)
    by Relaxed is t = ((λ e. t.0), t.1)
