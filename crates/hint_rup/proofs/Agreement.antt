-- Partial assignments that agree with an assignment under which all constraints hold.
use Rattle.std.specs.Prelude.{◌≡◌, ◌≢◌, ℕ, ◌+◌, ◌-◌, ◌<◌, ◌≤◌, ◌⊎◌, Bool, true, false, not, ◌&&◌, if◌then◌else◌, Option, Some, None, List, [], ◌∷◌, length, replicate, sum_by, All, ℤ, pos, ◌<ℤ◌, int_lt, refl}
use Rattle.std.proofs.Common.{sym, ◌∙◌, ap, subst, get_or, inl, inr, arith}
use Rattle.std.specs.Option.{is_none, option_map}
use Rattle.std.specs.List.{filter}
use Rattle.std.proofs.lemmas.Int.{ints}
use Rattle.std.proofs.lemmas.Bool.{cases_lt}
use Rattle.std.proofs.lemmas.List.{get_or-set_same, get_or-set_other, get_or-replicate, get_or_past, length-set, length-replicate}
use Rattle.std.proofs.lemmas.List.Elements.{All-head, All-tail}
use Rattle.std.proofs.lemmas.List.Sums.{sum_by-le-sum_by}
use Rattle.scut_base.specs.Literal.{Literal}
use Rattle.scut_base.specs.Assignment.{value_of, lit_true, partial_value, partial_truth}
use Rattle.pb_lin.specs.Constraint.{ConstraintValue, Holds, term_value, value, unless_false, possible_value, slack}
use Rattle.scut_base.proofs.Lists.{all_filter_if, sum_gap}
use Rattle.pb_lin.specs.Propagation.{is_forced}
use Rattle.hint_rup.specs.Propagation.{with_true, forced, Conflicts}
use Rattle.hint_rup.proofs.ForcedLiterals.{with_all}
use Rattle.hint_rup.proofs.Conflict.{conflicts_none, conflicts_cases}

-- each variable that has a value has that of the assignment
pub record Agrees (p : List (Option Bool)) (a : List Bool) : Type 0 where
  pub at : (k : ℕ) (b : Bool) → get_or p k None ≡ Some b → get_or a k false ≡ b

abbrev no_value : Option Bool
no_value = None

pub all_open : (n k : ℕ) → get_or (replicate n no_value) k None ≡ None
all_open n k = elim (cases_lt k n) [ inl within ↦ get_or-replicate n k no_value None within | inr past ↦ get_or_past (replicate n no_value) k None (omega (arith, length-replicate n no_value)) ]

pub open_agrees : (n : ℕ) (a : List Bool) → Agrees (replicate n None) a
open_agrees n a = record { at = λ k b is. let none : get_or (replicate n no_value) k None ≡ None = all_open n k in cc }

-- of a literal, by the value of its variable
by_value : (neg : Bool) (o : Option Bool) (v b : Bool) → ((w : Bool) → o ≡ Some w → v ≡ w) → option_map (λ w. if neg then not w else w) o ≡ Some b → (if neg then not v else v) ≡ b
by_value neg None v b same is = cc
by_value neg (Some w) v b same is =
    let value : v ≡ w = same w refl in
    let truth : (if neg then not w else w) ≡ b = cc in
    ap (λ x. if neg then not x else x) value ∙ truth

pub truth_agrees : (p : List (Option Bool)) (a : List Bool) → Agrees p a → (l : Literal) (b : Bool) → partial_truth p l ≡ Some b → lit_true a l ≡ b
truth_agrees p a agrees l b is = by_value l.neg (partial_value p l.var) (value_of a l.var) b (λ w. agrees.at (l.var - 1) w) is

by_truth : (o : Option Bool) (v : Bool) (n : ℕ) → ((b : Bool) → o ≡ Some b → v ≡ b) → (if v then n else 0) ≤ unless_false o n
by_truth None true n same = omega arith
by_truth None false n same = omega arith
by_truth (Some true) true n same = omega arith
by_truth (Some true) false n same = omega arith
by_truth (Some false) v n same = let is : v ≡ false = same false refl in subst (λ (w : Bool). (if w then n else 0) ≤ 0) (sym is) (omega arith)

-- no term is worth more than it may be
term_within : (p : List (Option Bool)) (a : List Bool) → Agrees p a → (t : Literal × ℕ) → term_value a t ≤ possible_value p t
term_within p a agrees t = by_truth (partial_truth p t.0) (lit_true a t.0) t.1 (λ b. truth_agrees p a agrees t.0 b)

-- a constraint that holds isn't violated
pub not_violated : (p : List (Option Bool)) (a : List Bool) (c : ConstraintValue) → Agrees p a → Holds a c → slack p c <ℤ pos 0 → ⊥
not_violated p a c agrees holds violated =
    let within : value a c.terms ≤ sum_by (possible_value p) c.terms = sum_by-le-sum_by (term_value a) (possible_value p) c.terms (term_within p a agrees) in
    omega (arith, ints)

open_worth : (o : Option Bool) (n : ℕ) → is_none o ≡ true → unless_false o n ≡ n
open_worth None n is = refl
open_worth (Some b) n is = cc

lt_of_test : (x y : ℤ) → int_lt x y ≡ true → x <ℤ y
lt_of_test x y is = grind (arith, ints)

first_of_two : (x y : Bool) → (x && y) ≡ true → (x ≡ true) × (y ≡ true)
first_of_two true true is = (refl, refl)
first_of_two true false is = cc
first_of_two false y is = cc

-- what a constraint that holds forces is true
pub forced_true : (p : List (Option Bool)) (a : List Bool) (c : ConstraintValue) → Agrees p a → Holds a c → (k : ℕ) (d : Literal × ℕ) → k < length c.terms → is_forced p c (get_or c.terms k d) ≡ true → lit_true a (get_or c.terms k d).0 ≡ true
forced_true p a c agrees holds k d within is =
    let t = get_or c.terms k d in
    by_truth_of (lit_true a t.0) refl
  where
    by_truth_of : (b : Bool) → lit_true a (get_or c.terms k d).0 ≡ b → lit_true a (get_or c.terms k d).0 ≡ true
    by_truth_of true truth = truth
    by_truth_of false truth =
        let parts : (is_none (partial_truth p (get_or c.terms k d).0) ≡ true) × (int_lt (slack p c) (pos (get_or c.terms k d).1) ≡ true) = first_of_two _ _ is in
        let worth : possible_value p (get_or c.terms k d) ≡ (get_or c.terms k d).1 = open_worth (partial_truth p (get_or c.terms k d).0) (get_or c.terms k d).1 parts.0 in
        let above : slack p c <ℤ pos (get_or c.terms k d).1 = lt_of_test (slack p c) (pos (get_or c.terms k d).1) parts.1 in
        let nothing : term_value a (get_or c.terms k d) ≡ 0 = ap (λ (b : Bool). if b then (get_or c.terms k d).1 else 0) truth in
        let gap : value a c.terms + (get_or c.terms k d).1 ≤ sum_by (possible_value p) c.terms = sum_gap (term_value a) (possible_value p) c.terms k (get_or c.terms k d).1 d (term_within p a agrees) within (omega arith) in
        absurd (omega (arith, ints))

set_agrees : (neg v b : Bool) → (if neg then not v else v) ≡ true → Some (not neg) ≡ Some b → v ≡ b
set_agrees true true b holds is = cc
set_agrees true false b holds is = cc
set_agrees false true b holds is = cc
set_agrees false false b holds is = cc

with_true_agrees : (p : List (Option Bool)) (a : List Bool) (l : Literal) → Agrees p a → lit_true a l ≡ true → Agrees (with_true p l) a
with_true_agrees p a l agrees holds = record { at = λ k b is. by_order k b is (cases_lt k (l.var - 1)) (cases_lt (l.var - 1) k) }
  where
    other : (k : ℕ) (b : Bool) → get_or (with_true p l) k None ≡ Some b → k ≢ l.var - 1 → get_or a k false ≡ b
    other k b is apart = agrees.at k b (sym (get_or-set_other p (l.var - 1) k (Some (not l.neg)) None apart) ∙ is)

    same : (k : ℕ) (b : Bool) → get_or (with_true p l) k None ≡ Some b → k ≡ l.var - 1 → (k < length p) ⊎ (length p ≤ k) → get_or a k false ≡ b
    same k b is place (inl within) =
        let inside : l.var - 1 < length p = omega arith in
        let put : get_or (with_true p l) k None ≡ Some (not l.neg) = ap (λ j. get_or (with_true p l) j None) place ∙ get_or-set_same p (l.var - 1) (Some (not l.neg)) None inside in
        ap (λ j. get_or a j false) place ∙ set_agrees l.neg (value_of a l.var) b holds (sym put ∙ is)
    same k b is place (inr past) =
        let none : get_or (with_true p l) k None ≡ None = get_or_past (with_true p l) k None (omega (arith, length-set p (l.var - 1) (Some (not l.neg)))) in
        cc

    by_order : (k : ℕ) (b : Bool) → get_or (with_true p l) k None ≡ Some b → (k < l.var - 1) ⊎ (l.var - 1 ≤ k) → (l.var - 1 < k) ⊎ (k ≤ l.var - 1) → get_or a k false ≡ b
    by_order k b is (inl below) above = other k b is (omega arith)
    by_order k b is (inr least) (inl above) = other k b is (omega arith)
    by_order k b is (inr least) (inr most) = same k b is (omega arith) (cases_lt k (length p))

with_all_agrees : (p : List (Option Bool)) (a : List Bool) (terms : List (Literal × ℕ)) → Agrees p a → All (λ t. lit_true a t.0 ≡ true) terms → Agrees (with_all p terms) a
with_all_agrees p a [] agrees each = agrees
with_all_agrees p a (t ∷ terms) agrees each =
    let first : lit_true a t.0 ≡ true = All-head (λ t. lit_true a t.0 ≡ true) t terms each in
    with_all_agrees (with_true p t.0) a terms (with_true_agrees p a t.0 agrees first) (All-tail (λ t. lit_true a t.0 ≡ true) t terms each)

pub forced_agrees : (p : List (Option Bool)) (a : List Bool) (c : ConstraintValue) → Agrees p a → Holds a c → Agrees (forced p c) a
unfolding forced
forced_agrees p a c agrees holds =
    with_all_agrees p a (filter (is_forced p c) c.terms) agrees (all_filter_if (λ t. lit_true a t.0 ≡ true) (is_forced p c) c.terms (λ k d within. forced_true p a c agrees holds k d within))

-- constraints that conflict don't all hold
pub not_all_hold : (p : List (Option Bool)) (a : List Bool) (cs : List ConstraintValue) → Agrees p a → All (Holds a) cs → Conflicts p cs → ⊥
not_all_hold p a [] agrees each found = conflicts_none p found
not_all_hold p a (c ∷ cs) agrees each found =
    let first : Holds a c = All-head (Holds a) c cs each in
    either (λ violated. not_violated p a c agrees first violated) (not_all_hold (forced p c) a cs (forced_agrees p a c agrees first) (All-tail (Holds a) c cs each)) (conflicts_cases p c cs found)
  where
    either : {X Y : Type 0} → (X → ⊥) → (Y → ⊥) → X ⊎ Y → ⊥
    either left right (inl x) = left x
    either left right (inr y) = right y
