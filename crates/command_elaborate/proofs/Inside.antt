-- Propagation stays inside every closed partial assignment.
use Rattle.std.specs.Prelude.{◌≡◌, ◌≢◌, ◌⊎◌, ℕ, ◌+◌, ◌-◌, ◌<◌, ◌≤◌, Bool, true, false, not, if◌then◌else◌, Option, Some, None, option_map, List, [], ◌∷◌, length, replicate, sum_by, All, Contains, ℤ, pos, ◌<ℤ◌, ◌≤ℤ◌, int_lt, refl}
use Rattle.std.proofs.Common.{sym, ◌∙◌, ap, subst, get_or, inl, inr, arith}
use Rattle.std.specs.Option.{is_none}
use Rattle.std.specs.List.{filter}
use Rattle.std.proofs.lemmas.Int.{ints}
use Rattle.std.proofs.lemmas.Bool.{cases_lt, and_parts, and_from}
use Rattle.std.proofs.lemmas.List.{get_or-set_same, get_or-set_other, get_or_past, length-set}
use Rattle.std.proofs.lemmas.List.Elements.{All-head, All-tail, All-weaker, All-contains}
use Rattle.std.proofs.lemmas.List.Sums.{sum_by-le-sum_by}
use Rattle.scut_base.specs.Literal.{Literal}
use Rattle.scut_base.specs.Assignment.{partial_truth}
use Rattle.scut_base.proofs.Lists.{all_filter_if, sum_gap}
use Rattle.pb_lin.specs.Constraint.{ConstraintValue, unless_false, possible_value, slack}
use Rattle.pb_lin.specs.Propagation.{is_forced, IsClosedUnder, IsClosed}
use Rattle.hint_rup.specs.Propagation.{with_true, forced, Conflicts}
use Rattle.hint_rup.proofs.ForcedLiterals.{with_all}
use Rattle.hint_rup.proofs.Conflict.{conflicts_none, conflicts_cases}
use Rattle.hint_rup.proofs.Agreement.{all_open}
use Rattle.command_elaborate.specs.Laws.{HintsConflictByPropagation}

abbrev pub Values : Type 0
Values = List (Option Bool)

-- each value of the one is that of the other
pub record IsInside (p q : Values) : Type 0 where
  pub at : (k : ℕ) (b : Bool) → get_or p k None ≡ Some b → get_or q k None ≡ Some b

truth_of : (f : Bool → Bool) (o n : Option Bool) (b : Bool) → ((v : Bool) → o ≡ Some v → n ≡ Some v) → option_map f o ≡ Some b → option_map f n ≡ Some b
truth_of f None n b kept is = cc
truth_of f (Some v) n b kept is = ap (option_map f) (kept v refl) ∙ is

pub truth_inside : (p q : Values) → IsInside p q → (l : Literal) (b : Bool) → partial_truth p l ≡ Some b → partial_truth q l ≡ Some b
truth_inside p q inside l b is = truth_of (λ v. if l.neg then not v else v) (get_or p (l.var - 1) None) (get_or q (l.var - 1) None) b (λ v. inside.at (l.var - 1) v) is

-- ---- no more is possible

possible_less : (o n : Option Bool) (a : ℕ) → ((b : Bool) → o ≡ Some b → n ≡ Some b) → unless_false n a ≤ unless_false o a
possible_less None None a kept = omega arith
possible_less None (Some true) a kept = omega arith
possible_less None (Some false) a kept = omega arith
possible_less (Some true) n a kept = subst (λ (m : Option Bool). unless_false m a ≤ a) (sym (kept true refl)) (omega arith)
possible_less (Some false) n a kept = subst (λ (m : Option Bool). unless_false m a ≤ 0) (sym (kept false refl)) (omega arith)

term_less : (p q : Values) → IsInside p q → (t : Literal × ℕ) → possible_value q t ≤ possible_value p t
term_less p q inside t = possible_less (partial_truth p t.0) (partial_truth q t.0) t.1 (λ b. truth_inside p q inside t.0 b)

pub slack_less : (p q : Values) → IsInside p q → (c : ConstraintValue) → slack q c ≤ℤ slack p c
slack_less p q inside c =
    let fewer : sum_by (possible_value q) c.terms ≤ sum_by (possible_value p) c.terms = sum_by-le-sum_by (possible_value q) (possible_value p) c.terms (term_less p q inside) in
    omega (arith, ints)

-- ---- what is forced

open_worth : (o : Option Bool) (n : ℕ) → is_none o ≡ true → unless_false o n ≡ n
open_worth None n is = refl
open_worth (Some b) n is = cc

lt_of_test : (x y : ℤ) → int_lt x y ≡ true → x <ℤ y
lt_of_test x y is = grind (arith, ints)

pub lt_test : (x y : ℤ) → x <ℤ y → int_lt x y ≡ true
lt_test x y below = grind (arith, ints)

module _ (p q : Values) (inside : IsInside p q) (c : ConstraintValue) where
  -- where what the one forces is false in the other, the line is violated there
  pub false_violates : (k : ℕ) (d : Literal × ℕ) → k < length c.terms → is_forced p c (get_or c.terms k d) ≡ true → partial_truth q (get_or c.terms k d).0 ≡ Some false → slack q c <ℤ pos 0
  false_violates k d within is now =
      let parts : (is_none (partial_truth p (get_or c.terms k d).0) ≡ true) × (int_lt (slack p c) (pos (get_or c.terms k d).1) ≡ true) = and_parts _ _ is in
      let worth : possible_value p (get_or c.terms k d) ≡ (get_or c.terms k d).1 = open_worth (partial_truth p (get_or c.terms k d).0) (get_or c.terms k d).1 parts.0 in
      let above : slack p c <ℤ pos (get_or c.terms k d).1 = lt_of_test (slack p c) (pos (get_or c.terms k d).1) parts.1 in
      let nothing : possible_value q (get_or c.terms k d) ≡ 0 = ap (λ (o : Option Bool). unless_false o (get_or c.terms k d).1) now in
      let gap : sum_by (possible_value q) c.terms + (get_or c.terms k d).1 ≤ sum_by (possible_value p) c.terms = sum_gap (possible_value q) (possible_value p) c.terms k (get_or c.terms k d).1 d (term_less p q inside) within (omega arith) in
      omega (arith, ints)

  -- where it is open in the other, it is forced there
  pub open_forced : (t : Literal × ℕ) → is_forced p c t ≡ true → partial_truth q t.0 ≡ None → is_forced q c t ≡ true
  open_forced t is now =
      let parts : (is_none (partial_truth p t.0) ≡ true) × (int_lt (slack p c) (pos t.1) ≡ true) = and_parts _ _ is in
      let above : slack p c <ℤ pos t.1 = lt_of_test (slack p c) (pos t.1) parts.1 in
      let less : slack q c ≤ℤ slack p c = slack_less p q inside c in
      and_from _ _ (ap is_none now) (lt_test (slack q c) (pos t.1) (omega (arith, ints)))

  -- what the one forces is true in the other, where that is closed
  closed_true : IsClosedUnder q c → (k : ℕ) (d : Literal × ℕ) → k < length c.terms → is_forced p c (get_or c.terms k d) ≡ true → partial_truth q (get_or c.terms k d).0 ≡ Some true
  closed_true closed k d within is = by_truth (partial_truth q (get_or c.terms k d).0) refl
    where
      by_truth : (o : Option Bool) → partial_truth q (get_or c.terms k d).0 ≡ o → partial_truth q (get_or c.terms k d).0 ≡ Some true
      by_truth (Some true) now = now
      by_truth None now =
          let one : is_forced q c (get_or c.terms k d) ≡ true = open_forced (get_or c.terms k d) is now in
          let other : is_forced q c (get_or c.terms k d) ≡ false = closed.unforced k d within in
          let both : false ≡ true = sym other ∙ one in
          cc
      by_truth (Some false) now =
          let below : slack q c <ℤ pos 0 = false_violates k d within is now in
          let possible : pos 0 ≤ℤ slack q c = closed.possible in
          absurd (omega (arith, ints))

-- ---- one literal after another

sign_is : (neg v : Bool) → (if neg then not v else v) ≡ true → v ≡ not neg
sign_is true true is = cc
sign_is true false is = refl
sign_is false true is = refl
sign_is false false is = cc

true_value : (l : Literal) (o : Option Bool) → option_map (λ v. if l.neg then not v else v) o ≡ Some true → o ≡ Some (not l.neg)
true_value l None is = cc
true_value l (Some v) is =
    let truth : (if l.neg then not v else v) ≡ true = cc in
    ap Some (sign_is l.neg v truth)

pub with_true_inside : (p q : Values) (l : Literal) → IsInside p q → partial_truth q l ≡ Some true → IsInside (with_true p l) q
with_true_inside p q l inside holds = record { at = λ k b is. by_order k b is (cases_lt k (l.var - 1)) (cases_lt (l.var - 1) k) }
  where
    other : (k : ℕ) (b : Bool) → get_or (with_true p l) k None ≡ Some b → k ≢ l.var - 1 → get_or q k None ≡ Some b
    other k b is apart = inside.at k b (sym (get_or-set_other p (l.var - 1) k (Some (not l.neg)) None apart) ∙ is)

    same : (k : ℕ) (b : Bool) → get_or (with_true p l) k None ≡ Some b → k ≡ l.var - 1 → (k < length p) ⊎ (length p ≤ k) → get_or q k None ≡ Some b
    same k b is place (inl within) =
        let there : l.var - 1 < length p = omega arith in
        let put : get_or (with_true p l) k None ≡ Some (not l.neg) = ap (λ j. get_or (with_true p l) j None) place ∙ get_or-set_same p (l.var - 1) (Some (not l.neg)) None there in
        ap (λ j. get_or q j None) place ∙ true_value l (get_or q (l.var - 1) None) holds ∙ sym put ∙ is
    same k b is place (inr past) =
        let none : get_or (with_true p l) k None ≡ None = get_or_past (with_true p l) k None (omega (arith, length-set p (l.var - 1) (Some (not l.neg)))) in
        cc

    by_order : (k : ℕ) (b : Bool) → get_or (with_true p l) k None ≡ Some b → (k < l.var - 1) ⊎ (l.var - 1 ≤ k) → (l.var - 1 < k) ⊎ (k ≤ l.var - 1) → get_or q k None ≡ Some b
    by_order k b is (inl below) above = other k b is (omega arith)
    by_order k b is (inr least) (inl above) = other k b is (omega arith)
    by_order k b is (inr least) (inr most) = same k b is (omega arith) (cases_lt k (length p))

abbrev pub AreTrue : Values → List (Literal × ℕ) → Type 0
AreTrue q terms = All (λ t. partial_truth q t.0 ≡ Some true) terms

pub with_all_inside : (p q : Values) (terms : List (Literal × ℕ)) → IsInside p q → AreTrue q terms → IsInside (with_all p terms) q
with_all_inside p q [] inside each = inside
with_all_inside p q (t ∷ terms) inside each =
    let first : partial_truth q t.0 ≡ Some true = All-head (λ u. partial_truth q u.0 ≡ Some true) t terms each in
    with_all_inside (with_true p t.0) q terms (with_true_inside p q t.0 inside first) (All-tail (λ u. partial_truth q u.0 ≡ Some true) t terms each)

pub forced_inside : (p q : Values) (c : ConstraintValue) → IsInside p q → ((k : ℕ) (d : Literal × ℕ) → k < length c.terms → is_forced p c (get_or c.terms k d) ≡ true → partial_truth q (get_or c.terms k d).0 ≡ Some true) → IsInside (forced p c) q
unfolding forced
forced_inside p q c inside each = with_all_inside p q (filter (is_forced p c) c.terms) inside (all_filter_if (λ t. partial_truth q t.0 ≡ Some true) (is_forced p c) c.terms each)

-- ---- lines

not_violated : (p q : Values) (c : ConstraintValue) → IsInside p q → IsClosedUnder q c → slack p c <ℤ pos 0 → ⊥
not_violated p q c inside closed violated =
    let less : slack q c ≤ℤ slack p c = slack_less p q inside c in
    let possible : pos 0 ≤ℤ slack q c = closed.possible in
    omega (arith, ints)

-- no lines conflict inside a partial assignment that is closed for them
pub none_inside : (p q : Values) (cs : List ConstraintValue) → IsInside p q → IsClosed q cs → Conflicts p cs → ⊥
none_inside p q [] inside closed found = conflicts_none p found
none_inside p q (c ∷ cs) inside closed found =
    let first : IsClosedUnder q c = All-head (IsClosedUnder q) c cs closed in
    either (λ violated. not_violated p q c inside first violated)
    (none_inside (forced p c) q cs (forced_inside p q c inside (closed_true p q inside c first)) (All-tail (IsClosedUnder q) c cs closed))
    (conflicts_cases p c cs found)
  where
    either : {X Y : Type 0} → (X → ⊥) → (Y → ⊥) → X ⊎ Y → ⊥
    either left right (inl x) = left x
    either left right (inr y) = right y

abbrev no_value : Option Bool
no_value = None

pub open_inside : (n : ℕ) (q : Values) → IsInside (replicate n None) q
open_inside n q = record { at = λ k b is. let none : get_or (replicate n no_value) k None ≡ None = all_open n k in cc }

-- what holds of all holds of those among them
pub all_among : (P : ConstraintValue → Type 0) (cs ds : List ConstraintValue) → All (Contains ds) cs → All P ds → All P cs
all_among P cs ds among each = All-weaker (Contains ds) P (λ c there. All-contains P ds c each there) cs among

pub hints_conflict_law : HintsConflictByPropagation
hints_conflict_law n cs ds among found q upto closed = none_inside (replicate n None) q cs (open_inside n q) (all_among (IsClosedUnder q) cs ds among closed) found
