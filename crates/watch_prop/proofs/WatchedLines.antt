-- The slack of a clause, from its literals in another order.
use Rattle.std.proofs.Common.{◌≡◌, ◌≢◌, ◌⊎◌, ℕ, zero, suc, ◌<◌, ◌≤◌, ◌&&◌, Bool, true, false, Option, Some, None, List, [], ◌∷◌, length, get_or, sum_by, refl, arith, ap, sym, subst, ◌∙◌, ⊎_elim}
use Rattle.std.specs.Prelude.{pos, int_lt, ◌-ℤ◌, ◌≤ℤ◌, ◌<ℤ◌, nat_eq, nat_le}
use Rattle.std.specs.List.{Contains}
use Rattle.std.specs.List.Sorted.{IsPermutation}
use Rattle.std.specs.Option.{is_none}
use Rattle.std.proofs.lemmas.Bool.{and_parts, eqb-true, eq-eqb}
use Rattle.std.proofs.lemmas.Int.{ints}
use Rattle.std.proofs.lemmas.List.{get_or-map, length-map, get_or_default}
use Rattle.std.proofs.lemmas.List.Elements.{All-nil, All-cons, All-head, All-tail, Contains-get_or}
use Rattle.std.proofs.lemmas.List.Sums.{sum_by-cons, get_or-le-sum_by}
use Rattle.std.proofs.lemmas.List.Sorted.{Contains-permutation, IsPermutation-sym, sum_by-IsPermutation}
use Rattle.scut_base.specs.Literal.{Literal}
use Rattle.scut_base.specs.Assignment.{partial_truth}
use Rattle.pb_lin.specs.Constraint.{ConstraintValue, AreOnes, IsMerged, UpTo, literals, slack, unless_false, possible_value}
use Rattle.pb_lin.specs.Propagation.{is_forced, IsClosedUnder}
use Rattle.pb_lin.proofs.Ones.{sum_ones}
use Rattle.clause_prop.specs.LineKinds.{are_ones, is_watched}
use Rattle.watch_prop.specs.Watching.{IsDistinct, no_literal}
use Rattle.clause_prop.proofs.Assigned.{Values}

pub ones_of : (terms : List (Literal × ℕ)) → are_ones terms ≡ true → AreOnes terms
unfolding are_ones
ones_of [] e = All-nil (λ t. t.1 ≡ 1)
ones_of (t ∷ terms) e =
    let parts = and_parts (nat_eq t.1 1) (are_ones terms) e in
    All-cons (λ s. s.1 ≡ 1) t terms (eqb-true t.1 1 parts.0) (ones_of terms parts.1)

-- what is said of a clause that is watched
pub record IsClause (c : ConstraintValue) : Type 0 where
  pub ones : AreOnes c.terms
  pub one : c.degree ≡ 1
  pub long : 2 ≤ length c.terms

pub clause_of : (c : ConstraintValue) → is_watched c ≡ true → IsClause c
clause_of c e =
    let first = and_parts (are_ones c.terms) (nat_eq c.degree 1 && nat_le 2 (length c.terms)) e in
    let second = and_parts (nat_eq c.degree 1) (nat_le 2 (length c.terms)) first.1 in
    record { ones = ones_of c.terms first.0; one = eqb-true c.degree 1 second.0; long = at_least_two (length c.terms) second.1 }
  where
    at_least_two : (n : ℕ) → nat_le 2 n ≡ true → 2 ≤ n
    at_least_two n h = grind arith

-- the number of literals that aren't false
abbrev pub count : Values → List Literal → ℕ
count p lits = sum_by (λ l. unless_false (partial_truth p l) 1) lits

pub slack_of : (p : Values) (c : ConstraintValue) (lits : List Literal) → is_watched c ≡ true → IsPermutation (literals c.terms) lits → slack p c ≡ pos (count p lits) -ℤ pos 1
slack_of p c lits kind same =
    let is = clause_of c kind in
    let sum : sum_by (possible_value p) c.terms ≡ count p lits = sym (sum_ones (λ l n. unless_false (partial_truth p l) n) c.terms is.ones) ∙ sym (sum_by-IsPermutation (λ l. unless_false (partial_truth p l) 1) (literals c.terms) lits same) in
    ap (λ (n : ℕ). pos n -ℤ pos c.degree) sum ∙ ap (λ (n : ℕ). pos (count p lits) -ℤ pos n) is.one

-- a literal of the clause has a term
pub term_of : (c : ConstraintValue) (lits : List Literal) (l : Literal) → is_watched c ≡ true → IsPermutation (literals c.terms) lits → Contains lits l → Contains c.terms (l, 1)
term_of c lits l kind same among =
    let (k, below, at) = Contains-permutation _ _ l (IsPermutation-sym _ _ same) among in
    let within : k < length c.terms = omega (arith, below, length-map c.terms (λ t. t.0)) in
    let own : (get_or c.terms k (l, 1)).0 ≡ l = sym (get_or-map (λ t. t.0) c.terms k (l, 1) l within) ∙ at in
    let one : (get_or c.terms k (l, 1)).1 ≡ 1 = (clause_of c kind).ones k (l, 1) within in
    subst (Contains c.terms) (ap (λ (m : Literal). (m, (get_or c.terms k (l, 1)).1)) own ∙ ap (λ (n : ℕ). (l, n)) one) (Contains-get_or c.terms k (l, 1) within)

-- all false
pub count_none : (p : Values) (lits : List Literal) → ((k : ℕ) → k < length lits → partial_truth p (get_or lits k no_literal) ≡ Some false) → count p lits ≡ 0
count_none p [] each = refl
count_none p (l ∷ lits) each =
    let whole = sum_by-cons (λ m. unless_false (partial_truth p m) 1) l lits in
    let first : unless_false (partial_truth p l) 1 ≡ 0 = ap (λ o. unless_false o 1) (each 0 (omega arith)) in
    let rest : count p lits ≡ 0 = count_none p lits (λ k h. each (suc k) (omega (arith, h))) in
    omega arith

-- all but the first, which is open
pub count_first : (p : Values) (lits : List Literal) → 0 < length lits → partial_truth p (get_or lits 0 no_literal) ≡ None → ((k : ℕ) → 1 ≤ k → k < length lits → partial_truth p (get_or lits k no_literal) ≡ Some false) → count p lits ≡ 1
count_first p [] some first each = absurd (omega (arith, some))
count_first p (l ∷ lits) some first each =
    let whole = sum_by-cons (λ m. unless_false (partial_truth p m) 1) l lits in
    let one : unless_false (partial_truth p l) 1 ≡ 1 = ap (λ o. unless_false o 1) first in
    let rest : count p lits ≡ 0 = count_none p lits (λ k h. each (suc k) (omega arith) (omega (arith, h))) in
    omega arith

unless_one : (o : Option Bool) → o ≢ Some false → unless_false o 1 ≡ 1
unless_one None n = refl
unless_one (Some true) n = refl
unless_one (Some false) n = absurd (n refl)

pub count_some : (p : Values) (lits : List Literal) (k : ℕ) → k < length lits → partial_truth p (get_or lits k no_literal) ≢ Some false → 1 ≤ count p lits
count_some p lits k below true_or_open =
    let least = get_or-le-sum_by (λ l. unless_false (partial_truth p l) 1) lits k no_literal below in
    let one = unless_one (partial_truth p (get_or lits k no_literal)) true_or_open in
    omega arith

-- two that aren't false
pub count_two : (p : Values) (lits : List Literal) (i k : ℕ) → i < k → k < length lits → partial_truth p (get_or lits i no_literal) ≢ Some false → partial_truth p (get_or lits k no_literal) ≢ Some false → 2 ≤ count p lits
count_two p [] i k up below first second = absurd (omega (arith, below))
count_two p (l ∷ lits) i zero up below first second = absurd (omega (arith, up))
count_two p (l ∷ lits) zero (suc k) up below first second =
    let whole = sum_by-cons (λ m. unless_false (partial_truth p m) 1) l lits in
    let one = unless_one (partial_truth p l) first in
    let rest = count_some p lits k (omega (arith, below)) second in
    omega arith
count_two p (l ∷ lits) (suc i) (suc k) up below first second =
    let whole = sum_by-cons (λ m. unless_false (partial_truth p m) 1) l lits in
    let rest = count_two p lits i k (omega (arith, up)) (omega (arith, below)) first second in
    omega arith

pub count_two_apart : (p : Values) (lits : List Literal) (i k : ℕ) → i ≢ k → i < length lits → k < length lits → partial_truth p (get_or lits i no_literal) ≢ Some false → partial_truth p (get_or lits k no_literal) ≢ Some false → 2 ≤ count p lits
count_two_apart p lits i k apart first_in second_in first second = ⊎_elim
    (λ (up : i < k). count_two p lits i k up second_in first second)
    (λ (down : k < i). count_two p lits k i down first_in second first)
    (sides i k apart)
  where
    sides : (a b : ℕ) → a ≢ b → (a < b) ⊎ (b < a)
    sides a b n = grind arith

negative : (n : ℕ) → n ≡ 0 → (pos n -ℤ pos 1) <ℤ pos 0
negative n e = grind (arith, ints)

at_least_zero : (n : ℕ) → 1 ≤ n → pos 0 ≤ℤ (pos n -ℤ pos 1)
at_least_zero n h = grind (arith, ints)

none_above : (n : ℕ) → 2 ≤ n → int_lt (pos n -ℤ pos 1) (pos 1) ≡ false
none_above n h = grind (arith, ints)

-- a clause whose literals are all false is violated
pub violated : (p : Values) (c : ConstraintValue) (lits : List Literal) → is_watched c ≡ true → IsPermutation (literals c.terms) lits → ((k : ℕ) → k < length lits → partial_truth p (get_or lits k no_literal) ≡ Some false) → slack p c <ℤ pos 0
violated p c lits kind same each = subst (λ z. z <ℤ pos 0) (sym (slack_of p c lits kind same)) (negative (count p lits) (count_none p lits each))

-- one whose other literals are false forces the first
pub first_forced : (p : Values) (c : ConstraintValue) (lits : List Literal) → is_watched c ≡ true → IsPermutation (literals c.terms) lits → 0 < length lits → partial_truth p (get_or lits 0 no_literal) ≡ None → ((k : ℕ) → 1 ≤ k → k < length lits → partial_truth p (get_or lits k no_literal) ≡ Some false)
    → is_forced p c (get_or lits 0 no_literal, 1) ≡ true
first_forced p c lits kind same some first each =
    let zero_slack : slack p c ≡ pos 1 -ℤ pos 1 = slack_of p c lits kind same ∙ ap (λ (n : ℕ). pos n -ℤ pos 1) (count_first p lits some first each) in
    ap (λ o. is_none o && int_lt (slack p c) (pos 1)) first ∙ ap (λ z. int_lt z (pos 1)) zero_slack

and_false : (b : Bool) → (b && false) ≡ false
and_false true = refl
and_false false = refl

-- For each literal that is open there is another that isn't false, and some literal isn't false.
pub closed_by : (p : Values) (c : ConstraintValue) (lits : List Literal) → is_watched c ≡ true → IsPermutation (literals c.terms) lits → (i : ℕ) → i < length lits → partial_truth p (get_or lits i no_literal) ≢ Some false
    → ((k : ℕ) → k < length lits → partial_truth p (get_or lits k no_literal) ≡ None → (m : ℕ) × (m ≢ k) × (m < length lits) × (partial_truth p (get_or lits m no_literal) ≢ Some false)) → IsClosedUnder p c
closed_by p c lits kind same i within some other = record {
  possible = subst (λ z. pos 0 ≤ℤ z) (sym is) (at_least_zero (count p lits) (count_some p lits i within some));
  unforced = λ k d below. unforced_at (get_or c.terms k d) (Contains-get_or c.terms k d below);
}
  where
    is : slack p c ≡ pos (count p lits) -ℤ pos 1
    is = slack_of p c lits kind same

    by_truth : (o : Option Bool) (l : Literal) (n : ℕ) → partial_truth p l ≡ o → n ≡ 1 → Contains lits l → is_forced p c (l, n) ≡ false
    by_truth (Some b) l n truth one among = ap (λ z. is_none z && int_lt (slack p c) (pos n)) truth
    by_truth None l n truth one among =
        let (k, below, at) = among in
        let at_k : get_or lits k no_literal ≡ l = get_or_default lits k no_literal l below ∙ at in
        let (m, apart, m_in, m_some) = other k below (ap (partial_truth p) at_k ∙ truth) in
        let two = count_two_apart p lits m k apart m_in below m_some (λ e. cc (e, ap (partial_truth p) at_k, truth)) in
        ap (λ z. is_none (partial_truth p l) && int_lt z (pos n)) is
        ∙ ap (λ (x : ℕ). is_none (partial_truth p l) && int_lt (pos (count p lits) -ℤ pos 1) (pos x)) one
        ∙ ap (λ b. is_none (partial_truth p l) && b) (none_above (count p lits) two) ∙ and_false (is_none (partial_truth p l))

    unforced_at : (t : Literal × ℕ) → Contains c.terms t → is_forced p c t ≡ false
    unforced_at t (k, below, at) =
        let inside : k < length (literals c.terms) = omega (arith, below, length-map c.terms (λ s. s.0)) in
        let own : get_or (literals c.terms) k t.0 ≡ t.0 = get_or-map (λ s. s.0) c.terms k t t.0 below ∙ ap (λ (s : Literal × ℕ). s.0) at in
        let among : Contains lits t.0 = Contains-permutation _ _ t.0 same (subst (Contains (literals c.terms)) own (Contains-get_or (literals c.terms) k t.0 inside)) in
        by_truth (partial_truth p t.0) t.0 t.1 refl (ap (λ (s : Literal × ℕ). s.1) (sym at) ∙ (clause_of c kind).ones k t below) among

-- ---- the test of a line

all_ones : (terms : List (Literal × ℕ)) → AreOnes terms → are_ones terms ≡ true
unfolding are_ones
all_ones [] all = refl
all_ones (t ∷ terms) all =
    ap (λ b. b && are_ones terms) (eq-eqb t.1 1 (All-head (λ s. s.1 ≡ 1) t terms all)) ∙ all_ones terms (All-tail (λ s. s.1 ≡ 1) t terms all)

-- a clause is watched where it is long
pub kind_of_clause : (c : ConstraintValue) → AreOnes c.terms → c.degree ≡ 1 → nat_le 2 (length c.terms) ≡ is_watched c
kind_of_clause c ones one =
    sym (ap (λ b. b && (nat_eq c.degree 1 && nat_le 2 (length c.terms))) (all_ones c.terms ones) ∙ ap (λ b. b && nat_le 2 (length c.terms)) (eq-eqb c.degree 1 one))

-- no other line is
pub kind_of_other : (c : ConstraintValue) → (AreOnes c.terms × (c.degree ≡ 1) → ⊥) → is_watched c ≡ false
kind_of_other c other = not_true (is_watched c) (λ e. let is = clause_of c e in other (is.ones, is.one))
  where
    not_true : (b : Bool) → (b ≡ true → ⊥) → b ≡ false
    not_true true n = absurd (n refl)
    not_true false n = refl

-- ---- the literals of a line

-- the place of a literal of a line
literal_at : (terms : List (Literal × ℕ)) (k : ℕ) (l : Literal) → k < length terms → get_or (literals terms) k l ≡ (get_or terms k (l, 0)).0
literal_at terms k l within = get_or-map (λ t. t.0) terms k (l, 0) l within

pub literal_upto : (n : ℕ) (c : ConstraintValue) (l : Literal) → UpTo n c → Contains (literals c.terms) l → l.var ≤ n
literal_upto n c l upto (k, below, at) =
    let within : k < length c.terms = omega (arith, below, length-map c.terms (λ t. t.0)) in
    subst (λ (m : Literal). m.var ≤ n) (sym (literal_at c.terms k l within) ∙ at) (upto k (l, 0) within)

pub literals_distinct : (terms : List (Literal × ℕ)) → IsMerged terms → IsDistinct (literals terms)
literals_distinct terms merged i k i_in k_in other same =
    let long = length-map terms (λ t. t.0) in
    let at : (j : ℕ) → j < length (literals terms) → get_or (literals terms) j no_literal ≡ (get_or terms j (no_literal, 0)).0 = λ j h. literal_at terms j no_literal (omega (arith, h, long)) in
    let e : (get_or terms i (no_literal, 0)).0.var ≡ (get_or terms k (no_literal, 0)).0.var = ap (λ (l : Literal). l.var) (sym (at i i_in) ∙ same ∙ at k k_in) in
    ⊎_elim
    (λ (up : i < k). absurd (let r = merged.rising i k (no_literal, 0) up (omega (arith, k_in, long)) in omega (arith, r, e)))
    (λ (down : k < i). absurd (let r = merged.rising k i (no_literal, 0) down (omega (arith, i_in, long)) in omega (arith, r, e)))
    (two_sides i k other)
  where
    two_sides : (a b : ℕ) → a ≢ b → (a < b) ⊎ (b < a)
    two_sides a b n = grind arith
