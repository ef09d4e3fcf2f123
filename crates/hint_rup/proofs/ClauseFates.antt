-- What the literals of a clause come to under a partial assignment.
use Rattle.std.specs.Prelude.{◌≡◌, ℕ, zero, suc, ◌+◌, ◌<◌, ◌≤◌, Bool, true, false, cond, ◌&&◌, Option, Some, None, List, [], ◌∷◌, length, sum_by, All, pos, ◌<ℤ◌, int_lt, slice_get, refl}
use Rattle.std.proofs.Common.{sym, ◌∙◌, ap, subst, take, arith, rules}
use Rattle.std.specs.Option.{is_none, is_some, option_to_list}
use Rattle.std.specs.List.{filter}
use Rattle.std.proofs.lemmas.List.Elements.{filter_passes, All-filter, All-head, All-tail}
use Rattle.std.proofs.lemmas.List.Sums.{sum_by-cons}
use Rattle.std.proofs.lemmas.Int.{ints}
use Rattle.scut_base.specs.Literal.{Literal}
use Rattle.scut_base.specs.Assignment.{partial_truth}
use Rattle.pb_lin.specs.Constraint.{ConstraintValue, AreOnes, literals, ones, possible_value, slack, unless_false}
use Rattle.pb_lin.specs.Propagation.{is_forced}
use Rattle.pb_lin.proofs.AtPlace.{sum_place-le}
use Rattle.pb_lin.proofs.Ones.{sum_ones, ones-filter}
use Rattle.hint_rup.specs.Negation.{if_true}
use Rattle.hint_rup.specs.Propagation.{with_true, forced}
use Rattle.hint_rup.specs.ClauseFate.{IsFate, possible_count, open_literals}
use Rattle.hint_rup.specs.declared.propagation.Fate.TheVariants.{Quiet}
use Rattle.hint_rup.proofs.ForcedLiterals.{with_all, forced_none}

-- 1 for an open literal
abbrev of_open : Option Bool → ℕ
of_open None = 1
of_open (Some b) = 0

opens_or_true : (t : Option Bool) → of_open t + if_true t ≡ unless_false t 1
opens_or_true None = refl
opens_or_true (Some true) = refl
opens_or_true (Some false) = refl

-- the literals that aren't false are open or true
open_and_true : (p : List (Option Bool)) (lits : List Literal)
    → sum_by (λ l. of_open (partial_truth p l)) lits + sum_by (λ l. if_true (partial_truth p l)) lits ≡ possible_count p lits
open_and_true p [] = refl
open_and_true p (l ∷ lits) =
    let open_ones = sum_by-cons (λ m. of_open (partial_truth p m)) l lits in
    let true_ones = sum_by-cons (λ m. if_true (partial_truth p m)) l lits in
    let all = sum_by-cons (λ m. unless_false (partial_truth p m) 1) l lits in
    let rest = open_and_true p lits in
    let first = opens_or_true (partial_truth p l) in
    omega arith

one_more : (t : Option Bool) (l : Literal) (rest : List Literal) → length (cond (is_none t) (l ∷ rest) rest) ≡ of_open t + length rest
one_more None l rest = omega arith
one_more (Some b) l rest = omega arith

opens : (p : List (Option Bool)) (lits : List Literal) → length (open_literals p lits) ≡ sum_by (λ l. of_open (partial_truth p l)) lits
opens p [] = refl
opens p (l ∷ lits) =
    let all = sum_by-cons (λ m. of_open (partial_truth p m)) l lits in
    let rest = opens p lits in
    let first = one_more (partial_truth p l) l (open_literals p lits) in
    omega arith

none_where_empty : {X : Type 0} (xs : List X) → length xs ≡ 0 → xs ≡ []
none_where_empty [] empty = refl
none_where_empty (x ∷ xs) some = absurd (omega (arith, some))

-- a true literal, and one that isn't false after another such
pub quiet_where_true : (p : List (Option Bool)) (lits : List Literal) (i : ℕ) (l : Literal) → slice_get lits i ≡ Some l → partial_truth p l ≡ Some true → IsFate p lits Quiet
quiet_where_true p lits i l is truth =
    let here = sum_place-le (λ m. if_true (partial_truth p m)) lits i l is in
    let one = ap if_true truth in
    let both = open_and_true p lits in
    let open_ones = opens p lits in
    (omega arith, λ alone. none_where_empty (open_literals p lits) (omega arith))

pub quiet_where_two : (p : List (Option Bool)) (lits : List Literal) (i : ℕ) (l : Literal) (unit : Option Literal) → slice_get lits i ≡ Some l → partial_truth p l ≡ None
    → possible_count p (take i lits) ≡ length (option_to_list unit) → is_some unit ≡ true → IsFate p lits Quiet
quiet_where_two p lits i l None is truth before some = absurd (search rules)
quiet_where_two p lits i l (Some m) is truth before some =
    let here = sum_place-le (λ m. unless_false (partial_truth p m) 1) lits i l is in
    let one = ap (λ t. unless_false t 1) truth in
    (omega arith, λ alone. absurd (omega (arith, alone)))

-- ---- the clause of these literals

count_is : (p : List (Option Bool)) (c : ConstraintValue) → AreOnes c.terms → possible_count p (literals c.terms) ≡ sum_by (possible_value p) c.terms
count_is p c all = sum_ones (λ l n. unless_false (partial_truth p l) n) c.terms all

pub falsified_conflicts : (p : List (Option Bool)) (c : ConstraintValue) → AreOnes c.terms → c.degree ≡ 1 → possible_count p (literals c.terms) ≡ 0 → slack p c <ℤ pos 0
falsified_conflicts p c all degree none = let count = count_is p c all in omega (arith, ints)

pub possible_agrees : (p : List (Option Bool)) (c : ConstraintValue) → AreOnes c.terms → c.degree ≡ 1 → 0 < possible_count p (literals c.terms) → slack p c <ℤ pos 0 → ⊥
possible_agrees p c all degree some below = let count = count_is p c all in omega (arith, ints)

sole_slack : (p : List (Option Bool)) (c : ConstraintValue) → AreOnes c.terms → c.degree ≡ 1 → possible_count p (literals c.terms) ≡ 1 → slack p c ≡ pos 0
sole_slack p c all degree one = let count = count_is p c all in omega (arith, ints)

-- with no slack the open literals are those that are forced
open_is_forced : (b : Bool) → (b && int_lt (pos 0) (pos 1)) ≡ b
open_is_forced true = refl
open_is_forced false = refl

forced_terms : (p : List (Option Bool)) (c : ConstraintValue) (ts : List (Literal × ℕ)) → AreOnes ts → slack p c ≡ pos 0
    → filter (is_forced p c) ts ≡ filter (λ t. is_none (partial_truth p t.0)) ts
forced_terms p c [] all tight = refl
forced_terms p c (t ∷ ts) all tight =
    let one : t.1 ≡ 1 = All-head (λ u. u.1 ≡ 1) t ts all in
    let rest = forced_terms p c ts (All-tail (λ u. u.1 ≡ 1) t ts all) tight in
    let test : is_forced p c t ≡ is_none (partial_truth p t.0) =
    ap (λ z. is_none (partial_truth p t.0) && int_lt z (pos t.1)) tight ∙ ap (λ n. is_none (partial_truth p t.0) && int_lt (pos 0) (pos n)) one ∙ open_is_forced (is_none (partial_truth p t.0)) in
    ap (λ b. cond b (t ∷ filter (is_forced p c) ts) (filter (is_forced p c) ts)) test ∙ ap (λ us. cond (is_none (partial_truth p t.0)) (t ∷ us) us) rest

forced_open : (p : List (Option Bool)) (c : ConstraintValue) → AreOnes c.terms → slack p c ≡ pos 0 → with_all p (ones (open_literals p (literals c.terms))) ≡ forced p c
unfolding forced
forced_open p c all tight =
    ap (with_all p) (ones-filter (λ l. is_none (partial_truth p l)) c.terms all ∙ sym (forced_terms p c c.terms all tight))

pub unit_forces : (p : List (Option Bool)) (c : ConstraintValue) (l : Literal) → AreOnes c.terms → c.degree ≡ 1 → possible_count p (literals c.terms) ≡ 1 → open_literals p (literals c.terms) ≡ l ∷ [] → with_true p l ≡ forced p c
unit_forces p c l all degree one sole = ap (λ ls. with_all p (ones ls)) (sym sole) ∙ forced_open p c all (sole_slack p c all degree one)

pub quiet_forces_none : (p : List (Option Bool)) (c : ConstraintValue) → AreOnes c.terms → c.degree ≡ 1 → IsFate p (literals c.terms) Quiet → p ≡ forced p c
quiet_forces_none p c all degree quiet = by_count (possible_count p (literals c.terms)) refl
  where
    by_count : (n : ℕ) → possible_count p (literals c.terms) ≡ n → p ≡ forced p c
    by_count zero is = absurd (let some = quiet.0 in omega arith)
    by_count (suc zero) is = ap (λ ls. with_all p (ones ls)) (sym (quiet.1 is)) ∙ forced_open p c all (sole_slack p c all degree is)
    by_count (suc (suc n)) is = let count = count_is p c all in let tight : slack p c ≡ pos (suc n) = omega (arith, ints) in forced_none p c (suc n) all tight (omega arith)

-- the literal of a unit is open, and is one of the clause's
pub is_open_truth : (t : Option Bool) → is_none t ≡ true → t ≡ None
is_open_truth None open_one = refl
is_open_truth (Some b) closed = absurd (search rules)

pub sole_is_open : (p : List (Option Bool)) (lits : List Literal) (l : Literal) → open_literals p lits ≡ l ∷ [] → partial_truth p l ≡ None
sole_is_open p lits l sole =
    let Passes : Literal → Type 0 = λ m. is_none (partial_truth p m) ≡ true in
    is_open_truth (partial_truth p l) (All-head Passes l [] (subst (All Passes) sole (filter_passes (λ m. is_none (partial_truth p m)) lits)))

pub sole_is_within : (p : List (Option Bool)) (lits : List Literal) (l : Literal) → All (λ m. m.var ≤ length p) lits → open_literals p lits ≡ l ∷ [] → l.var ≤ length p
sole_is_within p lits l within sole =
    let Within : Literal → Type 0 = λ m. m.var ≤ length p in
    All-head Within l [] (subst (All Within) sole (All-filter (λ m. is_none (partial_truth p m)) Within lits within))
