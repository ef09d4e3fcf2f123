-- The negation of a clause under a partial assignment.
use Rattle.std.specs.Prelude.{◌≡◌, ℕ, ◌+◌, ◌<◌, Bool, true, false, not, if◌then◌else◌, Option, Some, None, List, [], ◌∷◌, map, length, ◌-◌, replicate, sum_by, pos, ◌<ℤ◌, refl}
use Rattle.std.proofs.Common.{sym, ◌∙◌, ap, get_or, arith, rules}
use Rattle.std.specs.Option.{is_none, is_some, option_map}
use Rattle.std.proofs.lemmas.List.{get_or-map, length-map}
use Rattle.std.proofs.lemmas.List.Elements.{All-head, All-tail, All-map}
use Rattle.std.proofs.lemmas.List.Sums.{sum_by-cons}
use Rattle.std.proofs.lemmas.Int.{ints}
use Rattle.scut_base.specs.Literal.{Literal}
use Rattle.scut_base.specs.Assignment.{partial_truth, partial_value}
use Rattle.pb_lin.specs.Constraint.{ConstraintValue, AreOnes, IsMerged, IsNormal, UpTo, literals, negation, opposite, opposite_terms, possible_value, slack, unless_false}
use Rattle.pb_lin.proofs.Ones.{total_ones}
use Rattle.pb_lin.proofs.OppositeTerms.{normal-opposite}
use Rattle.hint_rup.specs.Negation.{if_true, true_count}
use Rattle.hint_rup.proofs.Agreement.{all_open}
use Rattle.hint_rup.proofs.ForcedLiterals.{literal_at}

-- of a literal and its opposite one is true, where one of them has a truth value; else both are open
one_of_two : (o : Option Bool) (neg : Bool) → unless_false (option_map (λ b. if not neg then not b else b) o) 1 + if_true (option_map (λ b. if neg then not b else b) o) ≡ 1
one_of_two None true = refl
one_of_two None false = refl
one_of_two (Some true) true = refl
one_of_two (Some true) false = refl
one_of_two (Some false) true = refl
one_of_two (Some false) false = refl

-- those of the opposites that aren't false, and the true literals
possible_and_true : (p : List (Option Bool)) (ts : List (Literal × ℕ)) → AreOnes ts
    → sum_by (possible_value p) (opposite_terms ts) + true_count p (literals ts) ≡ length ts
possible_and_true p [] ones = refl
possible_and_true p (t ∷ ts) ones =
    let possible = sum_by-cons (possible_value p) (opposite t.0, t.1) (opposite_terms ts) in
    let truths = sum_by-cons (λ l. if_true (partial_truth p l)) t.0 (literals ts) in
    let one = ap (λ n. unless_false (partial_truth p (opposite t.0)) n) (All-head (λ u. u.1 ≡ 1) t ts ones) in
    let first = one_of_two (partial_value p t.0.var) t.0.neg in
    let rest = possible_and_true p ts (All-tail (λ u. u.1 ≡ 1) t ts ones) in
    omega arith

module _ (p : List (Option Bool)) (c : ConstraintValue) (ones : AreOnes c.terms) (degree : c.degree ≡ 1) where
  -- the negation of a clause lacks as much as there are true literals
  pub slack_where_none : (0 < true_count p (literals c.terms) → ⊥) → slack p (negation c) ≡ pos 0
  slack_where_none none =
      let both = possible_and_true p c.terms ones in
      let all = total_ones c.terms ones in
      omega (arith, ints, none)

  pub slack_where_some : 0 < true_count p (literals c.terms) → slack p (negation c) <ℤ pos 0
  slack_where_some some =
      let both = possible_and_true p c.terms ones in
      let all = total_ones c.terms ones in
      omega (arith, ints)

-- no literal is true where every variable is open
pub none_true : (n : ℕ) (lits : List Literal) → true_count (replicate n None) lits ≡ 0
none_true n [] = refl
none_true n (l ∷ lits) =
    let here = ap (λ o. if_true (option_map (λ b. if l.neg then not b else b) o)) (all_open n (l.var - 1)) in
    let both = sum_by-cons (λ m. if_true (partial_truth (replicate n None) m)) l lits in
    let rest = none_true n lits in
    omega arith

-- the negation of a clause lacks nothing where every variable is open
pub open_slack : (p : List (Option Bool)) (c : ConstraintValue) → AreOnes c.terms → c.degree ≡ 1 → p ≡ replicate (length p) None → slack p (negation c) ≡ pos 0
open_slack p c ones degree cleared =
    let none : true_count p (literals c.terms) ≡ 0 = ap (λ q. true_count q (literals c.terms)) cleared ∙ none_true (length p) (literals c.terms) in
    slack_where_none p c ones degree (λ some. absurd (omega (arith, some)))

-- opposite terms are merged where those of a normal form are
pub merged_negation : (c : ConstraintValue) → IsNormal c.terms c.degree → IsMerged (negation c).terms
merged_negation c normal = let turned = normal-opposite c.terms (opposite_terms c.terms) c.degree 0 normal refl (let small = normal.small in omega arith) in turned.merged

pub literals_opposite : (ts : List (Literal × ℕ)) → literals (opposite_terms ts) ≡ map opposite (literals ts)
literals_opposite [] = refl
literals_opposite (t ∷ ts) = ap (λ ls. opposite t.0 ∷ ls) (literals_opposite ts)

-- a literal is open where its opposite is
both_open : (o : Option Bool) (f g : Bool → Bool) → is_none (option_map f o) ≡ is_none (option_map g o)
both_open None f g = refl
both_open (Some b) f g = refl

pub opposite_open : (p : List (Option Bool)) (l : Literal) → is_none (partial_truth p l) ≡ is_none (partial_truth p (opposite l))
opposite_open p l = both_open (partial_value p l.var) (λ b. if l.neg then not b else b) (λ b. if not l.neg then not b else b)

-- the literals of a clause are of variables up to those of its negation
pub clause_upto : (n : ℕ) (c : ConstraintValue) → UpTo n (negation c) → UpTo n c
clause_upto n c upto = λ k d short.
    let turned : Literal × ℕ → Literal × ℕ = λ t. (opposite t.0, t.1) in
    let most = upto k d (let long = length-map c.terms turned in omega arith) in
    let same = ap (λ (t : Literal × ℕ). t.0.var) (get_or-map turned c.terms k d d short) in
    omega arith

-- the term of a literal's opposite
pub opposite_at : (ts : List (Literal × ℕ)) (lits : List Literal) (i : ℕ) (l : Literal) → lits ≡ literals ts → i < length lits → l ≡ get_or lits i l
    → (i < length (opposite_terms ts)) × (opposite l ≡ (get_or (opposite_terms ts) i (opposite l, 1)).0)
opposite_at ts lits i l same short is =
    literal_at (opposite_terms ts) (map opposite lits) i (opposite l) (ap (map opposite) same ∙ sym (literals_opposite ts))
    (let long = length-map lits opposite in omega arith)
    (ap opposite is ∙ sym (get_or-map opposite lits i l (opposite l) short))

-- the opposite of a literal, by its fields
pub opposite_is : (l m : Literal) → l.var ≡ m.var → l.neg ≡ not m.neg → l ≡ opposite m
opposite_is l m var neg = λ i. record { var = var i; neg = neg i }

pub opposite_ones : (ts : List (Literal × ℕ)) → AreOnes ts → AreOnes (opposite_terms ts)
opposite_ones ts ones = All-map (λ t. t.1 ≡ 1) (λ t. (opposite t.0, t.1)) ts ones

-- what a test that is read the other way round decides
pub none_where : {X : Type 0} (o : Option X) (b : Bool) → is_some o ≡ not b → b ≡ is_none o
none_where None true is = refl
none_where None false is = absurd (search rules)
none_where (Some x) true is = absurd (search rules)
none_where (Some x) false is = refl
