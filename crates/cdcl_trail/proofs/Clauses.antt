-- Clauses under partial assignments: with two open literals, and with one alone.
use Rattle.std.proofs.Common.{◌≡◌, ◌≢◌, ◌⊎◌, ℕ, ◌+◌, ◌<◌, ◌≤◌, Bool, true, false, Option, Some, None, List, [], ◌∷◌, length, take, get_or, map, sum_by, All, AllPairs, refl, arith, ap, sym, ◌∙◌, subst, inl, inr, ⊎_elim}
use Rattle.std.specs.Prelude.{slice_get, pos, ◌-ℤ◌, ◌≤ℤ◌, int_lt, ◌&&◌}
use Rattle.std.specs.List.{Contains}
use Rattle.std.specs.Option.{is_none}
use Rattle.std.proofs.lemmas.Bool.{cases_order}
use Rattle.std.proofs.lemmas.Int.{ints}
use Rattle.std.proofs.lemmas.List.{get_or_default}
use Rattle.std.proofs.lemmas.List.Elements.{All-map}
use Rattle.std.proofs.lemmas.List.Sums.{sum_by-cons}
use Rattle.std.proofs.lemmas.Option.{same_Some, slice_get-get_or}
use Rattle.scut_base.specs.Literal.{Literal}
use Rattle.scut_base.specs.Assignment.{partial_truth}
use Rattle.scut_base.proofs.Lists.{Contains-map, sum_by_single}
use Rattle.pb_lin.specs.Constraint.{possible_value, slack, unless_false}
use Rattle.pb_lin.specs.Propagation.{is_forced, IsClosedUnder}
use Rattle.pb_lin.proofs.AtPlace.{sum_place-le}
use Rattle.proof_laws.specs.Steps.{clause}
use Rattle.clause_prop.specs.Propagating.{Forces}
use Rattle.clause_prop.proofs.Assigned.{Values}
use Rattle.cdcl_trail.proofs.Places.{slice_get-take}

-- the place of an element
pub place_in : {X : Type 0} (xs : List X) (x : X) (found : Contains xs x) → slice_get xs found.0 ≡ Some x
place_in xs x found = slice_get-get_or xs found.0 x found.1 ∙ ap Some found.2

-- ---- the sum of the literals that aren't false

-- 1 where the literal isn't false, and else 0
abbrev worth : Values → Literal → ℕ
worth p l = possible_value p (l, 1)

abbrev possible : Values → List Literal → ℕ
possible p lits = sum_by (worth p) lits

sum_is : (p : Values) (lits : List Literal) → sum_by (possible_value p) (map (λ l. (l, 1)) lits) ≡ possible p lits
sum_is p [] = refl
sum_is p (l ∷ lits) =
    let left = sum_by-cons (possible_value p) (l, 1) (map (λ m. (m, 1)) lits) in
    let right = sum_by-cons (worth p) l lits in
    let rest = sum_is p lits in
    omega (arith, left, right, rest)

-- two places add up
two_places : {X : Type 0} (f : X → ℕ) (xs : List X) (i j : ℕ) (x y : X) → i < j → slice_get xs i ≡ Some x → slice_get xs j ≡ Some y → f x + f y ≤ sum_by f xs
two_places f xs i j x y less at_x at_y =
    let outer = sum_place-le f xs j y at_y in
    let inner = sum_place-le f (take j xs) i x (slice_get-take xs j i less ∙ at_x) in
    omega (arith, outer, inner)

-- two literals that are open
two_or_more : (p : Values) (lits : List Literal) (l m : Literal) → Contains lits l → Contains lits m → l.var ≢ m.var → partial_truth p l ≡ None → partial_truth p m ≡ None → 2 ≤ possible p lits
two_or_more p lits l m in_l in_m apart none_l none_m =
    let one : worth p l ≡ 1 = ap (λ (o : Option Bool). unless_false o 1) none_l in
    let two : worth p m ≡ 1 = ap (λ (o : Option Bool). unless_false o 1) none_m in
    ⊎_elim
    (λ (e : in_l.0 ≡ in_m.0). absurd (apart (ap (λ (x : Literal). x.var) (same_Some l m (sym (place_in lits l in_l) ∙ ap (slice_get lits) e ∙ place_in lits m in_m)))))
    (λ (other : (in_l.0 < in_m.0) ⊎ (in_m.0 < in_l.0)). ⊎_elim
    (λ (less : in_l.0 < in_m.0). let both = two_places (worth p) lits in_l.0 in_m.0 l m less (place_in lits l in_l) (place_in lits m in_m) in omega (arith, both, one, two))
    (λ (more : in_m.0 < in_l.0). let both = two_places (worth p) lits in_m.0 in_l.0 m l more (place_in lits m in_m) (place_in lits l in_l) in omega (arith, both, one, two))
    other)
    (cases_order in_l.0 in_m.0)

and_false : (b : Bool) → (b && false) ≡ false
and_false true = refl
and_false false = refl

not_negative : (n : ℕ) → 2 ≤ n → pos 0 ≤ℤ (pos n -ℤ pos 1)
not_negative n two = grind (arith, ints)

not_below : (n : ℕ) → 2 ≤ n → int_lt (pos n -ℤ pos 1) (pos 1) ≡ false
not_below n two = grind (arith, ints)

-- a clause with two open literals is closed
pub two_left : (p : Values) (lits : List Literal) (l m : Literal) → Contains lits l → Contains lits m → l.var ≢ m.var → partial_truth p l ≡ None → partial_truth p m ≡ None → IsClosedUnder p (clause lits)
two_left p lits l m in_l in_m apart none_l none_m = record {
  possible = subst (λ (n : ℕ). pos 0 ≤ℤ (pos n -ℤ pos 1)) (sym (sum_is p lits)) (not_negative (possible p lits) two);
  unforced = All-map (λ (t : Literal × ℕ). is_forced p (clause lits) t ≡ false) (λ x. (x, 1)) lits (λ k d short. ap (λ (b : Bool). is_none (partial_truth p (get_or lits k d)) && b)
      (subst (λ (n : ℕ). int_lt (pos n -ℤ pos 1) (pos 1) ≡ false) (sym (sum_is p lits)) (not_below (possible p lits) two)) ∙ and_false (is_none (partial_truth p (get_or lits k d))));
}
  where
    two : 2 ≤ possible p lits
    two = two_or_more p lits l m in_l in_m apart none_l none_m

-- ---- all false but one

-- the literal is open, and all others are false
pub record IsLeft (p : Values) (lits : List Literal) (l : Literal) : Type 0 where
  pub rising : AllPairs (λ l m. l.var < m.var) lits
  pub among : Contains lits l
  pub is_open : partial_truth p l ≡ None
  pub others : All (λ m. (m ≡ l) ⊎ (partial_truth p m ≡ Some false)) lits

one_left : (p : Values) (lits : List Literal) (l : Literal) → IsLeft p lits l → possible p lits ≡ 1
one_left p lits l left =
    sum_by_single (worth p) lits left.among.0 l left.among.1 others
    ∙ ap (worth p) left.among.2 ∙ ap (λ (o : Option Bool). unless_false o 1) left.is_open
  where
    others : (k : ℕ) (e : Literal) → k < length lits → k ≢ left.among.0 → worth p (get_or lits k e) ≡ 0
    others k e short other = elim (left.others k e short) [
      | inl same ↦ absurd
          (let at_e : get_or lits left.among.0 e ≡ l = get_or_default lits left.among.0 e l left.among.1 ∙ left.among.2 in
          let vars : (get_or lits k e).var ≡ (get_or lits left.among.0 e).var = ap (λ (x : Literal). x.var) (same ∙ sym at_e) in
          let up : k < left.among.0 → (get_or lits k e).var < (get_or lits left.among.0 e).var = λ less. left.rising k left.among.0 e less left.among.1 in
          let down : left.among.0 < k → (get_or lits left.among.0 e).var < (get_or lits k e).var = λ more. left.rising left.among.0 k e more short in
          ⊎_elim
          (λ (eq : k ≡ left.among.0). other eq)
          (λ (o : (k < left.among.0) ⊎ (left.among.0 < k)). ⊎_elim
          (λ (less : k < left.among.0). let h = up less in absurd (omega (arith, h, vars)))
          (λ (more : left.among.0 < k). let h = down more in absurd (omega (arith, h, vars)))
          o)
          (cases_order k left.among.0))
      | inr none ↦ ap (λ (o : Option Bool). unless_false o 1) none
    ]

-- such a clause forces its literal
pub left_forced : (p : Values) (lits : List Literal) (l : Literal) → IsLeft p lits l → Forces p (clause lits) l
left_forced p lits l left = record {
  term = (l, 1);
  among = Contains-map (λ x. (x, 1)) lits l left.among;
  literal = refl;
  forced = ap (λ (o : Option Bool). is_none o && int_lt (slack p (clause lits)) (pos 1)) left.is_open ∙ ap (λ (n : ℕ). int_lt (pos n -ℤ pos 1) (pos 1)) (sum_is p lits ∙ one_left p lits l left);
}
