-- What stands for "a cost exceeds its limit", at assignments.
use lib.Signed.{◌<ℤ◌}
use Rattle.std.proofs.Common.{◌≡◌, ⊎_elim, ℕ, suc, ◌^◌, ◌<◌, ◌≤◌, ◌==◌, Bool, true, false, not, Some, List, [], ◌∷◌, map, length, get_or, refl, sym, ◌∙◌, arith, ℤ, pos, negsuc, ◌+ℤ◌, ◌≤ℤ◌, ◌-ℤ◌}
use Rattle.std.specs.Prelude.{int_lt, sum_by}
use Rattle.std.specs.FinMap.{get}
use Rattle.std.specs.List.{All}
use Rattle.std.proofs.lemmas.Bool.{and_from, cases_Bool, cond-true, cond-false, not_from_false}
use Rattle.std.proofs.lemmas.Int.{by_lt_z, ints}
use Rattle.std.proofs.lemmas.List.Elements.{All-nil, All-cons}
use Rattle.scut_base.specs.Literal.{Literal}
use Rattle.scut_base.specs.Assignment.{lit_true}
use Rattle.scut_base.proofs.Lists.{Contains-head, sum_by_zero}
use Rattle.front_set.specs.Vector.{is_below, IsBelow}
use Rattle.pb_lin.specs.Constraint.{ConstraintValue, Holds, total, value}
use Rattle.pb_lin.specs.CostRow.{CostRowValue, IsCostRow, row_cost}
use Rattle.pb_lin.specs.Problem.{ProblemValue}
use Rattle.pb_lin.specs.Restriction.{met_value, restriction}
use Rattle.pb_lin.proofs.Laws.{Holds-restriction, Implies-covers}
use Rattle.proof_laws.specs.State.{StateValue}
use Rattle.proof_laws.specs.Refusal.{line_or_none}
use Rattle.proof_laws.specs.Replay.{IsReplay}
use Rattle.proof_laws.specs.declared.line.Line.{Line}
use Rattle.proof_laws.proofs.Definitions.{value-opposites}
use Rattle.sum_outputs.specs.Adding.{KeptHold}
use Rattle.totalizer.specs.declared.bound.Bound.{Bound}
use Rattle.totalizer.specs.declared.bound.Bound.TheVariants.{Always, Never, At}
use Rattle.totalizer.specs.Meaning.{AreTruthsWith}
use Rattle.search_base.specs.CostBounds.{AreApartWithin, CoversCost, IsCostBound, LineCovers}

-- ---- one bound

-- every live line holds
abbrev pub LiveHold : StateValue → List Bool → Type 0
LiveHold s x = (id : ℕ) (c : ConstraintValue) → get s.live id ≡ Some c → Holds x c

-- and so does "0 >= 0"
named_holds : (s : StateValue) (x : List Bool) → LiveHold s x → (id : ℕ) (c : ConstraintValue)
    → line_or_none s.live id ≡ Some c → Holds x c
named_holds s x hold id c is =
    let trivial : ConstraintValue = record { terms = []; degree = 0 } in
    ⊎_elim
    (λ (none : (id == 0) ≡ true).
    let same : Some trivial ≡ Some c = sym (cond-true (id == 0) (Some trivial) (get s.live id) none) ∙ is in
    let e : ConstraintValue.degree c ≡ 0 = cc in omega arith)
    (λ (some : (id == 0) ≡ false).
    hold id c (sym (cond-false (id == 0) (Some trivial) (get s.live id) some) ∙ is))
    (cases_Bool (id == 0))

alone : (l : Literal) → AreTruthsWith l (l ∷ [])
alone l = record { apart = λ i j d before short. absurd (omega arith); there = Contains-head l [] }

-- where its literals are true, and it holds, the row costs as much as the line says
module _ (x : List Bool) (row : CostRowValue) (v : ℤ) (c : ConstraintValue) (truths : List Literal)
    (holds : Holds x c) (all : All (λ m. lit_true x m ≡ true) truths) (covers : CoversCost row v c truths) where
  sum_reached : (n : ℕ) → v ≡ pos n +ℤ row.offset → n ≤ value x row.terms
  sum_reached n is =
      let sum : ConstraintValue = record { terms = row.terms; degree = n } in
      let left : Holds x (restriction c truths) = (Holds-restriction c truths x all).1 holds in
      let right : Holds x (restriction sum truths) =
      Implies-covers (restriction c truths) (restriction sum truths) (covers n is) x left in
      (Holds-restriction sum truths x all).0 right

  by_excess : (above : ℤ) → v -ℤ row.offset ≡ above → v ≤ℤ row_cost x row
  by_excess (pos n) is = let least = sum_reached n (omega (arith, ints)) in omega (arith, ints)
  by_excess (negsuc n) is = omega (arith, ints)

  cost_reached : v ≤ℤ row_cost x row
  cost_reached = by_excess (v -ℤ row.offset) refl

line_reaches : (s : StateValue) (x : List Bool) → LiveHold s x → (row : CostRowValue) (v : ℤ) (id : ℕ)
    (IsKind : List Literal → Type 0) (truths : List Literal) → IsKind truths
    → All (λ m. lit_true x m ≡ true) truths → LineCovers s row v id IsKind → v ≤ℤ row_cost x row
line_reaches s x hold row v id IsKind truths kind all line =
    cost_reached x row v line.0 truths (named_holds s x hold id line.0 line.1) all (line.2 truths kind)

-- no literals have no weight
none_within : (row : CostRowValue) (v : ℤ) (n : ℕ) → v -ℤ row.offset ≡ pos n → AreApartWithin row v []
none_within row v n is = record {
  apart = λ i j d before short. absurd (omega arith);
  within = let none : sum_by (met_value []) row.terms ≡ 0 = sum_by_zero (met_value []) row.terms (λ k d short. refl) in
      omega (arith, ints);
}

-- by its line, or by its offset
always_reaches : (s : StateValue) (x : List Bool) → LiveHold s x → (row : CostRowValue) (v : ℤ) (id : ℕ)
    → LineCovers s row v id (AreApartWithin row v) → v ≤ℤ row_cost x row
always_reaches s x hold row v id line = by (v -ℤ row.offset) refl
  where
    by : (above : ℤ) → v -ℤ row.offset ≡ above → v ≤ℤ row_cost x row
    by (pos n) is = line_reaches s x hold row v id (AreApartWithin row v) [] (none_within row v n is)
        (All-nil (λ m. lit_true x m ≡ true)) line
    by (negsuc n) is = omega (arith, ints)

-- ---- one row

-- the bound's literal is true, or it has none and is always reached
abbrev pub IsMet : List Bool → Bound → Type 0
IsMet x (Always id) = Unit {0}
IsMet x Never = ⊥
IsMet x (At l id) = lit_true x l ≡ true

-- the bound's literal is false, or it has none and is never reached
abbrev pub IsUnmet : List Bool → Bound → Type 0
IsUnmet x (Always id) = ⊥
IsUnmet x Never = Unit {0}
IsUnmet x (At l id) = lit_true x l ≡ false

module _ (p : ProblemValue) (lines : List Line) (s : StateValue) (reached : IsReplay p lines s) where
  pub row_reaches : (r : CostRowValue) (v : ℤ) (bound : Bound) (x : List Bool) → IsCostBound p lines r v bound
      → LiveHold s x → IsMet x bound → v ≤ℤ row_cost x r
  row_reaches r v (Always id) x is hold met =
      always_reaches s x hold r v id (is s reached).covers
  row_reaches r v Never x is hold met = absurd met
  row_reaches r v (At l id) x is hold met =
      let all : All (λ m. lit_true x m ≡ true) (l ∷ []) =
      All-cons (λ m. lit_true x m ≡ true) l [] met (All-nil (λ m. lit_true x m ≡ true)) in
      line_reaches s x hold r v id (AreTruthsWith l) (l ∷ []) (alone l) all (is s reached).covers

  pub row_stays : (r : CostRowValue) (v : ℤ) (bound : Bound) (x : List Bool) → IsCostBound p lines r v bound
      → All (Holds x) p.rows → KeptHold p lines s x → IsUnmet x bound → row_cost x r <ℤ v
  row_stays r v (Always id) x is rows kept unmet = absurd unmet
  row_stays r v Never x is rows kept unmet = is s reached x rows kept
  row_stays r v (At l id) x is rows kept unmet = by_lt_z (row_cost x r) v
      (λ (less : row_cost x r <ℤ v). less)
      (λ (more : v ≤ℤ row_cost x r).
      let never : true ≡ false = sym ((is s reached).follows x rows kept more) ∙ unmet in
      cc)

-- a cost is below 2^63
pub cost_small : (x : List Bool) (r : CostRowValue) → IsCostRow r.terms r.offset → row_cost x r <ℤ pos (2 ^ 63)
cost_small x r is =
    let most = value-opposites x r.terms in
    let high : (r.offset +ℤ pos (total r.terms)) <ℤ pos (2 ^ 63) = is.greatest in
    omega (arith, ints)

-- ---- all rows

test_from_le : (a b : ℤ) → a ≤ℤ b → not (int_lt b a) ≡ true
test_from_le a b h = not_from_false (int_lt b a) (grind (arith, ints))

module _ (x : List Bool) where
  -- the costs don't exceed the numbers at the same places
  abbrev pub AreWithin : List CostRowValue → List ℤ → Type 0
  AreWithin rows limits =
      (i : ℕ) (d : CostRowValue) (e : ℤ) → i < length limits → row_cost x (get_or rows i d) ≤ℤ get_or limits i e

  pub all_below : (rows : List CostRowValue) (limits : List ℤ) → length limits ≡ length rows → AreWithin rows limits
      → IsBelow (map (row_cost x) rows) limits
  all_below [] [] long within = refl
  all_below [] (v ∷ limits) long within = absurd (omega arith)
  all_below (r ∷ rows) [] long within = absurd (omega arith)
  all_below (r ∷ rows) (v ∷ limits) long within =
      and_from (not (int_lt v (row_cost x r))) (is_below (map (row_cost x) rows) limits)
      (test_from_le (row_cost x r) v (within 0 r v (omega arith)))
      (all_below rows limits (omega arith) (λ i d e short. within (suc i) d e (omega arith)))
