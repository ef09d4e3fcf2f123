-- Whether a line bounds an objective from below is decided, by terms in normal form.
use Rattle.std.proofs.Common.{inl, inr, ℕ, ◌+◌, ◌<◌, ◌≤◌, Bool, not, List, map, filter, arith, ⊎_elim}
use Rattle.std.specs.Prelude.{◌^◌}
use Rattle.std.proofs.lemmas.Bool.{cases_lt}
use Rattle.std.proofs.lemmas.List.Elements.{All-filter}
use Rattle.scut_base.proofs.Lists.{sum_by-filter-le}
use Rattle.scut_base.specs.Literal.{Literal}
use Rattle.pb_lin.specs.Constraint.{ConstraintValue, Covers, IsNormal, opposite, total, value}
use Rattle.pb_lin.specs.Cover.{greatest_excess}
use Rattle.pb_lin.specs.CostRow.{CostRowValue}
use Rattle.pb_lin.specs.Restriction.{is_set, restriction}
use Rattle.pb_lin.proofs.Covers.{excess_bound, excess_reached}
use Rattle.pb_lin.proofs.Truths.{IsNormal-restriction}
use Rattle.cutting_planes.proofs.Terms.{Terms}
use Rattle.proof_laws.specs.Refusal.{Bounds}
use Rattle.proof_laws.proofs.NormalForms.{AreTerms, IsNormalOf, normal_of}
use Rattle.proof_laws.proofs.GoalForms.{IsSmallRow}
use Rattle.proof_laws.proofs.Values.{IsDecided}

-- a number decides whether merged terms cover terms in any order
covers_decided : (p q : ConstraintValue) → IsNormal p.terms 0 → AreTerms q.terms → total q.terms ≤ 2 ^ 100 → IsDecided (Covers p q)
covers_decided p q normal are small = ⊎_elim
    (λ (less : made.1.cancelled + p.degree < most + q.degree). inr (λ (covers : Covers p q).
    let reached = excess_reached p.terms made.0 0 0 normal (made.1.normal 0 (omega arith)) in
    let here = covers reached.0 in
    let is = reached.1 in
    let same = made.1.same reached.0 in
    omega arith))
    (λ (enough : most + q.degree ≤ made.1.cancelled + p.degree). inl (λ (a : List Bool).
    let bound = excess_bound a p.terms made.0 normal.merged.rising in
    let same = made.1.same a in
    omega arith))
    (cases_lt (made.1.cancelled + p.degree) (most + q.degree))
  where
    made : (merged : Terms) × IsNormalOf merged q.terms 0
    made = normal_of q.terms 0 are (omega arith)

    most : ℕ
    most = greatest_excess p.terms made.0

-- whether a term is of a variable that the literals leave open
abbrev is_left : List Literal → Literal × ℕ → Bool
is_left truths t = not (is_set truths t.0.var)

left_terms : (truths : List Literal) (terms : Terms) → AreTerms terms → AreTerms (filter (is_left truths) terms)
left_terms truths terms are = record {
  positive = All-filter (is_left truths) (λ t. 0 < t.1) terms are.positive;
  from_one = All-filter (is_left truths) (λ t. 0 < t.0.var) terms are.from_one;
}

pub bounds_decided : (cut : List Literal) (a : List Bool) (c : ConstraintValue) (r : CostRowValue) → IsNormal c.terms c.degree → IsSmallRow r → IsDecided (Bounds cut a c r)
bounds_decided cut a c r normal row =
    let truths = map opposite cut in
    let whole : ConstraintValue = record { terms = r.terms; degree = value a r.terms } in
    let less = sum_by-filter-le (λ t. t.1) (is_left truths) r.terms in
    let few = row.1 in
    covers_decided (restriction c truths) (restriction whole truths) (IsNormal-restriction c.terms c.degree 0 (is_left truths) normal (omega arith)) (left_terms truths r.terms row.0) (omega arith)
