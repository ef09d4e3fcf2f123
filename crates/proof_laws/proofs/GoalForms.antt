-- Each requirement of a substitution, of a size that is allowed, is a constraint in normal form.
use Rattle.std.proofs.Common.{◌≡◌, ◌⊎◌, inl, inr, ℕ, ◌+◌, ◌*◌, ◌<◌, ◌≤◌, ◌==◌, Bool, true, false, not, if◌then◌else◌, List, [], ◌∷◌, ◌++◌, map, length, sum_by, refl, arith, ap, ◌∙◌, pos, ◌-ℤ◌}
use Rattle.std.specs.Prelude.{◌^◌}
use Rattle.std.specs.List.{All}
use Rattle.std.proofs.lemmas.Int.{ints}
use Rattle.std.proofs.lemmas.List.Elements.{All-nil, All-cons, All-head, All-tail, All-map}
use Rattle.std.proofs.lemmas.List.Sums.{sum_by-cons, sum_by-append}
use Rattle.scut_base.specs.Literal.{Literal}
use Rattle.scut_base.specs.Assignment.{value_of, lit_true}
use Rattle.pb_lin.specs.Constraint.{ConstraintValue, opposite, size, term_value, total, value}
use Rattle.pb_lin.specs.CostRow.{CostRowValue}
use Rattle.pb_lin.specs.Problem.{ProblemValue, IsProblem}
use Rattle.pb_lin.specs.Substitution.{Images, image_true, variable_under, true_under, value_under}
use Rattle.pb_lin.specs.declared.witness.Image.{Image}
use Rattle.pb_lin.specs.declared.witness.Image.TheVariants.{Zero, One, Lit}
use Rattle.cutting_planes.proofs.Terms.{Terms, total-cons, value-cons}
use Rattle.proof_laws.specs.WellFormed.{IsVariable, IsImage, IsSubstitution}
use Rattle.proof_laws.specs.Substituted.{Requirement, IsGoalOf, holds_after, not_risen, none_risen, has_fallen}
use Rattle.proof_laws.specs.declared.goal.Goal.{Goal}
use Rattle.proof_laws.proofs.Definitions.{value-opposites}
use Rattle.proof_laws.proofs.NormalForms.{AreTerms, terms_tail, terms_append, goal_exists}

-- ---- literals under a substitution

-- a truth value that is the same at every assignment, or that of a literal
abbrev IsTruth : (List Bool → Bool) → Type 0
IsTruth f = ((b : Bool) × ((a : List Bool) → f a ≡ b)) ⊎ ((l : Literal) × (0 < l.var) × ((a : List Bool) → f a ≡ lit_true a l))

not_if : (neg v : Bool) → not (if neg then not v else v) ≡ (if not neg then not v else v)
not_if true true = refl
not_if true false = refl
not_if false true = refl
not_if false false = refl

-- a truth, and its opposite
signed : (neg : Bool) (f : List Bool → Bool) → IsTruth f → IsTruth (λ a. if neg then not (f a) else f a)
signed false f truth = truth
signed true f (inl constant) = inl (not constant.0, λ a. ap not (constant.1 a))
signed true f (inr literal) = inr (opposite literal.0, literal.1, λ a. ap not (literal.2 a) ∙ not_if literal.0.neg (value_of a literal.0.var))

image_truth : (image : Image) → IsImage image → IsTruth (λ a. image_true a image)
image_truth Zero formed = inl (false, λ a. refl)
image_truth One formed = inl (true, λ a. refl)
image_truth (Lit l) formed = inr (l, formed.0, λ a. refl)

abbrev AreImages : Images → Type 0
AreImages w = All (λ i. IsVariable i.0 × IsImage i.1) w

-- one of two truths, by a test that no assignment changes
with_test : (b : Bool) (f g : List Bool → Bool) → IsTruth f → IsTruth g → IsTruth (λ a. if b then f a else g a)
with_test true f g first second = first
with_test false f g first second = second

variable_truth : (w : Images) (var : ℕ) → AreImages w → 0 < var → IsTruth (λ a. variable_under w a var)
variable_truth [] var images from_one = inr (record { var = var; neg = false }, from_one, λ a. refl)
variable_truth (i ∷ w) var images from_one =
    with_test (i.0 == var) (λ a. image_true a i.1) (λ a. variable_under w a var)
    (image_truth i.1 (All-head (λ j. IsVariable j.0 × IsImage j.1) i w images).1)
    (variable_truth w var (All-tail (λ j. IsVariable j.0 × IsImage j.1) i w images) from_one)

literal_truth : (w : Images) (l : Literal) → AreImages w → 0 < l.var → IsTruth (λ a. true_under w a l)
literal_truth w l images from_one = signed l.neg (λ a. variable_under w a l.var) (variable_truth w l.var images from_one)

-- ---- terms under a substitution

-- terms that have the values of others under the substitution, but for a constant
record AreUnder (w : Images) (terms : Terms) : Type 0 where
  under : Terms
  constant : ℕ
  are : AreTerms under
  same : (a : List Bool) → value_under w a terms ≡ value a under + constant
  small : total under + constant ≤ total terms

-- one term more: it is constant, or that of a literal
under_more : (w : Images) (t : Literal × ℕ) (ts : Terms) → 0 < t.1 → IsTruth (λ a. true_under w a t.0) → AreUnder w ts → AreUnder w (t ∷ ts)
under_more w t ts positive (inl (true, same)) rest = record {
  under = rest.under;
  constant = t.1 + rest.constant;
  are = rest.are;
  same = λ a.
      let whole = sum_by-cons (λ u. if true_under w a u.0 then u.1 else 0) t ts in
      let first = ap (λ (b : Bool). if b then t.1 else 0) (same a) in
      let later = rest.same a in
      omega arith;
  small = let whole = total-cons t ts in let later = rest.small in omega arith;
}
under_more w t ts positive (inl (false, same)) rest = record {
  under = rest.under;
  constant = rest.constant;
  are = rest.are;
  same = λ a.
      let whole = sum_by-cons (λ u. if true_under w a u.0 then u.1 else 0) t ts in
      let first = ap (λ (b : Bool). if b then t.1 else 0) (same a) in
      let later = rest.same a in
      omega arith;
  small = let whole = total-cons t ts in let later = rest.small in omega arith;
}
under_more w t ts positive (inr (l, from_one, same)) rest = record {
  under = (l, t.1) ∷ rest.under;
  constant = rest.constant;
  are = record { positive = All-cons (λ u. 0 < u.1) (l, t.1) rest.under positive rest.are.positive; from_one = All-cons (λ u. 0 < u.0.var) (l, t.1) rest.under from_one rest.are.from_one };
  same = λ a.
      let whole = sum_by-cons (λ u. if true_under w a u.0 then u.1 else 0) t ts in
      let first = ap (λ (b : Bool). if b then t.1 else 0) (same a) in
      let made = value-cons a (l, t.1) rest.under in
      let later = rest.same a in
      omega arith;
  small = let whole = total-cons t ts in let made = total-cons (l, t.1) rest.under in let later = rest.small in omega arith;
}

terms_under : (w : Images) (terms : Terms) → AreImages w → AreTerms terms → AreUnder w terms
terms_under w [] images are = record { under = []; constant = 0; are = are; same = λ a. refl; small = omega arith }
terms_under w (t ∷ ts) images are =
    under_more w t ts (All-head (λ u. 0 < u.1) t ts are.positive) (literal_truth w t.0 images (All-head (λ u. 0 < u.0.var) t ts are.from_one)) (terms_under w ts images (terms_tail t ts are))

-- ---- differences

-- terms whose value is what f is above g, and an amount; all are within n
record AreAbove (n : ℕ) (f g : List Bool → ℕ) : Type 0 where
  terms : Terms
  amount : ℕ
  are : AreTerms terms
  same : (a : List Bool) → value a terms + g a ≡ f a + amount
  small : total terms + amount ≤ n

opposite_terms : (terms : Terms) → AreTerms terms → AreTerms (map (λ t. (opposite t.0, t.1)) terms)
opposite_terms terms are = record {
  positive = All-map (λ t. 0 < t.1) (λ t. (opposite t.0, t.1)) terms are.positive;
  from_one = All-map (λ t. 0 < t.0.var) (λ t. (opposite t.0, t.1)) terms are.from_one;
}

total-opposites : (terms : Terms) → total (map (λ t. (opposite t.0, t.1)) terms) ≡ total terms
total-opposites [] = refl
total-opposites (t ∷ ts) =
    let whole = total-cons t ts in
    let made = total-cons (opposite t.0, t.1) (map (λ u. (opposite u.0, u.1)) ts) in
    let rest = total-opposites ts in
    omega arith

-- what a row is above itself under the substitution
row_above : (w : Images) (terms : Terms) → AreImages w → AreTerms terms → AreAbove (3 * total terms) (λ a. value a terms) (λ a. value_under w a terms)
row_above w terms images are =
    let made = terms_under w terms images are in
    let turned = map (λ t. (opposite t.0, t.1)) made.under in
    let small = made.small in
    record {
      terms = terms ++ turned;
      amount = total made.under + made.constant;
      are = terms_append terms turned are (opposite_terms made.under made.are);
      same = λ a.
          let sum = sum_by-append (term_value a) terms turned in
          let both = value-opposites a made.under in
          let is = made.same a in
          omega arith;
      small = let sum = sum_by-append (λ t. t.1) terms turned in let same = total-opposites made.under in omega arith;
    }

-- what a cost row's terms keep to: their variables may be in any order
abbrev pub IsSmallRow : CostRowValue → Type 0
IsSmallRow r = AreTerms r.terms × (total r.terms < 2 ^ 63)

-- the same of the sum of rows
rows_above : (w : Images) (rs : List CostRowValue) → AreImages w → All IsSmallRow rs →
    AreAbove (length rs * 2 ^ 65) (λ a. sum_by (λ r. value a r.terms) rs) (λ a. sum_by (λ r. value_under w a r.terms) rs)
rows_above w [] images rows = record { terms = []; amount = 0; are = record { positive = All-nil (λ t. 0 < t.1); from_one = All-nil (λ t. 0 < t.0.var) }; same = λ a. refl; small = omega arith }
rows_above w (r ∷ rs) images rows =
    let row = All-head IsSmallRow r rs rows in
    let few = row.1 in
    let one = row_above w r.terms images row.0 in
    let rest = rows_above w rs images (All-tail IsSmallRow r rs rows) in
    record {
      terms = one.terms ++ rest.terms;
      amount = one.amount + rest.amount;
      are = terms_append one.terms rest.terms one.are rest.are;
      same = λ a.
          let sum = sum_by-append (term_value a) one.terms rest.terms in
          let values = sum_by-cons (λ q. value a q.terms) r rs in
          let under = sum_by-cons (λ q. value_under w a q.terms) r rs in
          let first = one.same a in
          let later = rest.same a in
          omega arith;
      small =
          let sum = sum_by-append (λ t. t.1) one.terms rest.terms in
          let first = one.small in
          let later = rest.small in
          omega arith;
    }

-- ---- requirements

-- the requirement is a constraint, where its size is allowed
abbrev pub IsForm : Requirement → Type 0
IsForm q = 2 * q.size ≤ 2 ^ 100 → (g : ConstraintValue) × IsGoalOf g q

module _ (w : Images) (formed : IsSubstitution w) where
  -- a constraint after the substitution, an objective that hasn't risen, and the sum that has fallen
  pub holds_form : (name : Goal) (c : ConstraintValue) → AreTerms c.terms → IsForm (holds_after w name c)
  holds_form name c are fits =
      let made = terms_under w c.terms formed.images are in
      let small = made.small in
      goal_exists (size c) (holds_after w name c).excess (record {
        terms = made.under;
        least = pos c.degree -ℤ pos made.constant;
        upto = c.degree;
        are = made.are;
        same = λ a. let is = made.same a in omega (arith, ints);
        below = omega (arith, ints);
        small = omega arith;
      }) (omega arith)

  risen_form : (i : ℕ) (r : CostRowValue) → IsSmallRow r → IsForm (not_risen w i r)
  risen_form i r row fits =
      let few = row.1 in
      let above = row_above w r.terms formed.images row.0 in
      goal_exists (3 * total r.terms) (not_risen w i r).excess (record {
        terms = above.terms;
        least = pos above.amount;
        upto = above.amount;
        are = above.are;
        same = λ a. let is = above.same a in omega (arith, ints);
        below = omega (arith, ints);
        small = above.small;
      }) (omega arith)

  pub none_risen_forms : (i : ℕ) (rs : List CostRowValue) → All IsSmallRow rs → All IsForm (none_risen w i rs)
  none_risen_forms i [] rows = All-nil IsForm
  none_risen_forms i (r ∷ rs) rows =
      All-cons IsForm (not_risen w i r) (none_risen w (i + 1) rs) (risen_form i r (All-head IsSmallRow r rs rows)) (none_risen_forms (i + 1) rs (All-tail IsSmallRow r rs rows))

  pub fallen_form : (p : ProblemValue) → length p.costs ≤ 64 → All IsSmallRow p.costs → IsForm (has_fallen w p)
  fallen_form p few rows fits =
      let above = rows_above w p.costs formed.images rows in
      let small = above.small in
      goal_exists (2 ^ 72) (has_fallen w p).excess (record {
        terms = above.terms;
        least = pos (above.amount + 1);
        upto = above.amount + 1;
        are = above.are;
        same = λ a. let is = above.same a in omega (arith, ints);
        below = omega (arith, ints);
        small = omega arith;
      }) (omega arith)

pub small_rows : (p : ProblemValue) → IsProblem p → All IsSmallRow p.costs
small_rows p problem k d short = let row = problem.cost_rows k d short in (record { positive = row.positive; from_one = row.from_one }, row.small)
