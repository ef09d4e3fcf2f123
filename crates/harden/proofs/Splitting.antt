-- Terms of which one variable is told apart.
use Rattle.std.proofs.Common.{◌≡◌, ◌≢◌, ℕ, ◌+◌, ◌==◌, Bool, true, false, not, cond, if◌then◌else◌, List, [], ◌∷◌, get_or, sum_by, refl, ap, sym, ◌∙◌, arith}
use Rattle.std.specs.List.{All, filter}
use Rattle.std.proofs.lemmas.Bool.{cond-true, cond-false, eq-eqb, ne_eqb, eqb-true}
use Rattle.std.proofs.lemmas.List.Elements.{All-head, All-tail}
use Rattle.std.proofs.lemmas.List.Sums.{sum_by-cons}
use Rattle.scut_base.specs.Literal.{Literal}
use Rattle.scut_base.proofs.Lists.{all_filter_if}
use Rattle.scut_base.specs.Assignment.{value_of, lit_true}
use Rattle.pb_lin.specs.Constraint.{opposite, term_value, total, value}
use Rattle.pb_lin.specs.Substitution.{image_true, true_under, value_under, variable_under}
use Rattle.cutting_planes.specs.Rules.{coefficient_in}
use Rattle.cutting_planes.proofs.Terms.{Terms}
use Rattle.harden.specs.Hardened.{falsified, false_image}
use Rattle.harden.specs.Laws.{OnlyAs, coefficient}

-- the terms of other variables
abbrev pub others : ℕ → Terms → Terms
others var ts = filter (λ t. not (t.0.var == var)) ts

-- a sum over terms, of which those of one variable are worth a given share
module _ (f : Literal × ℕ → ℕ) (var : ℕ) (b : Bool) where
  pub parts : (ts : Terms) → All (λ t. t.0.var ≡ var → f t ≡ (if b then t.1 else 0)) ts → sum_by f ts ≡ (if b then coefficient var ts else 0) + sum_by f (others var ts)
  parts [] each = by b
    where
      by : (d : Bool) → 0 ≡ (if d then 0 else 0) + 0
      by true = refl
      by false = refl
  parts (t ∷ ts) each =
      let whole = sum_by-cons f t ts in
      let coefs = sum_by-cons (coefficient_in var) t ts in
      let rest = parts ts (All-tail (λ u. u.0.var ≡ var → f u ≡ (if b then u.1 else 0)) t ts each) in
      by (t.0.var == var) b refl (All-head (λ u. u.0.var ≡ var → f u ≡ (if b then u.1 else 0)) t ts each) whole coefs rest
    where
      by : (same d : Bool) → (t.0.var == var) ≡ same → (t.0.var ≡ var → f t ≡ (if d then t.1 else 0)) → sum_by f (t ∷ ts) ≡ f t + sum_by f ts → coefficient var (t ∷ ts) ≡ (if same then t.1 else 0) + coefficient var ts → sum_by f ts ≡ (if d then coefficient var ts else 0) + sum_by f (others var ts)
          → sum_by f (t ∷ ts) ≡ (if d then coefficient var (t ∷ ts) else 0) + sum_by f (cond (not same) (t ∷ others var ts) (others var ts))
      by true true e here whole coefs rest = let own = here (eqb-true t.0.var var e) in omega arith
      by true false e here whole coefs rest = let own = here (eqb-true t.0.var var e) in omega arith
      by false true e here whole coefs rest = let more = sum_by-cons f t (others var ts) in omega arith
      by false false e here whole coefs rest = let more = sum_by-cons f t (others var ts) in omega arith

pub split_total : (var : ℕ) (ts : Terms) → total ts ≡ coefficient var ts + total (others var ts)
split_total var ts = parts (λ t. t.1) var true ts (λ k d short e. refl)

-- the literal of that variable is this one
pub split_value : (m : Literal) (ts : Terms) (x : List Bool) → OnlyAs m ts → value x ts ≡ (if lit_true x m then coefficient m.var ts else 0) + value x (others m.var ts)
split_value m ts x only = parts (term_value x) m.var (lit_true x m) ts (λ k d short e. ap (λ (n : Literal). if lit_true x n then (get_or ts k d).1 else 0) (only k d short e))

-- ---- under the substitution

other_truth : (l : Literal) (x : List Bool) (n : Literal) → n.var ≢ l.var → true_under (falsified l) x n ≡ lit_true x n
other_truth l x n other = ap (λ (b : Bool). if n.neg then not b else b) (cond-false (l.var == n.var) _ (value_of x n.var) (ne_eqb l.var n.var (λ e. other (sym e))))

image_is : (x : List Bool) (b : Bool) → image_true x (false_image b) ≡ b
image_is x true = refl
image_is x false = refl

at_variable : (l : Literal) (x : List Bool) → variable_under (falsified l) x l.var ≡ l.neg
at_variable l x = cond-true (l.var == l.var) (image_true x (false_image l.neg)) (value_of x l.var) (eq-eqb l.var l.var refl) ∙ image_is x l.neg

pub own_truth : (l : Literal) (x : List Bool) → true_under (falsified l) x l ≡ false
own_truth l x = ap (λ (b : Bool). if l.neg then not b else b) (at_variable l x) ∙ by l.neg
  where
    by : (b : Bool) → (if b then not b else b) ≡ false
    by true = refl
    by false = refl

pub opposite_truth : (l : Literal) (x : List Bool) → true_under (falsified l) x (opposite l) ≡ true
opposite_truth l x = ap (λ (b : Bool). if not l.neg then not b else b) (at_variable l x) ∙ by l.neg
  where
    by : (b : Bool) → (if not b then not b else b) ≡ true
    by true = refl
    by false = refl

pub others_apart : (var : ℕ) (ts : Terms) → All (λ t. t.0.var ≢ var) (others var ts)
others_apart var ts = all_filter_if (λ t. t.0.var ≢ var) (λ t. not (t.0.var == var)) ts (λ k d short is. not_equal (get_or ts k d).0.var is)
  where
    not_equal : (n : ℕ) → not (n == var) ≡ true → n ≢ var
    not_equal n is e = by (n == var) (eq-eqb n var e) is
      where
        by : (b : Bool) → b ≡ true → not b ≡ true → ⊥
        by true one other = cc
        by false one other = cc

-- terms of other variables are worth the same
others_value : (l : Literal) (x : List Bool) (ts : Terms) → All (λ t. t.0.var ≢ l.var) ts → value_under (falsified l) x ts ≡ value x ts
others_value l x [] apart = refl
others_value l x (t ∷ ts) apart =
    let one = sum_by-cons (λ (u : Literal × ℕ). if true_under (falsified l) x u.0 then u.1 else 0) t ts in
    let other = sum_by-cons (term_value x) t ts in
    let here : (if true_under (falsified l) x t.0 then t.1 else 0) ≡ term_value x t =
    ap (λ (b : Bool). if b then t.1 else 0) (other_truth l x t.0 (All-head (λ u. u.0.var ≢ l.var) t ts apart)) in
    let rest = others_value l x ts (All-tail (λ u. u.0.var ≢ l.var) t ts apart) in
    omega arith

-- what the terms are worth after the substitution
pub under_value : (l m : Literal) (ts : Terms) (x : List Bool) (b : Bool) → m.var ≡ l.var → true_under (falsified l) x m ≡ b → OnlyAs m ts → value_under (falsified l) x ts ≡ (if b then coefficient l.var ts else 0) + value x (others l.var ts)
under_value l m ts x b same truth only =
    let split = parts (λ u. if true_under (falsified l) x u.0 then u.1 else 0) l.var b ts
    (λ k d short e. ap (λ (n : Literal). if true_under (falsified l) x n then (get_or ts k d).1 else 0) (only k d short (e ∙ sym same)) ∙ ap (λ (c : Bool). if c then (get_or ts k d).1 else 0) truth) in
    let rest = others_value l x (others l.var ts) (others_apart l.var ts) in
    omega arith
