-- What is answered for "the sum is at least k", by an output of the root.
use Rattle.std.proofs.Common.{◌≡◌, ⊎_elim, inl, inr, ℕ, ◌<◌, ◌≤◌, ◌==◌, Bool, true, false, if◌then◌else◌, Some, List, [], ◌∷◌, ◌++◌, length, refl, ap, sym, subst, ◌∙◌, arith}
use Rattle.std.specs.FinMap.{get}
use Rattle.std.proofs.lemmas.Bool.{cases_Bool, cond-false, ne_eqb}
use Rattle.std.proofs.lemmas.List.Sums.{sum_by-cons}
use Rattle.scut_base.specs.Literal.{Literal}
use Rattle.scut_base.specs.Assignment.{lit_true}
use Rattle.pb_lin.specs.Constraint.{ConstraintValue, Covers, IsVariable, term_value, total, value}
use Rattle.pb_lin.specs.Problem.{ProblemValue}
use Rattle.pb_lin.specs.Restriction.{restriction}
use Rattle.cutting_planes.proofs.Terms.{Terms}
use Rattle.proof_laws.specs.State.{StateValue}
use Rattle.proof_laws.specs.Steps.{reached_if}
use Rattle.proof_laws.specs.declared.line.Line.{Line}
use Rattle.proof_rules.specs.Recording.{Snapshot}
use Rattle.sum_outputs.specs.Totals.{IsLeastSum}
use Rattle.sum_outputs.specs.Outputs.{IsDefined}
use Rattle.sum_outputs.specs.Joining.{IsOutputAt}
use Rattle.sum_outputs.specs.declared.sum_output.SumOutput.{SumOutput}
use Rattle.totalizer.specs.Meaning.{FollowsSum, AreTruthsWith, BoundsSum, IsDefinedFor, IsOutput, IsBoundAt}
use Rattle.totalizer.proofs.Restricted.{leaf_covers, defined_covers}

-- ---- a literal of its own

module _ (p : ProblemValue) (lines : List Line) (s : StateValue) (t : Literal × ℕ) (k : ℕ) (some : 0 < k)
    (most : k ≤ total (t ∷ [])) where
  weight_is : total (t ∷ []) ≡ t.1
  weight_is = let one = sum_by-cons (λ (u : Literal × ℕ). u.1) t [] in omega arith

  leaf_follows : FollowsSum p lines s (t ∷ []) k t.0
  leaf_follows x hold reach = ⊎_elim
      (λ (is : lit_true x t.0 ≡ true). is)
      (λ (other : lit_true x t.0 ≡ false).
      let one = sum_by-cons (term_value x) t [] in
      let none : term_value x t ≡ 0 = ap (λ (b : Bool). if b then t.1 else 0) other in
      absurd (omega arith))
      (cases_Bool (lit_true x t.0))

  pub leaf_bound : IsVariable s.vars t.0.var → IsBoundAt p lines s (t ∷ []) k t.0 0
  leaf_bound variable = record {
    variable = variable;
    own = inl refl;
    follows = leaf_follows;
    bounds = (
      record { terms = []; degree = 0 },
      refl,
      λ truths are. leaf_covers t.0 truths are t.1 k (let w = weight_is in omega arith),
    );
    output = (refl, refl);
  }

-- ---- by its definition

output_of : (p : ProblemValue) (s : StateValue) (terms : Terms) (k : ℕ) (l : Literal) (id : ℕ) →
    1 < length terms → IsDefinedFor p s terms k l id → IsOutput p s terms k l id
output_of p s [] k l id long is = absurd (omega arith)
output_of p s (t ∷ []) k l id long is = absurd (omega arith)
output_of p s (t ∷ u ∷ ts) k l id long is = is

module _ (a : Snapshot) (s : StateValue) (terms : Terms) (k : ℕ) (o : SumOutput) (is : IsOutputAt a s terms o)
    (defined : IsDefined a s terms o) (least : IsLeastSum terms k o.sum) where
  output_follows : FollowsSum a.problem a.lines s terms k o.lit
  output_follows x hold reach = is.follows x hold (least.least (value x terms) (x, refl) reach)

  abbrev line : ConstraintValue
  line = reached_if o.lit.var defined.sum

  abbrev last : Literal × ℕ
  last = (record { var = o.lit.var; neg = true }, defined.sum.degree)

  line_is : line ≡ record { terms = defined.sum.terms ++ last ∷ []; degree = defined.sum.degree }
  line_is = ap (λ (ts : Terms). record { terms = defined.sum.terms ++ ts; degree = defined.sum.degree })
      (cond-false (defined.sum.degree == 0) [] (last ∷ [])
      (ne_eqb defined.sum.degree 0 (λ e. let d = defined.degree in let some = is.literal.some in omega arith)))

  covers : (truths : List Literal) → AreTruthsWith o.lit truths →
      Covers (restriction line truths) (restriction (record { terms = terms; degree = k }) truths)
  covers truths are =
      let d = defined.degree in
      let reach = least.reaches in
      let some = is.literal.some in
      let positive : o.lit.neg ≡ false = ap (λ (l : Literal). l.neg) defined.positive in
      let Of : ConstraintValue → Type 0 =
      λ c. Covers (restriction c truths) (restriction (record { terms = terms; degree = k }) truths) in
      subst Of (sym line_is) (defined_covers o.lit truths are terms defined.sum.terms k defined.sum.degree defined.order
      (omega arith) positive (omega arith))

  output_bounds : BoundsSum s terms k o.lit o.lower
  output_bounds = (
    line,
    cond-false (o.lower == 0) (Some (record { terms = []; degree = 0 })) (get s.live o.lower)
        (ne_eqb o.lower 0 (λ e. let n = defined.named in omega arith)) ∙ defined.lower.0,
    covers,
  )

  output_defined : IsDefinedFor a.problem s terms k o.lit o.lower
  output_defined = record {
    sum = defined.sum;
    least = subst (λ (n : ℕ). IsLeastSum terms k n) (sym defined.degree) least;
    order = record { normal = defined.normal; degree = refl; order = defined.order };
    above = defined.above;
    positive = defined.positive;
    line = defined.lower.0;
  }

  pub output_bound : 1 < length terms → IsBoundAt a.problem a.lines s terms k o.lit o.lower
  output_bound long = record {
    variable = is.literal.variable;
    own = inr (line, defined.lower);
    follows = output_follows;
    bounds = output_bounds;
    output = output_of a.problem s terms k o.lit o.lower long output_defined;
  }
