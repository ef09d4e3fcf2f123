-- What a substitution leaves as it is: a literal without an image; and all, where there are no images.
use Rattle.std.proofs.Common.{◌≡◌, ℕ, ◌+◌, ◌<◌, Bool, true, false, not, ◌||◌, ◌==◌, if◌then◌else◌, cond, List, [], ◌∷◌, length, map, get_or, None, Ok, refl, arith, ap, sym, subst, ◌∙◌, pos, ◌+ℤ◌, ◌-ℤ◌, inl, ℤ}
use Rattle.std.specs.Prelude.{◌^◌}
use Rattle.std.specs.List.{filter, list_any}
use Rattle.std.proofs.lemmas.Int.{ints}
use Rattle.std.proofs.lemmas.Bool.{eqb-true, false≢true}
use Rattle.scut_base.specs.Literal.{Literal}
use Rattle.scut_base.specs.Assignment.{lit_true, value_of}
use Rattle.pb_lin.specs.Constraint.{ConstraintValue, IsNormal, literals, term_value, value}
use Rattle.pb_lin.specs.CostRow.{CostRowValue}
use Rattle.pb_lin.specs.NormalForm.{sum_value}
use Rattle.pb_lin.specs.Substitution.{Images, has_image, image_true, touches, true_under, value_under, variable_under}
use Rattle.proof_laws.specs.State.{StateValue}
use Rattle.proof_laws.specs.Substituted.{IsGoalOf, Requirement, holds_after, none_risen, not_risen, touched_hold}
use Rattle.proof_laws.specs.Refusal.{IsFirstGoalFault}
use Rattle.proof_laws.specs.declared.goal.Goal.{Goal}
use Rattle.proof_laws.specs.declared.goal.Goal.TheVariants.{Row}
use Rattle.proof_laws.specs.declared.goal.GoalProof.{GoalProof}
use Rattle.proof_rules.specs.RowIndex.{HaveTouched}
use Rattle.proof_rules.proofs.GoalFaults.{goal_verdict}
use Rattle.proof_rules.proofs.TouchedRows.{no_row}

-- ---- a literal without an image

variable_kept : (w : Images) (a : List Bool) (var : ℕ) → has_image w var ≡ false → variable_under w a var ≡ value_of a var
variable_kept [] a var none = refl
variable_kept (i ∷ w) a var none = by (i.0 == var) none (variable_kept w a var)
  where
    by : (here : Bool) → (here || has_image w var) ≡ false → (has_image w var ≡ false → variable_under w a var ≡ value_of a var) → (if here then image_true a i.1 else variable_under w a var) ≡ value_of a var
    by true is rest = absurd (false≢true (sym is))
    by false is rest = rest is

literal_kept : (w : Images) (a : List Bool) (l : Literal) → has_image w l.var ≡ false → true_under w a l ≡ lit_true a l
literal_kept w a l none = ap (λ (b : Bool). if l.neg then not b else b) (variable_kept w a l.var none)

-- a term whose literal has no image changes no difference
pub term_kept : (a : List Bool) (w : Images) (l : Literal) (n : ℕ) (terms : List (ℤ × Literal)) → has_image w l.var ≡ false →
    sum_value a terms -ℤ pos 0 ≡ sum_value a terms +ℤ (pos (term_value a (l, n)) -ℤ pos (if true_under w a l then n else 0))
term_kept a w l n terms none =
    let same : (if true_under w a l then n else 0) ≡ term_value a (l, n) = ap (λ (b : Bool). if b then n else 0) (literal_kept w a l none) in
    let both = ap pos same in
    omega (arith, ints)

-- ---- no images

no_length : (w : Images) → length w ≡ 0 → w ≡ []
no_length [] none = refl
no_length (i ∷ w) none = absurd (omega arith)

-- by a test of these images
pub no_images : (images w : Images) (empty : Bool) → images ≡ w → empty ≡ (length images == 0) → empty ≡ true → w ≡ []
no_images images w empty same test is = sym same ∙ no_length images (eqb-true (length images) 0 (sym test ∙ is))

none_among : (lits : List Literal) → list_any (λ (l : Literal). has_image [] l.var) lits ≡ false
none_among [] = refl
none_among (l ∷ lits) = none_among lits

none_touched : (c : ConstraintValue) → touches [] c ≡ false
none_touched c = none_among (literals c.terms)

none_to_hold : (lines : List (ℕ × ConstraintValue)) → touched_hold [] lines ≡ []
none_to_hold [] = refl
none_to_hold (e ∷ lines) =
    let rest = filter (λ (f : ℕ × ConstraintValue). touches [] f.1) lines in
    ap (λ (b : Bool). map (λ (f : ℕ × ConstraintValue). holds_after [] (Row f.0) f.1) (cond b (e ∷ rest) rest)) (none_touched e.1) ∙ none_to_hold lines

-- no row is touched
pub no_places_touched : (w : Images) (rows : List ConstraintValue) (places : List ℕ) → w ≡ [] → places ≡ [] → HaveTouched w rows places
no_places_touched w rows places empty none = subst (λ (v : Images). HaveTouched v rows places) (sym empty) (subst (λ (ks : List ℕ). HaveTouched [] rows ks) (sym none) (record {
  rising = λ i j d less short. absurd (omega arith);
  within = λ k d short. absurd (omega arith);
  all = λ k d short touched. absurd (let off = none_touched (get_or rows k d) in cc);
}))

same_value : (a : List Bool) (terms : List (Literal × ℕ)) → value_under [] a terms ≡ value a terms
same_value a terms = refl

normal_none : IsNormal [] 0
normal_none = record {
  merged = record {
    positive = λ k d short. absurd (omega arith);
    from_one = λ k d short. absurd (omega arith);
    rising = λ i j d less short. absurd (omega arith);
  };
  small = omega arith;
}

-- the goal of an objective is "0 >= 0"
kept_goal : (i : ℕ) (row : CostRowValue) → IsGoalOf no_row (not_risen [] i row)
kept_goal i row = (
  normal_none,
  record {
    least = pos 0;
    same = λ a. let same = ap pos (same_value a row.terms) in omega (arith, ints);
    degree = refl;
  },
)

module _ (s : StateValue) (c : ConstraintValue) (proofs : List (Goal × GoalProof)) where
  -- no line has to hold
  pub lines_hold : (w : Images) (lines : List (ℕ × ConstraintValue)) → w ≡ [] → IsFirstGoalFault s c proofs (touched_hold w lines) None
  lines_hold w lines empty = subst (λ (v : Images). IsFirstGoalFault s c proofs (touched_hold v lines) None) (sym empty)
      (subst (λ (qs : List Requirement). IsFirstGoalFault s c proofs qs None) (sym (none_to_hold lines)) refl)

  all_kept : (rows : List CostRowValue) (i : ℕ) → IsFirstGoalFault s c proofs (none_risen [] i rows) None
  all_kept [] i = refl
  all_kept (row ∷ rows) i = (None, goal_verdict s c proofs (not_risen [] i row) no_row (λ (over : 2 ^ 100 < 0). omega arith) (kept_goal i row) (Ok tt) (inl (refl, refl)), all_kept rows (i + 1))

  -- no objective has risen
  pub objectives_kept : (w : Images) (rows : List CostRowValue) → w ≡ [] → IsFirstGoalFault s c proofs (none_risen w 1 rows) None
  objectives_kept w rows empty = subst (λ (v : Images). IsFirstGoalFault s c proofs (none_risen v 1 rows) None) (sym empty) (all_kept rows 1)
