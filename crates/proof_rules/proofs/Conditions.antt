-- What judging a line asks for, and what its answers come to.
use Rattle.std.proofs.Common.{◌≡◌, ℕ, ◌≤◌, ◌==◌, ◌&&◌, Bool, true, Option, None, Some, Result, Err, List, [], ◌∷◌, ◌++◌, refl, sym, subst, ap, ◌∙◌}
use Rattle.std.specs.List.{All, flat_map, list_all}
use Rattle.std.proofs.lemmas.Bool.{eq-eqb}
use Rattle.std.proofs.lemmas.List.Elements.{All-nil, All-cons, All-head, All-tail}
use Rattle.scut_base.specs.Literal.{Literal}
use Rattle.pb_lin.specs.Constraint.{ConstraintValue, AreOnes, UpTo}
use Rattle.pb_lin.specs.Substitution.{Images, ImageUpTo}
use Rattle.pb_lin.specs.declared.witness.Image.{Image}
use Rattle.pb_lin.specs.declared.witness.Image.TheVariants.{Zero, One, Lit}
use Rattle.cutting_planes.proofs.OneValue.{at_most_one}
use Rattle.hint_rup.specs.declared.hint.Hint.{Hint}
use Rattle.proof_laws.specs.WellFormed.{IsImage, IsSubstitution, IsVariable, IsWellFormed}
use Rattle.proof_laws.specs.State.{StateValue}
use Rattle.proof_laws.specs.Refusal.{FirstOf, fault_unless, given_in, image_variables, is_clause, pol_fault, proof_variables, range_fault, term_variables, written}
use Rattle.proof_laws.specs.declared.goal.Goal.{Goal}
use Rattle.proof_laws.specs.declared.goal.GoalProof.{GoalProof}
use Rattle.proof_laws.specs.declared.line.Line.{Line}
use Rattle.proof_laws.specs.declared.line.Line.TheVariants.{Pol, Rup, Learn, Red, Dom}
use Rattle.proof_laws.specs.declared.why.Why.{Why}
use Rattle.proof_laws.specs.declared.why.Why.TheVariants.{NotClause}
use Rattle.proof_laws.proofs.Ranges.{all_prefix, all_suffix, range_bounds, terms_upto}
use Rattle.proof_rules.specs.Verdict.{ImagesUpTo, IsValueFault, IsVerdict}
use Rattle.proof_rules.specs.declared.fault.StepFault.{StepFault}
use Rattle.proof_rules.specs.declared.fault.StepFault.TheVariants.{Refused}

-- ---- clauses

ones_tested : (terms : List (Literal × ℕ)) → AreOnes terms → list_all (λ t. t.1 == 1) terms ≡ true
ones_tested [] ones = refl
ones_tested (t ∷ terms) ones =
    ap (λ (b : Bool). b && list_all (λ u. u.1 == 1) terms) (eq-eqb t.1 1 (All-head (λ u. u.1 ≡ 1) t terms ones))
    ∙ ones_tested terms (All-tail (λ u. u.1 ≡ 1) t terms ones)

clause_tested : (c : ConstraintValue) → AreOnes c.terms × (c.degree ≡ 1) → is_clause c ≡ true
clause_tested c ones = ap (λ (b : Bool). b && (c.degree == 1)) (ones_tested c.terms ones.0) ∙ eq-eqb c.degree 1 ones.1

-- a clause is judged by what comes after that test
pub clause_judged : (c : ConstraintValue) (J : Option Why → Type 0) (r : Result (Unit {0}) StepFault) → AreOnes c.terms × (c.degree ≡ 1) → IsVerdict J r → IsVerdict (FirstOf (fault_unless (is_clause c) NotClause) J) r
clause_judged c J r ones is = subst (λ (b : Bool). IsVerdict (FirstOf (fault_unless b NotClause) J) r) (sym (clause_tested c ones)) is

-- ---- variables that are written

abbrev AreWritten : ℕ → Line → Type 0
AreWritten n line = range_fault n (written line) ≡ None

pub rup_upto : (n : ℕ) (line : Line) (goal : ConstraintValue) (hints : List Hint) → line ≡ Rup goal hints → AreWritten n line → UpTo n goal
rup_upto n line goal hints is range = terms_upto n goal.terms (range_bounds n (term_variables goal.terms) (subst (AreWritten n) is range))

pub learn_upto : (n : ℕ) (line : Line) (goal : ConstraintValue) (hints : List Hint) → line ≡ Learn goal hints → AreWritten n line → UpTo n goal
learn_upto n line goal hints is range = terms_upto n goal.terms (range_bounds n (term_variables goal.terms) (subst (AreWritten n) is range))

abbrev others : Images → List (Goal × GoalProof) → List ℕ
others w proofs = flat_map image_variables w ++ flat_map (λ q. proof_variables q.1) proofs

goal_upto : (n : ℕ) (goal : ConstraintValue) (w : Images) (proofs : List (Goal × GoalProof)) → range_fault n (term_variables goal.terms ++ others w proofs) ≡ None → UpTo n goal
goal_upto n goal w proofs range = terms_upto n goal.terms (all_prefix (λ v. v ≤ n) (term_variables goal.terms) (others w proofs) (range_bounds n (term_variables goal.terms ++ others w proofs) range))

image_upto : (n var : ℕ) (image : Image) → IsImage image → All (λ v. v ≤ n) (image_variables (var, image)) → ImageUpTo n image
image_upto n var Zero formed upto = tt
image_upto n var One formed upto = tt
image_upto n var (Lit l) formed upto = (formed.0, All-head (λ v. v ≤ n) l.var [] (All-tail (λ v. v ≤ n) var (l.var ∷ []) upto))

images_upto : (n : ℕ) (w : Images) → All (λ i. IsVariable i.0 × IsImage i.1) w → All (λ v. v ≤ n) (flat_map image_variables w) → ImagesUpTo n w
images_upto n [] formed upto = All-nil (λ i. ImageUpTo n i.1)
images_upto n (i ∷ w) formed upto = All-cons (λ j. ImageUpTo n j.1) i w
    (image_upto n i.0 i.1 (All-head (λ j. IsVariable j.0 × IsImage j.1) i w formed).1 (all_prefix (λ v. v ≤ n) (image_variables i) (flat_map image_variables w) upto))
    (images_upto n w (All-tail (λ j. IsVariable j.0 × IsImage j.1) i w formed) (all_suffix (λ v. v ≤ n) (image_variables i) (flat_map image_variables w) upto))

witness_upto : (n : ℕ) (goal : ConstraintValue) (w : Images) (proofs : List (Goal × GoalProof)) → IsSubstitution w → range_fault n (term_variables goal.terms ++ others w proofs) ≡ None → ImagesUpTo n w
witness_upto n goal w proofs formed range =
    let all = range_bounds n (term_variables goal.terms ++ others w proofs) range in
    let rest = all_suffix (λ v. v ≤ n) (term_variables goal.terms) (others w proofs) all in
    images_upto n w formed.images (all_prefix (λ v. v ≤ n) (flat_map image_variables w) (flat_map (λ q. proof_variables q.1) proofs) rest)

module _ (n : ℕ) (line : Line) (goal : ConstraintValue) (w : Images) (proofs : List (Goal × GoalProof)) where
  pub red_upto : line ≡ Red goal w proofs → AreWritten n line → UpTo n goal
  red_upto is range = goal_upto n goal w proofs (subst (AreWritten n) is range)

  pub red_images : line ≡ Red goal w proofs → IsWellFormed line → AreWritten n line → ImagesUpTo n w
  red_images is formed range = let own = subst IsWellFormed is formed in witness_upto n goal w proofs own.1 (subst (AreWritten n) is range)

  pub dom_upto : line ≡ Dom goal w proofs → AreWritten n line → UpTo n goal
  dom_upto is range = goal_upto n goal w proofs (subst (AreWritten n) is range)

  pub dom_images : line ≡ Dom goal w proofs → IsWellFormed line → AreWritten n line → ImagesUpTo n w
  dom_images is formed range = let own = subst IsWellFormed is formed in witness_upto n goal w proofs own.1 (subst (AreWritten n) is range)

-- ---- values of tokens

none_and_some : (s : StateValue) (line : Line) (why : Why) → IsValueFault s line None → IsValueFault s line (Some why) → ⊥
none_and_some s (Pol tokens) why none some = let same = none.2 ∙ ap pol_fault (at_most_one (given_in s None None) tokens none.0 some.0 none.1 some.1) ∙ sym some.2 in cc
none_and_some s line why none some = cc

-- where the tokens have no fault, none is answered
pub value_never_refused : {T : Type 0} (s : StateValue) (line : Line) (r : Result T StepFault) (fault : StepFault) (why : Why) → IsValueFault s line None → IsVerdict (IsValueFault s line) r → r ≡ Err fault → fault ≡ Refused why → ⊥
value_never_refused {T} s line r fault why none is err refused =
    none_and_some s line why none (subst (λ (x : Result T StepFault). IsVerdict (IsValueFault s line) x) (err ∙ ap Err refused) is)
