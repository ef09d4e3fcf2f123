-- The truth of literals under the steps before a place.
use Rattle.std.proofs.Common.{◌≡◌, ◌≢◌, ℕ, ◌-◌, ◌<◌, ◌≤◌, Bool, true, false, not, if◌then◌else◌, Option, Some, None, List, take, get_or, refl, arith, ap, sym, ◌∙◌, subst}
use Rattle.std.specs.Option.{option_map}
use Rattle.std.specs.Prelude.{slice_get}
use Rattle.std.proofs.lemmas.Option.{none-some, slice_get_within, get_or_from_slice_get}
use Rattle.scut_base.specs.Literal.{Literal}
use Rattle.scut_base.specs.Assignment.{partial_truth}
use Rattle.pb_lin.specs.Constraint.{opposite}
use Rattle.pb_lin.proofs.AtPlace.{All_place}
use Rattle.clause_prop.specs.Steps.{TrailValue, AreSteps, assigned, partial, cut}
use Rattle.clause_prop.specs.declared.step.Step.{Step}
use Rattle.clause_prop.proofs.Assigned.{index, assigned-at, assigned-none}
use Rattle.cdcl_trail.specs.SearchTrail.{IsStepAt}
use Rattle.cdcl_trail.proofs.Places.{slice_get-take, at_front, all_front, all_places, pair_places, pairs_front}

-- the truth of a literal by the value of its variable
abbrev pub truth_by : Literal → Option Bool → Option Bool
truth_by l o = option_map (λ b. if l.neg then not b else b) o

pub steps_front : (n : ℕ) (steps : List Step) (keep : ℕ) → AreSteps n steps → AreSteps n (take keep steps)
steps_front n steps keep are = record {
  within = all_front (λ (s : Step). (0 < s.lit.var) × (s.lit.var ≤ n)) steps keep are.within;
  apart = pairs_front (λ (r s : Step). r.lit.var ≢ s.lit.var) steps keep are.apart;
}

-- a step's variable is within range
pub var_within : (n : ℕ) (steps : List Step) (q : ℕ) (s : Step) → AreSteps n steps → slice_get steps q ≡ Some s → (0 < s.lit.var) × (s.lit.var ≤ n)
var_within n steps q s are at = All_place (λ (r : Step). (0 < r.lit.var) × (r.lit.var ≤ n)) steps q s are.within at

-- the value of a step's variable
pub value_at : (n : ℕ) (steps : List Step) (q : ℕ) (s : Step) → AreSteps n steps → slice_get steps q ≡ Some s → get_or (assigned n steps) (s.lit.var - 1) None ≡ Some (not s.lit.neg)
value_at n steps q s are at =
    let is : get_or steps q s ≡ s = get_or_from_slice_get steps q s s at in
    subst (λ (r : Step). get_or (assigned n steps) (index r) None ≡ Some (not r.lit.neg)) is (assigned-at n steps q s are (slice_get_within steps q s at))

sign_false : (b : Bool) → option_map (λ v. if not b then not v else v) (Some (not b)) ≡ Some false
sign_false true = refl
sign_false false = refl

-- the opposite of a step's literal is false
pub opposite_false : (n : ℕ) (steps : List Step) (q : ℕ) (s : Step) → AreSteps n steps → slice_get steps q ≡ Some s → partial_truth (assigned n steps) (opposite s.lit) ≡ Some false
opposite_false n steps q s are at = ap (truth_by (opposite s.lit)) (value_at n steps q s are at) ∙ sign_false s.lit.neg

twice_not : (b : Bool) → not (not b) ≡ b
twice_not true = refl
twice_not false = refl

pub opposite_twice : (l m : Literal) → l ≡ opposite m → m ≡ opposite l
opposite_twice l m e = ap (λ (b : Bool). record { var = m.var; neg = b }) (sym (twice_not m.neg)) ∙ ap opposite (sym e)

-- a literal is false before p where its opposite is that of a step before p
pub false_before : (t : TrailValue) (p q : ℕ) (s : Step) (l : Literal) → AreSteps t.vars t.steps → IsStepAt t q s → q < p → s.lit ≡ opposite l → partial_truth (partial (cut t p)) l ≡ Some false
false_before t p q s l are at before is =
    ap (partial_truth (partial (cut t p))) (opposite_twice s.lit l is)
    ∙ opposite_false t.vars (take p t.steps) q s (steps_front t.vars t.steps p are) (slice_get-take t.steps p q before ∙ at)

-- a literal is open before p where the step of its variable stands at p or after it
pub open_before : (t : TrailValue) (p q : ℕ) (s : Step) (l : Literal) → AreSteps t.vars t.steps → IsStepAt t q s → p ≤ q → l.var ≡ s.lit.var → partial_truth (partial (cut t p)) l ≡ None
open_before t p q s l are at past same =
    ap (truth_by l) (ap (λ (v : ℕ). get_or (assigned t.vars (take p t.steps)) (v - 1) None) same ∙ assigned-none t.vars (take p t.steps) (index s) (all_places (λ (r : Step). index r ≢ index s) (take p t.steps) others))
  where
    others : (k : ℕ) (r : Step) → slice_get (take p t.steps) k ≡ Some r → index r ≢ index s
    others k r at_r e =
        let old = at_front t.steps p k r at_r in
        let here = var_within t.vars t.steps k r are old.1 in
        let there = var_within t.vars t.steps q s are at in
        pair_places (λ (a b : Step). a.lit.var ≢ b.lit.var) t.steps k q r s are.apart (omega (arith, old.0, past)) old.1 at (omega (arith, here.0, there.0, e))

-- a literal that is open is of no step's variable
pub open_apart : (n : ℕ) (steps : List Step) (l : Literal) (q : ℕ) (s : Step) → AreSteps n steps → partial_truth (assigned n steps) l ≡ None → slice_get steps q ≡ Some s → s.lit.var ≢ l.var
open_apart n steps l q s are none at same =
    let value : partial_truth (assigned n steps) l ≡ truth_by l (Some (not s.lit.neg)) = ap (truth_by l) (ap (λ (v : ℕ). get_or (assigned n steps) (v - 1) None) (sym same) ∙ value_at n steps q s are at) in
    none-some (if l.neg then not (not s.lit.neg) else not s.lit.neg) (sym none ∙ value)
