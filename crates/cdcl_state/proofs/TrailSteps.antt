-- The steps of a trail by their places, and what makes a literal false.
use Rattle.std.specs.Prelude.{min, ◌≡◌, ℕ, ◌-◌, ◌<◌, ◌≤◌, ◌⊎◌, Bool, true, false, not, if◌then◌else◌, Option, Some, None, option_map, List, [], ◌∷◌, take, length, slice_get, All, AllPairs, fold, refl}
use Rattle.std.proofs.Common.{zero, suc, sym, ◌∙◌, ap, subst, inl, inr, get_or, arith}
use Rattle.std.proofs.Math.Bool.{not-not}
use Rattle.std.proofs.lemmas.Bool.{cases_order}
use Rattle.std.proofs.lemmas.List.{get_or-take, length-take, take_all}
use Rattle.std.proofs.lemmas.List.Elements.{All-nil, All-cons, All-head}
use Rattle.std.proofs.lemmas.Option.{same_Some, slice_get_within, slice_get-get_or, get_or_from_slice_get}
use Rattle.scut_base.specs.Literal.{Literal}
use Rattle.scut_base.specs.Assignment.{partial_truth}
use Rattle.pb_lin.specs.Constraint.{opposite}
use Rattle.clause_prop.specs.declared.step.Step.{Step}
use Rattle.clause_prop.specs.Steps.{TrailValue, AreSteps, assigned, cut, partial, last_level}
use Rattle.clause_prop.proofs.Assigned.{assigned-at, assigned-found, index}
use Rattle.hint_rup.proofs.Negations.{opposite_is}
use Rattle.cdcl_trail.specs.SearchTrail.{IsStepAt}

pub opposite_twice : (l : Literal) → opposite (opposite l) ≡ l
opposite_twice l = ap (λ (b : Bool). record { var = l.var; neg = b }) (not-not l.neg)

pub opposite_back : (l m : Literal) → l ≡ opposite m → opposite l ≡ m
opposite_back l m is = ap opposite is ∙ opposite_twice m

-- two steps at one place are one
pub step_same : (t : TrailValue) (p q : ℕ) (s r : Step) → IsStepAt t p s → IsStepAt t q r → p ≡ q → s ≡ r
step_same t p q s r at_p at_q same = same_Some s r (sym at_p ∙ ap (slice_get t.steps) same ∙ at_q)

pub read_at : (t : TrailValue) (p : ℕ) (s d : Step) → IsStepAt t p s → get_or t.steps p d ≡ s
read_at t p s d at = get_or_from_slice_get t.steps p s d at

-- two steps of one variable stand at one place
pub place_same : (t : TrailValue) (p q : ℕ) (s r : Step) → AreSteps t.vars t.steps → IsStepAt t p s → IsStepAt t q r → s.lit.var ≡ r.lit.var → p ≡ q
place_same t p q s r are at_p at_q same =
    let one : (get_or t.steps p s).lit.var ≡ s.lit.var = ap (λ (x : Step). x.lit.var) (read_at t p s s at_p) in
    let two : (get_or t.steps q s).lit.var ≡ r.lit.var = ap (λ (x : Step). x.lit.var) (read_at t q r s at_q) in
    elim (cases_order p q) [
      | inl here ↦ here
      | inr apart ↦ elim apart [
        | inl before ↦ absurd (are.apart p q s before (slice_get_within t.steps q r at_q) (one ∙ same ∙ sym two))
        | inr after ↦ absurd (are.apart q p s after (slice_get_within t.steps p s at_p) (two ∙ sym same ∙ sym one))
      ]
    ]

-- the variable of a step is one of the trail's
pub step_variable : (t : TrailValue) (p : ℕ) (s : Step) → AreSteps t.vars t.steps → IsStepAt t p s → (0 < s.lit.var) × (s.lit.var ≤ t.vars)
step_variable t p s are at = subst (λ (x : Step). (0 < x.lit.var) × (x.lit.var ≤ t.vars)) (read_at t p s s at) (are.within p s (slice_get_within t.steps p s at))

-- an open variable has no step
pub no_step : (t : TrailValue) (l : Literal) (p : ℕ) (s : Step) → AreSteps t.vars t.steps → partial_truth (partial t) l ≡ None → IsStepAt t p s → s.lit.var ≡ l.var → ⊥
no_step t l p s are none at var =
    let value : get_or (partial t) (index (get_or t.steps p s)) None ≡ Some (not (get_or t.steps p s).lit.neg) = assigned-at t.vars t.steps p s are (slice_get_within t.steps p s at) in
    let here : index (get_or t.steps p s) ≡ l.var - 1 = ap (λ (x : Step). index x) (read_at t p s s at) ∙ ap (λ (n : ℕ). n - 1) var in
    some_none (get_or (partial t) (l.var - 1) None) (not (get_or t.steps p s).lit.neg) (λ b. if l.neg then not b else b) (ap (λ (n : ℕ). get_or (partial t) n None) (sym here) ∙ value) none
  where
    some_none : (o : Option Bool) (b : Bool) (f : Bool → Bool) → o ≡ Some b → option_map f o ≡ None → ⊥
    some_none None b f is none = cc
    some_none (Some a) b f is none = cc

flip : (neg v : Bool) → (if (not neg) then not v else v) ≡ not (if neg then not v else v)
flip true true = refl
flip true false = refl
flip false true = refl
flip false false = refl

-- the opposite of a true literal is false
pub opposite_false : (p : List (Option Bool)) (l : Literal) → partial_truth p (opposite l) ≡ Some true → partial_truth p l ≡ Some false
opposite_false p l is = by_value (get_or p (l.var - 1) None) is
  where
    sign : (neg v : Bool) → Some (if (not neg) then not v else v) ≡ Some true → Some (if neg then not v else v) ≡ Some false
    sign true true e = refl
    sign true false e = cc
    sign false true e = cc
    sign false false e = refl

    by_value : (o : Option Bool) → option_map (λ b. if (not l.neg) then not b else b) o ≡ Some true → option_map (λ b. if l.neg then not b else b) o ≡ Some false
    by_value None e = cc
    by_value (Some v) e = sign l.neg v e

pub true_of_opposite : (p : List (Option Bool)) (l m : Literal) → l ≡ opposite m → partial_truth p l ≡ Some true → partial_truth p m ≡ Some false
true_of_opposite p l m is truth = opposite_false p m (subst (λ (x : Literal). partial_truth p x ≡ Some true) is truth)

pub are_front : (n k : ℕ) (steps : List Step) → AreSteps n steps → AreSteps n (take k steps)
are_front n k steps are = record {
  within = λ i d inside.
      let both : i < min k (length steps) = subst (λ (m : ℕ). i < m) (length-take k steps) inside in
      subst (λ (s : Step). (0 < s.lit.var) × (s.lit.var ≤ n)) (sym (get_or-take k steps i d (omega arith))) (are.within i d (omega arith));
  apart = λ i j d before inside same.
      let both : j < min k (length steps) = subst (λ (m : ℕ). j < m) (length-take k steps) inside in
      are.apart i j d before (omega arith)
      (ap (λ (s : Step). s.lit.var) (sym (get_or-take k steps i d (omega arith))) ∙ same ∙ ap (λ (s : Step). s.lit.var) (get_or-take k steps j d (omega arith)));
}

-- a step before a place makes the literal true
pub record IsBefore (t : TrailValue) (end : ℕ) (l : Literal) : Type 0 where
  pub place : ℕ
  pub step : Step
  pub before : place < end
  pub there : IsStepAt t place step
  pub is : step.lit ≡ l

-- what the first steps make false, one of them does
pub false_before : (t : TrailValue) (end : ℕ) (l : Literal) → AreSteps t.vars t.steps → 0 < l.var → partial_truth (partial (cut t end)) l ≡ Some false → IsBefore t end (opposite l)
false_before t end l are positive is = by_value (get_or (partial (cut t end)) (l.var - 1) None) refl is
  where
    front : List Step
    front = take end t.steps

    some : Step
    some = record { lit = l; level = 0; reason = 0 }

    sign : (s neg v : Bool) → Some (not s) ≡ Some v → Some (if neg then not v else v) ≡ Some false → s ≡ not neg
    sign true true true e f = cc
    sign true true false e f = cc
    sign true false true e f = cc
    sign true false false e f = refl
    sign false true true e f = refl
    sign false true false e f = cc
    sign false false true e f = cc
    sign false false false e f = cc

    by_value : (o : Option Bool) → get_or (partial (cut t end)) (l.var - 1) None ≡ o → option_map (λ b. if l.neg then not b else b) o ≡ Some false → IsBefore t end (opposite l)
    by_value None value e = cc
    by_value (Some v) value e =
        let (k, inside, at) = assigned-found t.vars (take end t.steps) (l.var - 1) v some value in
        let both : k < min end (length t.steps) = subst (λ (m : ℕ). k < m) (length-take end t.steps) inside in
        let here : get_or (take end t.steps) k some ≡ get_or t.steps k some = get_or-take end t.steps k some (omega arith) in
        let s : Step = get_or t.steps k some in
        let w = (are_front t.vars end t.steps are).within k some inside in
        let var : (get_or (take end t.steps) k some).lit.var ≡ l.var = omega (arith, w.0, at, positive) in
        let told : Some (not (get_or (take end t.steps) k some).lit.neg) ≡ Some v = sym (assigned-at t.vars (take end t.steps) k some (are_front t.vars end t.steps are) inside) ∙ ap (λ (i : ℕ). get_or (partial (cut t end)) i None) at ∙ value in
        record {
          place = k;
          step = s;
          before = omega arith;
          there = slice_get-get_or t.steps k some (omega arith);
          is = opposite_is s.lit l (ap (λ (x : Step). x.lit.var) (sym here) ∙ var) (ap (λ (x : Step). x.lit.neg) (sym here) ∙ sign (get_or (take end t.steps) k some).lit.neg l.neg v told e);
        }

pub whole_cut : (t : TrailValue) → partial (cut t (length t.steps)) ≡ partial t
whole_cut t = ap (λ (ss : List Step). assigned t.vars ss) (take_all (length t.steps) t.steps (omega arith))

-- ---- levels

abbrev pub IsRising : List Step → Type 0
IsRising steps = AllPairs (λ r s. r.level ≤ s.level) steps

abbrev last : ℕ → List Step → ℕ
last base steps = fold (λ level s. s.level) base steps

after : (s : Step) (steps : List Step) → IsRising (s ∷ steps) → All (λ r. s.level ≤ r.level) steps
after s steps rising k d inside = rising zero (suc k) d (omega arith) (omega arith)

rest : (s : Step) (steps : List Step) → IsRising (s ∷ steps) → IsRising steps
rest s steps rising i j d before inside = rising (suc i) (suc j) d (omega arith) (omega arith)

-- the levels of steps that rise don't end below one of them
last_least : (base : ℕ) (steps : List Step) → All (λ s. base ≤ s.level) steps → IsRising steps → base ≤ last base steps
last_least base [] low rising = omega arith
last_least base (s ∷ steps) low rising =
    let first : base ≤ s.level = All-head (λ (r : Step). base ≤ r.level) s steps low in
    let more : s.level ≤ last s.level steps = last_least s.level steps (after s steps rising) (rest s steps rising) in
    omega arith

last_most : (base : ℕ) (steps : List Step) → IsRising steps → All (λ s. s.level ≤ last base steps) steps
last_most base [] rising = All-nil (λ (s : Step). s.level ≤ base)
last_most base (s ∷ steps) rising =
    All-cons (λ (r : Step). r.level ≤ last s.level steps) s steps (last_least s.level steps (after s steps rising) (rest s steps rising)) (last_most s.level steps (rest s steps rising))

-- no step is above the last level
pub upto_last : (t : TrailValue) → IsRising t.steps → (p : ℕ) (s : Step) → IsStepAt t p s → s.level ≤ last_level t.steps
upto_last t rising p s at = subst (λ (r : Step). r.level ≤ last_level t.steps) (read_at t p s s at) (last_most 0 t.steps rising p s (slice_get_within t.steps p s at))

pub record IsOfLevel (t : TrailValue) (level : ℕ) : Type 0 where
  pub place : ℕ
  pub step : Step
  pub there : IsStepAt t place step
  pub at : step.level ≡ level

last_found : (base : ℕ) (steps : List Step) → (last base steps ≡ base) ⊎ ((p : ℕ) × (s : Step) × (slice_get steps p ≡ Some s) × (s.level ≡ last base steps))
last_found base [] = inl refl
last_found base (s ∷ steps) = elim (last_found s.level steps) [
  | inl same ↦ inr (0, s, refl, sym same)
  | inr found ↦ inr (suc found.0, found.1, found.2, found.3)
]

-- a last level above 0 is that of a step
pub last_step : (t : TrailValue) → 0 < last_level t.steps → IsOfLevel t (last_level t.steps)
last_step t above = elim (last_found 0 t.steps) [
  | inl none ↦ absurd (omega arith)
  | inr found ↦ record { place = found.0; step = found.1; there = found.2; at = found.3 }
]
