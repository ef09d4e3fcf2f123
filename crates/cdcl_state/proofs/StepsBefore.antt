-- The assignment that the steps of a trail give together.
use Rattle.std.proofs.Common.{◌≡◌, ◌≢◌, ℕ, ◌+◌, ◌-◌, ◌<◌, Bool, true, false, not, if◌then◌else◌, List, length, get_or, set, refl, arith, ap, sym, ◌∙◌, subst, ⊎_elim}
use Rattle.std.specs.Prelude.{Some, None, Option, slice_get}
use Rattle.std.specs.Option.{option_map}
use Rattle.std.proofs.lemmas.Bool.{cases_eq}
use Rattle.std.proofs.lemmas.Option.{same_Some, none-some, slice_get-get_or}
use Rattle.std.proofs.lemmas.List.{get_or-set_same, get_or-set_other}
use Rattle.scut_base.specs.Literal.{Literal}
use Rattle.scut_base.specs.Assignment.{lit_true}
use Rattle.clause_prop.specs.Steps.{TrailValue, AreSteps, partial}
use Rattle.clause_prop.specs.declared.step.Step.{Step}
use Rattle.clause_prop.proofs.Assigned.{assigned-found}
use Rattle.cdcl_trail.specs.SearchTrail.{IsStepAt, IsOfSteps}
use Rattle.cdcl_trail.proofs.Places.{pair_places}
use Rattle.cdcl_trail.proofs.Truths.{var_within, value_at}

-- the assignment makes the literals of the steps before the place true
pub record AreTrueBefore (t : TrailValue) (place : ℕ) (a : List Bool) : Type 0 where
  pub each : (q : ℕ) (s : Step) → q < place → IsStepAt t q s → lit_true a s.lit ≡ true

sign_true : (b : Bool) → (if b then not (not b) else not b) ≡ true
sign_true true = refl
sign_true false = refl

-- the truth of a literal by the value of its variable
abbrev truth_of : Literal → Bool → Bool
truth_of l b = if l.neg then not b else b

set_true : (a : List Bool) (l : Literal) → l.var - 1 < length a → lit_true (set a (l.var - 1) (not l.neg)) l ≡ true
set_true a l short = ap (truth_of l) (get_or-set_same a (l.var - 1) (not l.neg) false short) ∙ sign_true l.neg

set_other : (a : List Bool) (l m : Literal) → m.var - 1 ≢ l.var - 1 → lit_true (set a (l.var - 1) (not l.neg)) m ≡ lit_true a m
set_other a l m apart = ap (truth_of m) (get_or-set_other a (l.var - 1) (m.var - 1) (not l.neg) false apart)

-- a step more
pub true_step : (t : TrailValue) (k : ℕ) (s : Step) (a : List Bool) → AreSteps t.vars t.steps → IsStepAt t k s → length a ≡ t.vars → AreTrueBefore t k a → AreTrueBefore t (k + 1) (set a (s.lit.var - 1) (not s.lit.neg))
true_step t k s a are at long before = record {
  each = λ q r less at_r. ⊎_elim
      (λ (here : q ≡ k).
      let same : s ≡ r = same_Some s r (sym at ∙ ap (slice_get t.steps) (sym here) ∙ at_r) in
      let range = var_within t.vars t.steps k s are at in
      subst (λ (x : Step). lit_true (set a (s.lit.var - 1) (not s.lit.neg)) x.lit ≡ true) same (set_true a s.lit (omega (arith, range.0, range.1, long))))
      (λ (other : q ≢ k).
      let near : q < k = omega arith in
      let r_range = var_within t.vars t.steps q r are at_r in
      let s_range = var_within t.vars t.steps k s are at in
      let apart : r.lit.var ≢ s.lit.var = pair_places (λ (x y : Step). x.lit.var ≢ y.lit.var) t.steps q k r s are.apart near at_r at in
      set_other a s.lit r.lit (λ e. apart (omega (arith, r_range.0, s_range.0, e))) ∙ before.each q r near at_r)
      (cases_eq q k);
}

same_sign : (m n : Bool) → (if m then not (not n) else not n) ≡ true → m ≡ n
same_sign true true e = refl
same_sign true false e = cc
same_sign false true e = cc
same_sign false false e = refl

-- all steps
pub true_all : (t : TrailValue) (a : List Bool) → AreSteps t.vars t.steps → AreTrueBefore t (length t.steps) a → IsOfSteps t a
true_all t a are all l is_true = by_value (get_or (partial t) (l.var - 1) None) refl
  where
    by_value : (o : Option Bool) → get_or (partial t) (l.var - 1) None ≡ o → lit_true a l ≡ true
    by_value None none = absurd (none-some true (sym (ap (option_map (λ b. if l.neg then not b else b)) none) ∙ is_true))
    by_value (Some b) some =
        let d : Step = record { lit = l; level = 0; reason = 0 } in
        let found = assigned-found t.vars t.steps (l.var - 1) b d some in
        let s : Step = get_or t.steps found.0 d in
        let at : IsStepAt t found.0 s = slice_get-get_or t.steps found.0 d found.1 in
        let value : Some (not s.lit.neg) ≡ Some b = sym (value_at t.vars t.steps found.0 s are at) ∙ ap (λ (i : ℕ). get_or (partial t) i None) found.2 ∙ some in
        let sign : l.neg ≡ s.lit.neg = same_sign l.neg s.lit.neg (ap (λ (v : Bool). if l.neg then not v else v) (same_Some (not s.lit.neg) b value)
        ∙ same_Some (if l.neg then not b else b) true (sym (ap (option_map (λ b. if l.neg then not b else b)) some) ∙ is_true)) in
        ap (λ (n : Bool). if n then not (get_or a (l.var - 1) false) else get_or a (l.var - 1) false) sign
        ∙ ap (λ (i : ℕ). if s.lit.neg then not (get_or a i false) else get_or a i false) (sym found.2)
        ∙ all.each found.0 s found.1 at
