-- The tightened assignment: which soft clauses it has variables for, and that it is a model.
use Rattle.std.proofs.Common.{◌≡◌, ◌≢◌, ℕ, zero, suc, ◌<◌, ◌≤◌, inl, Bool, false, not, ltb, List, [], ◌∷◌, length, map, take, drop, refl, sym, ap, ap₂, ◌∙◌, subst, ℤ, Result, Ok, Err, arith}
use Rattle.std.specs.Prelude.{All, IfOk}
use Rattle.std.proofs.lemmas.Bool.{lt-ltb}
use Rattle.std.proofs.lemmas.List.{length-take, take-take, take-append-drop}
use Rattle.std.proofs.lemmas.List.Elements.{All-head, All-tail, All-weaker}
use Rattle.scut_base.specs.Literal.{Literal}
use Rattle.front_set.specs.Vector.{IsBelow}
use Rattle.instance.specs.declared.objective.Soft.{Soft}
use Rattle.instance.specs.Shape.{InstanceValue, IsWithinLimits, IsObjectiveWithin, ClauseUpTo}
use Rattle.instance.specs.Meaning.{IsModel, clause_true, costs_of}
use Rattle.instance.specs.ParetoFront.{problem_vector}
use Rattle.pb_lin.specs.Problem.{ProblemValue, IsProblemModel, problem_costs}
use Rattle.instance_normal.specs.NormalForm.{AreDistinct, IsNormalFormOf, is_relaxed, is_tautology, needs_variable, relaxed_softs}
use Rattle.instance_normal.specs.Tightened.{tightened}
use Rattle.instance_normal.proofs.Distinct.{payment_of_clause, empty_payment, unit_payment, relaxed_payment}
use Rattle.instance_normal.proofs.Truth.{clause_kept}
use Rattle.instance_normal.proofs.Costs.{relaxed_of}
use Rattle.instance_normal.proofs.Models.{none_relaxed, relaxed_upto, model_extends, model_restricts}

-- ---- which soft clauses need a variable

-- those of two distinct literals or more
pub needed : (s : Soft) (distinct : List Literal) → s.weight ≢ 0 → is_tautology s.lits ≡ false → AreDistinct s.lits distinct → ltb 1 (length distinct) ≡ is_relaxed s
needed s [] some plain are = sym (ap needs_variable (payment_of_clause s some plain ∙ empty_payment s.lits [] are refl))
needed s (d ∷ []) some plain are = sym (ap needs_variable (payment_of_clause s some plain ∙ unit_payment s.lits (d ∷ []) d are refl refl))
needed s (d ∷ e ∷ ds) some plain are =
    let two : 1 < length (d ∷ e ∷ ds) = omega arith in
    let more : length (d ∷ e ∷ ds) ≢ 1 = λ one. omega arith in
    lt-ltb 1 (length (d ∷ e ∷ ds)) two ∙ sym (ap needs_variable (payment_of_clause s some plain ∙ relaxed_payment s.lits (d ∷ e ∷ ds) are (filled d (e ∷ ds)) more))
  where
    filled : (x : Literal) (xs : List Literal) → (x ∷ xs) ≢ []
    filled x xs = λ e. cc

-- ---- the truth of soft clauses

map_agrees : {X Y : Type 0} (f g : X → Y) (xs : List X) → All (λ x. f x ≡ g x) xs → map f xs ≡ map g xs
map_agrees f g [] all = refl
map_agrees f g (x ∷ xs) all = ap₂ (λ y ys. y ∷ ys) (All-head (λ z. f z ≡ g z) x xs all) (map_agrees f g xs (All-tail (λ z. f z ≡ g z) x xs all))

abbrev falsities : List Bool → List Soft → List Bool
falsities a softs = map (λ s. not (clause_true a s.lits)) softs

-- what stands behind the instance's variables changes no soft clause that needs a variable
pub falsities_cut : (i : InstanceValue) (a : List Bool) → IsWithinLimits i → i.vars ≤ length a → falsities a (relaxed_softs i) ≡ falsities (take i.vars a) (relaxed_softs i)
falsities_cut i a limits long = by i.vars long limits.objectives
  where
    by : (n : ℕ) → n ≤ length a → All (IsObjectiveWithin n) i.objectives → falsities a (relaxed_of i.objectives) ≡ falsities (take n a) (relaxed_of i.objectives)
    by zero le within =
        let none = none_relaxed i.objectives within in
        ap (falsities a) none ∙ sym (ap (falsities (take 0 a)) none)
    by (suc n) le within =
        let cut : length (take (suc n) a) ≡ suc n = omega (arith, length-take (suc n) a) in
        map_agrees (λ s. not (clause_true a s.lits)) (λ s. not (clause_true (take (suc n) a) s.lits)) (relaxed_of i.objectives) (All-weaker (λ (s : Soft). ClauseUpTo (suc n) s.lits) (λ (s : Soft). not (clause_true a s.lits) ≡ not (clause_true (take (suc n) a) s.lits)) (λ s upto. ap not (ap (λ (b : List Bool). clause_true b s.lits) (sym (take-append-drop (suc n) a)) ∙ clause_kept (suc n) (take (suc n) a) (drop (suc n) a) s.lits cut (inl (omega arith)) upto)) (relaxed_of i.objectives) (relaxed_upto (suc n) i.objectives within))

-- ---- the tightened model

-- A model of the problem gives the tightened model, with the costs of the instance's model, and no dearer.
pub record IsTight (i : InstanceValue) (p : ProblemValue) (a b : List Bool) : Type 0 where
  pub model : IsProblemModel p b
  pub costs : problem_costs p b ≡ problem_vector i (costs_of i (take i.vars a))
  pub below : IsBelow (problem_costs p b) (problem_costs p (take p.vars a))

tight : (i : InstanceValue) (p : ProblemValue) (a : List Bool) → IsWithinLimits i → IsNormalFormOf i p → IsProblemModel p (take p.vars a) → IsTight i p a (tightened i (take i.vars a))
tight i p a limits form model =
    let within : i.vars ≤ p.vars = omega (arith, form.vars) in
    let both = subst (λ (c : List Bool). IsModel i c × IsBelow (problem_vector i (costs_of i c)) (problem_costs p (take p.vars a))) (take-take i.vars p.vars a within) (model_restricts i p limits form (take p.vars a) model) in
    let tightens = model_extends i p limits form (take i.vars a) both.0 in
    record {
      model = tightens.0;
      costs = tightens.1;
      below = subst (λ (u : List ℤ). IsBelow u (problem_costs p (take p.vars a))) (sym tightens.1) both.1;
    }

pub tightens : {E : Type 0} (r : Result (List Bool) E) (i : InstanceValue) (p : ProblemValue) (a b : List Bool) → IsWithinLimits i → IsNormalFormOf i p → IsProblemModel p (take p.vars a) → b ≡ tightened i (take i.vars a) → IfOk r (λ c. c ≡ b) → IfOk r (IsTight i p a)
tightens (Ok c) i p a b limits form model is same = subst (IsTight i p a) (sym (same ∙ is)) (tight i p a limits form model)
tightens (Err e) i p a b limits form model is same = same
