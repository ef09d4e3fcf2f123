-- An accepted list is the front.
use Rattle.std.proofs.Common.{◌≡◌, ◌≢◌, ◌⊎◌, ℕ, ◌<◌, Bool, true, false, List, length, get_or, subst, sym, ap, ◌∙◌, ⊎_elim, ℤ}
use Rattle.std.specs.Prelude.{Contains}
use Rattle.std.proofs.lemmas.Bool.{cases_Bool, cases_order}
use Rattle.std.proofs.lemmas.List.{get_or_default, length-map}
use Rattle.std.proofs.lemmas.List.Elements.{All-contains, All-weaker}
use Rattle.front_set.specs.declared.entry.Entry.{Entry}
use Rattle.front_set.specs.Vector.{is_below, IsBelow}
use Rattle.front_set.specs.Front.{vectors_of}
use Rattle.front_set.specs.ListText.{list_text}
use Rattle.front_set.proofs.FrontLaws.{IsBelow-refl, IsBelow-trans, IsBelow-antisym}
use Rattle.scut_base.proofs.Lists.{Contains-from_map, Contains-map}
use Rattle.instance.specs.Shape.{InstanceValue, IsWithinLimits}
use Rattle.instance.specs.Meaning.{IsModel, costs_of, objective_cost}
use Rattle.instance.specs.ParetoFront.{WeaklyDominates, weakly_dominates, Dominates, IsOnFront, IsFront, problem_vector}
use Rattle.instance.proofs.Dominance.{weakly_dominates-is_below, problem_numbers-injective}
use Rattle.instance_normal.proofs.Fitted.{form_within}
use Rattle.instance_normal.specs.NormalForm.{IsNormalFormOf}
use Rattle.instance_normal.specs.Tightened.{tightened}
use Rattle.instance_normal.proofs.Models.{model_extends}
use Rattle.pb_lin.specs.Problem.{ProblemValue, IsProblem, problem_costs}
use Rattle.proof_laws.specs.State.{IsLogged, IsReached}
use Rattle.proof_laws.proofs.NextKept.{replay_law, ended_law}
use Rattle.log_checker.specs.Accepted.{IsRightModel, IsRightList, IsCovered, IsEndedProof, problem_vectors, IsAccepted}

module _ (i : InstanceValue) where
  abbrev pub HasNumbers : List ℤ → Type 0
  HasNumbers u = length u ≡ length i.objectives

  pub costs_have_numbers : (a : List Bool) → HasNumbers (costs_of i a)
  costs_have_numbers a = length-map i.objectives (objective_cost a)

  -- dominance in the instance is being below in the problem
  below_is : (u v : List ℤ) → HasNumbers u → HasNumbers v → weakly_dominates i.objectives u v ≡ is_below (problem_vector i u) (problem_vector i v)
  below_is u v p q = weakly_dominates-is_below i.objectives u v p q

  dominates-trans : (u v w : List ℤ) → HasNumbers u → HasNumbers v → HasNumbers w → WeaklyDominates i u v → WeaklyDominates i v w → WeaklyDominates i u w
  dominates-trans u v w p q r h g = below_is u w p r ∙ IsBelow-trans (problem_vector i u) (problem_vector i v) (problem_vector i w) (sym (below_is u v p q) ∙ h) (sym (below_is v w q r) ∙ g)

  dominates-antisym : (u v : List ℤ) → HasNumbers u → HasNumbers v → WeaklyDominates i u v → WeaklyDominates i v u → u ≡ v
  dominates-antisym u v p q h g = problem_numbers-injective i.objectives u v (IsBelow-antisym (problem_vector i u) (problem_vector i v) (sym (below_is u v p q) ∙ h) (sym (below_is v u q p) ∙ g))

  dominates-refl : (u : List ℤ) → HasNumbers u → WeaklyDominates i u u
  dominates-refl u p = below_is u u p p ∙ IsBelow-refl (problem_vector i u)

module _ (i : InstanceValue) (entries : List Entry) (right : IsRightList i entries) where
  model_of : (e : Entry) → Contains entries e → IsRightModel i e
  model_of e there = All-contains (IsRightModel i) entries e right.models there

  entry_has_numbers : (e : Entry) → Contains entries e → HasNumbers i e.costs
  entry_has_numbers e there = subst (λ (u : List ℤ). HasNumbers i u) (model_of e there).costs (costs_have_numbers i e.model)

  -- an entry weakly dominates itself alone
  only_itself : (e f : Entry) → Contains entries e → Contains entries f → WeaklyDominates i e.costs f.costs → e ≡ f
  only_itself e f at_e at_f h = ⊎_elim
      (λ (same : at_e.0 ≡ at_f.0). sym at_e.2 ∙ ap (λ (k : ℕ). get_or entries k e) same ∙ get_or_default entries at_f.0 e f at_f.1 ∙ at_f.2)
      (λ (o : (at_e.0 < at_f.0) ⊎ (at_f.0 < at_e.0)). absurd (⊎_elim
      (λ (less : at_e.0 < at_f.0). (right.incomparable at_e.0 at_f.0 e less at_f.1).first (moved at_f.0 (get_or_default entries at_f.0 e f at_f.1 ∙ at_f.2)))
      (λ (less : at_f.0 < at_e.0). (right.incomparable at_f.0 at_e.0 e less at_e.1).second (moved at_f.0 (get_or_default entries at_f.0 e f at_f.1 ∙ at_f.2)))
      o))
      (cases_order at_e.0 at_f.0)
    where
      moved : (j : ℕ) → get_or entries j e ≡ f → WeaklyDominates i (get_or entries at_e.0 e).costs (get_or entries j e).costs
      moved j is = subst (λ (g : Entry). WeaklyDominates i g.costs (get_or entries j e).costs) (sym at_e.2) (subst (λ (g : Entry). WeaklyDominates i e.costs g.costs) (sym is) h)

  module _ (covers : (a : List Bool) → IsModel i a → (u : List ℤ) × Contains (problem_vectors i entries) u × IsBelow u (problem_vector i (costs_of i a))) where
    -- some entry weakly dominates the costs of each model
    dominated : (a : List Bool) → IsModel i a → (e : Entry) × Contains entries e × WeaklyDominates i e.costs (costs_of i a)
    dominated a model =
        let u = covers a model in
        let e = Contains-from_map (λ (f : Entry). problem_vector i f.costs) entries u.0 u.1 in
        (e.0, e.1, below_is i e.0.costs (costs_of i a) (entry_has_numbers e.0 e.1) (costs_have_numbers i a) ∙ subst (λ (v : List ℤ). IsBelow v (problem_vector i (costs_of i a))) (sym e.2) u.2)

    listed_is_on_front : (e : Entry) → Contains entries e → IsOnFront i e.costs
    listed_is_on_front e there = record {
      reached = let own = model_of e there in (e.model, own.model, own.costs);
      undominated = λ a model better.
          let f = dominated a model in
          let round = dominates-trans i f.0.costs (costs_of i a) e.costs (entry_has_numbers f.0 f.1) (costs_have_numbers i a) (entry_has_numbers e there) f.2 better.0 in
          let same : f.0 ≡ e = only_itself f.0 e f.1 there round in
          let back : WeaklyDominates i e.costs (costs_of i a) = subst (λ (g : Entry). WeaklyDominates i g.costs (costs_of i a)) same f.2 in
          better.1 (dominates-antisym i (costs_of i a) e.costs (costs_have_numbers i a) (entry_has_numbers e there) better.0 back);
    }

    front_is_listed : (v : List ℤ) → IsOnFront i v → Contains (vectors_of entries) v
    front_is_listed v front =
        let a = front.reached in
        let e = dominated a.0 a.1 in
        let own = model_of e.0 e.1 in
        let numbers : HasNumbers i v = subst (λ (u : List ℤ). HasNumbers i u) a.2 (costs_have_numbers i a.0) in
        let below : WeaklyDominates i e.0.costs v = subst (λ (u : List ℤ). WeaklyDominates i e.0.costs u) a.2 e.2 in
        ⊎_elim
        (λ (back : weakly_dominates i.objectives v e.0.costs ≡ true).
        let same : e.0.costs ≡ v = dominates-antisym i e.0.costs v (entry_has_numbers e.0 e.1) numbers below back in
        subst (λ (u : List ℤ). Contains (vectors_of entries) u) same (Contains-map (λ f. f.costs) entries e.0 e.1))
        (λ (apart : weakly_dominates i.objectives v e.0.costs ≡ false).
        let differ : e.0.costs ≢ v = λ same. let itself : WeaklyDominates i v e.0.costs = subst (λ (u : List ℤ). WeaklyDominates i v u) (sym same) (dominates-refl i v numbers) in cc in
        absurd (front.undominated e.0.model own.model (subst (λ (u : List ℤ). Dominates i u v) (sym own.costs) (below, differ))))
        (cases_Bool (weakly_dominates i.objectives v e.0.costs))

    right_list_is_front : IsFront i entries
    right_list_is_front = record {
      rising = right.rising;
      exact = λ v. (
        (λ there. let e = Contains-from_map (λ f. f.costs) entries v there in subst (λ (u : List ℤ). IsOnFront i u) e.2 (listed_is_on_front e.0 e.1)),
        front_is_listed v,
      );
      models = All-weaker (IsRightModel i) (λ e. IsModel i e.model × (costs_of i e.model ≡ e.costs)) (λ e own. (own.model, own.costs)) entries right.models;
    }

-- a logged vector is below the costs of each model
logged_below : (i : InstanceValue) (p : ProblemValue) (vectors : List (List ℤ)) (log : List ℕ) → IsWithinLimits i → IsNormalFormOf i p → IsProblem p → (proof : IsEndedProof p vectors log) →
    (a : List Bool) → IsModel i a → IsLogged proof.state (problem_vector i (costs_of i a))
logged_below i p vectors log limits normal within proof a model =
    let b : List Bool = tightened i a in
    let extended = model_extends i p limits normal a model in
    let sound = replay_law p proof.lines proof.state within proof.spelled.formed proof.replay in
    subst (IsLogged proof.state) extended.1 (⊎_elim
    (λ (logged : IsLogged proof.state (problem_costs p b)). logged)
    (λ (reached : IsReached p proof.state (problem_costs p b)). absurd (ended_law p proof.state sound.state proof.ended reached.0 reached.1))
    (sound.covers b extended.0))

-- a covering vector is below the costs of each model
covered_below : (i : InstanceValue) (p : ProblemValue) (vectors : List (List ℤ)) (log : List ℕ) → IsWithinLimits i → IsNormalFormOf i p → IsProblem p → IsEndedProof p vectors log →
    (a : List Bool) → IsModel i a → (u : List ℤ) × Contains vectors u × IsBelow u (problem_vector i (costs_of i a))
covered_below i p vectors log limits normal within proof a model =
    let logged = logged_below i p vectors log limits normal within proof a model in
    let by = All-contains (IsCovered vectors) proof.state.sols logged.0 proof.covered logged.1 in
    (by.0, by.1, IsBelow-trans by.0 logged.0 (problem_vector i (costs_of i a)) by.2 logged.2)

-- the entries of an accepted list are the front
pub entries_are_front : (i : InstanceValue) (list log : List ℕ) → IsWithinLimits i → (accepted : IsAccepted i list log) → IsFront i accepted.entries
entries_are_front i list log limits accepted = right_list_is_front i accepted.entries accepted.right
    (covered_below i accepted.problem (problem_vectors i accepted.entries) log limits accepted.normal
    (form_within i accepted.problem limits accepted.normal) accepted.proof)

pub accepted_front : (i : InstanceValue) (list log : List ℕ) → IsWithinLimits i → IsAccepted i list log → (entries : List Entry) × (list ≡ list_text true entries) × IsFront i entries
accepted_front i list log limits accepted = (accepted.entries, accepted.spelled.is, entries_are_front i list log limits accepted)
