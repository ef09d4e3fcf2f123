-- A trail has no more steps than variables.
use Rattle.std.proofs.Common.{◌≡◌, ◌≢◌, ℕ, ◌<◌, ◌≤◌, ◌==◌, true, false, List, length, get_or, map, AllPairs, arith, sym, ◌∙◌}
use Rattle.std.specs.Prelude.{Any}
use Rattle.std.specs.List.{list_any}
use Rattle.std.proofs.lemmas.Bool.{eqb-true}
use Rattle.std.proofs.lemmas.Bool.Decides.{Decides-eqb}
use Rattle.std.proofs.lemmas.List.{length-map, get_or-map}
use Rattle.std.proofs.lemmas.List.Folds.{Any-from_list_any}
use Rattle.std.proofs.lemmas.Map.Made.{IsDistinct-from_AllPairs}
use Rattle.std.proofs.lemmas.Map.Steps.{length-le_from_distinct_below}
use Rattle.pb_lin.proofs.Ones.{AllPairs-map}
use Rattle.clause_prop.specs.Steps.{AreSteps}
use Rattle.clause_prop.specs.declared.step.Step.{Step}
use Rattle.clause_prop.proofs.Assigned.{index}

any_step : Step
any_step = record { lit = record { var = 1; neg = false }; level = 0; reason = 0 }

pub length_within : (n : ℕ) (steps : List Step) → AreSteps n steps → length steps ≤ n
length_within n steps are =
    let few : length (map index steps) ≤ n = length-le_from_distinct_below (map index steps) n (IsDistinct-from_AllPairs Decides-eqb (map index steps) apart) below in
    omega (arith, few, length-map steps index)
  where
    apart : AllPairs (λ x y. x ≢ y) (map index steps)
    apart = AllPairs-map (λ (x y : ℕ). x ≢ y) index (λ _. any_step) steps (λ i j d less short e.
        let one = are.within i d (omega (arith, less, short)) in
        let two = are.within j d short in
        are.apart i j d less short (omega (arith, one.0, two.0, e)))

    below : (q : ℕ) → list_any (λ x. q == x) (map index steps) ≡ true → q < n
    below q found =
        let place : Any (λ x. (q == x) ≡ true) (map index steps) = Any-from_list_any (λ x. q == x) (map index steps) found in
        let short : place.0 < length steps = omega (arith, place.2, length-map steps index) in
        let own = are.within place.0 any_step short in
        let same : q ≡ place.1 = eqb-true q place.1 place.4 in
        let at : get_or (map index steps) place.0 place.1 ≡ index (get_or steps place.0 any_step) = get_or-map index steps place.0 any_step place.1 short in
        omega (arith, own.0, own.1, same, sym place.3 ∙ at)
