-- The vector that is logged for a model is the new aim.
use Rattle.std.proofs.Common.{◌≡◌, ℕ, ◌<◌, None, Some, Option, Bool, List, [], ◌∷◌, ◌++◌, length, ap, refl, sym, subst, ◌∙◌, arith, ℤ}
use Rattle.std.specs.Prelude.{IfSome}
use Rattle.std.specs.List.{last_or}
use Rattle.std.proofs.lemmas.List.{length-map}
use Rattle.front_set.specs.Vector.{IsBelow}
use Rattle.front_set.proofs.FrontLaws.{IsBelow-trans, length-IsBelow}
use Rattle.pb_lin.specs.CostRow.{row_cost}
use Rattle.pb_lin.specs.Problem.{ProblemValue, problem_costs}
use Rattle.proof_rules.specs.Recording.{Snapshot}
use Rattle.search_base.specs.Boards.{BoardValue, IsBoard}
use Rattle.search_base.specs.Logged.{Logs, LogsNone, logged}
use Rattle.search_base.specs.Turns.{IsEndLine, IsTaken}
use Rattle.search_base.proofs.PutEntries.{last_of_more}
use Rattle.relaxations.specs.Telling.{IsStanding}
use Rattle.relaxations.specs.declared.below.Below.TheVariants.{Model, End, Above}
use Rattle.relaxations.proofs.Remaining.{none_left}
use Rattle.p_minimal.specs.Aiming.{AimsLower, GivesUp, Serves, TellsOfAim, own_number}

lower : (costs at : List ℤ) (aim : Option (List ℤ)) → IsBelow costs at → IfSome aim (λ v. IsBelow at v)
    → IfSome aim (λ v. IsBelow costs v)
lower costs at None first second = tt
lower costs at (Some v) first second = IsBelow-trans costs at v first second

-- what is told of a model
model_told : (m : Snapshot) (aim : Option (List ℤ)) (x : List Bool) → TellsOfAim m aim (Model x)
    → IfSome aim (λ v. IsBelow (problem_costs m.problem x) v)
model_told m None x tells = tt
model_told m (Some v) x tells = tells.1

-- what is told of no model
pub end_told : (m : Snapshot) (aim : Option (List ℤ)) (id : ℕ) → TellsOfAim m aim (End id)
    → IsEndLine m.problem m.lines id
end_told m None id tells = tells
end_told m (Some v) id tells = tells

pub none_told : (m : Snapshot) (aim : Option (List ℤ)) (stands : List Bool) → TellsOfAim m aim (Above stands)
    → (0 < own_number aim) × GivesUp m aim None
none_told m None stands tells = absurd tells
none_told m (Some v) stands tells =
    (omega arith, record { costs = v; aimed = refl; none = refl; least = none_left m v (IsStanding stands) tells.0 })

pub serves_still : (a b : Snapshot) (aim : Option (List ℤ)) → b.problem ≡ a.problem → Serves aim a.problem
    → Serves aim b.problem
serves_still a b aim same is = subst (Serves aim) (sym same) is

-- the board's last vector is the one that was logged for the model
module _ (m b : Snapshot) {front : BoardValue} (x : List Bool) (board : BoardValue) (now : Option (List ℤ))
    (taken : IsTaken m b front x) (same : b.problem ≡ m.problem) (is : IsBoard board (logged b.problem b.lines)) (copied : now ≡ board.last) where
  is_logged : now ≡ Some taken.found.costs
  is_logged =
      copied ∙ is.last
      ∙ ap (λ (vs : List (List ℤ)). last_or None vs)
      (ap (λ (p : ProblemValue). logged p b.lines) same ∙ taken.found.logs)
      ∙ last_of_more (logged m.problem m.lines) taken.found.costs

  pub serves_after : Serves now b.problem
  serves_after =
      subst (λ (aim : Option (List ℤ)). Serves aim b.problem) (sym is_logged)
      (length-IsBelow taken.found.costs (problem_costs m.problem x) taken.below
      ∙ length-map m.problem.costs (row_cost x)
      ∙ ap (λ (p : ProblemValue). length p.costs) (sym same))

  pub aims_lower : (a : Snapshot) (aim : Option (List ℤ)) → m.problem ≡ a.problem
      → LogsNone a.problem a.lines m.lines → TellsOfAim m aim (Model x) → AimsLower a b aim now
  aims_lower a aim problem none tells =
      let costs = taken.found.costs in
      let logs : Logs a.problem m.lines b.lines costs =
      subst (λ (p : ProblemValue). Logs p m.lines b.lines costs) problem taken.found.logs in
      record {
        costs = costs;
        aims = is_logged;
        logs = logs ∙ ap (λ (vs : List (List ℤ)). vs ++ costs ∷ []) none;
        below = lower costs (problem_costs m.problem x) aim taken.below (model_told m aim x tells);
      }
