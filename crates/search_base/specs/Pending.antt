-- Good states but for some models: they were logged by cuts of literals that no clause makes true.
use Rattle.std.specs.Prelude.{◌≡◌, ℕ, List, [], ◌∷◌, ◌++◌, Bool, false, All, Contains, take}
use Rattle.scut_base.specs.Literal.{Literal}
use Rattle.instance.specs.Shape.{InstanceValue}
use Rattle.instance_normal.specs.Tightened.{tightened}
use Rattle.pb_lin.specs.Constraint.{Holds}
use Rattle.pb_lin.specs.Problem.{IsProblemModel, problem_costs}
use Rattle.front_set.specs.Vector.{IsBelow}
use Rattle.proof_laws.specs.State.{StateValue}
use Rattle.proof_laws.specs.Legal.{IsLegal}
use Rattle.proof_laws.specs.Refusal.{literals_at}
use Rattle.proof_laws.specs.WellFormed.{IsWellFormed}
use Rattle.proof_laws.specs.declared.line.Line.{Line}
use Rattle.proof_laws.specs.declared.line.Line.TheVariants.{Sol}
use Rattle.proof_rules.specs.Recording.{Snapshot}
use Rattle.oracle.specs.Solving.{AreEarned, IsWithin}
use Rattle.sum_outputs.specs.Adding.{Continues, IsReached, IsReady, KeptHold}
use Rattle.sum_outputs.specs.Totals.{IsKeptClause}
use Rattle.search_base.specs.Boards.{BoardValue, IsBoard, IsModelPair}
use Rattle.search_base.specs.CostBounds.{FitBounds, reforms_of}
use Rattle.search_base.specs.Good.{IsGood}
use Rattle.search_base.specs.Laws.{IsAskedOn}
use Rattle.search_base.specs.Logged.{IsCovered, Logs, logged}
use Rattle.search_base.specs.declared.objective_bound.ObjectiveBound.{ObjectiveBound}

-- a model of the board's problem, of which the instance's part is a model with the same costs
pub record IsPending (front : BoardValue) (x : List Bool) : Type 0 where
  pub model : IsProblemModel front.problem x
  pub pair : IsModelPair front.instance (record { costs = problem_costs front.problem x; model = take front.instance.vars x })

-- Where a logged vector is below the costs of an assignment that makes the rows and the kept clauses hold, the costs of one
-- of these models are.
abbrev pub AllIsNewBut : Snapshot → List (List Bool) → Type 0
AllIsNewBut a pending = (s : StateValue) → IsReached a s → (x : List Bool) → All (Holds x) a.problem.rows
    → KeptHold a.problem a.lines s x → IsCovered a.problem a.lines (problem_costs a.problem x)
    → (y : List Bool) × Contains pending y × IsBelow (problem_costs a.problem y) (problem_costs a.problem x)

-- A good state, but that what is left may have costs above those of these models.
pub record IsGoodBut (a : Snapshot) (asked : List ObjectiveBound) (front : BoardValue) (pending : List (List Bool)) : Type 0 where
  pub ready : IsReady a
  pub problem : front.problem ≡ a.problem
  pub board : IsBoard front (logged a.problem a.lines)
  pub bounds : FitBounds a asked
  pub earned : AreEarned a.problem a.lines
  pub within : IsWithin a.limit a.problem a.lines
  pub models : All (IsPending front) pending
  pub new : AllIsNewBut a pending

-- the objectives are in terms of their own rows: no reform has a line
abbrev pub AreOwnTerms : List ObjectiveBound → Type 0
AreOwnTerms bounds = All (λ r. r.lower_line ≡ 0) (reforms_of bounds)

-- ---- a model that is taken by a cut

-- this line can't be spelled or isn't legal
abbrev pub MayNotAdd : Snapshot → Line → Type 0
MayNotAdd a line = (s : StateValue) → IsReached a s → IsWellFormed line → IsLegal a.problem s line → ⊥

-- this line was added, from one state to another, and the recorder isn't broken
pub record AddsLine (a b : Snapshot) (line : Line) : Type 0 where
  pub before : StateValue
  pub stood : IsReached a before
  pub lines : b.lines ≡ a.lines ++ line ∷ []
  pub whole : b.broken ≡ false
  pub state : StateValue
  pub reached : IsReached b state

-- the line that logs the model by a cut and the ids of lines can't be spelled or isn't legal
abbrev pub MayNotLog : Snapshot → List Bool → List Literal → List ℕ → Type 0
MayNotLog a x cut rows = MayNotAdd a (Sol (literals_at 1 x) cut rows)

-- such a line was added
abbrev pub LogsByCut : (a b : Snapshot) → List Bool → List Literal → List ℕ → Type 0
LogsByCut a b x cut rows = AddsLine a b (Sol (literals_at 1 x) cut rows)

-- the tightened model's costs are logged, which are below those of x; it is pending now
pub record TakesPending (a b : Snapshot) (i : InstanceValue) (x : List Bool) (before now : List (List Bool)) : Type 0 where
  pub model : List Bool
  pub tight : model ≡ tightened i (take i.vars x)
  pub logs : Logs a.problem a.lines b.lines (problem_costs a.problem model)
  pub below : IsBelow (problem_costs a.problem model) (problem_costs a.problem x)
  pub pending : now ≡ before ++ model ∷ []

-- ---- laws

-- but for no models, it is a good state
pub record GoodButForNone : Type 0 where
  pub good : (a : Snapshot) (bounds : List ObjectiveBound) (front : BoardValue) → IsGood a bounds front → IsGoodBut a bounds front []
  pub again : (a : Snapshot) (bounds : List ObjectiveBound) (front : BoardValue) → IsGoodBut a bounds front [] → IsGood a bounds front

-- conservative lines keep such a state, where the bounds may be asked after them; and where no bound changes, they may
pub record AddingStaysGoodBut : Type 0 where
  pub bounds : (a b : Snapshot) (old new : List ObjectiveBound) (front : BoardValue) (pending : List (List Bool))
      → IsGoodBut a old front pending → Continues a b → b.broken ≡ false → FitBounds b new → IsGoodBut b new front pending
  pub same : (a b : Snapshot) (bounds : List ObjectiveBound) (front : BoardValue) (pending : List (List Bool))
      → IsGoodBut a bounds front pending → Continues a b → b.broken ≡ false → IsGoodBut b bounds front pending

-- so does an oracle's call
abbrev pub AskingStaysGoodBut : Type 0
AskingStaysGoodBut = (a b : Snapshot) (t : StateValue) (bounds : List ObjectiveBound) (front : BoardValue) (pending : List (List Bool))
    → IsGoodBut a bounds front pending → IsReached b t → IsAskedOn a b → IsGoodBut b bounds front pending

-- where a kept clause is "0 >= 1", nothing is left, and the state is good
abbrev pub EndIsGood : Type 0
EndIsGood = (a : Snapshot) (bounds : List ObjectiveBound) (front : BoardValue) (pending : List (List Bool)) (id : ℕ)
    → IsGoodBut a bounds front pending
    → ((s : StateValue) → IsReached a s → IsKeptClause a.problem a.lines s id (record { terms = []; degree = 1 }))
    → IsGood a bounds front
