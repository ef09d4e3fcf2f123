-- Going through all assignments by number.
use Rattle.std.specs.Prelude.{ℕ, zero, suc, ◌<◌, ◌%◌, ◌/◌, ◌==◌, Bool, List, [], ◌∷◌, All, Contains}
use Rattle.front_set.specs.declared.entry.Entry.{Entry}
use Rattle.front_set.specs.Front.{StandsFor}
use Rattle.instance.specs.Shape.{InstanceValue}
use Rattle.instance.specs.Meaning.{IsModel, costs_of}
use Rattle.instance.specs.ParetoFront.{problem_vector}
use Rattle.search_base.specs.Boards.{IsModelPair}

-- the assignment of n variables whose values are the binary digits of a number, the last digit first
abbrev pub assignment_of : ℕ → ℕ → List Bool
assignment_of zero number = []
assignment_of (suc n) number = (number % 2 == 1) ∷ assignment_of n (number / 2)

-- an assignment with the problem's vector of its costs
abbrev pub pair_of : InstanceValue → List Bool → Entry
pair_of i a = record { costs = problem_vector i (costs_of i a); model = a }

-- The entries stand for some pairs of models, among them every model of a number below this one.
pub record StandsForModels (i : InstanceValue) (entries : List Entry) (number : ℕ) : Type 0 where
  pub pairs : List Entry
  pub stands : StandsFor entries pairs
  pub sound : All (IsModelPair i) pairs
  pub complete : (k : ℕ) → k < number → IsModel i (assignment_of i.vars k) → Contains pairs (pair_of i (assignment_of i.vars k))
