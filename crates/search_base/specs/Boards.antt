-- The board: the front so far.
use Rattle.std.specs.Prelude.{◌≡◌, List, Option, None, ℤ, All, Contains}
use Rattle.std.specs.List.{last_or}
use Rattle.front_set.specs.Vector.{IsBelow}
use Rattle.front_set.specs.Front.{AreIncomparable}
use Rattle.front_set.specs.declared.entry.Entry.{Entry}
use Rattle.instance.specs.Shape.{InstanceValue}
use Rattle.instance.specs.Meaning.{IsModel, costs_of}
use Rattle.instance.specs.ParetoFront.{IsProblemVector, problem_vector}
use Rattle.instance_normal.specs.NormalForm.{IsNormalFormOf}
use Rattle.pb_lin.specs.Problem.{ProblemValue}

-- an instance, its normal form, pairs of a cost vector of that problem and a model, and the vector that was logged last
pub record BoardValue : Type 0 where
  pub instance : InstanceValue
  pub problem : ProblemValue
  pub entries : List Entry
  pub last : Option (List ℤ)

-- a model of the instance, with its costs as the problem has them
pub record IsModelPair (i : InstanceValue) (e : Entry) : Type 0 where
  pub model : IsModel i e.model
  pub costs : e.costs ≡ problem_vector i (costs_of i e.model)
  pub bounds : IsProblemVector i e.costs

-- the entries are models, none weakly dominates another, and each of these vectors has one below it
pub record IsBoard (b : BoardValue) (vectors : List (List ℤ)) : Type 0 where
  pub normal : IsNormalFormOf b.instance b.problem
  pub models : All (IsModelPair b.instance) b.entries
  pub apart : AreIncomparable b.entries
  pub last : b.last ≡ last_or None vectors
  pub below : All (λ v. (e : Entry) × Contains b.entries e × IsBelow e.costs v) vectors
