-- Representatives: some models, or all, whose costs are as good as a vector.
use Rattle.std.specs.Prelude.{◌≡◌, ◌≢◌, ◌<◌, ℕ, Bool, true, MatchBool, List, length, ℤ, All, AllPairs, Contains}
use Rattle.instance.specs.Shape.{InstanceValue}
use Rattle.instance.specs.Meaning.{IsModel, costs_of}
use Rattle.instance.specs.ParetoFront.{WeaklyDominates}

-- a model of the instance whose costs weakly dominate v
pub record Serves (i : InstanceValue) (v : List ℤ) (a : List Bool) : Type 0 where
  pub model : IsModel i a
  pub costs : WeaklyDominates i (costs_of i a) v

-- no two are the same
abbrev pub AreDifferent : List (List Bool) → Type 0
AreDifferent list = AllPairs (λ a b. a ≢ b) list

-- Different models that serve v: fewer than k where they are to be all, and else k of them.
pub record AreServing (i : InstanceValue) (v : List ℤ) (k : ℕ) (all : Bool) (list : List (List Bool)) : Type 0 where
  pub serve : All (Serves i v) list
  pub different : AreDifferent list
  pub count : MatchBool all (length list < k) (length list ≡ k)

-- And where they are to be all, each model that serves v is among them.
pub record AreReps (i : InstanceValue) (v : List ℤ) (k : ℕ) (all : Bool) (list : List (List Bool)) : Type 0 where
  pub serving : AreServing i v k all list
  pub whole : all ≡ true → (a : List Bool) → Serves i v a → Contains list a
