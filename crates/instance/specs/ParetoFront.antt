-- The front of an instance: the costs of models that the costs of no model dominate.
use Rattle.std.specs.Prelude.{◌≡◌, ◌≢◌, ◌↔◌, ◌^◌, ◌<◌, unsigned_abs, length, Bool, true, false, ◌&&◌, not, List, [], ◌∷◌, ℤ, int_lt, neg_ℤ, All, Contains}
use Rattle.front_set.specs.declared.entry.Entry.{Entry}
use Rattle.front_set.specs.Vector.{AreRising}
use Rattle.front_set.specs.Front.{vectors_of}
use Rattle.instance.specs.declared.objective.Objective.{Objective}
use Rattle.instance.specs.declared.objective.Sense.{Sense}
use Rattle.instance.specs.declared.objective.Sense.TheVariants.{Min, Max}
use Rattle.instance.specs.Shape.{InstanceValue}
use Rattle.instance.specs.Meaning.{IsModel, costs_of}

-- at most where small is better, at least where large is
abbrev pub is_as_good : Sense → ℤ → ℤ → Bool
is_as_good Min x y = not (int_lt y x)
is_as_good Max x y = not (int_lt x y)

-- both have one number for each objective, and each number of u is as good as that of v
abbrev pub weakly_dominates : List Objective → List ℤ → List ℤ → Bool
weakly_dominates [] [] [] = true
weakly_dominates (o ∷ os) (x ∷ xs) (y ∷ ys) = is_as_good o.sense x y && weakly_dominates os xs ys
weakly_dominates _ _ _ = false

abbrev pub WeaklyDominates : InstanceValue → List ℤ → List ℤ → Type 0
WeaklyDominates i u v = weakly_dominates i.objectives u v ≡ true

abbrev pub Dominates : InstanceValue → List ℤ → List ℤ → Type 0
Dominates i u v = WeaklyDominates i u v × (u ≢ v)

-- v is the cost of a model, and the cost of no model dominates it
pub record IsOnFront (i : InstanceValue) (v : List ℤ) : Type 0 where
  pub reached : (a : List Bool) × IsModel i a × (costs_of i a ≡ v)
  pub undominated : (a : List Bool) → IsModel i a → Dominates i (costs_of i a) v → ⊥

-- The entries are the front: in rising order, each vector of it and no other, with a model of these costs.
pub record IsFront (i : InstanceValue) (entries : List Entry) : Type 0 where
  pub rising : AreRising (vectors_of entries)
  pub exact : (v : List ℤ) → Contains (vectors_of entries) v ↔ IsOnFront i v
  pub models : All (λ e. IsModel i e.model × (costs_of i e.model ≡ e.costs)) entries

-- a number as a minimised objective would have it
abbrev pub problem_number : Sense → ℤ → ℤ
problem_number Min x = x
problem_number Max x = neg_ℤ x

abbrev pub problem_numbers : List Objective → List ℤ → List ℤ
problem_numbers [] us = us
problem_numbers (o ∷ os) [] = []
problem_numbers (o ∷ os) (u ∷ us) = problem_number o.sense u ∷ problem_numbers os us

-- the vector with the sign changed of each number at a maximised objective
abbrev pub problem_vector : InstanceValue → List ℤ → List ℤ
problem_vector i u = problem_numbers i.objectives u

-- an entry with the vector of the problem in place of that of the instance, or the other way round
abbrev pub listed_entry : InstanceValue → Entry → Entry
listed_entry i e = record { costs = problem_vector i e.costs; model = e.model }

-- one number for each objective, each of a magnitude below 2^63
pub record IsProblemVector (i : InstanceValue) (u : List ℤ) : Type 0 where
  pub numbers : length u ≡ length i.objectives
  pub small : All (λ x. unsigned_abs x < 2 ^ 63) u

abbrev pub AreProblemVectors : InstanceValue → List Entry → Type 0
AreProblemVectors i entries = All (λ e. IsProblemVector i e.costs) entries
